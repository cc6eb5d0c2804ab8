-- An instruction that was read, and its parts.
use Prim.Native.Nat.{ℕ, ◌+◌, ◌/◌, ◌%◌, ◌≤◌, ◌<◌}
use mathlib.Core.Path.{◌≡◌, refl, sym}
use mathlib.Core.List.{List}
use native.Mathlib.Omega.{arith}
use native.Mathlib.Decide.{dec_lt}
use lib.ListN.{get_or}
use borrow.Author.Tests.{le-ltb, lt-ltb}
use Rattle.blocks.specs.Blocks.{words}
use Rattle.blocks.specs.Frame.{first_words}
use Rattle.reader.specs.Reader.{broken, got}
use Rattle.reader.specs.StepLaws.{word_read, word_none}
use Rattle.reader.specs.Value.{Whole, value_of}
use Rattle.reader.specs.ValueLaws.{not_whole, value_got}
use Rattle.sheet.specs.Module.{opcode, slot_a, slot_b, slot_c, slot_d, slot_w}
use Rattle.sheet.specs.Decode.{inst_of, known_code}
use Rattle.code.specs.Code.{unreachable}
use Rattle.rule7_words.specs.declared.Inst.{Inst}
use Rattle.rule7_words.specs.Insts.{inst}

module _ (b : List ℕ) (n at : ℕ) where
  past : n ≤ at → inst_of (first_words b n) at ≡ broken
  unfolding inst_of
  past h = rw (word_none b n at h)

  short : at < n → n ≤ at + 1 → inst_of (first_words b n) at ≡ broken
  unfolding inst_of
  short h l = rw (word_read b n at h refl, word_none b n (at + 1) l)

  pub inst_within : Whole (inst_of (first_words b n) at) → at + 1 < n
  inst_within h = go (dec_lt at n) (dec_lt (at + 1) n)
    where
      go : Dec (at < n) → Dec (at + 1 < n) → at + 1 < n
      go x (yes l) = l
      go (yes k) (no l) = absurd (not_whole (short k (omega arith)) h)
      go (no k) (no l) = absurd (not_whole (past (omega arith)) h)

  module _ {l u : ℕ} (h : Whole (inst_of (first_words b n) at)) (e : l ≡ get_or (words b) at 0) (f : u ≡ get_or (words b) (at + 1) 0) where
    unlisted : 35 ≤ l % 256 → inst_of (first_words b n) at ≡ broken
    unfolding inst_of known_code opcode
    unlisted k = rw (word_read b n at (omega (arith, inst_within h)) e, word_read b n (at + 1) (inst_within h) f, le-ltb (l % 256) 35 k)

    listed : l % 256 < 35 → inst_of (first_words b n) at ≡ got (record { low = l; high = u }) (at + 1 + 1)
    unfolding inst_of known_code opcode
    listed k = rw (word_read b n at (omega (arith, inst_within h)) e, word_read b n (at + 1) (inst_within h) f, lt-ltb (l % 256) 35 k)

    low_listed : l % 256 < 35
    low_listed = go (dec_lt (l % 256) 35)
      where
        go : Dec (l % 256 < 35) → l % 256 < 35
        go (yes k) = k
        go (no k) = absurd (not_whole (unlisted (omega arith)) h)

    pub inst_read : inst (record { low = l; high = u }) ≡ value_of unreachable (inst_of (first_words b n) at)
    unfolding inst
    inst_read = sym (value_got unreachable (listed low_listed))

    pub inst_listed : opcode (inst (record { low = l; high = u })) < 35
    unfolding inst opcode
    inst_listed = low_listed

-- ── parts ──

module _ (i : Inst) where
  pub opcode_of : i.low % 256 ≡ opcode (inst i)
  unfolding opcode inst
  opcode_of = refl

  pub d_of : i.low / 256 % 256 ≡ slot_d (inst i)
  unfolding slot_d inst
  d_of = refl

  pub a_of : i.low / 65536 ≡ slot_a (inst i)
  unfolding slot_a inst
  a_of = refl

  pub b_of : i.high % 65536 ≡ slot_b (inst i)
  unfolding slot_b inst
  b_of = refl

  pub c_of : i.high / 65536 ≡ slot_c (inst i)
  unfolding slot_c inst
  c_of = refl

  pub w_of : i.high ≡ slot_w (inst i)
  unfolding slot_w inst
  w_of = refl
