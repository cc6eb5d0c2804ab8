-- Value types judged word by word.
use Prim.Native.Nat.{ℕ, ◌+◌, ◌-◌, ◌≤◌, ◌<◌}
use mathlib.Core.Path.{◌≡◌, refl, sym, ap, ◌∙◌}
use mathlib.Core.List.{List}
use mathlib.Core.Bool.{Bool, true, false, cond}
use native.Mathlib.Omega.{arith}
use native.Mathlib.Decide.{dec_lt}
use lib.Dec.{ltb}
use lib.ListN.{get_or}
use borrow.Author.Tests.{lt-ltb, le-ltb}
use Rattle.blocks.specs.Blocks.{words}
use Rattle.blocks.specs.Frame.{first_words}
use Rattle.error.specs.declared.What.TheVariants.{Types}
use Rattle.error.specs.Verdict.{Verdict}
use Rattle.std.specs.Prelude.{Ok}
use Rattle.error.specs.Answer.{in_range}
use Rattle.error.specs.Verdict.{verdict_of}
use Rattle.reader.specs.Reader.{broken, got, Reader}
use Rattle.reader.specs.StepLaws.{word_read, word_none}
use Rattle.reader.specs.Value.{Whole, value_of}
use Rattle.reader.specs.ValueLaws.{not_whole, value_got}
use Rattle.sheet.specs.Module.{ValueType, basic, ref, dyn, first_ref}
use Rattle.sheet.specs.Decode.{value_type}
use Rattle.open_layout.specs.Opened.{module_in}
use Rattle.open_sheet.specs.declared.Opened.{Opened}
use Rattle.open_sheet.specs.Ready.{Opens}
use Rattle.open_sheet.specs.ReadyLaws.{count_types}
use Rattle.types.specs.Types.{value_faults}

-- ── a value type that was read ──

module _ (b : List ℕ) (n at : ℕ) where
  pub value_in : Whole (value_type (first_words b n) at) → at < n
  value_in h = go (dec_lt at n)
    where
      none_past : n ≤ at → value_type (first_words b n) at ≡ broken
      none_past l = unfold value_type in rw (word_none b n at l)

      go : Dec (at < n) → at < n
      go (yes l) = l
      go (no l) = absurd (not_whole (none_past (omega arith)) h)

  read : {w : ℕ} → at < n → w ≡ get_or (words b) at 0 → value_type (first_words b n) at ≡ cond (ltb w 13) (got (basic w) (at + 1)) (cond (ltb w first_ref) broken (got (ref (w - first_ref)) (at + 1)))
  unfolding value_type
  read {w} h e = rw (word_read b n at h e) (go (ltb w 13) (ltb w first_ref))
    where
      go : (x y : Bool) → cond {A = Reader ValueType} x (λ ws p. got (basic w) p) (cond {A = Reader ValueType} y (λ ws p. broken) (λ ws p. got (ref (w - first_ref)) p)) (first_words b n) (at + 1)
          ≡ cond x (got (basic w) (at + 1)) (cond y broken (got (ref (w - first_ref)) (at + 1)))
      go true y = refl
      go false true = refl
      go false false = refl

  -- ── what is broken in it ──

  basic_read : {w : ℕ} → at < n → w ≡ get_or (words b) at 0 → w < 13 → value_type (first_words b n) at ≡ got (basic w) (at + 1)
  basic_read {w} h e l = read h e ∙ ap (λ x. cond x (got (basic w) (at + 1)) (cond (ltb w first_ref) broken (got (ref (w - first_ref)) (at + 1)))) (lt-ltb w 13 l)

  unlisted_read : {w : ℕ} → at < n → w ≡ get_or (words b) at 0 → 13 ≤ w → w < 16 → value_type (first_words b n) at ≡ broken
  unlisted_read {w} h e l k = read h e ∙ rw (le-ltb w 13 l, lt-ltb w first_ref k)

  ref_read : {w : ℕ} → at < n → w ≡ get_or (words b) at 0 → 16 ≤ w → value_type (first_words b n) at ≡ got (ref (w - 16)) (at + 1)
  ref_read {w} h e l = read h e ∙ rw (le-ltb w 13 (omega arith), le-ltb w first_ref l)

  pub value_plain : {w : ℕ} → Whole (value_type (first_words b n) at) → w ≡ get_or (words b) at 0 → w < 16 →
      Ok tt ≡ verdict_of (value_faults (module_in (first_words b n)) (value_of dyn (value_type (first_words b n) at)))
  value_plain {w} h e l = go (dec_lt w 13)
    where
      go : Dec (w < 13) → Ok tt ≡ verdict_of (value_faults (module_in (first_words b n)) (value_of dyn (value_type (first_words b n) at)))
      go (yes k) = unfold value_faults verdict_of in ap (λ v. verdict_of (value_faults (module_in (first_words b n)) v)) (sym (value_got dyn (basic_read (value_in h) e k)))
      go (no k) = absurd (not_whole (unlisted_read (value_in h) e (omega arith) l) h)

  pub value_ref : {w : ℕ} {r : Verdict} (o : Opened) → Whole (value_type (first_words b n) at) → Opens (first_words b n) o → w ≡ get_or (words b) at 0 → 16 ≤ w →
      r ≡ verdict_of (in_range Types o.counts.types (w - 16)) → r ≡ verdict_of (value_faults (module_in (first_words b n)) (value_of dyn (value_type (first_words b n) at)))
  unfolding value_faults
  value_ref {w} o h x e l k =
      k ∙ ap (λ c. verdict_of (in_range Types c (w - 16))) (count_types (first_words b n) o x)
      ∙ ap (λ v. verdict_of (value_faults (module_in (first_words b n)) v)) (sym (value_got dyn (ref_read (value_in h) e l)))
