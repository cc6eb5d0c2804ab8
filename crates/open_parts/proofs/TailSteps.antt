-- Where hooks and exports end.
use Prim.Native.Nat.{ℕ, ◌+◌, ◌-◌, ◌≤◌, ◌<◌}
use mathlib.Core.Path.{◌≡◌, refl}
use mathlib.Core.List.{List}
use native.Mathlib.Omega.{arith}
use native.Mathlib.Decide.{dec_lt}
use lib.ListN.{get_or}
use Rattle.blocks.specs.Blocks.{words}
use Rattle.blocks.specs.Frame.{first_words}
use Rattle.std.specs.Prelude.{None, Some}
use Rattle.reader.specs.Step.{step_of}
use Rattle.reader.specs.StepLaws.{word_read, word_none, code_read, code_unlisted, code_none}
use Rattle.reader.specs.AlikeLaws.{three_on}
use Rattle.sheet.specs.Decode.{hook_of, export_of}

-- ── hooks ──

module _ (bytes : List ℕ) (n at : ℕ) {w v : ℕ} where
  pub hook_next : at < n → 2 < n - at → w ≡ get_or (words bytes) at 0 → v ≡ get_or (words bytes) (at + 1) 0 → w < 31 → v < 2 → Some (at + 3) ≡ step_of (hook_of (first_words bytes n) at)
  unfolding hook_of step_of
  hook_next h l e f k m =
      rw (code_read bytes n at 31 h e k, code_read bytes n (at + 1) 2 (omega arith) f m, word_read bytes n ((at + 1) + 1) (omega arith) refl, three_on at)

  pub hook_callee : at < n → 2 < n - at → w ≡ get_or (words bytes) at 0 → v ≡ get_or (words bytes) (at + 1) 0 → w < 31 → 2 ≤ v → None ≡ step_of (hook_of (first_words bytes n) at)
  unfolding hook_of step_of
  hook_callee h l e f k m = rw (code_read bytes n at 31 h e k, code_unlisted bytes n (at + 1) 2 (omega arith) f m)

module _ (bytes : List ℕ) (n at : ℕ) where
  pub hook_unlisted : {w : ℕ} → at < n → 2 < n - at → w ≡ get_or (words bytes) at 0 → 31 ≤ w → None ≡ step_of (hook_of (first_words bytes n) at)
  unfolding hook_of step_of
  hook_unlisted h l e k = rw (code_unlisted bytes n at 31 h e k)

  pub hook_short : at < n → n - at ≤ 2 → None ≡ step_of (hook_of (first_words bytes n) at)
  hook_short h l = code (dec_lt (get_or (words bytes) at 0) 31)
    where
      callee : get_or (words bytes) at 0 < 31 → (k : at + 1 < n) → Dec (get_or (words bytes) (at + 1) 0 < 2) → None ≡ step_of (hook_of (first_words bytes n) at)
      callee a k (yes b) =
          unfold hook_of step_of in rw (code_read bytes n at 31 h refl a, code_read bytes n (at + 1) 2 k refl b, word_none bytes n ((at + 1) + 1) (omega arith))
      callee a k (no b) = unfold hook_of step_of in rw (code_read bytes n at 31 h refl a, code_unlisted bytes n (at + 1) 2 k refl (omega arith))

      second : get_or (words bytes) at 0 < 31 → Dec (at + 1 < n) → None ≡ step_of (hook_of (first_words bytes n) at)
      second a (yes k) = callee a k (dec_lt (get_or (words bytes) (at + 1) 0) 2)
      second a (no k) = unfold hook_of step_of in rw (code_read bytes n at 31 h refl a, code_none bytes n (at + 1) 2 (omega arith))

      code : Dec (get_or (words bytes) at 0 < 31) → None ≡ step_of (hook_of (first_words bytes n) at)
      code (yes a) = second a (dec_lt (at + 1) n)
      code (no a) = unfold hook_of step_of in rw (code_unlisted bytes n at 31 h refl (omega arith))

  pub hook_past : n ≤ at → None ≡ step_of (hook_of (first_words bytes n) at)
  unfolding hook_of step_of
  hook_past h = rw (code_none bytes n at 31 h)

-- ── exports ──

module _ (bytes : List ℕ) (n at : ℕ) {w : ℕ} where
  pub export_next : at < n → 2 < n - at → w ≡ get_or (words bytes) at 0 → w < 3 → Some (at + 3) ≡ step_of (export_of (first_words bytes n) at)
  unfolding export_of step_of
  export_next h l e k =
      rw (code_read bytes n at 3 h e k, word_read bytes n (at + 1) (omega arith) refl, word_read bytes n ((at + 1) + 1) (omega arith) refl, three_on at)

  pub export_unlisted : at < n → 2 < n - at → w ≡ get_or (words bytes) at 0 → 3 ≤ w → None ≡ step_of (export_of (first_words bytes n) at)
  unfolding export_of step_of
  export_unlisted h l e k = rw (code_unlisted bytes n at 3 h e k)

module _ (bytes : List ℕ) (n at : ℕ) where
  pub export_short : at < n → n - at ≤ 2 → None ≡ step_of (export_of (first_words bytes n) at)
  export_short h l = code (dec_lt (get_or (words bytes) at 0) 3)
    where
      second : get_or (words bytes) at 0 < 3 → Dec (at + 1 < n) → None ≡ step_of (export_of (first_words bytes n) at)
      second a (yes k) =
          unfold export_of step_of in rw (code_read bytes n at 3 h refl a, word_read bytes n (at + 1) k refl, word_none bytes n ((at + 1) + 1) (omega arith))
      second a (no k) = unfold export_of step_of in rw (code_read bytes n at 3 h refl a, word_none bytes n (at + 1) (omega arith))

      code : Dec (get_or (words bytes) at 0 < 3) → None ≡ step_of (export_of (first_words bytes n) at)
      code (yes a) = second a (dec_lt (at + 1) n)
      code (no a) = unfold export_of step_of in rw (code_unlisted bytes n at 3 h refl (omega arith))

  pub export_past : n ≤ at → None ≡ step_of (export_of (first_words bytes n) at)
  unfolding export_of step_of
  export_past h = rw (code_none bytes n at 3 h)

pub ruleset hooks = (hook_next, hook_unlisted, hook_callee, hook_short, hook_past)

pub ruleset exports = (export_next, export_unlisted, export_short, export_past)
