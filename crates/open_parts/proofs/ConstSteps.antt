-- Where constants, imports and globals end.
use Prim.Native.Nat.{ℕ, ◌+◌, ◌-◌, ◌≤◌, ◌<◌}
use mathlib.Core.Path.{◌≡◌, refl, sym, ap, ◌∙◌}
use mathlib.Core.List.{List, [], ◌∷◌}
use native.Mathlib.Omega.{arith}
use native.Mathlib.Decide.{dec_lt}
use lib.ListN.{get_or, get_or-eq_default}
use Rattle.blocks.specs.Blocks.{words}
use Rattle.blocks.specs.Frame.{first_words}
use Rattle.std.specs.Prelude.{Option, None, Some}
use Rattle.reader.specs.Reader.{Reader, ◌>>=◌, pure, fail, word, many, list_of}
use Rattle.reader.specs.Step.{step_of}
use Rattle.reader.specs.StepLaws.{word_read, word_none, arrived, stuck, make}
use Rattle.reader.specs.AlikeLaws.{three_on}
use Rattle.reader.proofs.RecordSteps.{Sized, sized_two, sized_next, sized_end, sized_word, sized_list, sized_fit, sized_short}
use Rattle.sheet.specs.Module.{Const, plain, ParamList}
use Rattle.sheet.specs.Decode.{value_type, plain_const, string_const, array_const, pair_of, map_const, const_bodies, const_of, param_of, some_params, param_list, import_of, global_of}

-- ── constants ──

pair_sized : Sized pair_of 2
unfolding pair_of
pair_sized = sized_next (λ k. word >>= (λ v. pure (k, v))) λ k. sized_next (λ v. pure (k, v)) λ v. sized_end _

plain_sized : Sized plain_const 2
unfolding plain_const
plain_sized = sized_next (λ l. word >>= (λ h. pure (plain l h))) λ l. sized_next (λ h. pure (plain l h)) λ h. sized_end _

string_sized : Sized string_const 1
unfolding string_const
string_sized = sized_next (λ s. pure (Const.string s)) λ s. sized_end _

body : (bytes : List ℕ) (n at : ℕ) {w : ℕ} → at < n → w ≡ get_or (words bytes) at 0 → (k : ℕ) → w ≡ k →
    const_of (first_words bytes n) at ≡ get_or const_bodies k fail (first_words bytes n) (at + 1)
unfolding const_of
body bytes n at h e k z = rw (word_read bytes n at h (sym z ∙ e))

none_of_4 : (w : ℕ) → (w ≡ 0 → ⊥) → (w ≡ 1 → ⊥) → (w ≡ 2 → ⊥) → (w ≡ 3 → ⊥) → 4 ≤ w
none_of_4 w a b c d = omega arith

module _ (bytes : List ℕ) (n at : ℕ) {w : ℕ} where
  pub plain_next : at < n → w ≡ get_or (words bytes) at 0 → w ≡ 0 → 2 < n - at → Some (at + 3) ≡ step_of (const_of (first_words bytes n) at)
  plain_next h e z l = sized_fit plain_sized bytes n (at + 1) (at + 3) (omega arith) (omega arith) ∙ sym (ap step_of (body bytes n at h e 0 z))

  pub plain_short : at < n → w ≡ get_or (words bytes) at 0 → w ≡ 0 → n - at ≤ 2 → None ≡ step_of (const_of (first_words bytes n) at)
  plain_short h e z l = sized_short plain_sized bytes n (at + 1) (omega arith) (omega arith) ∙ sym (ap step_of (body bytes n at h e 0 z))

  pub string_next : at < n → w ≡ get_or (words bytes) at 0 → w ≡ 1 → 1 < n - at → Some (at + 2) ≡ step_of (const_of (first_words bytes n) at)
  string_next h e z l = sized_fit string_sized bytes n (at + 1) (at + 2) (omega arith) (omega arith) ∙ sym (ap step_of (body bytes n at h e 1 z))

  pub string_short : at < n → w ≡ get_or (words bytes) at 0 → w ≡ 1 → n - at ≤ 1 → None ≡ step_of (const_of (first_words bytes n) at)
  string_short h e z l = sized_short string_sized bytes n (at + 1) (omega arith) (omega arith) ∙ sym (ap step_of (body bytes n at h e 1 z))

  pub array_next : {x : Option ℕ} → at < n → w ≡ get_or (words bytes) at 0 → w ≡ 2 → x ≡ step_of (list_of (many 1 word) (first_words bytes n) (at + 1)) → x ≡ step_of (const_of (first_words bytes n) at)
  unfolding array_const
  array_next h e z k =
      sized_list sized_word (first_words bytes n) (at + 1) k ∙ sym (make (list_of word (first_words bytes n) (at + 1)) Const.array) ∙ sym (ap step_of (body bytes n at h e 2 z))

  pub map_next : {x : Option ℕ} → at < n → w ≡ get_or (words bytes) at 0 → w ≡ 3 → x ≡ step_of (list_of (many 2 word) (first_words bytes n) (at + 1)) → x ≡ step_of (const_of (first_words bytes n) at)
  unfolding map_const
  map_next h e z k =
      sized_list pair_sized (first_words bytes n) (at + 1) k ∙ sym (make (list_of pair_of (first_words bytes n) (at + 1)) Const.map) ∙ sym (ap step_of (body bytes n at h e 3 z))

  pub const_unlisted : at < n → w ≡ get_or (words bytes) at 0 → (w ≡ 0 → ⊥) → (w ≡ 1 → ⊥) → (w ≡ 2 → ⊥) → (w ≡ 3 → ⊥) → None ≡ step_of (const_of (first_words bytes n) at)
  unfolding step_of
  const_unlisted h e a b c d =
      sym (ap step_of (body bytes n at h e w refl ∙ ap (λ (b : Reader Const). b (first_words bytes n) (at + 1)) (get_or-eq_default const_bodies fail (none_of_4 w a b c d))))

pub const_past : (bytes : List ℕ) (n at : ℕ) → n ≤ at → None ≡ step_of (const_of (first_words bytes n) at)
unfolding const_of step_of
const_past bytes n at h = rw (word_none bytes n at h)

-- ── parameter lists ──

param_sized : Sized param_of 2
unfolding param_of
param_sized = sized_two λ f a. record { flags = f; name+ = a }

module _ (bytes : List ℕ) (n at : ℕ) {w : ℕ} where
  pub params_none : at < n → w ≡ get_or (words bytes) at 0 → w ≡ 0 → Some (at + 1) ≡ step_of (param_list (first_words bytes n) at)
  unfolding param_list step_of
  params_none h e z = rw (word_read bytes n at h (sym z ∙ e))

  pub params_next : {x : Option ℕ} → at < n → w ≡ get_or (words bytes) at 0 → w ≡ 1 → x ≡ step_of (list_of (many 2 word) (first_words bytes n) (at + 1)) → x ≡ step_of (param_list (first_words bytes n) at)
  unfolding param_list some_params
  params_next h e z k =
      rw (word_read bytes n at h (sym z ∙ e)) (sized_list param_sized (first_words bytes n) (at + 1) k ∙ sym (make (list_of param_of (first_words bytes n) (at + 1)) Some))

  pub params_unlisted : at < n → w ≡ get_or (words bytes) at 0 → (w ≡ 0 → ⊥) → (w ≡ 1 → ⊥) → None ≡ step_of (param_list (first_words bytes n) at)
  unfolding param_list step_of
  params_unlisted h e a b =
      let l : 2 ≤ w = omega arith in
      rw (word_read bytes n at h e)
      (sym (ap (λ (f : Reader ParamList). step_of (f (first_words bytes n) (at + 1))) (get_or-eq_default (pure None ∷ some_params ∷ []) fail l)))

pub params_past : (bytes : List ℕ) (n at : ℕ) → n ≤ at → None ≡ step_of (param_list (first_words bytes n) at)
unfolding param_list step_of
params_past bytes n at h = rw (word_none bytes n at h)

-- ── imports ──

module _ (bytes : List ℕ) (n at : ℕ) where
  pub import_next : {x : Option ℕ} → at < n → 2 < n - at → x ≡ step_of (param_list (first_words bytes n) (at + 3)) → x ≡ step_of (import_of (first_words bytes n) at)
  unfolding import_of
  import_next h l k =
      rw (word_read bytes n at h refl, word_read bytes n (at + 1) (omega arith) refl, word_read bytes n ((at + 1) + 1) (omega arith) refl, three_on at)
      (k ∙ sym (make (param_list (first_words bytes n) (at + 3)) (λ ps. record { module_name = get_or (words bytes) at 0; name = get_or (words bytes) (at + 1) 0; sig = get_or (words bytes) ((at + 1) + 1) 0; params = ps })))

  pub import_short : at < n → n - at ≤ 2 → None ≡ step_of (import_of (first_words bytes n) at)
  unfolding import_of step_of
  import_short h l = go (dec_lt (at + 1) n)
    where
      go : Dec (at + 1 < n) → None ≡ step_of (import_of (first_words bytes n) at)
      go (yes k) = unfold import_of step_of in rw (word_read bytes n at h refl, word_read bytes n (at + 1) k refl, word_none bytes n ((at + 1) + 1) (omega arith))
      go (no k) = unfold import_of step_of in rw (word_read bytes n at h refl, word_none bytes n (at + 1) (omega arith))

  pub import_past : n ≤ at → None ≡ step_of (import_of (first_words bytes n) at)
  unfolding import_of step_of
  import_past h = rw (word_none bytes n at h)

-- ── globals ──

module _ (bytes : List ℕ) (n at p : ℕ) {r : Option ℕ} where
  pub global_next : r ≡ Some p → r ≡ step_of (value_type (first_words bytes n) at) → p < n → Some (p + 1) ≡ step_of (global_of (first_words bytes n) at)
  unfolding global_of step_of
  global_next e k h = arrived (value_type (first_words bytes n) at) e k λ t g. rw (g, word_read bytes n p h refl)

  pub global_short : r ≡ Some p → r ≡ step_of (value_type (first_words bytes n) at) → n ≤ p → None ≡ step_of (global_of (first_words bytes n) at)
  unfolding global_of step_of
  global_short e k h = arrived (value_type (first_words bytes n) at) e k λ t g. rw (g, word_none bytes n p h)

pub global_stop : (ws : List ℕ) (at : ℕ) {r : Option ℕ} → r ≡ None → r ≡ step_of (value_type ws at) → None ≡ step_of (global_of ws at)
unfolding global_of step_of
global_stop ws at e k = rw (stuck (value_type ws at) e k)

pub ruleset consts = (plain_next, plain_short, string_next, string_short, array_next, map_next, const_unlisted, const_past)

pub ruleset params = (params_none, params_next, params_unlisted, params_past)

pub ruleset imports = (import_next, import_short, import_past)

pub ruleset globals = (global_next, global_short, global_stop)
