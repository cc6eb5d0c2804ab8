-- Where value types, fields and types end.
use Prim.Native.Nat.{ℕ, ◌+◌, ◌≤◌, ◌<◌}
use mathlib.Core.Path.{◌≡◌, refl, sym, ap, ◌∙◌}
use mathlib.Core.List.{List}
use native.Mathlib.Omega.{arith}
use lib.ListN.{get_or, get_or-eq_default}
use borrow.Author.Tests.{lt-ltb, le-ltb}
use Rattle.blocks.specs.Blocks.{words}
use Rattle.blocks.specs.Frame.{first_words}
use Rattle.std.specs.Prelude.{Option}
use Rattle.std.specs.Prelude.{None, Some}
use Rattle.reader.specs.Reader.{Got, broken, got, Reader, and_then, fail, word, many, list_of}
use Rattle.reader.specs.Step.{step_of}
use Rattle.reader.specs.StepLaws.{word_read, word_none, beyond, arrived, stuck, make}
use Rattle.reader.specs.AlikeLaws.{two_on}
use Rattle.reader.proofs.RecordSteps.{Sized, sized_two, sized_list}
use Rattle.sheet.specs.Module.{ValueType, TypeDef, func, cell, iter}
use Rattle.sheet.specs.Decode.{value_type, field_of, method_of, func_type, struct_type, of_one, of_two, type_bodies, type_def}

method_sized : Sized method_of 2
unfolding method_of
method_sized = sized_two λ a f. record { name = a; func = f }

module _ (bytes : List ℕ) (n at : ℕ) where
  -- ── value types ──

  pub value_basic : {w : ℕ} → at < n → w ≡ get_or (words bytes) at 0 → w < 13 → Some (at + 1) ≡ step_of (value_type (first_words bytes n) at)
  unfolding value_type step_of
  value_basic {w} h e k = rw (word_read bytes n at h e) (rw (lt-ltb w 13 k))

  pub value_ref : {w : ℕ} → at < n → w ≡ get_or (words bytes) at 0 → 16 ≤ w → Some (at + 1) ≡ step_of (value_type (first_words bytes n) at)
  unfolding value_type step_of
  value_ref {w} h e k = rw (word_read bytes n at h e) (rw (le-ltb w 13 (omega arith), le-ltb w 16 k))

  pub value_unlisted : {w : ℕ} → at < n → w ≡ get_or (words bytes) at 0 → 13 ≤ w → w < 16 → None ≡ step_of (value_type (first_words bytes n) at)
  unfolding value_type step_of
  value_unlisted {w} h e k l = rw (word_read bytes n at h e) (rw (le-ltb w 13 k, lt-ltb w 16 l))

  pub value_past : n ≤ at → None ≡ step_of (value_type (first_words bytes n) at)
  unfolding value_type step_of
  value_past h = rw (word_none bytes n at h)

  -- ── fields and the bodies of types ──

  pub field_next : {x : Option ℕ} → at < n → x ≡ step_of (value_type (first_words bytes n) (at + 1)) → x ≡ step_of (field_of (first_words bytes n) at)
  unfolding field_of
  field_next h k = rw (word_read bytes n at h refl) (k ∙ sym (make (value_type (first_words bytes n) (at + 1)) (λ t. record { name = get_or (words bytes) at 0; type = t })))

  pub field_past : n ≤ at → None ≡ step_of (field_of (first_words bytes n) at)
  unfolding field_of step_of
  field_past h = rw (word_none bytes n at h)

  pub struct_next : (p : ℕ) {r x : Option ℕ} → at < n → at + 1 < n → r ≡ Some p → r ≡ step_of (list_of field_of (first_words bytes n) (at + 2)) →
      x ≡ step_of (list_of (many 2 word) (first_words bytes n) p) → x ≡ step_of (struct_type (first_words bytes n) at)
  unfolding struct_type
  struct_next p h l e k m =
      arrived (list_of field_of (first_words bytes n) (at + 2)) e k λ fs g.
      rw (word_read bytes n at h refl, word_read bytes n (at + 1) l refl, two_on at, g)
      (sized_list method_sized (first_words bytes n) p m
      ∙ sym (make (list_of method_of (first_words bytes n) p) (λ ms. TypeDef.struct (record { name = get_or (words bytes) at 0; parent+ = get_or (words bytes) (at + 1) 0; fields = fs; methods = ms }))))

  pub struct_stop : {r : Option ℕ} → at < n → at + 1 < n → r ≡ None → r ≡ step_of (list_of field_of (first_words bytes n) (at + 2)) → None ≡ step_of (struct_type (first_words bytes n) at)
  unfolding struct_type step_of
  struct_stop h l e k = rw (word_read bytes n at h refl, word_read bytes n (at + 1) l refl, two_on at, stuck (list_of field_of (first_words bytes n) (at + 2)) e k)

  pub struct_short : at < n → n ≤ at + 1 → None ≡ step_of (struct_type (first_words bytes n) at)
  unfolding struct_type step_of
  struct_short h l = rw (word_read bytes n at h refl, word_none bytes n (at + 1) l)

  pub struct_past : n ≤ at → None ≡ step_of (struct_type (first_words bytes n) at)
  unfolding struct_type step_of
  struct_past h = rw (word_none bytes n at h)

-- ── parameters and results, keys and values ──

module _ (ws : List ℕ) (at p : ℕ) {r x : Option ℕ} where
  pub func_next : r ≡ Some p → r ≡ step_of (list_of value_type ws at) → x ≡ step_of (list_of value_type ws p) → x ≡ step_of (func_type ws at)
  unfolding func_type
  func_next e k h =
      arrived (list_of value_type ws at) e k λ a g. rw g (h ∙ sym (make (list_of value_type ws p) (λ b. func (record { params = a; results = b }))))

  pub two_next : r ≡ Some p → r ≡ step_of (value_type ws at) → x ≡ step_of (value_type ws p) → x ≡ step_of (of_two TypeDef.map ws at)
  unfolding of_two
  two_next e k h = arrived (value_type ws at) e k λ a g. rw g (h ∙ sym (make (value_type ws p) (TypeDef.map a)))

module _ (ws : List ℕ) (at : ℕ) {r : Option ℕ} where
  pub func_stop : r ≡ None → r ≡ step_of (list_of value_type ws at) → None ≡ step_of (func_type ws at)
  unfolding func_type step_of
  func_stop e k = rw (stuck (list_of value_type ws at) e k)

  pub two_stop : r ≡ None → r ≡ step_of (value_type ws at) → None ≡ step_of (of_two TypeDef.map ws at)
  unfolding of_two step_of
  two_stop e k = rw (stuck (value_type ws at) e k)

-- ── a type by its kind ──

-- iter ends where map does
iter_alike : (ws : List ℕ) (p : ℕ) → step_of (of_two iter ws p) ≡ step_of (of_two TypeDef.map ws p)
unfolding of_two step_of
iter_alike ws p = go (value_type ws p)
  where
    go : (x : Got ValueType) → step_of (and_then x (λ k q. and_then (value_type ws q) (λ v r. got (iter k v) r))) ≡
        step_of (and_then x (λ k q. and_then (value_type ws q) (λ v r. got (TypeDef.map k v) r)))
    go broken = refl
    go (got k q) = make (value_type ws q) (iter k) ∙ sym (make (value_type ws q) (TypeDef.map k))

body : (bytes : List ℕ) (n at : ℕ) {w : ℕ} → at < n → w ≡ get_or (words bytes) at 0 → (k : ℕ) → w ≡ k →
    type_def (first_words bytes n) at ≡ get_or type_bodies k fail (first_words bytes n) (at + 1)
unfolding type_def
body bytes n at h e k z = rw (word_read bytes n at h (sym z ∙ e))

none_of_7 : (w : ℕ) → (w ≡ 0 → ⊥) → (w ≡ 1 → ⊥) → (w ≡ 2 → ⊥) → (w ≡ 3 → ⊥) → (w ≡ 4 → ⊥) → (w ≡ 5 → ⊥) → (w ≡ 6 → ⊥) → 7 ≤ w
none_of_7 w a b c d e f g = beyond 6 w (beyond 5 w (beyond 4 w (beyond 3 w (beyond 2 w (beyond 1 w (beyond 0 w (omega arith) a) b) c) d) e) f) g

module _ (bytes : List ℕ) (n at : ℕ) {w : ℕ} {x : Option ℕ} (h : at < n) (e : w ≡ get_or (words bytes) at 0) where
  pub type_func : w ≡ 0 → x ≡ step_of (func_type (first_words bytes n) (at + 1)) → x ≡ step_of (type_def (first_words bytes n) at)
  type_func z k = k ∙ sym (ap step_of (body bytes n at h e 0 z))

  pub type_struct : w ≡ 1 → x ≡ step_of (struct_type (first_words bytes n) (at + 1)) → x ≡ step_of (type_def (first_words bytes n) at)
  type_struct z k = k ∙ sym (ap step_of (body bytes n at h e 1 z))

  pub type_array : w ≡ 2 → x ≡ step_of (value_type (first_words bytes n) (at + 1)) → x ≡ step_of (type_def (first_words bytes n) at)
  unfolding of_one
  type_array z k = k ∙ sym (make (value_type (first_words bytes n) (at + 1)) TypeDef.array) ∙ sym (ap step_of (body bytes n at h e 2 z))

  pub type_map : w ≡ 3 → x ≡ step_of (of_two TypeDef.map (first_words bytes n) (at + 1)) → x ≡ step_of (type_def (first_words bytes n) at)
  type_map z k = k ∙ sym (ap step_of (body bytes n at h e 3 z))

  pub type_cell : w ≡ 4 → x ≡ step_of (value_type (first_words bytes n) (at + 1)) → x ≡ step_of (type_def (first_words bytes n) at)
  unfolding of_one
  type_cell z k = k ∙ sym (make (value_type (first_words bytes n) (at + 1)) cell) ∙ sym (ap step_of (body bytes n at h e 4 z))

  pub type_iter : w ≡ 5 → x ≡ step_of (of_two TypeDef.map (first_words bytes n) (at + 1)) → x ≡ step_of (type_def (first_words bytes n) at)
  type_iter z k = k ∙ sym (iter_alike (first_words bytes n) (at + 1)) ∙ sym (ap step_of (body bytes n at h e 5 z))

module _ (bytes : List ℕ) (n at : ℕ) {w : ℕ} where
  pub type_coroutine : at < n → w ≡ get_or (words bytes) at 0 → w ≡ 6 → Some (at + 1) ≡ step_of (type_def (first_words bytes n) at)
  unfolding step_of
  type_coroutine h e z = sym (ap step_of (body bytes n at h e 6 z))

  pub type_unlisted : at < n → w ≡ get_or (words bytes) at 0 → (w ≡ 0 → ⊥) → (w ≡ 1 → ⊥) → (w ≡ 2 → ⊥) → (w ≡ 3 → ⊥) → (w ≡ 4 → ⊥) → (w ≡ 5 → ⊥) → (w ≡ 6 → ⊥) →
      None ≡ step_of (type_def (first_words bytes n) at)
  unfolding step_of
  type_unlisted h e a b c d f g i =
      sym (ap step_of (body bytes n at h e w refl ∙ ap (λ (b : Reader TypeDef). b (first_words bytes n) (at + 1)) (get_or-eq_default type_bodies fail (none_of_7 w a b c d f g i))))

pub type_past : (bytes : List ℕ) (n at : ℕ) → n ≤ at → None ≡ step_of (type_def (first_words bytes n) at)
unfolding type_def step_of
type_past bytes n at h = rw (word_none bytes n at h)

pub ruleset structs = (struct_next, struct_stop, struct_short, struct_past)
