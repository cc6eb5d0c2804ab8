-- The words of parameters, arguments and value types that were read.
use Prim.Native.Nat.{ℕ, zero, suc, ◌+◌, ◌-◌, ◌*◌, ◌≤◌, ◌<◌}
use mathlib.Core.Path.{◌≡◌, refl, sym, ap, ap₂, subst, ◌∙◌}
use mathlib.Core.List.{List, [], ◌∷◌, map}
use mathlib.Core.Bool.{true, cond}
use Rattle.std.specs.Prelude.{None, Some}
use native.Mathlib.Omega.{arith}
use native.Mathlib.Decide.{dec_lt}
use lib.ListN.{length, get_or}
use borrow.Author.Tests.{ltb-true, lt-ltb, le-ltb}
use Rattle.blocks.specs.Blocks.{words}
use Rattle.blocks.specs.Frame.{first_words}
use Rattle.blocks.proofs.FirstWords.{length_first_words, first_words_at}
use Rattle.reader.specs.Reader.{Got, broken, got, Reader, and_then, pure, fail, word, many, list_of}
use Rattle.reader.specs.ReaderLaws.{stands_at, stands_in, then_inv}
use Rattle.reader.specs.StepLaws.{word_read, word_none}
use Rattle.reader.specs.Value.{Whole, value_of}
use Rattle.reader.specs.ValueLaws.{whole_inv, got_whole, not_whole, value_got, list_within, list_whole, list_value}
use Rattle.sheet.specs.Module.{ValueType, basic, ref, first_ref, value_word, Param, Arg}
use Rattle.sheet.specs.Decode.{value_type, param_of, some_params, param_list, arg_of}
use Rattle.sheet.specs.Encode.{encode_value}
use Rattle.sheet.specs.Coded.{coded_value}
use Rattle.sheet.proofs.TypeCodes.{value_codes}
use Rattle.rule_list_members.specs.Members.{pairs_at}
use Rattle.rule_lists.specs.References.{value_from}
use Rattle.rule_list_members.proofs.MemberSteps.{word_inv}

abbrev pub to_param : ℕ × ℕ → Param
to_param x = record { flags = x.0; name+ = x.1 }

abbrev pub to_arg : ℕ × ℕ → Arg
to_arg x = record { kind = x.0; name = x.1 }

-- ── members of two words ──

-- two words, and what is made of them
abbrev TwoWords : {A : Type 0} → Reader A → (ℕ × ℕ → A) → Type 0
TwoWords f mk = (ws : List ℕ) (p : ℕ) → f ws p ≡ and_then (word ws p) (λ a q. and_then (word ws q) (λ b r. got (mk (a, b)) r))

pub param_words : TwoWords param_of to_param
unfolding param_of
param_words ws p = refl

pub arg_words : TwoWords arg_of to_arg
unfolding arg_of
arg_words ws p = refl

-- n values that stand from p to q are the pairs there
pub record Pairs {A : Type 0} (mk : ℕ × ℕ → A) (ws : List ℕ) (n p : ℕ) (xs : List A) (q : ℕ) : Type 0 where
  pub members : xs ≡ map mk (pairs_at ws n p)
  pub inside : p + 2 * n ≤ length ws
  pub end : q ≡ p + 2 * n

module _ {A : Type 0} (f : Reader A) (mk : ℕ × ℕ → A) (two : TwoWords f mk) (ws : List ℕ) where
  two_inv : {C : Type 0} (p : ℕ) (a : A) (q : ℕ) → f ws p ≡ got a q → (p + 2 ≤ length ws → a ≡ mk (get_or ws p 0, get_or ws (p + 1) 0) → q ≡ p + 2 → C) → C
  two_inv p a q e k =
      then_inv (word ws p) _ (sym (two ws p) ∙ e) λ x p₁ e₁ e₂. then_inv (word ws p₁) _ e₂ λ y p₂ e₃ e₄.
      word_inv ws p e₁ λ h i j. word_inv ws p₁ e₃ λ h₁ i₁ j₁.
      let ha : mk (x, y) ≡ a = cc in
      let hq : p₂ ≡ q = cc in
      let hy : get_or ws (p + 1) 0 ≡ y = ap (λ z. get_or ws z 0) j ∙ i₁ in
      k (omega arith) (sym ha ∙ ap₂ (λ u v. mk (u, v)) (sym i) (sym hy)) (omega arith)

  pub many_pairs : (n p : ℕ) (xs : List A) (q : ℕ) → many n f ws p ≡ got xs q → p ≤ length ws → Pairs mk ws n p xs q
  unfolding many pairs_at
  many_pairs zero p xs q e h = let x : [] ≡ xs = cc in let y : p ≡ q = cc in record { members = sym x; inside = omega arith; end = omega arith }
  many_pairs (suc n) p xs q e h =
      then_inv (f ws p) _ e λ a p₁ e₁ e₂. then_inv (many n f ws p₁) _ e₂ λ ys p₂ e₃ e₄.
      two_inv p a p₁ e₁ λ i j k.
      let r = many_pairs n (p + 2) ys p₂ (ap (many n f ws) (sym k) ∙ e₃) i in
      let x : a ∷ ys ≡ xs = cc in
      let y : p₂ ≡ q = cc in
      record {
        members = sym x ∙ ap₂ (λ u v. u ∷ v) j r.members;
        inside = omega (arith, r.inside);
        end = omega (arith, r.end);
      }

pub first_pairs : (b : List ℕ) (m n p : ℕ) → p + 2 * n ≤ m → pairs_at (first_words b m) n p ≡ pairs_at (words b) n p
unfolding pairs_at
first_pairs b m zero p h = refl
first_pairs b m (suc n) p h =
    ap₂ (λ u v. u ∷ v) (ap₂ (λ x y. (x, y)) (first_words_at b m p (omega arith)) (first_words_at b m (p + 1) (omega arith))) (first_pairs b m n (p + 2) (omega arith))

-- a list of them
module _ {A : Type 0} (f : Reader A) (mk : ℕ × ℕ → A) (two : TwoWords f mk) (b : List ℕ) (m at : ℕ) (h : Whole (list_of f (first_words b m) at)) {c : ℕ} (e : c ≡ get_or (words b) at 0) where
  list_pairs : {C : Type 0} → ((xs : List A) (q : ℕ) → many c f (first_words b m) (at + 1) ≡ got xs q → Pairs mk (first_words b m) c (at + 1) xs q → C) → C
  list_pairs k = whole_inv (many c f (first_words b m) (at + 1)) (list_whole f b m at h e) λ xs q g.
      k xs q g (many_pairs f mk two (first_words b m) c (at + 1) xs q g (omega (arith, list_within f b m at h, length_first_words b m)))

  pub pairs_inside : at + 1 + 2 * c ≤ m
  pairs_inside = list_pairs λ xs q g r. omega (arith, r.inside, length_first_words b m)

  pub pairs_value : value_of [] (list_of f (first_words b m) at) ≡ map mk (pairs_at (words b) c (at + 1))
  pairs_value = list_pairs λ xs q g r.
      list_value f b m at [] h e ∙ value_got [] g ∙ r.members ∙ ap (map mk) (first_pairs b m c (at + 1) pairs_inside)

-- where it ends
pub list_ends : {A : Type 0} (f : Reader A) (mk : ℕ × ℕ → A) (two : TwoWords f mk) (b : List ℕ) (m at : ℕ) {c : ℕ} → c ≡ get_or (words b) at 0 →
    (xs : List A) (q : ℕ) → list_of f (first_words b m) at ≡ got xs q → q ≡ at + (1 + 2 * c)
list_ends f mk two b m at {c} e xs q g =
    list_pairs f mk two b m at (got_whole g) e λ ys r k w.
    let z : got xs q ≡ got ys r = sym g ∙ opened (list_within f b m at (got_whole g)) ∙ k in
    let y : q ≡ r = cc in
    omega (arith, w.end)
  where
    opened : at < m → list_of f (first_words b m) at ≡ many c f (first_words b m) (at + 1)
    opened l = unfold list_of in rw (word_read b m at l e)

-- ── value types ──

abbrev pub values_at : List ℕ → ℕ → ℕ → List ValueType
values_at ws zero p = []
values_at ws (suc n) p = value_from (get_or ws p 0) ∷ values_at ws n (p + 1)

pub length_values_at : (ws : List ℕ) (n p : ℕ) → length (values_at ws n p) ≡ n
length_values_at ws zero p = refl
length_values_at ws (suc n) p = ap suc (length_values_at ws n (p + 1))

coded_value_lem : (v : ValueType) → coded_value v ≡ true → v ≡ value_from (value_word v)
unfolding coded_value value_from value_word
coded_value_lem (basic k) h = sym (ap (λ t. cond t (basic k) (ref (k - first_ref))) (lt-ltb k first_ref (omega (arith, ltb-true k 13 h))))
coded_value_lem (ref t) h =
    let z : first_ref + t - first_ref ≡ t = omega arith in
    sym (ap (λ u. cond u (basic (first_ref + t)) (ref (first_ref + t - first_ref))) (le-ltb (first_ref + t) first_ref (omega arith)) ∙ ap ref z)

module _ (ws : List ℕ) where
  value_inv : {C : Type 0} (p : ℕ) (v : ValueType) (q : ℕ) → value_type ws p ≡ got v q → (p + 1 ≤ length ws → v ≡ value_from (get_or ws p 0) → q ≡ p + 1 → C) → C
  unfolding encode_value
  value_inv p v q e k =
      let w = (value_codes ws).found p v q e in
      let z : p + 0 ≡ p = omega arith in
      let y : q ≡ p + 1 = w.stands.end in
      let i : get_or ws p 0 ≡ value_word v = ap (λ j. get_or ws j 0) (sym z) ∙ stands_at ws w.stands 0 (omega arith) in
      k (omega (arith, stands_in ws w.stands)) (coded_value_lem v w.fine ∙ ap value_from (sym i)) y

  many_values : (n p : ℕ) (vs : List ValueType) (q : ℕ) → many n value_type ws p ≡ got vs q → p ≤ length ws → (vs ≡ values_at ws n p) × (p + n ≤ length ws)
  unfolding many
  many_values zero p vs q e h = let x : [] ≡ vs = cc in (sym x, omega arith)
  many_values (suc n) p vs q e h =
      then_inv (value_type ws p) _ e λ a p₁ e₁ e₂. then_inv (many n value_type ws p₁) _ e₂ λ ys p₂ e₃ e₄.
      value_inv p a p₁ e₁ λ i j k.
      let r = many_values n (p + 1) ys p₂ (ap (many n value_type ws) (sym k) ∙ e₃) i in
      let x : a ∷ ys ≡ vs = cc in
      (sym x ∙ ap₂ (λ u v. u ∷ v) j r.0, omega (arith, r.1))

first_values : (b : List ℕ) (m n p : ℕ) → p + n ≤ m → values_at (first_words b m) n p ≡ values_at (words b) n p
first_values b m zero p h = refl
first_values b m (suc n) p h = ap₂ (λ u v. value_from u ∷ v) (first_words_at b m p (omega arith)) (first_values b m n (p + 1) (omega arith))

module _ (b : List ℕ) (m at : ℕ) (h : Whole (list_of value_type (first_words b m) at)) {c : ℕ} (e : c ≡ get_or (words b) at 0) where
  list_values : {C : Type 0} → ((vs : List ValueType) (q : ℕ) → many c value_type (first_words b m) (at + 1) ≡ got vs q → (vs ≡ values_at (first_words b m) c (at + 1)) × (at + 1 + c ≤ length (first_words b m)) → C) → C
  list_values k = whole_inv (many c value_type (first_words b m) (at + 1)) (list_whole value_type b m at h e) λ vs q g.
      k vs q g (many_values (first_words b m) c (at + 1) vs q g (omega (arith, list_within value_type b m at h, length_first_words b m)))

  pub values_inside : at + 1 + c ≤ m
  values_inside = list_values λ vs q g r. omega (arith, r.1, length_first_words b m)

  pub values_value : value_of [] (list_of value_type (first_words b m) at) ≡ values_at (words b) c (at + 1)
  values_value = list_values λ vs q g r.
      list_value value_type b m at [] h e ∙ value_got [] g ∙ r.0 ∙ first_values b m c (at + 1) values_inside

-- ── an optional parameter list ──

module _ (b : List ℕ) (m at : ℕ) (h : Whole (param_list (first_words b m) at)) where
  params_past : m ≤ at → param_list (first_words b m) at ≡ broken
  unfolding param_list
  params_past l = rw (word_none b m at l)

  pub params_in : at < m
  params_in = go (dec_lt at m)
    where
      go : Dec (at < m) → at < m
      go (yes l) = l
      go (no l) = absurd (not_whole (params_past (omega arith)) h)

  opened : {w : ℕ} → w ≡ get_or (words b) at 0 → param_list (first_words b m) at ≡ get_or (pure None ∷ some_params ∷ []) w fail (first_words b m) (at + 1)
  unfolding param_list
  opened e = rw (word_read b m at params_in e)

  pub no_params : {w : ℕ} → w ≡ get_or (words b) at 0 → w ≡ 0 → value_of None (param_list (first_words b m) at) ≡ None
  unfolding value_of
  no_params e z = ap (value_of None) (opened e ∙ ap (λ (k : ℕ). get_or (pure None ∷ some_params ∷ []) k fail (first_words b m) (at + 1)) z)

  module _ {w : ℕ} (e : w ≡ get_or (words b) at 0) (z : w ≡ 0 → ⊥) where
    is_some : param_list (first_words b m) at ≡ some_params (first_words b m) (at + 1)
    is_some = go w z (opened e)
      where
        go : (k : ℕ) → (k ≡ 0 → ⊥) → param_list (first_words b m) at ≡ get_or (pure None ∷ some_params ∷ []) k fail (first_words b m) (at + 1) → param_list (first_words b m) at ≡ some_params (first_words b m) (at + 1)
        go zero z g = absurd (z refl)
        go (suc zero) z g = g
        go (suc (suc k)) z g = absurd (not_whole g h)

    made : (l : Got (List Param)) → Whole (and_then l (λ ps q. got (Some ps) q)) → Whole l × (value_of None (and_then l (λ ps q. got (Some ps) q)) ≡ Some (value_of [] l))
    unfolding Whole value_of
    made broken h = absurd h
    made (got ps q) h = (tt, refl)

    both_made : Whole (list_of param_of (first_words b m) (at + 1)) × (value_of None (param_list (first_words b m) at) ≡ Some (value_of [] (list_of param_of (first_words b m) (at + 1))))
    unfolding some_params
    both_made =
        let r = made (list_of param_of (first_words b m) (at + 1)) (subst Whole is_some h) in
        (r.0, ap (value_of None) is_some ∙ r.1)

    pub params_whole : Whole (list_of param_of (first_words b m) (at + 1))
    params_whole = both_made.0

    pub params_some : value_of None (param_list (first_words b m) at) ≡ Some (value_of [] (list_of param_of (first_words b m) (at + 1)))
    params_some = both_made.1
