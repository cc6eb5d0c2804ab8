-- Lists of faults that are empty together: the rules that hold of one module and of another.
use Rattle.std.specs.Prelude.{◌≡◌, refl, Bool, true, List, [], ◌∷◌, ◌++◌, map, ℕ, suc, T, ltb}
use Rattle.std.proofs.Common.{sym, ◌∙◌, subst}
use Rattle.lists.specs.Lists.{concat_map, concat_map_from, all_of}
use Rattle.lists.specs.ListLaws.{and_first, and_second}
use Rattle.error.specs.declared.What.{What}
use Rattle.error.specs.declared.LoadErrorKind.{LoadErrorKind}
use Rattle.error.specs.declared.LoadErrorKind.TheVariants.{OutOfRange}
use Rattle.error.specs.Answer.{unless, in_range}
use Rattle.law_faults.specs.Empty.{append_empty, map_empty, unless_empty}

pub record Together {A B : Type 0} (a : List A) (b : List B) : Type 0 where
  pub there : a ≡ [] → b ≡ []
  pub back : b ≡ [] → a ≡ []

pub same_together : {A : Type 0} {a b : List A} → a ≡ b → Together a b
same_together e = record { there = λ h. sym e ∙ h; back = λ h. e ∙ h }

pub both_empty : {A B : Type 0} {a : List A} {b : List B} → a ≡ [] → b ≡ [] → Together a b
both_empty p q = record { there = λ h. q; back = λ h. p }

-- the second parts only where the first are empty
pub together_then : {A B : Type 0} {a c : List A} {b d : List B} → Together a b → (a ≡ [] → Together c d) → Together (a ++ c) (b ++ d)
together_then {A} {B} {a} {c} {b} {d} p q = record {
  there = λ e. let h = (append_empty a c).0 e in (append_empty b d).1 (p.there h.0, (q h.0).there h.1);
  back = λ e. let h = (append_empty b d).0 e in let k = p.back h.0 in (append_empty a c).1 (k, (q k).back h.1);
}

infixl 65 ◌⊕◌
pub ◌⊕◌ : {A B : Type 0} {a c : List A} {b d : List B} → Together a b → Together c d → Together (a ++ c) (b ++ d)
p ⊕ q = together_then p (λ e. q)

pub together_map : {A B C D : Type 0} (f : A → C) (g : B → D) {a : List A} {b : List B} → Together a b → Together (map f a) (map g b)
together_map f g {a} {b} p = record {
  there = λ e. (map_empty g b).1 (p.there ((map_empty f a).0 e));
  back = λ e. (map_empty f a).1 (p.back ((map_empty g b).0 e));
}

pub together_unless : {b c : Bool} (k l : LoadErrorKind) → b ≡ c → Together (unless b k) (unless c l)
together_unless {b} {c} k l e = record {
  there = λ h. (unless_empty c l).1 (subst T e ((unless_empty b k).0 h));
  back = λ h. (unless_empty b k).1 (subst T (sym e) ((unless_empty c l).0 h));
}

pub together_range : (w : What) (n i n' i' : ℕ) → ltb i n ≡ ltb i' n' → Together (in_range w n i) (in_range w n' i')
together_range w n i n' i' e = together_unless (OutOfRange w i) (OutOfRange w i') e

-- ── over members ──

module _ {A A' B B' : Type 0} (g : A → A') where
  pub together_each_from : (f : ℕ → A → List B) (f' : ℕ → A' → List B') → ((i : ℕ) (x : A) → Together (f i x) (f' i (g x))) →
      (k : ℕ) (xs : List A) → Together (concat_map_from k f xs) (concat_map_from k f' (map g xs))
  together_each_from f f' h k [] = both_empty refl refl
  together_each_from f f' h k (x ∷ xs) = h k x ⊕ together_each_from f f' h (suc k) xs

  -- of members that pass the test
  pub together_good_from : (p : A → Bool) (f : ℕ → A → List B) (f' : ℕ → A' → List B') → ((i : ℕ) (x : A) → p x ≡ true → Together (f i x) (f' i (g x))) →
      (k : ℕ) (xs : List A) → all_of p xs ≡ true → Together (concat_map_from k f xs) (concat_map_from k f' (map g xs))
  together_good_from p f f' h k [] o = both_empty refl refl
  together_good_from p f f' h k (x ∷ xs) o = h k x (and_first (p x) (all_of p xs) o) ⊕ together_good_from p f f' h (suc k) xs (and_second (p x) (all_of p xs) o)

  pub together_each : (f : A → List B) (f' : A' → List B') → ((x : A) → Together (f x) (f' (g x))) →
      (xs : List A) → Together (concat_map f xs) (concat_map f' (map g xs))
  together_each f f' h [] = both_empty refl refl
  together_each f f' h (x ∷ xs) = h x ⊕ together_each f f' h xs

module _ {A B B' : Type 0} where
  pub together_all_from : (f : ℕ → A → List B) (f' : ℕ → A → List B') → ((i : ℕ) (x : A) → Together (f i x) (f' i x)) →
      (k : ℕ) (xs : List A) → Together (concat_map_from k f xs) (concat_map_from k f' xs)
  together_all_from f f' h k [] = both_empty refl refl
  together_all_from f f' h k (x ∷ xs) = h k x ⊕ together_all_from f f' h (suc k) xs

  pub together_all : (f : A → List B) (f' : A → List B') → ((x : A) → Together (f x) (f' x)) →
      (xs : List A) → Together (concat_map f xs) (concat_map f' xs)
  together_all f f' h [] = both_empty refl refl
  together_all f f' h (x ∷ xs) = h x ⊕ together_all f f' h xs
