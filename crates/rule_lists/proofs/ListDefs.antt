-- What code tests of pairs of words is what the definitions ask of parameters and arguments.
use Prim.Native.Nat.{ℕ, zero, suc, ◌+◌, ◌-◌, ◌/◌, ◌%◌}
use mathlib.Core.Path.{◌≡◌, refl, sym, ap, ap₂, ◌∙◌}
use mathlib.Core.List.{List, [], ◌∷◌, ◌++◌}
use mathlib.Core.List
use mathlib.Core.Bool.{Bool, true, false, cond, not, ◌&&◌, ◌||◌}
use native.Mathlib.Omega.{arith}
use lib.Dec.{eqb, ltb, leb}
use lib.ListN.{length, get_or, length-map}
use borrow.Author.Tests.{lt-ltb, le-leb, lt-leb, eq-eqb, ne_eqb, eqb-true, eqb-false, ltb-true, ltb-false}
use Rattle.lists.specs.Lists.{all_of, any_of, keep, contains, distinct, all_pairs}
use Rattle.sheet.specs.Module.{Param, Arg, Module}
use Rattle.imports.specs.Params.{by_reference, optional, good_flags, optional_last, given_names, valid_params, fits_one, fits}
use Rattle.funcs.specs.Shapes.{good_kind, positional, is_named, named_last, names_read, valid_shape}
use Rattle.error.specs.Answer.{string_number}
use Rattle.rule_list_members.specs.declared.ListKind.{ListKind}
use Rattle.rule_list_members.specs.declared.ListKind.TheVariants.{Params, Args}
use Rattle.std.specs.Prelude.{None, Some}
use Rattle.rule_list_members.specs.Members.{pairs_at, is_listed, is_late, is_early, is_in_order, late_after, name_of, name_in, member_holds, members_hold}
use Rattle.rule_list_marks.specs.Marks.{named, names_of, names_in, names_distinct, valid_members}
use Rattle.rule_lists.specs.References.{value_from, reference_fits, references_fit}
use Rattle.rule_list_marks.proofs.MarkLaws.{below, in_names}
use Rattle.rule_lists.proofs.ListWords.{to_param, to_arg, values_at, length_values_at}

abbrev params : List (ℕ × ℕ) → List Param
params xs = List.map to_param xs

abbrev args : List (ℕ × ℕ) → List Arg
args xs = List.map to_arg xs

-- ── the tests apart ──

abbrev listed : ListKind → List (ℕ × ℕ) → Bool
listed k xs = all_of (λ x. is_listed k x.0) xs

abbrev ordered : ListKind → Bool → List (ℕ × ℕ) → Bool
ordered k late [] = true
ordered k late (x ∷ xs) = is_in_order k late x.0 && ordered k (late_after k late x.0) xs

apart : (k : ListKind) (n : ℕ) (late : Bool) (xs : List (ℕ × ℕ)) → members_hold k n late xs ≡ (listed k xs && (ordered k late xs && names_in k n xs))
unfolding members_hold member_holds names_in
apart k n late [] = refl
apart k n late (x ∷ xs) =
    ap (λ y. (is_listed k x.0 && (is_in_order k late x.0 && name_in n (name_of k x.0 x.1))) && y) (apart k n (late_after k late x.0) xs)
    ∙ mix (is_listed k x.0) (is_in_order k late x.0) (name_in n (name_of k x.0 x.1)) (listed k xs) (ordered k (late_after k late x.0) xs) (names_in k n xs)
  where
    mix : (a b c d e f : Bool) → ((a && (b && c)) && (d && (e && f))) ≡ ((a && d) && ((b && e) && (c && f)))
    mix false b c d e f = refl
    mix true false c true e f = refl
    mix true false c false e f = refl
    mix true true false true true f = refl
    mix true true false true false f = refl
    mix true true false false e f = refl
    mix true true true d e f = refl

-- ── listed ──

listed_params : (xs : List (ℕ × ℕ)) → listed Params xs ≡ all_of good_flags (params xs)
unfolding is_listed good_flags
listed_params [] = refl
listed_params (x ∷ xs) = ap (λ y. ltb x.0 4 && y) (listed_params xs)

listed_args : (xs : List (ℕ × ℕ)) → listed Args xs ≡ all_of good_kind (args xs)
unfolding is_listed good_kind
listed_args [] = refl
listed_args (x ∷ xs) = ap (λ y. ltb x.0 3 && y) (listed_args xs)

-- ── ordered ──

ordered_params : (late : Bool) (xs : List (ℕ × ℕ)) → ordered Params late xs ≡ ((not late || all_of optional (params xs)) && optional_last (params xs))
unfolding optional_last is_in_order late_after is_late is_early optional
ordered_params true [] = refl
ordered_params false [] = refl
ordered_params late (x ∷ xs) =
    let o = eqb (x.0 / 2 % 2) 1 in
    ap (λ y. not (late && not o) && y) (ordered_params (late || o) xs) ∙ mix late o (all_of optional (params xs)) (optional_last (params xs))
  where
    mix : (l o a b : Bool) → (not (l && not o) && ((not (l || o) || a) && b)) ≡ ((not l || (o && a)) && ((not o || a) && b))
    mix true true true b = refl
    mix true true false b = refl
    mix true false a b = refl
    mix false true a b = refl
    mix false false a b = refl

ordered_args : (late : Bool) (xs : List (ℕ × ℕ)) → ordered Args late xs ≡ ((not late || not (any_of positional (args xs))) && named_last (args xs))
unfolding named_last is_in_order late_after is_late is_early positional is_named
ordered_args true [] = refl
ordered_args false [] = refl
ordered_args late (x ∷ xs) =
    let p = eqb x.0 0 in
    let n = eqb x.0 1 in
    ap (λ y. not (late && p) && y) (ordered_args (late || n) xs) ∙ mix late p n (any_of positional (args xs)) (named_last (args xs))
  where
    mix : (l p n a b : Bool) → (not (l && p) && ((not (l || n) || not a) && b)) ≡ ((not l || not (p || a)) && (not (n && a) && b))
    mix true true n a b = refl
    mix true false n true b = refl
    mix true false true false b = refl
    mix true false false false b = refl
    mix false p true true b = refl
    mix false p true false b = refl
    mix false p false a b = refl

-- ── names ──

eqb_suc : (x y : ℕ) → eqb (suc x) (suc y) ≡ eqb x y
eqb_suc x y = go (eqb x y) refl
  where
    go : (t : Bool) → eqb x y ≡ t → eqb (suc x) (suc y) ≡ t
    go true e = eq-eqb (suc x) (suc y) (ap suc (eqb-true x y e))
    go false e = ne_eqb (suc x) (suc y) (λ z. eqb-false x y e (omega arith))

contains_suc : (x : ℕ) (ys : List ℕ) → contains (List.map suc ys) (suc x) ≡ contains ys x
contains_suc x [] = refl
contains_suc x (y ∷ ys) = ap₂ ◌||◌ (eqb_suc x y) (contains_suc x ys)

distinct_suc : (xs : List ℕ) → distinct (List.map suc xs) ≡ distinct xs
distinct_suc [] = refl
distinct_suc (x ∷ xs) = ap₂ (λ a b. not a && b) (contains_suc x xs) (distinct_suc xs)

given_names_lem : (xs : List (ℕ × ℕ)) → given_names (params xs) ≡ List.map suc (names_of Params xs)
unfolding given_names names_of name_of named
given_names_lem [] = refl
given_names_lem (x ∷ xs) = go x.1 (given_names_lem xs)
  where
    go : (s : ℕ) → given_names (params xs) ≡ List.map suc (names_of Params xs) →
        cond (ltb 0 s) (s ∷ keep (ltb 0) (List.map (λ p. p.name+) (params xs))) (keep (ltb 0) (List.map (λ p. p.name+) (params xs)))
        ≡ List.map suc (named (cond (eqb s 0) None (Some (string_number (s - 1)))) ++ names_of Params xs)
    go zero ih = unfold given_names named in ih
    go (suc t) ih = unfold given_names named in
        let z : suc t ≡ suc (suc t - 1) = omega arith in
        rw (lt-ltb 0 (suc t) (omega arith), ne_eqb (suc t) 0 (λ e. omega arith)) (ap₂ (λ u v. u ∷ v) z ih)

names_params : (xs : List (ℕ × ℕ)) → names_distinct Params xs ≡ distinct (given_names (params xs))
unfolding names_distinct
names_params xs = sym (ap distinct (given_names_lem xs) ∙ distinct_suc (names_of Params xs))

read_names : (xs : List (ℕ × ℕ)) → names_of Args xs ≡ names_read (args xs)
unfolding names_read names_of name_of named is_named
read_names [] = refl
read_names (x ∷ xs) = go (eqb x.0 1) (read_names xs)
  where
    go : (t : Bool) → names_of Args xs ≡ names_read (args xs) →
        named (cond t (Some (string_number x.1)) None) ++ names_of Args xs
        ≡ List.map (λ (a : Arg). a.name) (cond t (to_arg x ∷ keep is_named (args xs)) (keep is_named (args xs)))
    go true ih = unfold names_read named in ap (λ l. x.1 ∷ l) ih
    go false ih = unfold names_read named in ih

in_params : (n : ℕ) (xs : List (ℕ × ℕ)) → names_in Params n xs ≡ all_of (λ p. leb p.name+ n) (params xs)
unfolding names_in name_of
in_params n [] = refl
in_params n (x ∷ xs) = ap₂ ◌&&◌ (go x.1) (in_params n xs)
  where
    go : (s : ℕ) → name_in n (cond (eqb s 0) None (Some (string_number (s - 1)))) ≡ leb s n
    go zero = unfold name_in in sym (le-leb 0 n (omega arith))
    go (suc t) = unfold name_in in
        let z : suc t - 1 ≡ t = omega arith in
        rw (ne_eqb (suc t) 0 (λ e. omega arith), z) (less (ltb t n) refl)
      where
        less : (u : Bool) → ltb t n ≡ u → u ≡ leb (suc t) n
        less true e = sym (le-leb (suc t) n (omega (arith, ltb-true t n e)))
        less false e = sym (lt-leb (suc t) n (omega (arith, ltb-false t n e)))

-- ── a call shape ──

pub valid_args : (m : Module) (xs : List (ℕ × ℕ)) → valid_members Args (length m.strings) xs ≡ valid_shape m (args xs)
unfolding valid_members valid_shape names_distinct
valid_args m xs =
    ap₂ ◌&&◌ (apart Args (length m.strings) false xs ∙ ap₂ ◌&&◌ (listed_args xs) (ap₂ ◌&&◌ (ordered_args false xs) (in_names Args (length m.strings) xs ∙ ap (below (length m.strings)) (read_names xs)))) (ap distinct (read_names xs))
    ∙ mix (all_of good_kind (args xs)) (named_last (args xs)) (below (length m.strings) (names_read (args xs))) (distinct (names_read (args xs)))
  where
    mix : (a b c d : Bool) → ((a && (b && c)) && d) ≡ (((a && b) && d) && c)
    mix false b c d = refl
    mix true false c d = refl
    mix true true true true = refl
    mix true true true false = refl
    mix true true false true = refl
    mix true true false false = refl

-- ── a parameter list ──

pairs_length : (ws : List ℕ) (n p : ℕ) → length (pairs_at ws n p) ≡ n
unfolding pairs_at
pairs_length ws zero p = refl
pairs_length ws (suc n) p = ap suc (pairs_length ws n (p + 2))

fit_pairs : (m : Module) (ws : List ℕ) (n p q : ℕ) →
    all_pairs (fits_one m) (params (pairs_at ws n p)) (values_at ws n q) ≡ (references_fit m ws n p q && all_of (λ x. leb x.name+ (length m.strings)) (params (pairs_at ws n p)))
unfolding pairs_at references_fit reference_fits fits_one by_reference
fit_pairs m ws zero p q = refl
fit_pairs m ws (suc n) p q =
    ap (λ y. fits_one m (to_param (get_or ws p 0, get_or ws (p + 1) 0)) (value_from (get_or ws q 0)) && y) (fit_pairs m ws n (p + 2) (q + 1))
    ∙ mix (reference_fits m (get_or ws p 0) (get_or ws q 0)) (leb (get_or ws (p + 1) 0) (length m.strings)) (references_fit m ws n (p + 2) (q + 1)) (all_of (λ x. leb x.name+ (length m.strings)) (params (pairs_at ws n (p + 2))))
  where
    mix : (a b c d : Bool) → ((a && b) && (c && d)) ≡ ((a && c) && (b && d))
    mix false b c d = refl
    mix true true c d = refl
    mix true false true d = refl
    mix true false false d = refl

-- as many parameters as value types
pub valid_params_lem : (m : Module) (ws : List ℕ) (n p q : ℕ) →
    (valid_params (params (pairs_at ws n p)) && fits m (params (pairs_at ws n p)) (values_at ws n q)) ≡ (references_fit m ws n p q && valid_members Params (length m.strings) (pairs_at ws n p))
unfolding valid_members valid_params fits
valid_params_lem m ws n p q =
    let xs = pairs_at ws n p in
    let e : eqb (length (params xs)) (length (values_at ws n q)) ≡ true =
    eq-eqb (length (params xs)) (length (values_at ws n q)) (length-map xs to_param ∙ pairs_length ws n p ∙ sym (length_values_at ws n q)) in
    ap₂ (λ u v. ((all_of good_flags (params xs) && optional_last (params xs)) && distinct (given_names (params xs))) && (u && v)) e (fit_pairs m ws n p q)
    ∙ mix (all_of good_flags (params xs)) (optional_last (params xs)) (distinct (given_names (params xs))) (references_fit m ws n p q) (all_of (λ x. leb x.name+ (length m.strings)) (params xs))
    ∙ sym (ap (λ y. references_fit m ws n p q && y) (ap₂ ◌&&◌ (apart Params (length m.strings) false xs ∙ ap₂ ◌&&◌ (listed_params xs) (ap₂ ◌&&◌ (ordered_params false xs) (in_params (length m.strings) xs))) (names_params xs)))
  where
    mix : (a b d r c : Bool) → (((a && b) && d) && (true && (r && c))) ≡ (r && ((a && (b && c)) && d))
    mix true true true true true = refl
    mix true true true true false = refl
    mix true true true false c = refl
    mix true true false true true = refl
    mix true true false true false = refl
    mix true true false false c = refl
    mix true false d true c = refl
    mix true false d false c = refl
    mix false b d true c = refl
    mix false b d false c = refl

-- another number of parameters
pub other_count : (m : Module) (ws : List ℕ) (c d p q : ℕ) → (c ≡ d → ⊥) → (valid_params (params (pairs_at ws c p)) && fits m (params (pairs_at ws c p)) (values_at ws d q)) ≡ false
unfolding fits
other_count m ws c d p q h =
    let xs = pairs_at ws c p in
    let k : length (params xs) ≡ c = length-map xs to_param ∙ pairs_length ws c p in
    let l : length (values_at ws d q) ≡ d = length_values_at ws d q in
    let e : eqb (length (params xs)) (length (values_at ws d q)) ≡ false = ne_eqb (length (params xs)) (length (values_at ws d q)) (λ z. h (sym k ∙ z ∙ l)) in
    ap (λ y. valid_params (params xs) && (y && all_pairs (fits_one m) (params xs) (values_at ws d q))) e ∙ go (valid_params (params xs))
  where
    go : (a : Bool) → (a && false) ≡ false
    go true = refl
    go false = refl
