-- The kinds that the rules give, and tests of a list of faults.
use Rattle.std.specs.Prelude.{ℕ, ◌≡◌, refl, List, [], ◌∷◌, map, Bool, true, false, ◌&&◌, ◌||◌, eqb, ltb, get_or}
use Rattle.std.proofs.Common.{ap, eqb-true}
use Rattle.lists.specs.Lists.{all_of, contains}
use Rattle.lists.specs.ListLaws.{all_imp}
use Rattle.lists.specs.AllLaws.{all_join, all_map, all_each, all_each_from}
use Rattle.error.specs.declared.LoadErrorKind.{LoadErrorKind}
use Rattle.error.specs.declared.LoadError.{LoadError}
use Rattle.error.specs.Answer.{kind_numbers, unless}

-- the first of an answer's six numbers
unfoldable pub kind_number : LoadErrorKind → ℕ
kind_number k = get_or (kind_numbers k) 0 0

-- kinds 2 to 22: all rules but the walk and the names of exports give no others
unfoldable pub judged : LoadErrorKind → Bool
judged k = ltb 1 (kind_number k) && ltb (kind_number k) 23

-- 3: a number that is out of range
unfoldable pub of_range : LoadErrorKind → Bool
of_range k = eqb (kind_number k) 3

pub ranges_judged : (ks : List LoadErrorKind) → all_of of_range ks ≡ true → all_of judged ks ≡ true
unfolding of_range judged
ranges_judged ks h =
    all_imp of_range judged (λ k e. ap (λ (n : ℕ). ltb 1 n && ltb n 23) (eqb-true (kind_number k) 3 e)) ks h

-- 26 too: the kinds of all rules before exports
unfoldable pub before_exports : LoadErrorKind → Bool
before_exports k = judged k || eqb (kind_number k) 26

-- 27 and 28, of the names of exports
unfoldable pub of_names : LoadErrorKind → Bool
of_names k = contains (27 ∷ 28 ∷ []) (kind_number k)

-- of an export: of its index, or of its name
unfoldable pub of_exports : LoadErrorKind → Bool
of_exports k = judged k || of_names k

-- the kinds that the rules give: not 1, 23, 24, 25
unfoldable pub of_rules : LoadErrorKind → Bool
of_rules k = before_exports k || of_names k

pub judged_before : (k : LoadErrorKind) → judged k ≡ true → before_exports k ≡ true
unfolding before_exports
judged_before k h = ap (λ (b : Bool). b || eqb (kind_number k) 26) h

-- ── a list of faults, by its parts ──

-- a rule's kind passes, so what comes of the rule does
pub all_unless : (p : LoadErrorKind → Bool) (b : Bool) (k : LoadErrorKind) → p k ≡ true → all_of p (unless b k) ≡ true
all_unless p true k h = refl
all_unless p false k h = rw h

-- a place keeps the kind
pub all_placed : (f : LoadErrorKind → LoadError) → ((k : LoadErrorKind) → (f k).kind ≡ k) → (ks : List LoadErrorKind) → all_of (λ e. judged e.kind) (map f ks) ≡ all_of judged ks
all_placed f h ks = all_map (λ e. judged e.kind) judged f (λ k. ap judged (h k)) ks

-- a list of faults is `++`, `concat_map`, `map` and `unless`
pub ruleset parts = (all_join, all_placed, all_each, all_each_from, all_unless)
