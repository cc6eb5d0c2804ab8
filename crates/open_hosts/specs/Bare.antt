-- An entry of two empty strings has three words and any other four or more, so a list of few words has few entries where no pair stands twice.
use Rattle.std.specs.Prelude.{ℕ, suc, ◌+◌, ◌*◌, ◌≤◌, ◌≡◌, refl, List, [], ◌∷◌, ◌++◌, Bool, true, false, not, ◌&&◌, ◌||◌, length}
use Rattle.std.proofs.Common.{sym, ap₂, ◌∙◌, arith, length-append}
use Rattle.lists.specs.Lists.{any_of, concat_map, same}
use Rattle.lists.specs.ListLaws.{and_first, and_second, same_eq}
use Rattle.reader.specs.Text.{words_for, encode_string}
use Rattle.host.specs.Host.{HostFn, named, pairs_distinct, encode_host}
use Rattle.open_hosts.specs.PairOrder.{words_count}

host_length : (h : HostFn) → length (encode_host h) ≡ words_for (length h.module_name) + words_for (length h.name) + 3
unfolding encode_host
host_length h =
    let m = encode_string h.module_name in
    let n = encode_string h.name in
    omega (arith, length-append (m ++ n) (h.kind ∷ []), length-append m n, words_count h.module_name, words_count h.name)

-- one where the test holds
abbrev one : Bool → ℕ
one true = 1
one false = 0

words_some : (x : ℕ) (s : List ℕ) → 1 ≤ words_for (length (x ∷ s))
unfolding words_for
words_some x s = omega arith

host_long : (m n : List ℕ) → 1 ≤ words_for (length m) + words_for (length n) + one (same [] m && same [] n)
host_long [] [] = omega arith
host_long [] (y ∷ n) = omega (arith, words_some y n)
host_long (x ∷ m) n = omega (arith, words_some x m)

host_four : (h : HostFn) → 4 ≤ length (encode_host h) + one (named [] [] h)
unfolding named
host_four h = omega (arith, host_length h, host_long h.module_name h.name)

-- after two empty strings they do not stand again
bare_once : (h : HostFn) (hs : List HostFn) → pairs_distinct (h ∷ hs) ≡ true → named [] [] h ≡ true → any_of (named [] []) hs ≡ false
unfolding pairs_distinct named
bare_once h hs d e =
    let m : [] ≡ h.module_name = same_eq [] h.module_name (and_first (same [] h.module_name) (same [] h.name) e) in
    let n : [] ≡ h.name = same_eq [] h.name (and_second (same [] h.module_name) (same [] h.name) e) in
    ap₂ (λ a b. any_of (named a b) hs) m n ∙ not_so (any_of (named h.module_name h.name) hs) (and_first (not (any_of (named h.module_name h.name) hs)) (pairs_distinct hs) d)
  where
    not_so : (b : Bool) → not b ≡ true → b ≡ false
    not_so true e = sym e
    not_so false e = refl

distinct_rest : (h : HostFn) (hs : List HostFn) → pairs_distinct (h ∷ hs) ≡ true → pairs_distinct hs ≡ true
unfolding pairs_distinct
distinct_rest h hs d = and_second (not (any_of (named h.module_name h.name) hs)) (pairs_distinct hs) d

sum : (t u : Bool) (l k n : ℕ) → 4 ≤ l + one t → 4 * n ≤ k + one u → (t ≡ true → u ≡ false) → 4 * suc n ≤ l + k + one (t || u)
sum true true l k n h i f = let e = f refl in let z : ◌≡◌ {A = ℕ} 0 1 = cc in absurd (omega arith)
sum true false l k n h i f = omega arith
sum false u l k n h i f = omega arith

distinct_long : (hs : List HostFn) → pairs_distinct hs ≡ true
    → 4 * length hs ≤ length (concat_map encode_host hs) + one (any_of (named [] []) hs)
distinct_long [] d = omega arith
distinct_long (h ∷ hs) d =
    omega (
      arith,
      length-append (encode_host h) (concat_map encode_host hs),
      sum (named [] [] h) (any_of (named [] []) hs) (length (encode_host h)) (length (concat_map encode_host hs)) (length hs) (host_four h) (distinct_long hs (distinct_rest h hs d)) (bare_once h hs d),
    )

-- four words for each entry but one
pub distinct_few : (hs : List HostFn) → pairs_distinct hs ≡ true → 4 * length hs ≤ length (concat_map encode_host hs) + 1
distinct_few hs d = go (any_of (named [] []) hs) (distinct_long hs d)
  where
    go : (b : Bool) → 4 * length hs ≤ length (concat_map encode_host hs) + one b → 4 * length hs ≤ length (concat_map encode_host hs) + 1
    go true h = h
    go false h = omega arith
