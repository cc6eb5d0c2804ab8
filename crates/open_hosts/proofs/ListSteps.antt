-- For the code that checks a host list.
use Prim.Native.Nat.{ℕ, ◌+◌, ◌*◌, ◌≤◌, ◌<◌}
use mathlib.Core.Path.{◌≡◌, refl, sym, ap, subst, ◌∙◌}
use mathlib.Core.List.{List, []}
use mathlib.Core.Bool.{Bool, true, false, cond}
use Rattle.std.specs.Prelude.{Option, None, Some}
use native.Mathlib.Omega.{arith}
use lib.ListN.{length}
use borrow.Author.Tests.{eq-eqb, ne_eqb}
use Rattle.std.specs.Bool.{then_some}
use Rattle.lists.specs.Lists.{all_of}
use Rattle.blocks.specs.Blocks.{words, length_word, framed}
use Rattle.blocks.specs.ByteLaws.{is_byte}
use Rattle.blocks.specs.Frame.{frame_of, first_words}
use Rattle.blocks.proofs.FirstWords.{length_first_words, first_words_at, first_words_small, first_words_framed, frame_found, frame_none}
use Rattle.reader.specs.Reader.{list_of, whole, content}
use Rattle.reader.specs.Step.{step_of}
use Rattle.reader.specs.StepLaws.{arrived, stuck}
use Rattle.reader.specs.Value.{Whole}
use Rattle.reader.specs.ValueLaws.{got_whole, value_got, list_within}
use Rattle.host.specs.Host.{HostFn, host_fn, pairs_distinct, if_distinct, host_edition, decode_hosts}
use Rattle.host.specs.Listed.{listed_for, listed_of, hosts_in}
use Rattle.host.specs.Seek.{listed_in}
use Rattle.host.specs.ListedLaws.{listed_framed}
use Rattle.open_hosts.specs.Sorted.{Roomy, entry_count, Arranged, SortedHosts, SortedIf}
use Rattle.open_hosts.specs.EdgedLaws.{hosts_count, entries_inside}
use Rattle.open_hosts.specs.Bare.{distinct_few}

-- ── the entries ──

module _ (n : ℕ) (ws : List ℕ) {r : Option ℕ} where
  pub entries_stop : r ≡ None → r ≡ step_of (list_of host_fn ws 2) → None ≡ listed_in n ws
  unfolding listed_in whole if_distinct listed_for
  entries_stop e f = sym (ap (λ g. listed_for n (if_distinct (whole n g))) (stuck (list_of host_fn ws 2) e f))

  module _ (q : ℕ) (e : r ≡ Some q) (f : r ≡ step_of (list_of host_fn ws 2)) where
    pub entries_whole : Whole (list_of host_fn ws 2)
    entries_whole = arrived (list_of host_fn ws 2) e f λ hs g. got_whole g

    pub entries_elsewhere : (q ≡ n → ⊥) → None ≡ listed_in n ws
    unfolding listed_in whole if_distinct listed_for
    entries_elsewhere h =
        arrived (list_of host_fn ws 2) e f λ hs g.
        sym (ap (λ g. listed_for n (if_distinct (whole n g))) g
        ∙ ap (λ b. listed_for n (if_distinct (cond b (Some hs) None))) (ne_eqb q n h))

    module _ {x : Bool} (h : q ≡ n) (k : x ≡ pairs_distinct (hosts_in ws)) where
      ended : listed_in n ws ≡ cond x (Some n) None
      unfolding listed_in whole if_distinct listed_for
      ended =
          arrived (list_of host_fn ws 2) e f λ hs g.
          ap (λ g. listed_for n (if_distinct (whole n g))) g
          ∙ ap (λ b. listed_for n (if_distinct (cond b (Some hs) None))) (eq-eqb q n h)
          ∙ ap (λ b. listed_for n (cond b (Some hs) None)) (sym (k ∙ ap pairs_distinct (value_got [] g)))
          ∙ listed_cond x hs
        where
          listed_cond : (b : Bool) (hs : List HostFn) → listed_for n (cond b (Some hs) None) ≡ cond b (Some n) None
          listed_cond true hs = unfold listed_for in refl
          listed_cond false hs = unfold listed_for in refl

      pub pairs_once : {o : Option ℕ} → o ≡ then_some x n → o ≡ listed_in n ws
      pairs_once {o} t = t ∙ some_if x ∙ sym ended
        where
          some_if : (b : Bool) → then_some b n ≡ cond b (Some n) None
          some_if true = refl
          some_if false = refl

    pub entries_crowded : q ≡ n → false ≡ pairs_distinct (hosts_in ws) → None ≡ listed_in n ws
    entries_crowded h k = pairs_once h k refl

pub ruleset listing = (entries_stop, entries_whole, entries_elsewhere)

-- ── the bytes ──

module _ (bytes : List ℕ) where
  pub frame_next : (n : ℕ) {r : Option ℕ} {x : Option ℕ} → r ≡ Some n → r ≡ frame_of (framed host_edition bytes) →
      x ≡ listed_in n (first_words bytes n) → x ≡ listed_of bytes
  frame_next n e f k =
      frame_found (framed host_edition bytes) e f λ ws q l.
      k ∙ ap (λ m. listed_in m (first_words bytes m)) l ∙ ap (listed_in (length ws)) (first_words_framed host_edition bytes ws q)
      ∙ sym (listed_framed bytes ws q)

  pub frame_stop : {r : Option ℕ} → r ≡ None → r ≡ frame_of (framed host_edition bytes) → None ≡ listed_of bytes
  unfolding listed_of decode_hosts content if_distinct listed_for
  frame_stop e f = sym (ap (λ o. listed_for (length_word (words bytes)) (if_distinct (content (list_of host_fn) o)))
      (frame_none (framed host_edition bytes) e f))

-- ── the index ──

-- where there are no more entries than an intact list has, there is room for them
pub roomy : (b : List ℕ) (n k count : ℕ) → Whole (list_of host_fn (first_words b n) 2) → count ≡ entry_count (first_words b n) →
    count ≤ 130047 → Roomy b k → 3 * entry_count (first_words b n) + 1 ≤ k
unfolding Roomy
roomy b n k count w c h r = omega (arith, first_words_at b n 2 (list_within host_fn b n 2 w))

-- of more entries two are the pair of empty strings
pub crowded : (b : List ℕ) (n count : ℕ) → Whole (list_of host_fn (first_words b n) 2) → all_of is_byte b ≡ true → n ≤ 520192 →
    count ≡ entry_count (first_words b n) → 130047 < count → false ≡ pairs_distinct (hosts_in (first_words b n))
crowded b n count w s h c l = go (pairs_distinct (hosts_in (first_words b n))) refl
  where
    go : (x : Bool) → pairs_distinct (hosts_in (first_words b n)) ≡ x → false ≡ x
    go false e = refl
    go true e =
        let m = first_words_small b n s in
        absurd (omega (
          arith,
          length_first_words b n,
          entries_inside (first_words b n) w m,
          hosts_count
              (first_words b n) w m,
          distinct_few (hosts_in (first_words b n)) e,
        ))

pub broken_sorted : (b v : List ℕ) {o : Option ℕ} → o ≡ None → SortedIf o b v
unfolding SortedIf
broken_sorted b v e n f = let q : None ≡ Some n = sym e ∙ f in let z : ◌≡◌ {A = ℕ} 0 1 = cc in absurd (omega arith)

pub sorted_where : (b v : List ℕ) (n : ℕ) {x : Bool} {o : Option ℕ} → Arranged (first_words b n) v →
    x ≡ pairs_distinct (hosts_in (first_words b n)) → o ≡ then_some x n → SortedIf o b v
unfolding SortedIf
sorted_where b v n {x} {o} a e f m q = go x e (sym f ∙ q)
  where
    go : (x : Bool) → x ≡ pairs_distinct (hosts_in (first_words b n)) → then_some x n ≡ Some m → SortedHosts (first_words b m) v
    go true e q =
        let z : n ≡ m = cc in
        subst (λ k. SortedHosts (first_words b k) v) z (record { arranged = a; distinct = sym e })
    go false e q = let z : ◌≡◌ {A = ℕ} 0 1 = cc in absurd (omega arith)
