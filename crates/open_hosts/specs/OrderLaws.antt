-- The order of the entries: what stands between equal pairs equals them, and a pair is found by binary search.
use Rattle.std.specs.Prelude.{ℕ, ◌+◌, ◌-◌, ◌≤◌, ◌<◌, refl, List, Bool, leb, get_or}
use Rattle.std.proofs.Math.Path.{◌≡◌, sym, ap, subst}
use Rattle.std.proofs.Common.{ap₂, ◌∙◌}
use Rattle.std.proofs.Math.Bool.{true, false}
use native.Mathlib.Omega.{arith}
use Rattle.std.proofs.Math.Decide.{dec_lt}
use Rattle.std.proofs.Math.Dec.{T}
use Rattle.utf8.specs.Utf8.{well_formed}
use Rattle.region.specs.Region.{part, word_at}
use Rattle.std.specs.Ordering.{is_eq}
use Rattle.std.specs.declared.cmp.Ordering.{Ordering}
use Rattle.std.specs.declared.cmp.Ordering.TheVariants.{Less, Equal, Greater}
use Rattle.sorting.specs.Items.{item}
use Rattle.sorting.specs.Order.{lex, before, or_number}
use Rattle.sorting.specs.Lex.{lex_refl, lex_same}
use Rattle.sorting.specs.Merge.{Place}
use Rattle.host.specs.Host.{named, pairs_distinct, lookup}
use Rattle.host.specs.Listed.{hosts_in}
use Rattle.open_hosts.specs.Sorted.{entry_count, Arranged}
use Rattle.open_hosts.specs.PairOrder.{pair_words, pair_order, pair_of, pair_before, less_then, greater_then, between, named_equal, equal_named}
use Rattle.open_hosts.specs.Pairs.{alike, apart, twice, looked_at, looked_nowhere}
use Rattle.open_hosts.specs.Once.{once}
use Rattle.open_hosts.specs.EdgedLaws.{entry_of, edged_count, entry_item, module_fine, name_fine}

-- the number at a place of the order
abbrev pub placed : List ℕ → List ℕ → ℕ → ℕ
placed ws v p = word_at v (entry_count ws + 1) p

-- how a pair compares with the entry at a place
abbrev pub order_at : List ℕ → List ℕ → List ℕ → List ℕ → ℕ → Ordering
order_at ws v m n p = pair_order m n (entry_of ws (placed ws v p))

equal_is : (c : Ordering) → is_eq c ≡ true → c ≡ Equal
equal_is Less e = let z : ◌≡◌ {A = ℕ} 0 1 = cc in absurd (omega arith)
equal_is Equal e = refl
equal_is Greater e = let z : ◌≡◌ {A = ℕ} 0 1 = cc in absurd (omega arith)

-- two entries have one pair
unfoldable pub same_pair : List ℕ → ℕ → ℕ → Bool
same_pair ws x y = is_eq (pair_order (entry_of ws x).module_name (entry_of ws x).name (entry_of ws y))

-- of the first i places no two neighbours have one pair
pub record Differ (ws v : List ℕ) (i : ℕ) : Type 0 where
  pub from : 1 ≤ i
  pub differ : (p : ℕ) → p + 1 < i → lex (pair_of (entry_of ws (placed ws v p))) (pair_of (entry_of ws (placed ws v (p + 1)))) ≡ Equal → ⊥

-- below lo all pairs are lower, from hi on all are higher
pub record Halves (ws v m n : List ℕ) (lo hi : ℕ) : Type 0 where
  pub low : lo ≤ hi
  pub high : hi ≤ entry_count ws
  pub lower : (p : ℕ) → p < lo → order_at ws v m n p ≡ Greater
  pub higher : (p : ℕ) → hi ≤ p → p < entry_count ws → order_at ws v m n p ≡ Less

module _ (ws v : List ℕ) (a : Arranged ws v) where
  pub placed_below : (p : ℕ) → p < entry_count ws → placed ws v p < entry_count ws
  placed_below p h = a.ordered.below p h

  -- a later place has no lower pair
  rises : (p q : ℕ) → p ≤ q → q < entry_count ws → lex (pair_of (entry_of ws (placed ws v p)))
      (pair_of (entry_of ws (placed ws v q))) ≡ Greater → ⊥
  rises p q h k = pair_before (entry_of ws (placed ws v p)) (entry_of ws (placed ws v q)) λ e. falls
      (a.ordered.sorted p q (omega arith) h k)
      (ap₂ lex (entry_item ws v a.edges (placed ws v p) (placed_below p (omega arith)))
      (entry_item ws v a.edges (placed ws v q) (placed_below q k)) ∙ e)
    where
      falls : T (before ws (part 0 (entry_count ws + 1) v) (placed ws v p) (placed ws v q)) →
          lex (item ws (part 0 (entry_count ws + 1) v) (placed ws v p))
          (item ws (part 0 (entry_count ws + 1) v) (placed ws v q)) ≡ Greater → ⊥
      falls t e = unfold before in subst (λ (c : Ordering). T (or_number c (leb (placed ws v p) (placed ws v q)))) e (unfold before in t)

  -- ── no pair twice ──

  differ_far : (i p q : ℕ) → Differ ws v i → p < q → q < i → q < entry_count ws →
      pair_of (entry_of ws (placed ws v p)) ≡ pair_of (entry_of ws (placed ws v q)) → ⊥
  differ_far i p q d h k l e =
      d.differ p (omega arith)
      (between (pair_of (entry_of ws (placed ws v p))) (pair_of (entry_of ws (placed ws v (p + 1))))
      (pair_of (entry_of ws (placed ws v q))) e
      (rises p (p + 1) (omega arith) (omega arith)) (rises (p + 1) q (omega arith) (omega arith)))

  pub differ_start : Differ ws v 1
  differ_start = record { from = omega arith; differ = λ p h. absurd (omega arith) }

  pub differ_next : (i : ℕ) → Differ ws v i → (lex (pair_of (entry_of ws (placed ws v (i - 1))))
      (pair_of (entry_of ws (placed ws v i))) ≡ Equal → ⊥) → Differ ws v (i + 1)
  differ_next i d n = record { from = omega arith; differ = λ p h e. go p h e (dec_lt (p + 1) i) }
    where
      go : (p : ℕ) → p + 1 < i + 1 → lex (pair_of (entry_of ws (placed ws v p))) (pair_of (entry_of ws (placed ws v (p + 1)))) ≡ Equal →
          Dec (p + 1 < i) → ⊥
      go p h e (yes k) = d.differ p k e
      go p h e (no k) =
          let x : p + 1 ≡ i = omega arith in
          let y : p ≡ i - 1 = omega arith in
          n (ap₂ (λ j k. lex (pair_of (entry_of ws (placed ws v j))) (pair_of (entry_of ws (placed ws v k)))) (sym y) (sym x) ∙ e)

  same_of : (x y : ℕ) {b : Bool} → b ≡ same_pair ws x y → b ≡ true → lex (pair_of (entry_of ws x)) (pair_of (entry_of ws y)) ≡ Equal
  unfolding same_pair pair_order
  same_of x y e t = equal_is (lex (pair_of (entry_of ws x)) (pair_of (entry_of ws y))) (sym e ∙ t)

  differ_of : (x y : ℕ) {b : Bool} → b ≡ same_pair ws x y → b ≡ false → lex (pair_of (entry_of ws x)) (pair_of (entry_of ws y)) ≡ Equal → ⊥
  unfolding same_pair pair_order
  differ_of x y e t q = let z : true ≡ false = sym (ap is_eq q) ∙ sym e ∙ t in let o : ◌≡◌ {A = ℕ} 0 1 = cc in omega arith

  pair_equal : (i j : ℕ) → alike (hosts_in ws) i j ≡ true → pair_of (entry_of ws i) ≡ pair_of (entry_of ws j)
  pair_equal i j e = lex_same (pair_of (entry_of ws i)) (pair_of (entry_of ws j))
      (unfold pair_order in named_equal (entry_of ws i).module_name (entry_of ws i).name (entry_of ws j) e)

  pub all_differ : (i : ℕ) → Differ ws v i → entry_count ws ≤ i → true ≡ pairs_distinct (hosts_in ws)
  all_differ i d l = sym (apart (hosts_in ws) λ x y h k. go x y h (omega (arith, edged_count ws v a.edges)) (alike (hosts_in ws) x y) refl)
    where
      apart_at : (x y : ℕ) → x < y → pair_of (entry_of ws x) ≡ pair_of (entry_of ws y) →
          (w : Place (placed ws v) 0 (entry_count ws) x) (u : Place (placed ws v) 0 (entry_count ws) y) → Dec (w.at < u.at) →
          Dec (u.at < w.at) → ⊥
      apart_at x y h e w u (yes k) t =
          differ_far i w.at u.at d k (omega (arith, u.to)) u.to
          (ap (λ n. pair_of (entry_of ws n)) w.is ∙ e ∙ ap (λ n. pair_of (entry_of ws n)) (sym u.is))
      apart_at x y h e w u (no s) (yes k) =
          differ_far i u.at w.at d k (omega (arith, w.to)) w.to
          (ap (λ n. pair_of (entry_of ws n)) u.is ∙ sym e ∙ ap (λ n. pair_of (entry_of ws n)) (sym w.is))
      apart_at x y h e w u (no s) (no k) =
          let z : w.at ≡ u.at = omega arith in
          let o : x ≡ y = sym w.is ∙ ap (placed ws v) z ∙ u.is in
          omega arith

      go : (x y : ℕ) → x < y → y < entry_count ws → (b : Bool) → alike (hosts_in ws) x y ≡ b → b ≡ false
      go x y h k false e = refl
      go x y h k true e =
          let w = a.ordered.all x (omega arith) in
          let u = a.ordered.all y k in
          absurd (apart_at x y h (pair_equal x y e) w u (dec_lt w.at u.at) (dec_lt u.at w.at))

  -- two numbers of one pair
  alike_of : (x y : ℕ) → x < entry_count ws → y < entry_count ws → pair_of (entry_of ws x) ≡ pair_of (entry_of ws y) →
      alike (hosts_in ws) x y ≡ true
  alike_of x y h k e =
      equal_named (entry_of ws x).module_name (entry_of ws x).name (entry_of ws y)
      (module_fine ws v a.edges x h) (name_fine ws v a.edges x h) (module_fine ws v a.edges y k) (name_fine ws v a.edges y k)
      (unfold pair_order in ap (lex (pair_of (entry_of ws x))) (sym e) ∙ lex_refl (pair_of (entry_of ws x)))

  pub pair_twice : (x y : ℕ) → (x ≡ y → ⊥) → x < entry_count ws → y < entry_count ws → pair_of (entry_of ws x) ≡ pair_of (entry_of ws y) →
      pairs_distinct (hosts_in ws) ≡ false
  pair_twice x y n h k e = go (dec_lt x y)
    where
      go : Dec (x < y) → pairs_distinct (hosts_in ws) ≡ false
      go (yes l) = twice (hosts_in ws) x y l (omega (arith, edged_count ws v a.edges)) (alike_of x y h k e)
      go (no l) = twice (hosts_in ws) y x (omega arith) (omega (arith, edged_count ws v a.edges)) (alike_of y x k h (sym e))

  pub some_equal : (i : ℕ) → 1 ≤ i → i < entry_count ws → lex (pair_of (entry_of ws (placed ws v (i - 1))))
      (pair_of (entry_of ws (placed ws v i))) ≡ Equal → false ≡ pairs_distinct (hosts_in ws)
  some_equal i l h e =
      sym (pair_twice (placed ws v (i - 1)) (placed ws v i) (once (entry_count ws) (placed ws v) a.ordered.all (i - 1) i (omega arith) h)
      (placed_below (i - 1) (omega arith)) (placed_below i h)
      (lex_same (pair_of (entry_of ws (placed ws v (i - 1)))) (pair_of (entry_of ws (placed ws v i))) e))

  -- ── binary search for a pair ──

  module _ (m n : List ℕ) where
    pub halves_start : Halves ws v m n 0 (entry_count ws)
    halves_start = record {
      low = omega arith;
      high = omega arith;
      lower = λ p h. absurd (omega arith);
      higher = λ p h k. absurd
          (omega arith);
    }

    module _ (lo hi mid : ℕ) (c : Halves ws v m n lo hi) (h : lo ≤ mid) (k : mid < hi) where
      pub halves_less : order_at ws v m n mid ≡ Less → Halves ws v m n lo mid
      halves_less e = record { low = h; high = omega (arith, c.high); lower = c.lower; higher = λ p l o. go p l o }
        where
          go : (p : ℕ) → mid ≤ p → p < entry_count ws → order_at ws v m n p ≡ Less
          go p l o = unfold pair_order in less_then (pair_words m n) (pair_of (entry_of ws (placed ws v mid)))
              (pair_of (entry_of ws (placed ws v p))) (unfold pair_order in e) (rises mid p l o)

      pub halves_greater : order_at ws v m n mid ≡ Greater → Halves ws v m n (mid + 1) hi
      halves_greater e = record { low = omega arith; high = c.high; lower = λ p l. go p l; higher = c.higher }
        where
          go : (p : ℕ) → p < mid + 1 → order_at ws v m n p ≡ Greater
          go p l = unfold pair_order in greater_then (pair_words m n) (pair_of (entry_of ws (placed ws v p)))
              (pair_of (entry_of ws (placed ws v mid))) (unfold pair_order in e) (rises p mid (omega arith) (omega (arith, c.high)))

    -- no place is left
    pub halves_end : (lo hi : ℕ) → Halves ws v m n lo hi → hi ≤ lo → entry_count ws ≡ lookup (hosts_in ws) m n
    halves_end lo hi c h = sym (edged_count ws v a.edges) ∙ looked_nowhere (hosts_in ws) m n λ i k e. go i
        (a.ordered.all i (omega (arith, edged_count ws v a.edges))) e
      where
        none : (p : ℕ) → p < entry_count ws → Dec (p < lo) → order_at ws v m n p ≡ Equal → ⊥
        none p k (yes l) e = let x = c.lower p l in let z : ◌≡◌ {A = ℕ} 0 1 = cc in omega arith
        none p k (no l) e = let x = c.higher p (omega arith) k in let z : ◌≡◌ {A = ℕ} 0 1 = cc in omega arith

        go : (i : ℕ) → Place (placed ws v) 0 (entry_count ws) i → named m n (entry_of ws i) ≡ true → ⊥
        go i w e = none w.at w.to (dec_lt w.at lo) (ap (λ j. pair_order m n (entry_of ws j)) w.is ∙ named_equal m n (entry_of ws i) e)

    -- an entry of the pair is the first one
    pub halves_found : (e : ℕ) → well_formed m ≡ true → well_formed n ≡ true → pairs_distinct (hosts_in ws) ≡ true → e < entry_count ws →
        pair_order m n (entry_of ws e) ≡ Equal
        → e ≡ lookup (hosts_in ws) m n
    halves_found e f g d h q = looked_at (hosts_in ws) m n e (omega (arith, edged_count ws v a.edges)) here λ i k t. earlier i k t
      where
        here : named m n (entry_of ws e) ≡ true
        here = equal_named m n (entry_of ws e) f g (module_fine ws v a.edges e h) (name_fine ws v a.edges e h) q

        earlier : (i : ℕ) → i < e → named m n (entry_of ws i) ≡ true → ⊥
        earlier i k t =
            let x : pair_of (entry_of ws i) ≡ pair_of (entry_of ws e) = sym
            (lex_same (pair_words m n) (pair_of (entry_of ws i)) (unfold pair_order in named_equal m n (entry_of ws i) t))
            ∙ lex_same (pair_words m n) (pair_of (entry_of ws e)) (unfold pair_order in q) in
            let y : true ≡ false = sym d ∙ pair_twice i e (omega arith) (omega arith) h x in
            let z : ◌≡◌ {A = ℕ} 0 1 = cc in omega arith

-- ── the places as they are read ──

module _ (ws v : List ℕ) (a : Arranged ws v) (count i : ℕ) (k : count ≡ entry_count ws) {x y : ℕ} (ex : x ≡ get_or v (count + i) 0)
    (ey : y ≡ get_or v (count + 1 + i) 0) (d : Differ ws v i) (h : i < count) where
  first_is : x ≡ placed ws v (i - 1)
  first_is = let z : count + i ≡ entry_count ws + 1 + (i - 1) = omega (arith, d.from) in ex ∙ ap (λ j. get_or v j 0) z

  second_is : y ≡ placed ws v i
  second_is = let z : count + 1 + i ≡ entry_count ws + 1 + i = omega arith in ey ∙ ap (λ j. get_or v j 0) z

  pub neighbours_below : (x < entry_count ws) × (y < entry_count ws)
  neighbours_below = (
    subst (λ j. j < entry_count ws) (sym first_is) (placed_below ws v a (i - 1) (omega (arith, d.from))),
    subst (λ j. j < entry_count ws) (sym second_is) (placed_below ws v a i (omega arith)),
  )

  module _ {b : Bool} (e : b ≡ same_pair ws x y) where
    pub neighbours_differ : b ≡ false → Differ ws v (i + 1)
    neighbours_differ t = differ_next ws v a i d (λ q. differ_of ws v a x y e t
        (ap₂ (λ j l. lex (pair_of (entry_of ws j)) (pair_of (entry_of ws l))) first_is second_is ∙ q))

    pub neighbours_equal : b ≡ true → false ≡ pairs_distinct (hosts_in ws)
    neighbours_equal t = some_equal ws v a i d.from (omega arith)
        (ap₂ (λ j l. lex (pair_of (entry_of ws j)) (pair_of (entry_of ws l))) (sym first_is) (sym second_is) ∙ same_of ws v a x y e t)

module _ (ws v : List ℕ) (a : Arranged ws v) (m n : List ℕ) (count lo hi mid : ℕ) (k : count ≡ entry_count ws) {e : ℕ}
    (c : Halves ws v m n lo hi) (h : lo ≤ mid) (l : mid < hi) (ee : e ≡ get_or v (count + 1 + mid) 0) where
  middle_is : e ≡ placed ws v mid
  middle_is = let z : count + 1 + mid ≡ entry_count ws + 1 + mid = omega arith in ee ∙ ap (λ j. get_or v j 0) z

  pub middle_below : e < entry_count ws
  middle_below = subst (λ j. j < entry_count ws) (sym middle_is) (placed_below ws v a mid (omega (arith, c.high)))

  module _ {r : Ordering} (f : r ≡ pair_order m n (entry_of ws e)) where
    order_there : {x : Ordering} → r ≡ x → order_at ws v m n mid ≡ x
    order_there g = ap (λ j. pair_order m n (entry_of ws j)) (sym middle_is) ∙ sym f ∙ g

    pub middle_less : r ≡ Less → Halves ws v m n lo mid
    middle_less g = halves_less ws v a m n lo hi mid c h l (order_there g)

    pub middle_greater : r ≡ Greater → Halves ws v m n (mid + 1) hi
    middle_greater g = halves_greater ws v a m n lo hi mid c h l (order_there g)

    pub middle_equal : well_formed m ≡ true → well_formed n ≡ true → pairs_distinct (hosts_in ws) ≡ true → r ≡ Equal →
        e ≡ lookup (hosts_in ws) m n
    middle_equal p q d g = halves_found ws v a m n e p q d middle_below (sym f ∙ g)

module _ (ws v : List ℕ) (a : Arranged ws v) (m n : List ℕ) (count : ℕ) where
  pub halves_read : count ≡ entry_count ws → Halves ws v m n 0 count
  halves_read k = subst (Halves ws v m n 0) (sym k) (halves_start ws v a m n)

  pub halves_none : (lo hi : ℕ) → count ≡ entry_count ws → Halves ws v m n lo hi → hi ≤ lo → count ≡ lookup (hosts_in ws) m n
  halves_none lo hi k c h = k ∙ halves_end ws v a m n lo hi c h
