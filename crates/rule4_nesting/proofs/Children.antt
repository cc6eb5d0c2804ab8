-- The children of a constant, one after the other: the deepest so far, and what is ahead.
use Prim.Native.Nat.{ℕ, suc, ◌+◌, ◌-◌, ◌≤◌, ◌<◌, max}
use mathlib.Core.Path.{◌≡◌, refl, sym, ap, ap₂, subst, ◌∙◌}
use mathlib.Core.List.{List, [], ◌∷◌, ◌++◌}
use mathlib.Core.Bool.{Bool, true, false}
use native.Mathlib.Omega.{arith}
use native.Mathlib.Decide.{dec_lt}
use lib.Dec.{ltb}
use lib.ListN.{get_or}
use borrow.Author.Tests.{lt-ltb, le-ltb, le-leb, lt-leb}
use Rattle.std.specs.Ordering.{nat_cmp, ord_max}
use Rattle.lists.specs.Lists.{all_of}
use Rattle.blocks.specs.Blocks.{words}
use Rattle.blocks.specs.Frame.{first_words}
use Rattle.error.specs.declared.LoadErrorKind.TheVariants.{BadConstant}
use Rattle.error.specs.Answer.{unless}
use Rattle.reader.specs.Reader.{got, word, many}
use Rattle.reader.specs.StepLaws.{word_read, word_none}
use Rattle.reader.specs.Value.{Whole, value_of}
use Rattle.reader.specs.ValueLaws.{got_whole, not_whole, value_got, many_first}
use Rattle.region.specs.Region.{part}
use Rattle.region.specs.RegionLaws.{part_at}
use Rattle.consts.specs.Consts.{depth_of}
use Rattle.std.specs.Prelude.{Result, Err, Ok}
use Rattle.error.specs.declared.LoadErrorKind.{LoadErrorKind}
use Rattle.rule4_nesting.specs.Nesting.{nested_of, nest_faults, nesting}

-- the depth is known to be as deep as `depth`, and the children cs are ahead
unfoldable pub nest_on : ℕ → ℕ → List ℕ → ℕ → List ℕ → Result ℕ LoadErrorKind
nest_on depth most done i cs = nested_of (nest_faults most i cs (max depth (depth_of done cs))) (max depth (depth_of done cs))

-- ── one child ──

module _ (most : ℕ) (done : List ℕ) (i depth c : ℕ) (cs : List ℕ) where
  -- it is not below i
  on_far : i ≤ c → nest_on depth most done i (c ∷ cs) ≡ Err BadConstant
  unfolding nest_on nested_of nest_faults
  on_far h = rw (le-ltb c i h)

  -- it is below i, and as deep as is allowed
  on_deep : c < i → most ≤ get_or done c 0 → nest_on depth most done i (c ∷ cs) ≡ Err BadConstant
  unfolding nest_on nest_faults depth_of
  on_deep h k =
      rw (lt-ltb c i h, lt-leb (max depth (max (suc (get_or done c 0)) (depth_of done cs))) most (omega arith))
      (go (all_of (λ x. ltb x i) cs) (max depth (max (suc (get_or done c 0)) (depth_of done cs))))
    where
      go : (t : Bool) (d : ℕ) → nested_of (unless t BadConstant ++ (BadConstant ∷ [])) d ≡ Err BadConstant
      go true d = unfold nested_of in refl
      go false d = unfold nested_of in refl

  on_next : c < i → nest_on depth most done i (c ∷ cs) ≡ nest_on (max depth (suc (get_or done c 0))) most done i cs
  unfolding nest_on nest_faults depth_of
  on_next h =
      let e : max depth (max (suc (get_or done c 0)) (depth_of done cs))
      ≡ max (max depth (suc (get_or done c 0))) (depth_of done cs) = omega arith in
      rw (lt-ltb c i h, e)

on_end : (depth most : ℕ) (done : List ℕ) (i : ℕ) → depth ≤ most → nest_on depth most done i [] ≡ Ok depth
unfolding nest_on nested_of nest_faults depth_of
on_end depth most done i h =
    let e : max depth 0 ≡ depth = omega arith in
    rw (e, le-leb depth most h)

on_start : (most : ℕ) (done : List ℕ) (i : ℕ) (cs : List ℕ) → nesting most done i cs ≡ nest_on 0 most done i cs
unfolding nesting nest_on
on_start most done i cs =
    let e : depth_of done cs ≡ max 0 (depth_of done cs) = omega arith in
    ap (λ d. nested_of (nest_faults most i cs d) d) e

-- ── the loop ──

pub larger : (a b : ℕ) → ord_max nat_cmp a b ≡ max a b
larger a b = grind arith

-- the depth is `depth` so far, the children from j on are ahead
pub record Nests (most : ℕ) (w : List ℕ) (base i : ℕ) (ws : List ℕ) (at count j depth : ℕ) : Type 0 where
  pub whole : Whole (many (count - j) word ws (at + j))
  pub low : depth ≤ most
  pub same : nesting most (part base i w) i (value_of [] (many count word ws at))
      ≡ nest_on depth most (part base i w) i (value_of [] (many (count - j) word ws (at + j)))

module _ (most : ℕ) (w : List ℕ) (base i : ℕ) where
  pub nests_start : (ws : List ℕ) (at count : ℕ) → Whole (many count word ws at) → Nests most w base i ws at count 0 0
  nests_start ws at count h =
      let n : count ≡ count - 0 = omega arith in
      let z : at ≡ at + 0 = omega arith in
      let e = ap₂ (λ k p. many k word ws p) n z in
      record {
        whole = subst Whole e h;
        low = omega arith;
        same = on_start most (part base i w) i (value_of [] (many count word ws at))
            ∙ ap (λ g. nest_on 0 most (part base i w) i (value_of [] g)) e;
      }

  pub nests_end : (ws : List ℕ) (at count j depth : ℕ) → Nests most w base i ws at count j depth → count ≤ j →
      Ok depth ≡ nesting most (part base i w) i (value_of [] (many count word ws at))
  unfolding many value_of
  nests_end ws at count j depth x h =
      let z : count - j ≡ 0 = omega arith in
      sym (x.same ∙ ap (λ k. nest_on depth most (part base i w) i (value_of [] (many k word ws (at + j)))) z
      ∙ on_end depth most (part base i w) i x.low)

  module _ (b : List ℕ) (n at count j depth : ℕ) (x : Nests most w base i (first_words b n) at count j depth) (h : j < count) where
    some_left : 0 < count - j
    some_left = omega arith

    pub child_within : at + j < n
    child_within = go (dec_lt (at + j) n)
      where
        go : Dec (at + j < n) → at + j < n
        go (yes l) = l
        go (no l) = many_first word (first_words b n) (count - j) (at + j) x.whole some_left λ a q ys r e₁ e₂ e₃.
            absurd (not_whole (word_none b n (at + j) (omega arith)) (got_whole e₁))

    module _ {c : ℕ} (e : c ≡ get_or (words b) (at + j) 0) where
      ahead : {C : Type 0} → ((cs : List ℕ) (r : ℕ) → many (count - (j + 1)) word (first_words b n) (at + (j + 1)) ≡ got cs r
          → nesting most (part base i w) i (value_of [] (many count word (first_words b n) at))
          ≡ nest_on depth most (part base i w) i (c ∷ cs) → C) → C
      ahead f = many_first word (first_words b n) (count - j) (at + j) x.whole some_left λ a q ys r e₁ e₂ e₃.
          let g : got c (at + j + 1) ≡ got a q = sym (word_read b n (at + j) child_within e) ∙ e₁ in
          let y : c ≡ a = cc in
          let z : at + j + 1 ≡ q = cc in
          let u : at + (j + 1) ≡ at + j + 1 = omega arith in
          let m : count - (j + 1) ≡ count - j - 1 = omega arith in
          f ys r (ap₂ (λ k p. many k word (first_words b n) p) m (u ∙ z) ∙ e₂)
          (x.same ∙ ap (nest_on depth most (part base i w) i) (value_got [] e₃ ∙ ap (λ v. v ∷ ys) (sym y)))

      pub nests_far : i ≤ c → Err BadConstant ≡ nesting most (part base i w) i (value_of [] (many count word (first_words b n) at))
      nests_far k = ahead λ cs r e₁ e₂. sym (e₂ ∙ on_far most (part base i w) i depth c cs k)

      module _ (k : c < i) {d : ℕ} (g : d ≡ get_or w (base + c) 0) where
        child_depth : get_or (part base i w) c 0 ≡ d
        child_depth = part_at base i w c k ∙ sym g

        pub nests_deep : most ≤ d → Err BadConstant ≡ nesting most (part base i w) i (value_of [] (many count word (first_words b n) at))
        nests_deep l = ahead λ cs r e₁ e₂. sym (e₂ ∙ on_deep most (part base i w) i depth c cs k (omega (arith, child_depth)))

        pub nests_next : d < most → {v : ℕ} → v ≡ max depth (d + 1) → Nests most w base i (first_words b n) at count (j + 1) v
        nests_next l {v} y = ahead λ cs r e₁ e₂.
            let u : max depth (suc (get_or (part base i w) c 0)) ≡ v = omega (arith, child_depth, y) in
            record {
              whole = got_whole e₁;
              low = omega arith;
              same = e₂ ∙ on_next most (part base i w) i depth c cs k
                  ∙ ap₂ (λ m l. nest_on m most (part base i w) i l) u (sym (value_got [] e₁));
            }

pub ruleset nests = (nests_start, nests_end, nests_far, nests_deep, nests_next)
