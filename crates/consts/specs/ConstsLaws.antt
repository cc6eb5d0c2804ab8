-- Depth by depth: each is made of those before it.
use Rattle.std.specs.Prelude.{ℕ, zero, suc, ◌+◌, ◌<◌, ◌≡◌, refl, List, [], ◌∷◌, ◌++◌, length, get_or, take}
use Rattle.std.proofs.Common.{sym, ap, ◌∙◌, arith, length-append, get_or-take, take-take, take_at, get_or-append-add}
use Rattle.std.proofs.Math.Seq.{take-length}
use Rattle.sheet.specs.Module.{Const}
use Rattle.consts.specs.Consts.{children_of, depth_of, depths_after, depths}

-- the depths so far, and the next constant's
abbrev more : List ℕ → Const → List ℕ
more done k = done ++ (depth_of done (children_of k) ∷ [])

-- one more
length_more : (done : List ℕ) (k : Const) → length (more done k) ≡ length done + 1
length_more done k = length-append done (depth_of done (children_of k) ∷ [])

length_after : (done : List ℕ) (ks : List Const) → length (depths_after done ks) ≡ length done + length ks
unfolding depths_after
length_after done [] = omega arith
length_after done (k ∷ ks) = omega (arith, length_after (more done k) ks, length_more done k)

-- the depths so far stay in front
front_after : (done : List ℕ) (ks : List Const) → take (length done) (depths_after done ks) ≡ done
unfolding depths_after
front_after done [] = take-length done
front_after done (k ∷ ks) =
    sym (take-take (length done) (length (more done k)) (depths_after (more done k) ks) (omega (arith, length_more done k)))
    ∙ ap (take (length done)) (front_after (more done k) ks)
    ∙ take_at done (depth_of done (children_of k) ∷ []) (length done) refl

depth_after : (done : List ℕ) (ks : List Const) (i : ℕ) (d : Const) → i < length ks →
    get_or (depths_after done ks) (length done + i) 0 ≡ depth_of (take (length done + i) (depths_after done ks)) (children_of (get_or ks i d))
unfolding depths_after
depth_after done [] i d h = absurd (omega arith)
depth_after done (k ∷ ks) zero d h =
    let l : length done + 0 ≡ length done = omega arith in
    let ds = depths_after (more done k) ks in
    sym (get_or-take (length (more done k)) ds (length done + 0) 0 (omega (arith, length_more done k)))
    ∙ ap (λ l. get_or l (length done + 0) 0) (front_after (more done k) ks)
    ∙ get_or-append-add done (depth_of done (children_of k) ∷ []) 0 0
    ∙ ap (λ l. depth_of l (children_of k)) (sym (front_after done (k ∷ ks)) ∙ ap (λ n. take n ds) (sym l))
depth_after done (k ∷ ks) (suc i) d h =
    let l : length (more done k) + i ≡ length done + suc i = omega (arith, length_more done k) in
    let ds = depths_after (more done k) ks in
    ap (λ n. get_or ds n 0) (sym l) ∙ depth_after (more done k) ks i d (omega arith) ∙ ap (λ n. depth_of (take n ds) (children_of (get_or ks i d))) l

-- one for each constant
pub length_depths : (ks : List Const) → length (depths ks) ≡ length ks
unfolding depths
length_depths ks = length_after [] ks ∙ omega arith

-- made of the depths of the constants before
pub depth_at : (ks : List Const) (i : ℕ) (d : Const) → i < length ks → get_or (depths ks) i 0 ≡ depth_of (take i (depths ks)) (children_of (get_or ks i d))
unfolding depths
depth_at ks i d h =
    let z : i ≡ 0 + i = omega arith in
    ap (λ n. get_or (depths_after [] ks) n 0) z ∙ depth_after [] ks i d h ∙ ap (λ n. depth_of (take n (depths_after [] ks)) (children_of (get_or ks i d))) (sym z)
