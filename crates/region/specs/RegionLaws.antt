-- Laws of regions and of what stays as it was.
use Rattle.std.specs.Prelude.{◌≡◌, refl, List, ◌++◌, ℕ, ◌+◌, ◌≤◌, ◌<◌, length, get_or, drop, set}
use Rattle.std.proofs.Common.{sym, ap, ◌∙◌, arith, length-take, length-drop, length-set, length-append, get_or-take, get_or-drop, ext_get_or, get_or-set_other, get_or-set_same, get_or-append-add}
use Rattle.std.proofs.Math.Decide.{dec_lt}
use Rattle.std.proofs.Math.ListN.{get_or-append}
use Rattle.std.proofs.Math.Seq.{paste, take-length}
use Rattle.region.specs.Region.{part, word_at, Off, Frame}

pub frame_refl : (P : ℕ → Type 0) (w : List ℕ) → Frame P w w
frame_refl P w = record { len = refl; same = λ k h. refl }

-- two changes, one after the other, each inside a larger one
pub frame_then : (P Q R : ℕ → Type 0) (u v w : List ℕ) → ((k : ℕ) → R k → P k) → ((k : ℕ) → R k → Q k) → Frame P u v → Frame Q v w → Frame R u w
frame_then P Q R u v w p q f g = record {
  len = g.len ∙ f.len;
  same = λ k h. g.same k (q k h) ∙ f.same k (p k h);
}

pub frame_set : (P : ℕ → Type 0) (w : List ℕ) (i x : ℕ) → (P i → ⊥) → Frame P w (set w i x)
frame_set P w i x h = record {
  len = length-set w i x;
  same = λ k p. get_or-set_other w i k x 0 (λ e. h (rw (← e) p));
}

pub part_length : (at n : ℕ) (w : List ℕ) → at + n ≤ length w → length (part at n w) ≡ n
unfolding part
part_length at n w h = simp (length-take, length-drop) (omega arith)

pub part_at : (at n : ℕ) (w : List ℕ) (i : ℕ) → i < n → get_or (part at n w) i 0 ≡ get_or w (at + i) 0
unfolding part
part_at at n w i h = get_or-take n (drop at w) i 0 h ∙ get_or-drop at w i 0

-- a region off the change is what it was
pub part_kept : (P : ℕ → Type 0) (w v : List ℕ) → Frame P w v → (at n : ℕ) → at + n ≤ length w →
    ((k : ℕ) → at ≤ k → k < at + n → P k) → part at n v ≡ part at n w
part_kept P w v f at n h p =
    let lv : length (part at n v) ≡ n = part_length at n v (omega (arith, f.len)) in
    let lw : length (part at n w) ≡ n = part_length at n w h in
    ext_get_or 0 (part at n v) (part at n w) (lv ∙ sym lw) λ i b.
    part_at at n v i (omega arith) ∙ f.same (at + i) (p (at + i) (omega arith) (omega arith)) ∙ sym (part_at at n w i (omega arith))

-- a region by its words
pub part_is : (at n : ℕ) (w l : List ℕ) → at + n ≤ length w → length l ≡ n → ((i : ℕ) → i < n → get_or w (at + i) 0 ≡ get_or l i 0) → part at n w ≡ l
part_is at n w l h e p =
    let lw : length (part at n w) ≡ n = part_length at n w h in
    ext_get_or 0 (part at n w) l (lw ∙ sym e) λ i b. part_at at n w i (omega arith) ∙ p i (omega arith)

-- a region of two lists side by side
pub part_front : (at n : ℕ) (xs ys : List ℕ) → at + n ≤ length xs → part at n (xs ++ ys) ≡ part at n xs
part_front at n xs ys h =
    part_is at n (xs ++ ys) (part at n xs) (omega (arith, length-append xs ys)) (part_length at n xs h) λ i k.
    get_or-append xs ys 0 (at + i) (omega arith) ∙ sym (part_at at n xs i k)

pub part_after : (xs ys : List ℕ) → part (length xs) (length ys) (xs ++ ys) ≡ ys
part_after xs ys = part_is (length xs) (length ys) (xs ++ ys) ys (omega (arith, length-append xs ys)) refl λ i k. get_or-append-add xs ys i 0

-- a region of what was written from place 0 on
pub part_paste : (at n : ℕ) (w xs : List ℕ) → at + n ≤ length xs → part at n (paste w 0 xs (length xs)) ≡ part at n xs
part_paste at n w xs h = ap (λ l. part at n (l ++ drop (0 + length xs) w)) (take-length xs) ∙ part_front at n xs (drop (0 + length xs) w) h

-- a region that is written from its front on: val p at place p
pub fill_more : (val : ℕ → ℕ) (w₀ w v : List ℕ) (a n i : ℕ) → a + n ≤ length w₀ → i < n → Frame (Off a (a + n)) w₀ w → ((p : ℕ) → p < i → word_at w a p ≡ val p) → v ≡ set w (a + i) (val i) →
    Frame (Off a (a + n)) w₀ v × ((p : ℕ) → p < i + 1 → word_at v a p ≡ val p)
fill_more val w₀ w v a n i h k f q e = rw e (
  frame_then (Off a (a + n)) (Off a (a + n)) (Off a (a + n)) w₀ w (set w (a + i) (val i)) (λ k o. o) (λ k o. o) f (frame_set (Off a (a + n)) w (a + i) (val i) (λ o. o (omega arith) (omega arith))),
  λ p l. go p l (dec_lt p i),
)
  where
    go : (p : ℕ) → p < i + 1 → Dec (p < i) → word_at (set w (a + i) (val i)) a p ≡ val p
    go p l (yes t) = get_or-set_other w (a + i) (a + p) (val i) 0 (omega arith) ∙ q p t
    go p l (no t) = let s : p ≡ i = omega arith in rw s (get_or-set_same w (a + i) (val i) 0 (omega (arith, f.len)))
