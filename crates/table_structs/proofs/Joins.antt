-- Words written one after the other, and what work keeps meanwhile.
use Prim.Native.Nat.{ℕ, ◌+◌, ◌*◌, ◌≤◌, ◌<◌}
use mathlib.Core.Path.{◌≡◌, sym, ap, ◌∙◌}
use mathlib.Core.List.{List, [], ◌∷◌, ◌++◌}
use native.Mathlib.Omega.{arith}
use lib.ListN.{length, length-append}
use Rattle.region.specs.Region.{Frame}
use Rattle.region.specs.RegionLaws.{frame_then}
use Rattle.open_sheet.specs.declared.Opened.{Opened}
use Rattle.open_sheet.specs.Ready.{Ready}
use Rattle.open_sheet.specs.ReadyLaws.{ready_below}
use Rattle.writing.specs.Writing.{written}
use Rattle.writing.specs.WritingLaws.{written_none, join_room, join_written, join_place}

-- v is w with xs written from place at on, and p is the next place
pub record Put (w : List ℕ) (at : ℕ) (xs v : List ℕ) (p : ℕ) : Type 0 where
  pub done : v ≡ written w at xs
  pub next : p ≡ at + length xs

pub put : {w xs v : List ℕ} {at p : ℕ} → (v ≡ written w at xs) × (p ≡ at + length xs) → Put w at xs v p
put e = record { done = e.0; next = e.1 }

pub put_none : (w : List ℕ) (at : ℕ) → Put w at [] w at
put_none w at = record { done = sym (written_none w at); next = omega arith }

pub put_one : {w v : List ℕ} {at x p : ℕ} → (v ≡ written w at (x ∷ [])) × (p ≡ at + 1) → Put w at (x ∷ []) v p
put_one e = record { done = e.0; next = e.1 }

pub front_room : (end at : ℕ) (xs ys : List ℕ) → at + length (xs ++ ys) ≤ end → at + length xs ≤ end
front_room end at xs ys h = omega (arith, length-append xs ys)

module _ (w : List ℕ) (at : ℕ) (xs v : List ℕ) (p : ℕ) (x : Put w at xs v p) where
  pub put_is : (ys : List ℕ) → xs ≡ ys → Put w at ys v p
  put_is ys e = record { done = x.done ∙ ap (written w at) e; next = x.next ∙ ap (λ l. at + length l) e }

  module _ (ys : List ℕ) (h : at + length (xs ++ ys) ≤ length w) where
    pub put_room : p + length ys ≤ length v
    put_room = join_room w at xs ys h v p x.done x.next

    pub put_then : (u : List ℕ) (q : ℕ) → Put v p ys u q → Put w at (xs ++ ys) u q
    put_then u q y = record { done = join_written w at xs ys h v p x.done x.next y.done; next = join_place w at xs ys h v p x.done x.next y.next }

-- ── work ──

module _ (n : ℕ) (w v u : List ℕ) where
  pub frame_both : Frame (λ k. k < 6 * n) w v → Frame (λ k. k < 6 * n) v u → Frame (λ k. k < 6 * n) w u
  frame_both f g = frame_then (λ k. k < 6 * n) (λ k. k < 6 * n) (λ k. k < 6 * n) w v u (λ k l. l) (λ k l. l) f g

pub ready_still : (ws w : List ℕ) (o : Opened) → Ready ws w o → (v : List ℕ) → Frame (λ k. k < 6 * o.layout.words) w v → Ready ws v o
ready_still ws w o x v f = ready_below ws w o x v (record { len = f.len; same = λ k l. f.same k (omega arith) })
