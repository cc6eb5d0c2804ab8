-- A list written word by word after its count.
use Rattle.std.specs.Prelude.{◌≡◌, List, [], ◌∷◌, ◌++◌, ℕ, ◌+◌, ◌≤◌, ◌<◌, length, get_or, take}
use Rattle.std.proofs.Common.{sym, ap, ap₂, ◌∙◌, arith, add-one, take-suc, length-take}
use Rattle.std.proofs.Math.Seq.{take-length}
use Rattle.writing.specs.Writing.{written}
use Rattle.writing.specs.WritingLaws.{written_then, written_length}

-- the count and the first i words of xs are written from at on: v now, and p is the next place
pub record Listed (xs w : List ℕ) (at n i : ℕ) (v : List ℕ) (p : ℕ) : Type 0 where
  pub most : i ≤ n
  pub done : v ≡ written w at (length xs ∷ take i xs)
  pub end : p ≡ at + 1 + i

module _ (xs w : List ℕ) (at n : ℕ) (h : at + 1 + n ≤ length w) (c : n ≡ length xs) where
  pub listed_start : {v : List ℕ} {p : ℕ} → v ≡ written w at (n ∷ []) → p ≡ at + 1 → Listed xs w at n 0 v p
  listed_start e k = record { most = omega arith; done = e ∙ ap (λ m. written w at (m ∷ [])) c; end = omega arith }

  module _ (i : ℕ) (v : List ℕ) (p : ℕ) (x : Listed xs w at n i v p) where
    pub listed_kept : length v ≡ length w
    listed_kept = ap length x.done ∙ written_length w at (length xs ∷ take i xs) (omega (arith, length-take i xs))

    pub listed_room : i < n → p < length v
    listed_room l = omega (arith, listed_kept, x.end)

    pub listed_next : {y q : ℕ} {u : List ℕ} → i < n → y ≡ get_or xs i 0 → u ≡ written v p (y ∷ []) → q ≡ p + 1 → Listed xs w at n (i + 1) u q
    listed_next {y} {q} {u} l e a b =
        let z : p ≡ at + length (length xs ∷ take i xs) = omega (arith, x.end, x.most, length-take i xs) in
        let t : take (i + 1) xs ≡ take i xs ++ (get_or xs i 0 ∷ []) = ap (λ k. take k xs) (add-one i) ∙ take-suc xs i 0 (omega arith) in
        record {
          most = omega arith;
          done =
              a
              ∙ ap (λ m. written v p (m ∷ [])) e
              ∙ ap₂ (λ s k. written s k (get_or xs i 0 ∷ [])) x.done z
              ∙ written_then w at (length xs ∷ take i xs) (get_or xs i 0 ∷ []) (omega arith)
              ∙ ap (λ l. written w at (length xs ∷ l)) (sym t);
          end = omega (arith, x.end);
        }

    pub listed_end : n ≤ i → v ≡ written w at (length xs ∷ xs)
    listed_end l =
        let z : i ≡ length xs = omega (arith, x.most) in
        x.done ∙ ap (λ l. written w at (length xs ∷ l)) (ap (λ k. take k xs) z ∙ take-length xs)

    pub listed_place : n ≤ i → p ≡ at + 1 + n
    listed_place l = omega (arith, x.most, x.end)

pub ruleset listing = (listed_start, listed_kept, listed_room, listed_next, listed_end, listed_place)
