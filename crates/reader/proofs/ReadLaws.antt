-- What a reader and its encoder give to a proof of code; all the words of a frame.
use Prim.Native.Nat.{ℕ, zero, suc, ◌+◌, ◌*◌, ◌≤◌, ◌<◌}
use Rattle.std.specs.Prelude.{◌≡◌, refl, Bool, true, false, cond, eqb, get_or, take, drop}
use Rattle.std.proofs.Common.{sym, ◌∙◌, get_or-take, get_or-drop, ext_get_or, eqb-true, eq-eqb}
use Rattle.std.proofs.Math.Path.{ap}
use mathlib.Core.List.{List, [], ◌∷◌, ◌++◌, append-nil}
use Rattle.std.specs.Prelude.{Option, None, Some}
use native.Mathlib.Omega.{arith}
use Rattle.std.proofs.Math.ListN.{length, length-append}
use Rattle.std.proofs.Math.Seq.{slice, length-slice, drop-length, drop-append_seam}
use Rattle.lists.specs.Lists.{concat_map}
use Rattle.reader.specs.Reader.{Got, broken, got, Reader, many, list_of, whole, content}
use Rattle.reader.specs.ReaderLaws.{Stands, stands_in, stands_at, Codes, then_inv, seq, word_codes, many_found}

-- ── what codes give to a proof of code ──

-- just the words of a value are read
abbrev pub Writes : {A : Type 0} → List ℕ → Reader A → (A → List ℕ) → Type 0
Writes {A} ws f enc = (p : ℕ) (a : A) (q : ℕ) → f ws p ≡ got a q → (drop p ws ≡ enc a ++ drop q ws) × (q ≡ p + length (enc a))

module _ {A : Type 0} (ws : List ℕ) (f : Reader A) (enc : A → List ℕ) (ok : A → Bool) (l : Codes ws f enc ok) where
  pub writes : Writes ws f enc
  writes p a q e = let s = (l.found p a q e).stands in (s.words, s.end)

  -- word i of a value
  pub read_at : (p : ℕ) (a : A) (q : ℕ) → f ws p ≡ got a q → (i : ℕ) → i < length (enc a) → get_or ws (p + i) 0 ≡ get_or (enc a) i 0
  read_at p a q e = stands_at ws (l.found p a q e).stands

  pub read_inside : (p : ℕ) (a : A) (q : ℕ) → f ws p ≡ got a q → 0 < length (enc a) → q ≤ length ws
  read_inside p a q e h = go (enc a) h (l.found p a q e).stands
    where
      go : (xs : List ℕ) → 0 < length xs → Stands ws p xs q → q ≤ length ws
      go [] h s = absurd (omega arith)
      go (x ∷ xs) h s = stands_in ws s

  -- n values of k words or more
  pub many_fit : (k : ℕ) → ((a : A) → k ≤ length (enc a)) → (n p : ℕ) (xs : List A) (q : ℕ) → many n f ws p ≡ got xs q → p + k * n ≤ q
  many_fit k h n p xs q e =
      let w = many_found ws f enc ok l n p xs q e in
      let b = go xs in
      omega (arith, w.0.stands.end, ap (λ i. k * i) w.1, b)
    where
      go : (xs : List A) → k * length xs ≤ length (concat_map enc xs)
      go [] = omega arith
      go (x ∷ xs) = omega (arith, h x, go xs, length-append (enc x) (concat_map enc xs))

  -- value i of n
  pub many_at : (n p : ℕ) (xs : List A) (q : ℕ) → many n f ws p ≡ got xs q → (i : ℕ) (d : A) → i < n
      → f ws (p + length (concat_map enc (take i xs))) ≡ got (get_or xs i d) (p + length (concat_map enc (take (suc i) xs)))
  unfolding many
  many_at zero p xs q e i d h = absurd (omega arith)
  many_at (suc n) p xs q e i d h =
      then_inv (f ws p) _ e λ a p₁ e₁ e₂. then_inv (many n f ws p₁) _ e₂ λ ys p₂ e₃ e₄.
      let x : a ∷ ys ≡ xs = cc in
      rw (← x) (go a p₁ e₁ ys i h λ j k. many_at n p₁ ys p₂ e₃ j d k)
    where
      go : (a : A) (p₁ : ℕ) → f ws p ≡ got a p₁ → (ys : List A) (i : ℕ) → i < suc n
          → ((j : ℕ) → j < n → f ws (p₁ + length (concat_map enc (take j ys))) ≡ got (get_or ys j d) (p₁ + length (concat_map enc (take (suc j) ys))))
          → f ws (p + length (concat_map enc (take i (a ∷ ys)))) ≡ got (get_or (a ∷ ys) i d) (p + length (concat_map enc (take (suc i) (a ∷ ys))))
      go a p₁ e ys zero h ih =
          let z : p + 0 ≡ p = omega arith in
          let s : p₁ ≡ p + length (enc a) = (l.found p a p₁ e).stands.end in
          ap (f ws) z ∙ e ∙ ap (got a) (s ∙ ap (λ x. p + length x) (sym (append-nil (enc a))))
      go a p₁ e ys (suc j) h ih =
          let s : p₁ ≡ p + length (enc a) = (l.found p a p₁ e).stands.end in
          let t₁ : p + length (enc a ++ concat_map enc (take j ys)) ≡ p₁ + length (concat_map enc (take j ys)) =
          omega (arith, length-append (enc a) (concat_map enc (take j ys))) in
          let t₂ : p₁ + length (concat_map enc (take (suc j) ys)) ≡ p + length (enc a ++ concat_map enc (take (suc j) ys)) =
          omega (arith, length-append (enc a) (concat_map enc (take (suc j) ys))) in
          ap (f ws) t₁ ∙ ih j (omega arith) ∙ ap (got (get_or ys j d)) t₂

  -- value i of a list that starts at p
  pub listed_at : (p : ℕ) (xs : List A) (q : ℕ) → list_of f ws p ≡ got xs q → (i : ℕ) (d : A) → i < length xs
      → f ws (p + 1 + length (concat_map enc (take i xs))) ≡ got (get_or xs i d) (p + 1 + length (concat_map enc (take (suc i) xs)))
  unfolding list_of
  listed_at p xs q e i d h =
      seq ws (word_codes ws) p _ e λ n p₁ s o e.
      let w = many_found ws f enc ok l n p₁ xs q e in
      let t : p₁ ≡ p + 1 = s.end in
      rw (← t) (many_at n p₁ xs q e i d (omega (arith, w.1)))

-- a value that was written in front
pub reads_front : {A : Type 0} (f : Reader A) (enc : A → List ℕ) (ok : A → Bool) (a : A) (rest : List ℕ) → Codes (enc a ++ rest) f enc ok → ok a ≡ true
    → f (enc a ++ rest) 0 ≡ got a (length (enc a))
reads_front f enc ok a rest l o = l.reads 0 a (length (enc a)) (record { stands = front (enc a) rest; fine = o })
  where
    front : (xs rest : List ℕ) → Stands (xs ++ rest) 0 xs (length xs)
    front xs rest = record { words = ap (λ l. xs ++ l) (sym (drop-append_seam xs rest)); end = omega arith }

-- no two values have the same words
pub encode_injective : {A : Type 0} (f : Reader A) (enc : A → List ℕ) (ok : A → Bool) (a b : A) → Codes (enc a ++ []) f enc ok → ok a ≡ true → ok b ≡ true → enc a ≡ enc b → a ≡ b
encode_injective f enc ok a b l h k e =
    let x : f (enc a ++ []) 0 ≡ got a (length (enc a)) = reads_front f enc ok a [] l h in
    let y : f (enc a ++ []) 0 ≡ got b (length (enc b)) = rw e (reads_front f enc ok b [] (rw e at l) k) in
    cc

-- ── all the words ──

pub whole_inv : {A : Type 0} (n : ℕ) (g : Got A) (a : A) → whole n g ≡ Some a → g ≡ got a n
unfolding whole
whole_inv n broken a e = let z : ◌≡◌ {A = ℕ} 0 1 = cc in absurd (omega arith)
whole_inv n (got b p) a e = go (eqb p n) refl e
  where
    go : (t : Bool) → eqb p n ≡ t → cond t (Some b) None ≡ Some a → got b p ≡ got a n
    go true h k = let x : p ≡ n = eqb-true p n h in let y : b ≡ a = cc in cc
    go false h k = let z : ◌≡◌ {A = ℕ} 0 1 = cc in absurd (omega arith)

-- the two words before the content, and the content
pub content_inv : {A : Type 0} (f : Reader A) (frame : Option (List ℕ)) (a : A) {C : Type 0} → content f frame ≡ Some a
    → ((ws : List ℕ) → frame ≡ Some ws → f ws 2 ≡ got a (length ws) → C) → C
unfolding content
content_inv f None a e h = let z : ◌≡◌ {A = ℕ} 0 1 = cc in absurd (omega arith)
content_inv f (Some ws) a e h = h ws refl (whole_inv (length ws) (f ws 2) a e)

pub content_is : {A : Type 0} (f : Reader A) (ws : List ℕ) (a : A) → f ws 2 ≡ got a (length ws) → content f (Some ws) ≡ Some a
unfolding content whole
content_is f ws a e = rw (e, eq-eqb (length ws) (length ws) refl)

-- what fills the words from p on is all that stands there
pub stands_rest : (ws : List ℕ) (p : ℕ) (xs : List ℕ) → Stands ws p xs (length ws) → drop p ws ≡ xs
stands_rest ws p xs s = s.words ∙ ap (λ l. xs ++ l) (drop-length ws) ∙ append-nil xs

-- what stands from p to q is that part of the words
pub stands_slice : (ws : List ℕ) (p q : ℕ) (xs : List ℕ) → Stands ws p xs q → q ≤ length ws → slice p q ws ≡ xs
stands_slice ws p q xs s h =
    let l : length (slice p q ws) ≡ length xs = omega (arith, length-slice p q ws h, s.end) in
    ext_get_or 0 (slice p q ws) xs l λ i k.
    get_or-drop p (take q ws) i 0 ∙ get_or-take q ws (p + i) 0 (omega (arith, s.end)) ∙ stands_at ws s i (omega arith)

pub stands_all : (a b : ℕ) (xs : List ℕ) → Stands (a ∷ b ∷ xs) 2 xs (length (a ∷ b ∷ xs))
stands_all a b xs = record { words = sym (ap (λ l. xs ++ l) (drop-length xs) ∙ append-nil xs); end = omega arith }
