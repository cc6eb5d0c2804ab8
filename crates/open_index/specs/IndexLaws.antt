-- What the index holds: of an intact sheet, where each member stands; and there is room for it.
use Prim.Native.Nat.{ℕ, zero, suc, ◌+◌, ◌≤◌, ◌<◌}
use Rattle.std.specs.Prelude.{◌≡◌, refl, Bool, length, get_or}
use Rattle.std.proofs.Math.Path.{sym, ap, subst}
use Rattle.std.proofs.Common.{◌∙◌, arith}
use mathlib.Core.List.{List, [], ◌∷◌, ◌++◌}
use Rattle.std.proofs.Math.ListN.{length-append}
use Rattle.reader.specs.Reader.{Got, got, Reader, and_then, word, many, list_of}
use Rattle.reader.specs.ReaderLaws.{stands_in, Codes, then_inv, seq, word_codes}
use Rattle.reader.proofs.ReadLaws.{many_fit}
use Rattle.open_layout.specs.Layout.{pos_of}
use Rattle.reader.specs.Value.{Whole}
use Rattle.reader.specs.ValueLaws.{got_whole}
use Rattle.reader.proofs.SizeLaws.{many_length}
use Rattle.open_index.specs.Index.{edges}

-- ── positions of any list ──

-- xs stand from p to q, member i from edge i to edge i + 1
pub record Placed {A : Type 0} (f : Reader A) (ws : List ℕ) (n p : ℕ) (xs : List A) (q : ℕ) : Type 0 where
  pub positions : List ℕ
  pub reads : many n (pos_of f) ws p ≡ got positions q
  pub count : length positions ≡ n
  pub member : (i : ℕ) (d : A) → i < n → f ws (get_or (positions ++ (q ∷ [])) i 0) ≡ got (get_or xs i d) (get_or (positions ++ (q ∷ [])) (suc i) 0)
  pub begins : get_or (positions ++ (q ∷ [])) 0 0 ≡ p

module _ {A : Type 0} (f : Reader A) (ws : List ℕ) where
  pub placed : (n p : ℕ) (xs : List A) (q : ℕ) → many n f ws p ≡ got xs q → Placed f ws n p xs q
  unfolding many
  placed zero p xs q e = let z : p ≡ q = cc in record {
    positions = [];
    reads = ap (got []) z;
    count = refl;
    member = λ i d h. absurd (omega arith);
    begins = sym z;
  }
  placed (suc n) p xs q e =
      then_inv (f ws p) _ e λ a p₁ e₁ e₂. then_inv (many n f ws p₁) _ e₂ λ ys p₂ e₃ e₄.
      let h : a ∷ ys ≡ xs = cc in
      let z : p₂ ≡ q = cc in
      subst (λ x. Placed f ws (suc n) p x q) h (subst (Placed f ws (suc n) p (a ∷ ys)) z (more a ys p₁ p₂ e₁ (placed n p₁ ys p₂ e₃)))
    where
      more : (a : A) (ys : List A) (p₁ p₂ : ℕ) → f ws p ≡ got a p₁ → Placed f ws n p₁ ys p₂ → Placed f ws (suc n) p (a ∷ ys) p₂
      more a ys p₁ p₂ e x = record {
        positions = p ∷ x.positions;
        reads = first e x.reads;
        count = ap suc x.count;
        member = member;
        begins = refl;
      }
        where
          first : f ws p ≡ got a p₁ → many n (pos_of f) ws p₁ ≡ got x.positions p₂ → many (suc n) (pos_of f) ws p ≡ got (p ∷ x.positions) p₂
          first e k = unfold many pos_of in rw (e, k)

          member : (i : ℕ) (d : A) → i < suc n → f ws (get_or (p ∷ x.positions ++ (p₂ ∷ [])) i 0) ≡ got (get_or (a ∷ ys) i d) (get_or (p ∷ x.positions ++ (p₂ ∷ [])) (suc i) 0)
          member zero d h = e ∙ ap (got a) (sym x.begins)
          member (suc i) d h = x.member i d (omega arith)

pub edges_got : {g : Got (List ℕ)} {ps : List ℕ} {q : ℕ} → g ≡ got ps q → edges g ≡ ps ++ (q ∷ [])
unfolding edges
edges_got e = ap edges e

-- the list at a position, and its edges: one more than members, member i from edge i to edge i + 1
pub record Indexed {A : Type 0} (f : Reader A) (ws : List ℕ) (at : ℕ) (xs : List A) (es : List ℕ) : Type 0 where
  pub whole : Whole (list_of (pos_of f) ws at)
  pub count : length es ≡ length xs + 1
  pub member : (i : ℕ) (d : A) → i < length xs → f ws (get_or es i 0) ≡ got (get_or xs i d) (get_or es (suc i) 0)

module _ {A : Type 0} (f : Reader A) (ws : List ℕ) (at : ℕ) (xs : List A) (q : ℕ) where
  pub indexed : list_of f ws at ≡ got xs q → Indexed f ws at xs (edges (list_of (pos_of f) ws at))
  unfolding list_of
  indexed e =
      then_inv (word ws at) _ e λ n p₁ e₁ e₂.
      let x = placed f ws n p₁ xs q e₂ in
      let c = many_length n f ws p₁ xs q e₂ in
      let g : list_of (pos_of f) ws at ≡ got x.positions q = ap (λ (y : Got ℕ). and_then y (λ k p. many k (pos_of f) ws p)) e₁ ∙ x.reads in
      subst (Indexed f ws at xs) (sym (edges_got g))
      (record {
        whole = got_whole g;
        count = omega (arith, x.count, c, length-append x.positions (q ∷ []));
        member = λ i d h. x.member i d (omega (arith, c));
      })

  -- the first edge is no later than the end of the words
  pub list_begins : list_of f ws at ≡ got xs q → get_or (edges (list_of (pos_of f) ws at)) 0 0 ≤ length ws
  unfolding list_of
  list_begins e =
      then_inv (word ws at) _ e λ n p₁ e₁ e₂.
      let x = placed f ws n p₁ xs q e₂ in
      let g : list_of (pos_of f) ws at ≡ got x.positions q = ap (λ (y : Got ℕ). and_then y (λ k p. many k (pos_of f) ws p)) e₁ ∙ x.reads in
      rw (edges_got g) (omega (arith, x.begins, stands_in ws ((word_codes ws).found at n p₁ e₁).stands))

  -- a word for the count, and one or more for each member
  pub list_fit : (enc : A → List ℕ) (ok : A → Bool) → Codes ws f enc ok → ((a : A) → 1 ≤ length (enc a)) → list_of f ws at ≡ got xs q → at + 1 + length xs ≤ q
  unfolding list_of
  list_fit enc ok l h e =
      seq ws (word_codes ws) at _ e λ n p₁ s o e.
      omega (arith, s.end, many_fit ws f enc ok l 1 h n p₁ xs q e, many_length n f ws p₁ xs q e)
