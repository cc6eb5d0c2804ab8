-- For the loop that judges members by their positions, and what it says of a reader's list.
use Rattle.std.specs.Prelude.{ℕ, zero, suc, ◌+◌, ◌-◌, ◌*◌, ◌≤◌, ◌<◌, ◌≡◌, refl, List, [], ◌∷◌, ◌++◌, get_or}
use Rattle.std.proofs.Math.Path.{sym, ap}
use Rattle.std.proofs.Common.{◌∙◌, subst}
use native.Mathlib.Omega.{arith}
use Rattle.lists.specs.Lists.{concat_map}
use Rattle.blocks.specs.Blocks.{words}
use Rattle.blocks.specs.Frame.{first_words}
use Rattle.blocks.proofs.FirstWords.{length_first_words}
use Rattle.error.specs.declared.LoadErrorKind.{LoadErrorKind}
use Rattle.std.specs.Prelude.{Err, Ok}
use Rattle.error.specs.Verdict.{Verdict, verdict_of}
use Rattle.error.specs.VerdictLaws.{verdict_then, verdict_stop}
use Rattle.reader.specs.Reader.{got, Reader, many, list_of}
use Rattle.reader.specs.ReaderLaws.{then_inv}
use Rattle.reader.specs.Value.{Whole, value_of}
use Rattle.reader.specs.ValueLaws.{whole_inv, got_whole, value_got, list_within, list_whole, list_value}
use Rattle.reader.proofs.SizeLaws.{Takes, many_inside}
use Rattle.law_judging.specs.Each.{each_faults}
use Rattle.law_judging.specs.Judging.{list_faults}

-- ── the loop ──

-- count - i members are ahead
pub record Goes (faults : ℕ → List LoadErrorKind) (size count from i : ℕ) : Type 0 where
  pub same : verdict_of (each_faults faults size count from) ≡ verdict_of (each_faults faults size (count - i) (from + size * i))

module _ (faults : ℕ → List LoadErrorKind) (size count from : ℕ) where
  pub goes_start : Goes faults size count from 0
  goes_start = let z : count - 0 ≡ count = omega arith in let y : from + size * 0 ≡ from = omega arith in record { same = rw (z, y) refl }

  module _ (i : ℕ) (x : Goes faults size count from i) where
    pub goes_end : count ≤ i → Ok tt ≡ verdict_of (each_faults faults size count from)
    unfolding each_faults verdict_of
    goes_end h = let z : count - i ≡ 0 = omega arith in sym (x.same ∙ rw z refl)

    module _ (h : i < count) {r : Verdict} (k : r ≡ verdict_of (faults (from + size * i))) where
      split : verdict_of (each_faults faults size count from)
          ≡ verdict_of (faults (from + size * i) ++ each_faults faults size (count - (i + 1)) (from + size * (i + 1)))
      unfolding each_faults
      split =
          let z : count - i ≡ suc (count - (i + 1)) = omega arith in
          let y : from + size * (i + 1) ≡ from + size * i + size = omega arith in
          x.same ∙ rw (z, y) refl

      pub goes_stop : {b : LoadErrorKind} → r ≡ Err b → Err b ≡ verdict_of (each_faults faults size count from)
      goes_stop {b} e = verdict_stop (faults (from + size * i)) (each_faults faults size (count - (i + 1)) (from + size * (i + 1))) b e k
          ∙ sym split

      pub goes_next : r ≡ Ok tt → Goes faults size count from (i + 1)
      goes_next e = record {
        same = split ∙ sym (verdict_then (faults (from + size * i))
            (each_faults faults size (count - (i + 1)) (from + size * (i + 1))) e k refl);
      }

-- ── a reader's list, its members of s words ──

module _ {A : Type 0} (f : Reader A) (s : ℕ) (z : Takes f s) (ws : List ℕ) where
  pub many_member : (c p : ℕ) → Whole (many c f ws p) → (i : ℕ) → i < c → Whole (f ws (p + s * i))
  unfolding many
  many_member c p h i l = whole_inv (many c f ws p) h λ xs q e. go c p xs q e i l
    where
      go : (c p : ℕ) (xs : List A) (q : ℕ) → many c f ws p ≡ got xs q → (i : ℕ) → i < c → Whole (f ws (p + s * i))
      go zero p xs q e i l = absurd (omega arith)
      go (suc c) p xs q e zero l =
          then_inv (f ws p) _ e λ a p₁ e₁ e₂.
          let y : p ≡ p + s * 0 = omega arith in subst (λ k. Whole (f ws k)) y (got_whole e₁)
      go (suc c) p xs q e (suc i) l =
          then_inv (f ws p) _ e λ a p₁ e₁ e₂. then_inv (many c f ws p₁) _ e₂ λ ys p₂ e₃ e₄.
          let y : p₁ + s * i ≡ p + s * suc i = omega (arith, z.ends ws p a p₁ e₁) in
          subst (λ k. Whole (f ws k)) y (go c p₁ ys p₂ e₃ i (omega arith))

  -- g says of each position what is broken in the member there
  module _ (faults : A → List LoadErrorKind) (g : ℕ → List LoadErrorKind)
      (same : (p : ℕ) (a : A) (q : ℕ) → f ws p ≡ got a q → g p ≡ faults a) where
    pub many_judged : (c p : ℕ) → Whole (many c f ws p) → each_faults g s c p ≡ list_faults faults (many c f ws p)
    unfolding many list_faults each_faults
    many_judged c p h = whole_inv (many c f ws p) h λ xs q e. go c p xs q e ∙ ap (concat_map faults) (sym (value_got [] e))
      where
        go : (c p : ℕ) (xs : List A) (q : ℕ) → many c f ws p ≡ got xs q → each_faults g s c p ≡ concat_map faults xs
        go zero p xs q e = let y : [] ≡ xs = cc in ap (concat_map faults) y
        go (suc c) p xs q e =
            then_inv (f ws p) _ e λ a p₁ e₁ e₂. then_inv (many c f ws p₁) _ e₂ λ ys p₂ e₃ e₄.
            let y : a ∷ ys ≡ xs = cc in
            ap (λ l. l ++ each_faults g s c (p + s)) (same p a p₁ e₁)
            ∙ ap (λ k. faults a ++ each_faults g s c k) (sym (z.ends ws p a p₁ e₁))
            ∙ ap (λ l. faults a ++ l) (go c p₁ ys p₂ e₃)
            ∙ ap (concat_map faults) y

module _ {A : Type 0} (f : Reader A) (s : ℕ) (z : Takes f s) (b : List ℕ) (n at : ℕ) {w : ℕ} (h : Whole (list_of f (first_words b n) at))
    (e : w ≡ get_or (words b) at 0) where
  pub list_member : (i : ℕ) → i < w → Whole (f (first_words b n) (at + 1 + s * i))
  list_member = many_member f s z (first_words b n) w (at + 1) (list_whole f b n at h e)

  pub list_room : at + 1 + s * w ≤ n
  list_room = omega (
    arith,
    many_inside f s z (first_words b n) w (at + 1)
        (list_whole f b n at h e),
    list_within f b n at h,
    length_first_words b n,
  )

  pub list_judged : (faults : A → List LoadErrorKind)
      (g : ℕ → List LoadErrorKind) → ((p : ℕ) (a : A) (q : ℕ) → f (first_words b n) p ≡ got a q → g p ≡ faults a) →
      {r : Verdict} → r ≡ verdict_of (each_faults g s w (at + 1)) → r ≡ verdict_of (list_faults faults (list_of f (first_words b n) at))
  unfolding list_faults
  list_judged faults g same k =
      k ∙ ap verdict_of (many_judged f s z (first_words b n) faults g same w (at + 1) (list_whole f b n at h e))
      ∙ ap (λ l. verdict_of (concat_map faults l)) (sym (list_value f b n at [] h e))

-- where g reads the member as the reader does
pub read_same : {A : Type 0} (f : Reader A) (ws : List ℕ) (faults : A → List LoadErrorKind) (d : A) (p : ℕ) (a : A) (q : ℕ) →
    f ws p ≡ got a q → faults (value_of d (f ws p)) ≡ faults a
read_same f ws faults d p a q e = ap faults (value_got d e)
