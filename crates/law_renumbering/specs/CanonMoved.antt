-- Canonical numbers under a renumbering.
use Rattle.std.specs.Prelude.{◌≡◌, ◌↔◌, true, List, [], ◌∷◌, map, ℕ, eqb, length}
use Rattle.std.proofs.Math.Path.{refl, sym, ap}
use Rattle.std.proofs.Common.{◌∙◌, inl, inr, eqb→eq}
use Rattle.lists.specs.Lists.{all_of, is_front}
use Rattle.lists.specs.ListLaws.{and_first, and_second, all_from}
use Rattle.law_counting.specs.Counting.{bool_ext, eqb_of}
use Rattle.sheet.specs.Module.{ValueType, basic, ref, value_word, TypeDef, coroutine, is_struct, type_at}
use Rattle.canon.specs.Canon.{canon_type, canon_value, canon_word}
use Rattle.canon.proofs.CanonLaws.{Alike, canon_alike}
use Rattle.sheet.specs.TypeLaws.{good_at}
use Rattle.sheet.specs.Coded.{coded_value, coded_type}
use Rattle.renumber.specs.Renumber.{value_image, type_image}
use Rattle.law_renumbering.specs.Bijection.{Bijection}
use Rattle.law_renumbering.specs.Images.{image_inj, type_inj, good_type, is_struct_image, basic_ref, ref_basic, ref_ref}

-- the entries of types, with π for each mention, at π of their numbers
pub record Moved (types types' : List TypeDef) (π ρ : ℕ → ℕ) : Type 0 where
  pub bijection : Bijection (length types) π ρ
  pub size : length types' ≡ length types
  pub at : (t : ℕ) → type_at types' (π t) ≡ type_image π (type_at types t)

module _ {types types' : List TypeDef} {π ρ : ℕ → ℕ} (w : Moved types types' π ρ) where
  pub at_origin : (t : ℕ) → type_at types' t ≡ type_image π (type_at types (ρ t))
  at_origin t = ap (type_at types') (sym (w.bijection.forth t)) ∙ w.at (ρ t)

  pub struct_moved : (t : ℕ) → is_struct (type_at types' (π t)) ≡ is_struct (type_at types t)
  struct_moved t = ap is_struct (w.at t) ∙ is_struct_image π (type_at types t)

  module _ (good : all_of coded_type types ≡ true) where
    pub good_moved : all_of coded_type types' ≡ true
    unfolding type_at
    good_moved = all_from coded_type types' coroutine (λ t l. ap coded_type (at_origin t) ∙ good_type π (type_at types (ρ t)) ∙ good_at types good (ρ t))

    alike_moved : (t u : ℕ) → Alike types t u ↔ Alike types' (π t) (π u)
    alike_moved t u = (there, back)
      where
        there : Alike types t u → Alike types' (π t) (π u)
        there (inl e) = inl (ap π e)
        there (inr h) = inr (struct_moved t ∙ h.0, w.at t ∙ ap (type_image π) h.1 ∙ sym (w.at u))

        back : Alike types' (π t) (π u) → Alike types t u
        back (inl e) = inl (image_inj π ρ w.bijection.back t u e)
        back (inr h) = inr (sym (struct_moved t) ∙ h.0, type_inj π ρ w.bijection.back (type_at types t) (type_at types u) (sym (w.at t) ∙ h.1 ∙ w.at u))

    -- numbers share a canonical number just where their images do; unknown numbers too
    pub canon_moved : (t u : ℕ) → (canon_type types t ≡ canon_type types u) ↔ (canon_type types' (π t) ≡ canon_type types' (π u))
    canon_moved t u =
        let a = canon_alike types good t u in
        let b = canon_alike types' good_moved (π t) (π u) in
        let c = alike_moved t u in
        (λ e. b.1 (c.0 (a.0 e)), λ e. a.1 (c.1 (b.0 e)))

    eqb_canon : (t u : ℕ) → eqb (canon_type types' (π t)) (canon_type types' (π u)) ≡ eqb (canon_type types t) (canon_type types u)
    eqb_canon t u = bool_ext (eqb (canon_type types' (π t)) (canon_type types' (π u))) (eqb (canon_type types t) (canon_type types u))
        (λ h. eqb_of (canon_type types t) (canon_type types u) ((canon_moved t u).1 (eqb→eq (canon_type types' (π t)) (canon_type types' (π u)) h)))
        (λ h. eqb_of (canon_type types' (π t)) (canon_type types' (π u)) ((canon_moved t u).0 (eqb→eq (canon_type types t) (canon_type types u) h)))

    canon_word_lem : (v x : ValueType) → coded_value v ≡ true → coded_value x ≡ true →
        eqb (canon_word types' (value_image π v)) (canon_word types' (value_image π x)) ≡ eqb (canon_word types v) (canon_word types x)
    unfolding canon_word canon_value value_image value_word coded_value
    canon_word_lem (basic k) (basic l) g h = refl
    canon_word_lem (basic k) (ref u) g h = basic_ref k (canon_type types' (π u)) g ∙ sym (basic_ref k (canon_type types u) g)
    canon_word_lem (ref t) (basic l) g h = ref_basic l (canon_type types' (π t)) h ∙ sym (ref_basic l (canon_type types t) h)
    canon_word_lem (ref t) (ref u) g h =
        ref_ref (canon_type types' (π t)) (canon_type types' (π u)) ∙ eqb_canon t u ∙ sym (ref_ref (canon_type types t) (canon_type types u))

    -- the value types of one list as the first of another, compared canonically
    pub words_front : (ps rs : List ValueType) → all_of coded_value ps ≡ true → all_of coded_value rs ≡ true →
        is_front (map (canon_word types') (map (value_image π) ps)) (map (canon_word types') (map (value_image π) rs)) ≡
        is_front (map (canon_word types) ps) (map (canon_word types) rs)
    words_front [] rs g h = refl
    words_front (p ∷ ps) [] g h = refl
    words_front (p ∷ ps) (r ∷ rs) g h =
        let a = all_of coded_value ps in
        let b = all_of coded_value rs in
        rw (
          canon_word_lem p r (and_first (coded_value p) a g) (and_first (coded_value r) b h),
          words_front ps rs (and_second (coded_value p) a g) (and_second (coded_value r) b h),
        )
