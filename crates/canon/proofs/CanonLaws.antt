-- A canonical number is the first of equals, and two are the same exactly where the definitions are.
use Rattle.std.proofs.Math.Path.{◌≡◌, sym, ap}
use Rattle.std.specs.Prelude.{refl, ◌↔◌, ◌⊎◌, Bool, ℕ, ◌≤◌, ◌<◌, eqb, length, get_or}
use Rattle.std.proofs.Common.{◌∙◌, inl, inr, eq-eqb, ne_eqb}
use Rattle.std.proofs.Math.Bool.{true, false}
use mathlib.Core.List.{List, []}
use native.Mathlib.Omega.{arith}
use Rattle.std.proofs.Math.Decide.{dec_lt}
use Rattle.lists.specs.Lists.{all_of, first_at, same}
use Rattle.lists.specs.ListLaws.{same_eq, same_self}
use Rattle.lists.specs.FirstLaws.{first_most, first_in, first_passes, first_before}
use Rattle.sheet.specs.Module.{TypeDef, coroutine, is_struct, type_at}
use Rattle.sheet.specs.Encode.{encode_type}
use Rattle.sheet.specs.Coded.{coded_type}
use Rattle.sheet.proofs.TypeCodes.{type_injective}
use Rattle.sheet.specs.TypeLaws.{type_out, struct_known, good_at}
use Rattle.canon.specs.Canon.{canon_string, same_type, canon_type}

-- ── strings ──

module _ (strings : List (List ℕ)) where
  own_string : (s : ℕ) → same (get_or strings s []) (get_or strings s []) ≡ true
  own_string s = same_self (get_or strings s [])

  pub string_most : (s : ℕ) → s < length strings → canon_string strings s ≤ s
  unfolding canon_string
  string_most s h = first_most (same (get_or strings s [])) [] strings s h (own_string s)

  pub string_equal : (s : ℕ) → s < length strings → get_or strings (canon_string strings s) [] ≡ get_or strings s []
  unfolding canon_string
  string_equal s h =
      let k = first_in (same (get_or strings s [])) [] strings s h (own_string s) in
      sym (same_eq (get_or strings s []) (get_or strings (first_at (same (get_or strings s [])) strings) []) (first_passes (same (get_or strings s [])) [] strings k))

  pub string_first : (s u : ℕ) → u < canon_string strings s → get_or strings u [] ≡ get_or strings s [] → ⊥
  unfolding canon_string
  string_first s u h e =
      let f : same (get_or strings s []) (get_or strings u []) ≡ false = first_before (same (get_or strings s [])) [] strings u h in
      let t : same (get_or strings s []) (get_or strings u []) ≡ true = ap (same (get_or strings s [])) e ∙ own_string s in
      let z : ◌≡◌ {A = ℕ} 0 1 = cc in omega arith

  bytes_canon : (s u : ℕ) → get_or strings s [] ≡ get_or strings u [] → canon_string strings s ≡ canon_string strings u
  unfolding canon_string
  bytes_canon s u e = ap (λ (x : List ℕ). first_at (same x) strings) e

  -- equal bytes: equal canonical numbers
  pub string_canon : (s u : ℕ) → s < length strings → u < length strings →
      same (get_or strings s []) (get_or strings u []) ≡ eqb (canon_string strings s) (canon_string strings u)
  string_canon s u h k = go (same (get_or strings s []) (get_or strings u [])) refl
    where
      go : (b : Bool) → same (get_or strings s []) (get_or strings u []) ≡ b → b ≡ eqb (canon_string strings s) (canon_string strings u)
      go true e =
          let q : get_or strings s [] ≡ get_or strings u [] = same_eq (get_or strings s []) (get_or strings u []) e in
          sym (eq-eqb (canon_string strings s) (canon_string strings u) (bytes_canon s u q))
      go false e = sym (ne_eqb (canon_string strings s) (canon_string strings u) λ z.
          let q : get_or strings s [] ≡ get_or strings u [] = sym (string_equal s h) ∙ ap (λ (c : ℕ). get_or strings c []) z ∙ string_equal u k in
          let t : same (get_or strings s []) (get_or strings u []) ≡ true = ap (same (get_or strings s [])) (sym q) ∙ own_string s in
          let z : ◌≡◌ {A = ℕ} 0 1 = cc in omega arith)

-- ── types ──

-- the same words are the same definition
pub same_type_lem : (d e : TypeDef) → coded_type d ≡ true → coded_type e ≡ true → same_type d e ≡ true → d ≡ e
unfolding same_type
same_type_lem d e g h q = type_injective d e g h (same_eq (encode_type d) (encode_type e) q)

pub type_same : (d e : TypeDef) → d ≡ e → same_type d e ≡ true
unfolding same_type
type_same d e q = ap (λ (x : TypeDef). same (encode_type d) (encode_type x)) (sym q) ∙ same_self (encode_type d)

-- two numbers are one, or name equal definitions of no struct
abbrev pub Alike : List TypeDef → ℕ → ℕ → Type 0
Alike types t u = (t ≡ u) ⊎ ((is_struct (type_at types t) ≡ false) × (type_at types t ≡ type_at types u))

module _ (types : List TypeDef) where
  -- a struct is only itself
  pub canon_struct : (t : ℕ) → is_struct (type_at types t) ≡ true → canon_type types t ≡ t
  unfolding canon_type
  canon_struct t e = rw e

  pub canon_other : (t : ℕ) → is_struct (type_at types t) ≡ false → canon_type types t ≡ first_at (same_type (type_at types t)) types
  unfolding canon_type
  canon_other t e = rw e

  first_own : (t : ℕ) → t < length types → first_at (same_type (type_at types t)) types < length types
  unfolding type_at
  first_own t h = first_in (same_type (type_at types t)) coroutine types t h (type_same (type_at types t) (type_at types t) refl)

  pub canon_most : (t : ℕ) → t < length types → canon_type types t ≤ t
  canon_most t h = go (is_struct (type_at types t)) refl
    where
      go : (b : Bool) → is_struct (type_at types t) ≡ b → canon_type types t ≤ t
      go true e = omega (arith, canon_struct t e)
      go false e =
          let k : first_at (same_type (type_at types t)) types ≤ t =
          unfold type_at in first_most (same_type (type_at types t)) coroutine types t h (type_same (type_at types t) (type_at types t) refl) in
          omega (arith, canon_other t e)

  -- no definition before it is equal
  pub canon_first : (t u : ℕ) → is_struct (type_at types t) ≡ false → u < canon_type types t → type_at types u ≡ type_at types t → ⊥
  canon_first t u o h e =
      let k : u < first_at (same_type (type_at types t)) types = omega (arith, canon_other t o) in
      let f : same_type (type_at types t) (type_at types u) ≡ false = unfold type_at in first_before (same_type (type_at types t)) coroutine types u k in
      let g : same_type (type_at types t) (type_at types u) ≡ true = type_same (type_at types t) (type_at types u) (sym e) in
      let z : ◌≡◌ {A = ℕ} 0 1 = cc in omega arith

  module _ (good : all_of coded_type types ≡ true) where
    found : (d : TypeDef) → coded_type d ≡ true → first_at (same_type d) types < length types → d ≡ type_at types (first_at (same_type d) types)
    unfolding type_at
    found d g h = same_type_lem d (type_at types (first_at (same_type d) types)) g (good_at types good (first_at (same_type d) types)) (first_passes (same_type d) coroutine types h)

    -- the definition there is equal
    pub canon_equal : (t : ℕ) → t < length types → type_at types (canon_type types t) ≡ type_at types t
    canon_equal t h = go (is_struct (type_at types t)) refl
      where
        go : (b : Bool) → is_struct (type_at types t) ≡ b → type_at types (canon_type types t) ≡ type_at types t
        go true e = ap (type_at types) (canon_struct t e)
        go false e = ap (type_at types) (canon_other t e) ∙ sym (found (type_at types t) (good_at types good t) (first_own t h))

    mixed : (t u : ℕ) → is_struct (type_at types t) ≡ true → is_struct (type_at types u) ≡ false → t ≡ first_at (same_type (type_at types u)) types → ⊥
    mixed t u s o e =
        let h : first_at (same_type (type_at types u)) types < length types = omega (arith, struct_known types t s) in
        let q : type_at types u ≡ type_at types t = found (type_at types u) (good_at types good u) h ∙ ap (type_at types) (sym e) in
        let z : false ≡ true = sym o ∙ ap is_struct q ∙ s in
        let y : ◌≡◌ {A = ℕ} 0 1 = cc in omega arith

    others : (t u : ℕ) → first_at (same_type (type_at types t)) types ≡ first_at (same_type (type_at types u)) types →
        Dec (first_at (same_type (type_at types t)) types < length types) → type_at types t ≡ type_at types u
    others t u e (yes h) =
        found (type_at types t) (good_at types good t) h ∙ ap (type_at types) e ∙ sym (found (type_at types u) (good_at types good u) (omega arith))
    others t u e (no h) = type_out types t (unknown t (dec_lt t (length types)) h) ∙ sym (type_out types u (unknown u (dec_lt u (length types)) (λ l. h (omega arith))))
      where
        unknown : (x : ℕ) → Dec (x < length types) → (first_at (same_type (type_at types x)) types < length types → ⊥) → length types ≤ x
        unknown x (yes l) n = absurd (n (first_own x l))
        unknown x (no l) n = omega arith

    pub canon_alike : (t u : ℕ) → (canon_type types t ≡ canon_type types u) ↔ Alike types t u
    canon_alike t u = (λ e. there e (is_struct (type_at types t)) (is_struct (type_at types u)) refl refl, back)
      where
        there : canon_type types t ≡ canon_type types u → (b c : Bool) → is_struct (type_at types t) ≡ b → is_struct (type_at types u) ≡ c → Alike types t u
        there e true true s o = inl (sym (canon_struct t s) ∙ e ∙ canon_struct u o)
        there e true false s o = absurd (mixed t u s o (sym (canon_struct t s) ∙ e ∙ canon_other u o))
        there e false true s o = absurd (mixed u t o s (sym (canon_struct u o) ∙ sym e ∙ canon_other t s))
        there e false false s o =
            inr (s, others t u (sym (canon_other t s) ∙ e ∙ canon_other u o) (dec_lt (first_at (same_type (type_at types t)) types) (length types)))

        back : Alike types t u → canon_type types t ≡ canon_type types u
        back (inl e) = ap (canon_type types) e
        back (inr h) =
            canon_other t h.0 ∙ ap (λ (d : TypeDef). first_at (same_type d) types) h.1 ∙ sym (canon_other u (sym (ap is_struct h.1) ∙ h.0))
