-- An export before has the name exactly where its mark is set.
use Rattle.std.specs.Prelude.{ℕ, ◌+◌, ◌≤◌, ◌<◌, ◌≡◌, refl, List, [], ◌∷◌, ◌++◌, true, false, cond, ◌||◌, length, get_or, set}
use Rattle.std.proofs.Common.{sym, subst, ◌∙◌, arith, add-one, length-set, get_or-set_same, get_or-set_other}
use Rattle.std.proofs.Math.Path.{ap}
use Rattle.std.proofs.Math.Bool.{Bool, or-true, or-false}
use Rattle.std.proofs.Math.Dec.{eqb}
use Rattle.std.proofs.Math.ListN.{take}
use Rattle.std.proofs.Math.Seq.{take-suc}
use borrow.Author.Tests.{ltb-true, eqb-true, eq-eqb}
use Rattle.lists.specs.Lists.{all_of, any_of, same}
use Rattle.lists.specs.ListLaws.{both, all_append}
use Rattle.lists.specs.AllLaws.{any_join, any_agree}
use Rattle.sheet.specs.Module.{Export, Module}
use Rattle.canon.proofs.CanonLaws.{string_most, string_canon}
use Rattle.hooks.specs.Hooks.{no_export, export_at, name_bytes, is_duplicate}
use Rattle.rule8_exports.specs.Exports.{has_name, canon_name, is_met, NamesMarked}

-- ── names by their canonical numbers ──

module _ (m : Module) where
  pub name_in : (e : Export) → has_name m e ≡ true → e.name < length m.strings
  unfolding has_name
  name_in e h = ltb-true e.name (length m.strings) h

  pub canon_in_lem : (e : Export) → has_name m e ≡ true → canon_name m e < length m.strings
  unfolding canon_name
  canon_in_lem e h = let k = name_in e h in omega (arith, string_most m.strings e.name k)

  -- equal bytes: equal canonical numbers
  same_name : (e d : Export) → has_name m e ≡ true → has_name m d ≡ true →
      same (name_bytes m d) (name_bytes m e) ≡ eqb (canon_name m d) (canon_name m e)
  unfolding name_bytes canon_name
  same_name e d h k = string_canon m.strings d.name e.name (name_in d k) (name_in e h)

  module _ (i : ℕ) where
    duplicate_met : (e : Export) → all_of (has_name m) (take i m.exports) ≡ true → has_name m e ≡ true →
        is_duplicate m i e ≡ is_met m i (canon_name m e)
    unfolding is_duplicate is_met
    duplicate_met e n h =
        any_agree (λ d. same (name_bytes m d) (name_bytes m e)) (λ d. eqb (canon_name m d) (canon_name m e)) (has_name m)
        (λ d k. same_name e d h k)
        (take i m.exports) n

    module _ (h : i < length m.exports) where
      one_more : take (i + 1) m.exports ≡ take i m.exports ++ (export_at m i ∷ [])
      unfolding export_at
      one_more = ap (λ (k : ℕ). take k m.exports) (add-one i) ∙ take-suc m.exports i no_export h

      met_next : (c : ℕ) → is_met m (i + 1) c ≡ (is_met m i c || eqb (canon_name m (export_at m i)) c)
      unfolding is_met
      met_next c =
          let p : Export → Bool = λ e. eqb (canon_name m e) c in
          ap (any_of p) one_more ∙ any_join p (take i m.exports) (export_at m i ∷ [])
          ∙ ap (λ (b : Bool). any_of p (take i m.exports) || b) (or-false (p (export_at m i)))

      named_next : all_of (has_name m) (take i m.exports) ≡ true → has_name m (export_at m i) ≡ true →
          all_of (has_name m) (take (i + 1) m.exports) ≡ true
      named_next n k = ap (all_of (has_name m)) one_more ∙ all_append (has_name m) (take i m.exports) (export_at m i ∷ []) n (both k refl)

-- ── marks ──

pub marks_start : (m : Module) (w : List ℕ) (base : ℕ) → base + length m.strings ≤ length w →
    ((c : ℕ) → c < length m.strings → get_or w (base + c) 0 ≡ 0) → NamesMarked m 0 w base
unfolding is_met
marks_start m w base r z = record { named = refl; room = r; mark = z }

module _ (m : Module) (i : ℕ) (w : List ℕ) (base : ℕ) (x : NamesMarked m i w base) (e : Export) (h : has_name m e ≡ true) where
  pub mark_room : base + canon_name m e < length w
  mark_room = omega (arith, canon_in_lem m e h, x.room)

  -- the mark of the name, by whether it is a duplicate
  mark_told : (b : Bool) → is_duplicate m i e ≡ b → get_or w (base + canon_name m e) 0 ≡ cond b 1 0
  mark_told b q = x.mark (canon_name m e) (canon_in_lem m e h) ∙ ap (λ (b : Bool). cond b 1 0) (sym (duplicate_met m i e x.named h) ∙ q)

  pub mark_clear : get_or w (base + canon_name m e) 0 ≡ 0 → is_duplicate m i e ≡ false
  mark_clear z = go (is_duplicate m i e) refl
    where
      go : (b : Bool) → is_duplicate m i e ≡ b → b ≡ false
      go false q = refl
      go true q = absurd (omega (arith, mark_told true q, z))

  pub mark_set : (get_or w (base + canon_name m e) 0 ≡ 0 → ⊥) → is_duplicate m i e ≡ true
  mark_set z = go (is_duplicate m i e) refl
    where
      go : (b : Bool) → is_duplicate m i e ≡ b → b ≡ true
      go true q = refl
      go false q = absurd (z (mark_told false q))

-- the mark of one more export is set
module _ (m : Module) (i : ℕ) (w : List ℕ) (base : ℕ) (x : NamesMarked m i w base) (h : i < length m.exports)
    (k : has_name m (export_at m i) ≡ true) where
  abbrev own : ℕ
  own = canon_name m (export_at m i)

  mark_one : (c : ℕ) → c < length m.strings → (b : Bool) → eqb own c ≡ b →
      get_or (set w (base + own) 1) (base + c) 0 ≡ cond (is_met m i c || b) 1 0
  mark_one c l true f =
      let z : own ≡ c = eqb-true own c f in
      ap (λ (n : ℕ). get_or (set w (base + own) 1) (base + n) 0) (sym z)
      ∙ get_or-set_same w (base + own) 1 0 (mark_room m i w base x (export_at m i) k)
      ∙ sym (ap (λ (b : Bool). cond b 1 0) (or-true (is_met m i c)))
  mark_one c l false f =
      get_or-set_other w (base + own) (base + c) 1 0 (λ z. differ (omega arith))
      ∙ x.mark c l ∙ sym (ap (λ (b : Bool). cond b 1 0) (or-false (is_met m i c)))
    where
      differ : own ≡ c → ⊥
      differ z = let t = eq-eqb own c z in let y : ◌≡◌ {A = ℕ} 0 1 = cc in omega arith

  pub marks_next : (v : List ℕ) → v ≡ set w (base + own) 1 → NamesMarked m (i + 1) v base
  marks_next v q = subst (λ (u : List ℕ). NamesMarked m (i + 1) u base) (sym q) (record {
    named = named_next m i h x.named k;
    room = omega (arith, x.room, length-set w (base + own) 1);
    mark = λ c l. mark_one c l (eqb own c) refl ∙ sym (ap (λ (b : Bool). cond b 1 0) (met_next m i h c));
  })
