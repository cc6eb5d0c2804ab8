-- The canonical word of a value type, from its word.
use Prim.Native.Nat.{ℕ, ◌+◌, ◌-◌, ◌*◌, ◌≤◌, ◌<◌}
use mathlib.Core.Path.{◌≡◌, refl, sym, ap, ◌∙◌}
use mathlib.Core.List.{List, []}
use mathlib.Core.Bool.{true}
use native.Mathlib.Omega.{arith}
use lib.ListN.{length, get_or}
use borrow.Author.Tests.{ltb-true}
use Rattle.blocks.specs.Blocks.{words}
use Rattle.blocks.specs.Frame.{first_words}
use Rattle.error.specs.declared.What.TheVariants.{Types}
use Rattle.law_faults.specs.Empty.{range_empty}
use Rattle.reader.specs.Value.{Whole, value_of}
use Rattle.reader.specs.ValueLaws.{whole_inv, value_got}
use Rattle.sheet.specs.Module.{ValueType, basic, ref, dyn, value_word, TypeDef, Module}
use Rattle.sheet.specs.Decode.{basic_types, value_type}
use Rattle.sheet.specs.Coded.{coded_value}
use Rattle.sheet.proofs.TypeCodes.{value_codes}
use Rattle.canon.specs.Canon.{canon_type, canon_value, canon_word}
use Rattle.canon.proofs.CanonLaws.{canon_most}
use Rattle.types.specs.Types.{value_faults}
use Rattle.open_layout.specs.Opened.{module_in}
use Rattle.open_sheet.specs.declared.Opened.{Opened}
use Rattle.open_sheet.specs.Ready.{Ready, pos_at}
use Rattle.open_sheet.specs.ReadyLaws.{types_inside, type_canon}
use Rattle.rule6_registers.specs.ValueWords.{value_word_lem}

-- ── by its word ──

plain_word : (types : List TypeDef) (v : ValueType) {w : ℕ} → w ≡ value_word v → w < 16 → w ≡ canon_word types v
unfolding value_word canon_value canon_word
plain_word types (basic k) e h = e
plain_word types (ref t) e h = absurd (omega arith)

ref_word : (v : ValueType) {w : ℕ} → coded_value v ≡ true → w ≡ value_word v → 16 ≤ w → v ≡ ref (w - 16)
unfolding value_word coded_value
ref_word (basic k) o e h = absurd (omega (arith, ltb-true k basic_types o))
ref_word (ref t) {w} o e h = let z : t ≡ w - 16 = omega arith in ap ref z

known_type : (m : Module) (t : ℕ) → value_faults m (ref t) ≡ [] → t < length m.types
unfolding value_faults
known_type m t e = (range_empty Types (length m.types) t).0 e

ref_canon : (types : List TypeDef) (t : ℕ) → 16 + canon_type types t ≡ canon_word types (ref t)
unfolding value_word canon_value canon_word
ref_canon types t = refl

-- ── code ──

module _ (b w : List ℕ) (o : Opened) (x : Ready (first_words b o.layout.words) w o) (at : ℕ) (h : Whole (value_type (first_words b o.layout.words) at))
    (f : value_faults (module_in (first_words b o.layout.words)) (value_of dyn (value_type (first_words b o.layout.words) at)) ≡ [])
    {c : ℕ} (e : c ≡ get_or (words b) at 0) where
  pub canon_plain : c < 16 → c ≡ canon_word (module_in (first_words b o.layout.words)).types (value_of dyn (value_type (first_words b o.layout.words) at))
  canon_plain l = whole_inv (value_type (first_words b o.layout.words) at) h λ v q k.
      plain_word (module_in (first_words b o.layout.words)).types v (e ∙ value_word_lem b o.layout.words at k) l
      ∙ ap (canon_word (module_in (first_words b o.layout.words)).types) (sym (value_got dyn k))

  module _ (l : 16 ≤ c) where
    is_ref : value_of dyn (value_type (first_words b o.layout.words) at) ≡ ref (c - 16)
    is_ref = whole_inv (value_type (first_words b o.layout.words) at) h λ v q k.
        value_got dyn k ∙ ref_word v ((value_codes (first_words b o.layout.words)).found at v q k).fine (e ∙ value_word_lem b o.layout.words at k) l

    is_known : c - 16 < length (module_in (first_words b o.layout.words)).types
    is_known =
        known_type (module_in (first_words b o.layout.words)) (c - 16)
        (ap (value_faults (module_in (first_words b o.layout.words))) (sym is_ref) ∙ f)

    pub number_room : 2 * o.layout.words + (c - 16) < length w
    number_room = omega (arith, is_known, types_inside (first_words b o.layout.words) w o x, x.room)

    module _ {r : ℕ} (k : r ≡ pos_at w (2 * o.layout.words) (c - 16)) where
      number_canon : r ≡ canon_type (module_in (first_words b o.layout.words)).types (c - 16)
      number_canon = k ∙ type_canon (first_words b o.layout.words) w o x (c - 16) is_known

      -- no sum wraps: a canonical number is no greater
      pub canon_fits : 16 + r ≤ c
      canon_fits = omega (arith, number_canon, canon_most (module_in (first_words b o.layout.words)).types (c - 16) is_known)

      pub canon_ref : 16 + r ≡ canon_word (module_in (first_words b o.layout.words)).types (value_of dyn (value_type (first_words b o.layout.words) at))
      canon_ref =
          ap (λ i. 16 + i) number_canon ∙ ref_canon (module_in (first_words b o.layout.words)).types (c - 16)
          ∙ ap (canon_word (module_in (first_words b o.layout.words)).types) (sym is_ref)
