-- The kind of a type that a type ref names.
use Prim.Native.Nat.{ℕ, ◌+◌, ◌≤◌, ◌<◌}
use mathlib.Core.Path.{◌≡◌, sym, ap, ◌∙◌}
use mathlib.Core.List.{List}
use native.Mathlib.Omega.{arith}
use lib.Dec.{eqb}
use lib.ListN.{get_or, get_or-eq_default}
use borrow.Author.Tests.{eq-eqb, ne_eqb}
use Rattle.blocks.specs.Blocks.{words}
use Rattle.blocks.specs.Frame.{first_words}
use Rattle.error.specs.declared.TypeKind.{TypeKind}
use Rattle.error.specs.declared.TypeKind.TheVariants.{Struct, Array, Map, Cell}
use Rattle.error.specs.declared.LoadErrorKind.TheVariants.{WrongTypeKind}
use Rattle.std.specs.Prelude.{Err, Ok}
use Rattle.error.specs.Answer.{type_kind_word}
use Rattle.error.specs.Verdict.{verdict_of}
use Rattle.sheet.specs.Module.{coroutine, type_at, kind_word}
use Rattle.sheet.specs.Decode.{type_def}
use Rattle.sheet.specs.Encode.{encode_type}
use Rattle.sheet.proofs.TypeCodes.{type_codes}
use Rattle.open_layout.specs.Opened.{module_in}
use Rattle.open_sheet.specs.declared.Opened.{Opened}
use Rattle.open_sheet.specs.Ready.{Ready, pos_at}
use Rattle.open_sheet.specs.ReadyLaws.{count_types, types_in, entry_ends}
use Rattle.rule_frames.specs.declared.Frame.{Frame}
use Rattle.rule_frames.specs.Frames.{func_of, Framed}
use Rattle.reader.proofs.SizeLaws.{first_held}
use Rattle.rule7_callees.specs.Callees.{wanted_faults}
use Rattle.rule7_callees.proofs.Words.{number_within, number_held}
use Rattle.rule7_numbers.proofs.NumberSteps.{test_holds, test_broken}

module _ {k : TypeKind} where
  pub wanted_struct : k ≡ Struct → 1 ≡ type_kind_word k
  unfolding type_kind_word
  wanted_struct e = sym (ap type_kind_word e)

  pub wanted_array : k ≡ Array → 2 ≡ type_kind_word k
  unfolding type_kind_word
  wanted_array e = sym (ap type_kind_word e)

  pub wanted_map : k ≡ Map → 3 ≡ type_kind_word k
  unfolding type_kind_word
  wanted_map e = sym (ap type_kind_word e)

  pub wanted_cell : k ≡ Cell → 4 ≡ type_kind_word k
  unfolding type_kind_word
  wanted_cell e = sym (ap type_kind_word e)

module _ (b w : List ℕ) (o : Opened) (x : Ready (first_words b o.layout.words) w o) (t : ℕ) where
  abbrev ws : List ℕ
  ws = first_words b o.layout.words

  pub kind_read : {at r : ℕ} → t < o.counts.types → at ≡ pos_at w o.index.types t → r ≡ get_or (words b) at 0 → r ≡ kind_word (type_at (module_in ws).types t)
  unfolding encode_type type_at
  kind_read {at} h e k =
      first_held type_def encode_type _ b o.layout.words (type_codes ws) (pos_at w o.index.types t) (type_at (module_in ws).types t) _
      (entry_ends type_def ws (module_in ws).types w o.index.types x.types coroutine t (types_in ws w o x t h)) (omega arith) (k ∙ ap (λ j. get_or (words b) j 0) e)

  pub kind_none : o.counts.types ≤ t → 6 ≡ kind_word (type_at (module_in ws).types t)
  unfolding kind_word type_at
  kind_none h = sym (ap kind_word (get_or-eq_default (module_in ws).types coroutine (omega (arith, count_types ws o x.opens))))

module _ (b : List ℕ) (n : ℕ) (c : Frame) (x : Framed (first_words b n) c) (i : ℕ) (h : i < c.type_refs) where
  pub ref_within : c.body.type_refs + 1 + i < n
  ref_within = number_within b n c.body.type_refs (func_of (first_words b n) c).type_refs c.body.handlers x.placed.type_refs i (omega (arith, x.type_refs))

  module _ (k : TypeKind) {t u v : ℕ} (e : t ≡ get_or (words b) (c.body.type_refs + 1 + i) 0) (p : u ≡ kind_word (type_at (module_in (first_words b n)).types t)) (q : v ≡ type_kind_word k) where
    abbrev named : ℕ
    named = kind_word (type_at (module_in (first_words b n)).types (get_or (func_of (first_words b n) c).type_refs i 0))

    is : u ≡ named
    is = p ∙ ap (λ y. kind_word (type_at (module_in (first_words b n)).types y))
        (number_held b n c.body.type_refs (func_of (first_words b n) c).type_refs c.body.handlers x.placed.type_refs i (omega (arith, x.type_refs)) e)

    pub kind_holds : u ≡ v → Ok tt ≡ verdict_of (wanted_faults k named)
    unfolding wanted_faults
    kind_holds y = test_holds (eqb named (type_kind_word k)) (WrongTypeKind k) (eq-eqb named (type_kind_word k) (sym is ∙ y ∙ q))

    pub kind_broken : (u ≡ v → ⊥) → Err (WrongTypeKind k) ≡ verdict_of (wanted_faults k named)
    unfolding wanted_faults
    kind_broken y = test_broken (eqb named (type_kind_word k)) (WrongTypeKind k) (ne_eqb named (type_kind_word k) (λ z. y (is ∙ z ∙ sym q)))
