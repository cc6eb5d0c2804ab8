-- The name of an export judged by its mark, and then set.
use Prim.Native.Nat.{ℕ, ◌+◌, ◌*◌, ◌≤◌, ◌<◌}
use mathlib.Core.Path.{◌≡◌, sym, ap, ◌∙◌}
use mathlib.Core.List.{List}
use mathlib.Core.Bool.{true}
use native.Mathlib.Omega.{arith}
use lib.ListN.{length, get_or, set}
use borrow.Author.Tests.{lt-ltb}
use Rattle.blocks.specs.Blocks.{words}
use Rattle.blocks.specs.Frame.{first_words}
use Rattle.error.specs.declared.LoadErrorKind.{LoadErrorKind}
use Rattle.error.specs.declared.LoadErrorKind.TheVariants.{ExportNameOutOfRange, DuplicateExport}
use Rattle.std.specs.Prelude.{Err, Ok}
use Rattle.error.specs.Answer.{string_number}
use Rattle.error.specs.Verdict.{verdict_of}
use Rattle.sheet.specs.Module.{Module}
use Rattle.canon.specs.Canon.{canon_string}
use Rattle.hooks.specs.Hooks.{export_at, name_faults}
use Rattle.hooks.proofs.ExportLaws.{name_absent, name_taken, name_free}
use Rattle.region.specs.RegionLaws.{frame_set}
use Rattle.open_layout.specs.Opened.{module_in}
use Rattle.open_sheet.specs.declared.Opened.{Opened}
use Rattle.open_sheet.specs.Ready.{Ready, Above, pos_at}
use Rattle.open_sheet.specs.ReadyLaws.{count_strings, strings_inside, string_canon}
use Rattle.rule8_exports.specs.Exports.{has_name, canon_name, NamesMarked, MarkedThen, Naming}
use Rattle.rule8_exports.specs.MarkLaws.{name_in, mark_room, mark_clear, mark_set, marks_next}
use Rattle.rule8_exports.proofs.ExportSteps.{export_name}

-- nothing is to be said of the marks after a name that is refused
pub refused_marks : (k : LoadErrorKind) (m : Module) (i : ℕ) (w : List ℕ) (base : ℕ) → MarkedThen (Err k) m i w base
refused_marks k m i w base = record { holds = λ e. let z : ◌≡◌ {A = ℕ} 0 1 = cc in absurd (omega arith) }

-- ── its range ──

module _ (b w : List ℕ) (o : Opened) (x : Ready (first_words b o.layout.words) w o) where
  abbrev ws : List ℕ
  ws = first_words b o.layout.words

  module _ (i : ℕ) (h : i < length (module_in ws).exports) {at n : ℕ}
      (s : at ≡ o.layout.exports + 1 + 3 * i) (e : n ≡ get_or (words b) (at + 1) 0) where
    name_is : (export_at (module_in ws) i).name ≡ n
    name_is = export_name b o x.opens i h s ∙ sym e

    pub name_outside : o.counts.strings ≤ n →
        Err (ExportNameOutOfRange (string_number n)) ≡ verdict_of (name_faults (module_in ws) i (export_at (module_in ws) i))
    unfolding verdict_of
    name_outside l =
        let e = export_at (module_in ws) i in
        ap (λ (k : ℕ). Err (ExportNameOutOfRange (string_number k))) (sym name_is)
        ∙ sym (ap verdict_of (name_absent (module_in ws) i e (omega (arith, name_is, count_strings ws o x.opens))))

    pub name_inside : n < o.counts.strings → NamesMarked (module_in ws) i w (6 * o.layout.words) → Naming ws w o i n
    name_inside l y = record {
      ready = x;
      below = h;
      name = name_is;
      inside = omega (arith, count_strings ws o x.opens);
      marked = y;
    }

-- ── its mark ──

module _ (ws w : List ℕ) (o : Opened) (i n : ℕ) (x : Naming ws w o i n) where
  abbrev m : Module
  m = module_in ws

  abbrev base : ℕ
  base = 6 * o.layout.words

  has : has_name m (export_at m i) ≡ true
  unfolding has_name
  has = lt-ltb (export_at m i).name (length m.strings) (omega (arith, x.name, x.inside))

  pub canon_room : o.layout.words + n < length w
  canon_room = omega (arith, x.inside, strings_inside ws w o x.ready, x.ready.room)

  module _ {c : ℕ} (f : c ≡ pos_at w o.layout.words n) where
    canon_is : c ≡ canon_name m (export_at m i)
    unfolding canon_name
    canon_is = f ∙ string_canon ws w o x.ready n x.inside ∙ ap (canon_string m.strings) (sym x.name)

    pub mark_inside : base + c < length w
    mark_inside = omega (arith, canon_is, mark_room m i w base x.marked (export_at m i) has)

    -- the word of the mark
    word_is : get_or w (base + canon_name m (export_at m i)) 0 ≡ get_or w (base + c) 0
    word_is = ap (λ (k : ℕ). get_or w (base + k) 0) (sym canon_is)

    module _ {t : ℕ} (e : t ≡ get_or w (base + c) 0) where
      string_named : (export_at m i).name < length m.strings
      string_named = name_in m (export_at m i) has

      pub name_again : (t ≡ 0 → ⊥) → Err (DuplicateExport i) ≡ verdict_of (name_faults m i (export_at m i))
      unfolding verdict_of
      name_again z =
          let d = mark_set m i w base x.marked (export_at m i) has (λ k. z (e ∙ sym word_is ∙ k)) in
          sym (ap verdict_of (name_taken m i (export_at m i) string_named d))

      pub name_new : t ≡ 0 → Ok tt ≡ verdict_of (name_faults m i (export_at m i))
      unfolding verdict_of
      name_new z =
          let d = mark_clear m i w base x.marked (export_at m i) has (word_is ∙ sym e ∙ z) in
          sym (ap verdict_of (name_free m i (export_at m i) string_named d))

    module _ (v : List ℕ) (q : v ≡ set w (base + c) 1) where
      pub name_marked : MarkedThen (Ok tt) m (i + 1) v base
      name_marked =
          let k : v ≡ set w (base + canon_name m (export_at m i)) 1 = q ∙ ap (λ (k : ℕ). set w (base + k) 1) canon_is in
          record { holds = λ _. record { read = λ _. marks_next m i w base x.marked x.below has v k } }

      pub name_above : Above o w v
      unfolding Above
      name_above = rw q (frame_set (λ k. k < 6 * o.layout.words) w (base + c) 1 (λ p. omega arith))

pub ruleset marking = (refused_marks, name_again, name_new, name_marked, name_above)
