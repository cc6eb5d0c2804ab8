-- Canonical numbers written, step by step.
use Prim.Native.Nat.{ℕ, ◌+◌, ◌*◌, ◌≤◌, ◌<◌}
use mathlib.Core.Path.{◌≡◌, sym, ap, ◌∙◌}
use mathlib.Core.List.{List, [], ◌∷◌}
use native.Mathlib.Omega.{arith}
use lib.ListN.{length}
use Rattle.open_layout.specs.Opened.{module_in}
use Rattle.open_sheet.specs.declared.Opened.{Opened}
use Rattle.open_sheet.specs.Ready.{Ready, pos_at}
use Rattle.open_sheet.specs.ReadyLaws.{count_types, types_in, types_inside, type_canon}
use Rattle.writing.specs.Writing.{written}
use Rattle.table.specs.Table.{canon_section}
use Rattle.table_imports.specs.Sections.{each_of, canon_of}
use Rattle.table_imports.specs.SectionLaws.{canon_section_lem, canon_length}
use Rattle.table_imports.proofs.RowSteps.{Rows, counted_room, counted_all, rows_room, rows_next}

module _ (ws w : List ℕ) (o : Opened) (x : Ready ws w o) where
  -- ── one type ──

  module _ (i : ℕ) (h : i < o.counts.types) where
    pub number_room : 2 * o.layout.words + i < length w
    number_room = omega (arith, x.room, types_inside ws w o x, types_in ws w o x i h)

    module _ (u : List ℕ) (at : ℕ) (v : List ℕ) (p : ℕ) (s : Rows (canon_of (module_in ws).types) o.counts.types u at i v p)
        (room : at + length (each_of (canon_of (module_in ws).types) o.counts.types) ≤ length u) where
      pub canon_room : p < length v
      unfolding canon_of
      canon_room = omega (arith, rows_room (canon_of (module_in ws).types) o.counts.types u at i v p s room h)

      pub canon_next : (v' : List ℕ) (p' : ℕ) {r : ℕ} → r ≡ pos_at w (2 * o.layout.words) i → v' ≡ written v p (r ∷ []) → p' ≡ p + 1
          → Rows (canon_of (module_in ws).types) o.counts.types u at (i + 1) v' p'
      unfolding canon_of
      canon_next v' p' e f g =
          rows_next (canon_of (module_in ws).types) o.counts.types u at i v p s room h v' p'
          (f ∙ ap (λ k. written v p (k ∷ [])) (e ∙ type_canon ws w o x i (types_in ws w o x i h))) g

  -- ── all ──

  counted : canon_section (module_in ws) ≡ o.counts.types ∷ each_of (canon_of (module_in ws).types) o.counts.types
  counted = let z = count_types ws o x.opens in canon_section_lem (module_in ws) ∙ ap (λ n. n ∷ each_of (canon_of (module_in ws).types) n) (sym z)

  module _ (u : List ℕ) (at : ℕ) (room : at + 1 + length (module_in ws).types ≤ length u) where
    inside : at + 1 + length (each_of (canon_of (module_in ws).types) o.counts.types) ≤ length u
    inside = omega (arith, room, ap length counted, canon_length (module_in ws))

    pub canons_room : (v : List ℕ) (first c : ℕ) → v ≡ written u at (c ∷ []) → first ≡ at + 1 → first + length (each_of (canon_of (module_in ws).types) o.counts.types) ≤ length v
    canons_room v first c e k = counted_room u at c (each_of (canon_of (module_in ws).types) o.counts.types) inside v first e k

    module _ (v : List ℕ) (first : ℕ) (e : v ≡ written u at (o.counts.types ∷ [])) (k : first ≡ at + 1) where
      pub canons_written : (v' : List ℕ) → v' ≡ written v first (each_of (canon_of (module_in ws).types) o.counts.types) → v' ≡ written u at (canon_section (module_in ws))
      canons_written v' f =
          counted_all u at o.counts.types (each_of (canon_of (module_in ws).types) o.counts.types) inside v first e k v' f ∙ ap (written u at) (sym counted)

      pub canons_end : (r : ℕ) → r ≡ first + length (each_of (canon_of (module_in ws).types) o.counts.types) → r ≡ at + 1 + length (module_in ws).types
      canons_end r f = omega (arith, k, f, ap length counted, canon_length (module_in ws))
