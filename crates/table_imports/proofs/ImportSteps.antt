-- Imports written, step by step.
use Prim.Native.Nat.{ℕ, ◌+◌, ◌*◌, ◌≤◌, ◌<◌}
use mathlib.Core.Path.{◌≡◌, sym, ap, ap₂, ◌∙◌}
use mathlib.Core.List.{List, [], ◌∷◌}
use native.Mathlib.Omega.{arith}
use lib.ListN.{length, get_or}
use Rattle.canon.specs.Canon.{canon_type}
use Rattle.code.specs.Callee.{import_at}
use Rattle.open_layout.specs.Opened.{module_in}
use Rattle.open_sheet.specs.declared.Opened.{Opened}
use Rattle.open_sheet.specs.Ready.{Ready, pos_at}
use Rattle.open_sheet.specs.ReadyLaws.{count_imports, imports_in, imports_inside, types_inside, type_canon}
use Rattle.writing.specs.Writing.{written}
use Rattle.table_imports.specs.Sections.{each_of, linked_import, linked_imports, SigsInside}
use Rattle.table_imports.proofs.RowSteps.{Rows, counted_room, counted_all, rows_room, rows_next}

-- ── the loop ──

module _ (ws w : List ℕ) (o : Opened) (u : List ℕ) (at i : ℕ) (v : List ℕ) (p : ℕ) (s : Rows (linked_import ws w o) o.counts.imports u at i v p)
    (room : at + length (each_of (linked_import ws w o) o.counts.imports) ≤ length u) (h : i < o.counts.imports) where
  pub import_room : p + 2 ≤ length v
  unfolding linked_import
  import_room = rows_room (linked_import ws w o) o.counts.imports u at i v p s room h

  pub import_next : (v' : List ℕ) (p' : ℕ) → v' ≡ written v p (linked_import ws w o i) → p' ≡ p + 2 → Rows (linked_import ws w o) o.counts.imports u at (i + 1) v' p'
  unfolding linked_import
  import_next v' p' e f = rows_next (linked_import ws w o) o.counts.imports u at i v p s room h v' p' e f

module _ (ws w : List ℕ) (o : Opened) (x : Ready ws w o) where
  -- ── one import ──

  module _ (s : SigsInside (module_in ws)) (i : ℕ) (h : i < o.counts.imports) where
    pub host_room : 5 * o.layout.words + i < length w
    host_room = omega (arith, x.room, imports_inside ws w o x, imports_in ws w o x i h)

    module _ {t : ℕ} (g : t ≡ (import_at (module_in ws) i).sig) where
      sig_in : t < length (module_in ws).types
      sig_in = omega (arith, g, s.inside i (imports_in ws w o x i h))

      pub sig_room : 2 * o.layout.words + t < length w
      sig_room = omega (arith, x.room, types_inside ws w o x, sig_in)

      pub import_written : (u v : List ℕ) (at : ℕ) {r k : ℕ} → r ≡ pos_at w (2 * o.layout.words) t → k ≡ get_or w (5 * o.layout.words + i) 0
          → v ≡ written u at (r ∷ k ∷ []) → v ≡ written u at (linked_import ws w o i)
      unfolding linked_import
      import_written u v at a b e = e ∙ ap₂ (λ p q. written u at (p ∷ q ∷ [])) (a ∙ type_canon ws w o x t sig_in ∙ ap (canon_type (module_in ws).types) g) b

  -- ── all ──

  counted : linked_imports ws w o ≡ o.counts.imports ∷ each_of (linked_import ws w o) o.counts.imports
  unfolding linked_imports
  counted = let z = count_imports ws o x.opens in ap (λ n. n ∷ each_of (linked_import ws w o) n) (sym z)

  module _ (u : List ℕ) (at : ℕ) (room : at + length (linked_imports ws w o) ≤ length u) where
    inside : at + 1 + length (each_of (linked_import ws w o) o.counts.imports) ≤ length u
    inside = omega (arith, room, ap length counted)

    pub count_room : at < length u
    count_room = omega (arith, inside)

    pub imports_room : (v : List ℕ) (first c : ℕ) → v ≡ written u at (c ∷ []) → first ≡ at + 1 → first + length (each_of (linked_import ws w o) o.counts.imports) ≤ length v
    imports_room v first c e k = counted_room u at c (each_of (linked_import ws w o) o.counts.imports) inside v first e k

    module _ (v : List ℕ) (first : ℕ) (e : v ≡ written u at (o.counts.imports ∷ [])) (k : first ≡ at + 1) where
      pub imports_written : (v' : List ℕ) → v' ≡ written v first (each_of (linked_import ws w o) o.counts.imports) → v' ≡ written u at (linked_imports ws w o)
      imports_written v' f =
          counted_all u at o.counts.imports (each_of (linked_import ws w o) o.counts.imports) inside v first e k v' f ∙ ap (written u at) (sym counted)

      pub imports_end : (r : ℕ) → r ≡ first + length (each_of (linked_import ws w o) o.counts.imports) → r ≡ at + length (linked_imports ws w o)
      imports_end r f = omega (arith, k, f, ap length counted)
