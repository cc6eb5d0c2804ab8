-- What is said of sizes and counts holds.
use Rattle.std.specs.Prelude.{◌≡◌, Bool, true, false, cond, List, [], ◌∷◌, ◌++◌, map, T, eqb, Some, Ok, Err}
use Rattle.std.proofs.Math.Path.{refl, sym, ap, subst, fun_ext}
use Rattle.std.proofs.Common.{ap₂, ◌∙◌, arith}
use Prim.Native.Nat.{ℕ, ◌+◌, ◌≤◌}
use Rattle.std.proofs.Math.ListN.{length}
use Rattle.lists.specs.Lists.{keep, from, sum}
use Rattle.lists.specs.ListLaws.{T_true, T_of}
use Rattle.table.specs.Table.{table_of}
use Rattle.law_counting.specs.Counting.{sum_ext}
use Rattle.law_counting.specs.Kept.{kept_past}
use Rattle.sheet.specs.Module.{Module, no_module, TypeDef, type_at, is_struct}
use Rattle.sheet.specs.Decode.{decode}
use Rattle.sheet.specs.TypeLaws.{struct_known}
use Rattle.host.specs.Host.{HostFn}
use Rattle.sheet.specs.Editions.{most_of}
use Rattle.sheet.proofs.EditionLaws.{most_from_one}
use Rattle.parents.specs.Parents.{parents_faults}
use Rattle.spans.specs.Spans.{roots, no_pre}
use Rattle.descends.specs.Sizes.{FamilySize, width_in}
use Rattle.families.specs.Families.{is_from, family, family_size, struct_count, struct_numbers}
use Rattle.families.specs.Counted.{counted_of, structs_in}
use Rattle.law_forest.specs.Once.{ChainRule}
use Rattle.law_forest.proofs.AcceptedLaws.{chain_rule}
use Rattle.law_families.specs.FamilyLaws.{from_reaches, size_none, roots_all}
use Rattle.law_linked.specs.Sized.{query_from, width_is_size, size_answered}
use Rattle.law_renumbering.specs.AllRules.{parents_kept}
use Rattle.law_renumbering.proofs.Accepting.{types_few}
use Rattle.calls.proofs.CallLaws.{of_left}
use Rattle.error.specs.Answer.{Loaded}
use Rattle.exact.specs.Exact.{value_of}
use Rattle.parents.specs.Forest.{entry_at}
use Rattle.load.proofs.KindLaws.{accepted}
use Rattle.law_forest.specs.Entries.{is_struct_entry, entry_out}
use Rattle.report_lines.specs.declared.Totals.{Totals}
use Rattle.report_lines.specs.Report.{program_room, judged, module_or, counting, counted_module, structs_total, sizes_total, totals, total_line}
use Rattle.report_lines.proofs.ReportLaws.{refused_none}
use Rattle.report_lines.specs.Reported.{total_numbers, AddsSheets, none, next}
use Rattle.family_calls.specs.FamilyCalls.{SizesAsked, SizesRight, ReportsRight, TotalsExact}

is_one : (b : Bool) → eqb (cond b 1 0) 1 ≡ b
is_one true = refl
is_one false = refl

-- ── the count of a sheet ──

counted_is : (sheet : List ℕ) (n : ℕ) (m : Module) → decode sheet ≡ Some m → Some n ≡ structs_in sheet → n ≡ struct_count m.types
unfolding structs_in counted_of
counted_is sheet n m d e = let q : Some n ≡ Some (struct_count m.types) = e ∙ ap counted_of d in cc

-- ── on the table that load left ──

module _ (sheet : List ℕ) (hosts : List HostFn) (m : Module) (d : decode sheet ≡ Some m) (rest : List ℕ)
    (kept : parents_faults (most_of m) m ≡ []) (few : length m.types ≤ no_pre) where
  abbrev left : List ℕ
  left = table_of hosts m ++ rest

  abbrev types : List TypeDef
  types = m.types

  abbrev most : ℕ
  most = most_of m

  one : 1 ≤ most
  one = most_from_one m.edition

  rule : ChainRule most types
  rule = chain_rule most one m kept

  -- a number that is no type descends from nothing
  unknown : (a t : ℕ) → length types ≤ t → is_from most types t a ≡ false
  unknown a t h = go (is_from most types t a) refl
    where
      go : (b : Bool) → is_from most types t a ≡ b → is_from most types t a ≡ false
      go false e = e
      go true e =
          let s = ((from_reaches most types rule t a).0 (T_of (is_from most types t a) e)).0 in
          absurd (omega (arith, struct_known types t (T_true (is_struct (type_at types t)) s)))

  queried_size : (a : ℕ) (answer : ℕ → Bool) → ((t : ℕ) → answer t ≡ is_from most types t a) → (n : ℕ) → length types ≤ n →
      family_size most types a ≡ length (keep answer (from 0 n))
  unfolding family_size family
  queried_size a answer h n k =
      sym (ap length (kept_past (λ t. is_from most types t a) 0 (length types) n k (λ t q. unknown a t (omega arith))))
      ∙ ap (λ (p : ℕ → Bool). length (keep p (from 0 n))) (sym (fun_ext h))

  sizes_left : SizesAsked sheet m left
  sizes_left = record {
    declared = λ a x q. q.answers ∙ size_answered most hosts m rest kept one few a;
    queried = λ a x q answer h n k.
        q.answers
        ∙ size_answered most hosts m rest kept one few a
        ∙ ap Ok
        (queried_size a (λ t. eqb (answer t) 1)
        (λ t.
        ap (λ y. eqb y 1) ((h t).answers ∙ query_from most hosts m rest kept one few t a)
        ∙ is_one (is_from most types t a)) n k);
    spans = λ a x q s.
        q.answers
        ∙ size_answered most hosts m rest kept one few a
        ∙ ap Ok (sym (width_is_size most hosts m rest kept one few a s) ∙ unfold width_in in refl);
    others = λ a x q s.
        q.answers
        ∙ size_answered most hosts m rest kept one few a
        ∙ ap Ok (size_none most types rule a s);
    roots_add_up = λ size h n c.
        sum_ext size (family_size most types)
        (λ a. same_size ((h a).answers ∙ size_answered most hosts m rest kept one few a)) (roots types)
        ∙ roots_all most types rule
        ∙ sym (counted_is sheet n m d c.answers);
  }
    where
      same_size : {x y : ℕ} → ◌≡◌ {A = FamilySize} (Ok x) (Ok y) → x ≡ y
      same_size e = cc

-- ── of every call ──

pub sizes_right : SizesRight
unfolding SizesRight
sizes_right sheet hosts table work l left work_left m d c ws b =
    of_left sheet hosts table work l left work_left c (SizesAsked sheet m) m d ws b λ hs f rest.
    sizes_left sheet hs m d rest (parents_kept (most_of m) hs m f) (types_few sheet m d)

-- ── reports ──

no_types : (t : ℕ) → T (is_struct_entry (entry_at [] t)) → ⊥
no_types t h = subst T (ap is_struct_entry (entry_out [] t (omega arith))) h

-- the types that count have short chains
abbrev pub ModuleRule : Module → Type 0
ModuleRule m = ChainRule (most_of m) m.types

pub counted_rule : (hosts sheet : List ℕ) → ModuleRule (counted_module hosts sheet)
unfolding counted_module counting module_or
counted_rule hosts sheet = go (judged hosts sheet) refl
  where
    go : (r : Loaded) → judged hosts sheet ≡ r → ModuleRule (counting r (module_or (decode sheet)))
    go (Err e) q = record { short = λ t h. absurd (no_types t (unfold no_module in h)) }
    go (Ok l) q =
        let k = (accepted sheet hosts program_room program_room l).0 (unfold judged in q) in
        let m = k.source in
        subst (λ o. ModuleRule (module_or o)) (sym k.decodes)
        (chain_rule (most_of m) (most_from_one m.edition) m (parents_kept (most_of m) k.host_list m k.kept))

pub reports_right : ReportsRight
unfolding ReportsRight
reports_right hosts sheet lines r left k = record {
  refused = λ e q.
      let none = refused_none hosts sheet e (sym k.answers ∙ q) in
      let structs : r.structs ≡ 0 = k.structs ∙ ap structs_total none ∙ unfold structs_total struct_count no_module in refl in
      let sizes : r.sizes ≡ 0 = k.sizes ∙ ap sizes_total none ∙ unfold sizes_total struct_numbers no_module in refl in
      (omega (arith, k.words, k.structs), structs, sizes);
  roots_add_up =
      let m = counted_module hosts sheet in
      roots_all (most_of m) m.types (counted_rule hosts sheet) ∙ sym (k.structs ∙ unfold structs_total in refl);
}

-- each sum has grown by that over the sheets
added : (hosts : List ℕ) {sheets : List (List ℕ)} {t u : Totals} → AddsSheets hosts sheets t u →
    (value_of u.structs ≡ value_of t.structs + sum structs_total (map (counted_module hosts) sheets))
    × (value_of u.sizes ≡ value_of t.sizes + sum sizes_total (map (counted_module hosts) sheets))
added hosts none = (omega arith, omega arith)
added hosts (next a s) = let e = added hosts s in (omega (arith, a.structs, e.0), omega (arith, a.sizes, e.1))

pub totals_exact : TotalsExact
unfolding TotalsExact total_numbers total_line totals
totals_exact hosts sheets t u z s =
    let e = added hosts s in
    let a : value_of t.structs ≡ 0 = cc in
    let b : value_of t.sizes ≡ 0 = cc in
    ap₂ (λ x y. x ∷ y ∷ []) (omega (arith, e.0)) (omega (arith, e.1))
