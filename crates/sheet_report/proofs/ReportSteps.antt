-- The report on a sheet: what a refused one and an accepted one are told to be.
use Prim.Native.Nat.{ℕ, ◌+◌, ◌*◌, ◌≤◌}
use mathlib.Core.Path.{◌≡◌, refl, sym, ap, ap₂, ◌∙◌, subst, fun_ext}
use mathlib.Core.List.{List, [], ◌∷◌, ◌++◌}
use mathlib.Core.Bool.{Bool, true, false, cond}
use Rattle.std.specs.Prelude.{Option, unwrap_or, Err, Ok}
use Rattle.std.specs.Result.{result_unwrap_or}
use native.Mathlib.Omega.{arith}
use lib.Dec.{ltb}
use lib.ListN.{length, take, drop}
use lib.Seq.{take-length, take-append_seam, drop-append_seam}
use borrow.Author.Tests.{leb-true, lt-ltb}
use Rattle.lists.specs.Lists.{concat_map, from, keep, places_from, sum}
use Rattle.lists.specs.ListLaws.{and_first, length_concat_map, T_of}
use Rattle.law_counting.specs.Counting.{sum_ext}
use Rattle.law_counting.specs.Kept.{places_kept, kept_past, kept_places, concat_map_keep, sum_keep}
use Rattle.blocks.specs.Blocks.{words, length_word}
use Rattle.error.specs.declared.LoadError.{LoadError}
use Rattle.error.specs.Answer.{Loaded}
use Rattle.sheet.specs.Module.{Module, TypeDef, no_module, coroutine, type_at, is_struct}
use Rattle.sheet.proofs.DecodedTheorems.{decoded_within}
use Rattle.sheet.specs.TypeLaws.{struct_known}
use Rattle.sheet.specs.Editions.{most_of}
use Rattle.writing.specs.Writing.{written}
use Rattle.descends.specs.Sizes.{size_in}
use Rattle.load.specs.Load.{needed, fits, enough, long_enough, load, table_after, work_after}
use Rattle.load.proofs.KindLaws.{Links, accepted}
use Rattle.families.specs.Families.{family_size, struct_count, struct_numbers}
use Rattle.families.specs.Counted.{counted_of, structs_in}
use Rattle.law_families.specs.FamilyLaws.{size_some, size_none}
use Rattle.report_lines.specs.Report.{judged, module_or, counting, counted_module, family_line, structs_total, sizes_total}
use Rattle.report_lines.specs.Reported.{Reports}
use Rattle.report_lines.proofs.ReportLaws.{refused_none}
use Rattle.calls.specs.Calls.{Loads, Begins}
use Rattle.family_calls.specs.FamilyCalls.{SizesRight}
use Rattle.family_calls.proofs.FamilyCallLaws.{ModuleRule, counted_rule, sizes_right}
use Rattle.sheet_report.specs.declared.FamilyLines.{FamilyLines}
use Rattle.sheet_report.specs.Lines.{size_word, line_in, lines_in, LinesWritten}

written_first : (w xs : List ℕ) → written w 0 xs ≡ xs ++ drop (length xs) w
unfolding written
written_first w xs = let z : 0 + length xs ≡ length xs = omega arith in ap₂ (λ (a : List ℕ) (k : ℕ). a ++ drop k w) (take-length xs) z

-- ── the struct types among the first n numbers ──

module _ (types : List TypeDef) where
  abbrev is_one : ℕ → Bool
  is_one t = is_struct (type_at types t)

  no_type : (t : ℕ) → length types ≤ t → is_one t ≡ false
  no_type t h = go (is_one t) refl
    where
      go : (b : Bool) → is_one t ≡ b → is_one t ≡ false
      go false e = e
      go true e = absurd (omega (arith, struct_known types t e))

  numbers_kept : (n : ℕ) → length types ≤ n → struct_numbers types ≡ keep is_one (from 0 n)
  unfolding struct_numbers type_at
  numbers_kept n h =
      kept_places is_struct coroutine is_one 0 types (λ i l. let z : 0 + i ≡ i = omega arith in ap is_one z)
      ∙ sym (kept_past is_one 0 (length types) n h (λ t l. no_type t (omega arith)))

-- the lines of a module, side by side
abbrev lines_of : Module → List ℕ
lines_of m = concat_map (family_line m) (struct_numbers m.types)

lines_length : (m : Module) → length (lines_of m) ≡ 2 * structs_total m
unfolding family_line struct_numbers structs_total struct_count
lines_length m =
    length_concat_map (family_line m) 2 (λ t. refl) (places_from 0 is_struct m.types)
    ∙ ap (λ k. 2 * k) (places_kept is_struct 0 m.types)

-- ── lines and sizes of a table on which every size is the declared one ──

module _ (ws : List ℕ) (m : Module) (rule : ModuleRule m) (few : length m.types ≤ 2032)
    (declared : (a : ℕ) → size_in ws a ≡ Ok (family_size (most_of m) m.types a)) where
  abbrev types : List TypeDef
  types = m.types

  abbrev most : ℕ
  most = most_of m

  size_is : (a : ℕ) → size_word ws a ≡ family_size most types a
  unfolding size_word
  size_is a = ap (λ r. result_unwrap_or r 0) (declared a)

  size_if : (a : ℕ) (b : Bool) → is_one types a ≡ b → size_word ws a ≡ cond b (family_size most types a) 0
  size_if a true e = size_is a
  size_if a false e = size_is a ∙ size_none most types rule a e

  line_if : (a : ℕ) (b : Bool) → is_one types a ≡ b → line_in ws a ≡ cond b (family_line m a) []
  unfolding line_in family_line
  line_if a true e =
      ap (λ k. cond (ltb 0 k) (a ∷ k ∷ []) []) (size_is a)
      ∙ ap (λ b. cond b (a ∷ family_size most types a ∷ []) [])
      (lt-ltb 0 (family_size most types a) (omega (arith, size_some most types rule a (T_of (is_one types a) e))))
  line_if a false e = ap (λ k. cond (ltb 0 k) (a ∷ k ∷ []) []) (size_if a false e)

  lines_are : lines_in ws 2032 ≡ lines_of m
  unfolding lines_in
  lines_are =
      ap (λ (g : ℕ → List ℕ). concat_map g (from 0 2032)) (fun_ext (λ a. line_if a (is_one types a) refl))
      ∙ sym (concat_map_keep (is_one types) (family_line m) (from 0 2032))
      ∙ ap (concat_map (family_line m)) (sym (numbers_kept types 2032 few))

  sizes_are : sum (size_word ws) (from 0 2032) ≡ sizes_total m
  unfolding sizes_total
  sizes_are =
      sum_ext (size_word ws) (λ a. cond (is_one types a) (family_size most types a) 0)
      (λ a. size_if a (is_one types a) refl) (from 0 2032)
      ∙ sym (sum_keep (is_one types) (family_size most types) (from 0 2032))
      ∙ ap (sum (family_size most types)) (sym (numbers_kept types 2032 few))

-- ── the report ──

module _ (hosts sheet table work lines : List ℕ) (a : length table ≡ 16320) (b : length work ≡ 16320) {r : Loaded}
    (e : r ≡ load sheet hosts (length table) (length work)) where
  is_judged : r ≡ judged hosts sheet
  unfolding judged
  is_judged = e ∙ ap₂ (load sheet hosts) a b

  pub refused_report : {x : LoadError} → r ≡ Err x →
      Reports hosts sheet lines (record { answer = r; words = 0; structs = 0; sizes = 0 }) lines
  refused_report {x} q =
      let none = refused_none hosts sheet x (sym is_judged ∙ q) in
      record {
        answers = is_judged;
        tells = sym (ap lines_of none ∙ unfold struct_numbers no_module in refl);
        rest = refl;
        words = sym (ap (λ m. 2 * structs_total m) none ∙ unfold structs_total struct_count no_module in refl);
        structs = sym (ap structs_total none ∙ unfold structs_total struct_count no_module in refl);
        sizes = sym (ap sizes_total none ∙ unfold sizes_total struct_numbers no_module in refl);
      }

  module _ {l : ℕ} (q : r ≡ Ok l) where
    links : Links sheet hosts 16320 16320 l
    links = (accepted sheet hosts 16320 16320 l).0 (sym (ap₂ (load sheet hosts) a b) ∙ sym e ∙ q)

    module_is : counted_module hosts sheet ≡ links.source
    unfolding counted_module counting module_or
    module_is = ap₂ (λ (x : Loaded) (o : Option Module). counting x (module_or o)) (sym is_judged ∙ q) links.decodes

    long : 64 + 8 * length_word (words sheet) ≤ 16320
    unfolding long_enough enough fits needed
    long =
        let room = fits (length_word (words sheet)) 16320 in
        leb-true (64 + 8 * length_word (words sheet)) 16320 (and_first room room links.long)

    few : length links.source.types ≤ 2032
    few = omega (arith, decoded_within sheet links.source links.decodes, long)

    count_is : {n : ℕ} → n ≡ unwrap_or (structs_in sheet) 0 → n ≡ structs_total links.source
    unfolding structs_in counted_of structs_total
    count_is c = c ∙ ap (λ (o : Option Module). unwrap_or (counted_of o) 0) links.decodes

    pub accepted_report : (left v : List ℕ) (f : FamilyLines) {n : ℕ} → left ≡ table_after sheet hosts table work →
        LinesWritten left lines 2032 v f →
        n ≡ unwrap_or (structs_in sheet) 0 →
        Reports hosts sheet lines (record { answer = r; words = f.words; structs = n; sizes = f.sizes }) v
    unfolding SizesRight
    accepted_report left v f t g c =
        let m = links.source in
        let after = work_after sheet hosts table work in
        let calls : Loads sheet hosts table work (Ok l) left after = record { answers = sym q ∙ e; leaves = t; clears = refl } in
        let asked = sizes_right sheet hosts table work l left after m links.decodes calls left (unfold Begins in refl) in
        let declared : (x : ℕ) → size_in left x ≡ Ok (family_size (most_of m) m.types x) =
        λ x. asked.declared x (size_in left x) (record { answers = refl }) in
        let rule = subst ModuleRule module_is (counted_rule hosts sheet) in
        let lists = lines_are left m rule few declared in
        let first = g.done ∙ written_first lines (lines_in left 2032) in
        record {
          answers = is_judged;
          tells =
              ap₂ take g.words first
              ∙ take-append_seam (lines_in left 2032) (drop (length (lines_in left 2032)) lines)
              ∙ lists
              ∙ ap lines_of (sym module_is);
          rest =
              ap₂ drop g.words first
              ∙ drop-append_seam (lines_in left 2032) (drop (length (lines_in left 2032)) lines)
              ∙ ap (λ i. drop i lines) (sym g.words);
          words = g.words ∙ ap length lists ∙ lines_length m ∙ ap (λ m. 2 * structs_total m) (sym module_is);
          structs = count_is c ∙ ap structs_total (sym module_is);
          sizes = g.sizes ∙ sizes_are left m rule few declared ∙ ap sizes_total (sym module_is);
        }
