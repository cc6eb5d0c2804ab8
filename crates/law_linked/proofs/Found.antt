-- What is found in the words that load left.
use Rattle.std.specs.Prelude.{◌≡◌, Bool, true, false, cond, ℕ, zero, suc, ◌<◌, ltb, length, drop}
use Rattle.std.proofs.Math.Path.{refl, ap}
use Rattle.std.proofs.Common.{◌∙◌, arith}
use mathlib.Core.List.{List, [], ◌∷◌, ◌++◌, append_assoc, map}
use Rattle.std.proofs.Math.ListN.{get_or, length-map, get_or-append}
use Rattle.std.proofs.Math.Seq.{take-append_seam, drop-append_seam}
use Rattle.lists.specs.Lists.{concat_map, from}
use Rattle.lists.specs.ListLaws.{length_from}
use Rattle.law_counting.specs.Places.{map_from_at}
use Rattle.reader.specs.Reader.{encode_list, encode_words}
use Rattle.sheet.specs.Module.{Func, Module}
use Rattle.sheet.specs.Decode.{hook_count}
use Rattle.host.specs.Host.{HostFn}
use Rattle.canon.specs.Canon.{canon_string, canon_type, canon_word}
use Rattle.imports.specs.Params.{sig_params, sig_results}
use Rattle.code.specs.Callee.{no_func, func_at}
use Rattle.table.specs.Records.{references, canon_words, type_record, few_handlers, catcher, catch_table, result_word, func_record, import_record, hook_word}
use Rattle.table.specs.Table.{hook_section, canon_section, global_section, reference_section, span_section, sections, joined, table_words}
use Rattle.law_linked.specs.Sections.{body_of, start_word, section_on}
use Rattle.law_linked.specs.Find.{section_from, counted, after_counted, hooks_in, canon_in, to_catch, catch_first, after_catch, after_funcs, catch_in}

-- ── lists with their count ──

counted_words : (xs rest : List ℕ) → counted (encode_words xs ++ rest) ≡ encode_words xs
unfolding counted
counted_words xs rest = ap (λ (l : List ℕ). length xs ∷ l) (take-append_seam xs rest)

after_words : (xs rest : List ℕ) → after_counted (encode_words xs ++ rest) ≡ rest
unfolding after_counted
after_words xs rest = drop-append_seam xs rest

-- ── sections ──

section_found : (front : List (List ℕ)) (s : List ℕ) (back : List (List ℕ)) → length (front ++ (s ∷ back)) ≡ 8 → (rest : List ℕ) →
    section_from (length front) (joined (front ++ (s ∷ back)) ++ rest) ≡ s ++ (body_of back ++ rest)
unfolding section_from
section_found front s back n rest =
    ap (λ (k : ℕ). drop k (joined (front ++ (s ∷ back)) ++ rest)) (start_word front s back n rest) ∙ section_on front s back n rest

-- ── catch tables ──

regroup : (a b c d e g h r : List ℕ) → (a ++ b ++ c ++ d ++ e ++ g ++ h) ++ r ≡ a ++ (b ++ (c ++ (d ++ (e ++ (g ++ (h ++ r))))))
regroup a b c d e g h r = simp append_assoc

to_catch_lem : (u v w x : ℕ) (rs bs cs ns ts k rest : List ℕ) →
    to_catch ((u ∷ v ∷ w ∷ (encode_words rs ++ (x ∷ []) ++ encode_words bs ++ encode_words cs ++ encode_words ns ++ encode_words ts ++ k)) ++ rest) ≡ k ++ rest
unfolding to_catch
to_catch_lem u v w x rs bs cs ns ts k rest =
    ap (λ (l : List ℕ). after_counted (after_counted (after_counted (after_counted (drop 1 (after_counted l))))))
    (regroup (encode_words rs) (x ∷ []) (encode_words bs) (encode_words cs) (encode_words ns) (encode_words ts) k rest)
    ∙ ap (λ (l : List ℕ). after_counted (after_counted (after_counted (after_counted (drop 1 l)))))
    (after_words rs ((x ∷ []) ++ (encode_words bs ++ (encode_words cs ++ (encode_words ns ++ (encode_words ts ++ (k ++ rest)))))))
    ∙ ap (λ (l : List ℕ). after_counted (after_counted (after_counted l))) (after_words bs (encode_words cs ++ (encode_words ns ++ (encode_words ts ++ (k ++ rest)))))
    ∙ ap (λ (l : List ℕ). after_counted (after_counted l)) (after_words cs (encode_words ns ++ (encode_words ts ++ (k ++ rest))))
    ∙ ap after_counted (after_words ns (encode_words ts ++ (k ++ rest)))
    ∙ after_words ts (k ++ rest)

record_catch : (m : Module) (f : Func) (rest : List ℕ) → to_catch (func_record m f ++ rest) ≡ catch_table f ++ rest
unfolding func_record canon_words
record_catch m f rest =
    to_catch_lem (canon_type m.types f.sig) (length f.regs) (length (sig_params m f.sig)) (result_word m (sig_results m f.sig))
    (map (canon_word m.types) f.regs) (references f.regs) (map (canon_word m.types) f.captures)
    (map (canon_string m.strings) f.names) (map (canon_type m.types) f.type_refs) (catch_table f) rest

catch_first_lem : (f : Func) (rest : List ℕ) → catch_first (catch_table f ++ rest) ≡ catch_table f
unfolding catch_first catch_table
catch_first_lem f rest = go (ltb few_handlers (length f.handlers)) (map (catcher f.handlers) (from 0 (length f.code)))
  where
    go : (b : Bool) (xs : List ℕ) → catch_first (cond b (1 ∷ encode_words xs) (0 ∷ []) ++ rest) ≡ cond b (1 ∷ encode_words xs) (0 ∷ [])
    go true xs = ap (λ (l : List ℕ). 1 ∷ length xs ∷ l) (take-append_seam xs rest)
    go false xs = refl

after_catch_lem : (f : Func) (rest : List ℕ) → after_catch (catch_table f ++ rest) ≡ rest
unfolding after_catch catch_table
after_catch_lem f rest = go (ltb few_handlers (length f.handlers)) (map (catcher f.handlers) (from 0 (length f.code)))
  where
    go : (b : Bool) (xs : List ℕ) → after_catch (cond b (1 ∷ encode_words xs) (0 ∷ []) ++ rest) ≡ rest
    go true xs = drop-append_seam xs rest
    go false xs = refl

-- at the record of function i
funcs_found : (m : Module) (fs : List Func) (i : ℕ) → i < length fs → (rest : List ℕ) →
    catch_first (to_catch (after_funcs i (concat_map (func_record m) fs ++ rest))) ≡ catch_table (get_or fs i no_func)
unfolding after_funcs
funcs_found m [] i h rest = absurd (omega arith)
funcs_found m (f ∷ fs) zero h rest =
    ap (λ (l : List ℕ). catch_first (to_catch l)) (append_assoc (func_record m f) (concat_map (func_record m) fs) rest)
    ∙ ap catch_first (record_catch m f (concat_map (func_record m) fs ++ rest))
    ∙ catch_first_lem f (concat_map (func_record m) fs ++ rest)
funcs_found m (f ∷ fs) (suc i) h rest =
    ap (λ (l : List ℕ). catch_first (to_catch (after_funcs i (after_catch (to_catch l))))) (append_assoc (func_record m f) (concat_map (func_record m) fs) rest)
    ∙ ap (λ (l : List ℕ). catch_first (to_catch (after_funcs i (after_catch l)))) (record_catch m f (concat_map (func_record m) fs ++ rest))
    ∙ ap (λ (l : List ℕ). catch_first (to_catch (after_funcs i l))) (after_catch_lem f (concat_map (func_record m) fs ++ rest))
    ∙ funcs_found m fs i (omega arith) rest

-- ── the table ──

module _ (most : ℕ) (hosts : List HostFn) (m : Module) (rest : List ℕ) where
  abbrev func_words : List ℕ
  func_words = encode_list (func_record m) m.funcs

  abbrev type_words : List ℕ
  type_words = encode_list (type_record m) m.types

  abbrev import_words : List ℕ
  import_words = encode_list (import_record hosts m) m.imports

  pub catch_found : (f : ℕ) → f < length m.funcs → catch_in (table_words most hosts m ++ rest) f ≡ catch_table (func_at m f)
  unfolding catch_in table_words sections func_at
  catch_found f h =
      let back = type_words ∷ import_words ∷ hook_section m ∷ canon_section m ∷ global_section m ∷ reference_section m ∷ span_section most m ∷ [] in
      ap (λ (l : List ℕ). catch_first (to_catch (after_funcs f (drop 1 l)))) (section_found [] func_words back refl rest)
      ∙ funcs_found m m.funcs f h (body_of back ++ rest)

  pub hooks_found : hooks_in (table_words most hosts m ++ rest) ≡ hook_section m
  unfolding hooks_in table_words sections hook_section
  hooks_found =
      let back = canon_section m ∷ global_section m ∷ reference_section m ∷ span_section most m ∷ [] in
      ap counted (section_found (func_words ∷ type_words ∷ import_words ∷ []) (hook_section m) back refl rest)
      ∙ counted_words (map (λ h. hook_word h 0 m.hooks) (from 0 hook_count)) (body_of back ++ rest)

  pub canon_found : (t : ℕ) → t < length m.types → canon_in (table_words most hosts m ++ rest) t ≡ canon_type m.types t
  unfolding canon_in table_words sections canon_section
  canon_found t h =
      let back = global_section m ∷ reference_section m ∷ span_section most m ∷ [] in
      let numbers = map (canon_type m.types) (from 0 (length m.types)) in
      ap (λ (l : List ℕ). get_or l (suc t) 0) (section_found (func_words ∷ type_words ∷ import_words ∷ hook_section m ∷ []) (canon_section m) back refl rest)
      ∙ get_or-append numbers (body_of back ++ rest) 0 t (omega (arith, length-map (from 0 (length m.types)) (canon_type m.types), length_from 0 (length m.types)))
      ∙ map_from_at (canon_type m.types) 0 (length m.types) t h
