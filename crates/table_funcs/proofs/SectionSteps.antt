-- A function's record, and all functions by number.
use Prim.Native.Nat.{ℕ, ◌+◌, ◌*◌, ◌≤◌, ◌<◌}
use mathlib.Core.Path.{◌≡◌, sym, ap, ap₂, subst, ◌∙◌}
use mathlib.Core.List.{List, [], ◌∷◌, ◌++◌, map, append_assoc}
use native.Mathlib.Omega.{arith}
use lib.ListN.{length}
use Rattle.error.specs.declared.FuncId.{FuncId}
use Rattle.error.specs.Answer.{in_function}
use Rattle.law_faults.specs.Empty.{map_empty, every_from}
use Rattle.reader.specs.Reader.{encode_list, encode_words}
use Rattle.sheet.specs.Module.{Func, Module}
use Rattle.open_layout.specs.Opened.{module_in}
use Rattle.region.specs.Region as region
use Rattle.region.specs.RegionLaws.{frame_refl, frame_then}
use Rattle.open_sheet.specs.declared.Opened.{Opened}
use Rattle.open_sheet.specs.Ready.{Ready}
use Rattle.open_sheet.specs.ReadyLaws.{count_funcs, types_inside, ready_below}
use Rattle.canon.specs.Canon.{canon_string, canon_type}
use Rattle.imports.specs.Params.{sig_params, sig_results}
use Rattle.types.specs.Types.{types_faults}
use Rattle.funcs.specs.Funcs.{func_faults, funcs_faults}
use Rattle.code.specs.Callee.{no_func, func_at}
use Rattle.table.specs.Records.{canon_words, references, result_word, catch_table, func_record}
use Rattle.writing.specs.Writing.{written, words_of, Writes}
use Rattle.writing.specs.WritingLaws.{written_then, written_length, words_are, writes_start, writes_next, writes_end, writes_place, writes_length, writes_room, join_first, join_room, join_written, join_place}
use Rattle.rule_frames.specs.declared.Frame.{Frame}
use Rattle.rule_frames.specs.Frames.{func_of, Framed}
use Rattle.table_funcs.specs.FuncWords.{count_words, head_words, middle_words, tail_words, Sound}

-- ── one function ──

regroup : (k r s p c n t h : List ℕ) → k ++ (r ++ s ++ p ++ c ++ n ++ t ++ h) ≡ (k ++ r) ++ (s ++ p ++ c) ++ (n ++ t ++ h)
regroup k r s p c n t h = simp append_assoc

record_parts : (m : Module) (f : Func) → func_record m f ≡ head_words m f ++ middle_words m f ++ tail_words m f
unfolding func_record head_words count_words middle_words tail_words
record_parts m f =
    regroup
    (canon_type m.types f.sig ∷ length f.regs ∷ length (sig_params m f.sig) ∷ [])
    (canon_words m f.regs)
    (result_word m (sig_results m f.sig) ∷ [])
    (encode_words (references f.regs))
    (canon_words m f.captures)
    (encode_words (map (canon_string m.strings) f.names))
    (encode_words (map (canon_type m.types) f.type_refs))
    (catch_table f)

module _ (ws w : List ℕ) (o : Opened) (y : Ready ws w o) (few : o.layout.words ≤ 520192) (ts : types_faults (module_in ws) ≡ []) (f : FuncId)
    (fs : func_faults (module_in ws) (func_at (module_in ws) f.0) ≡ []) (c : Frame) (x : Framed ws c) (i : c.func ≡ f) where
  same_func : func_at (module_in ws) f.0 ≡ func_of ws c
  unfolding func_of
  same_func = ap (λ (g : FuncId). func_at (module_in ws) g.0) (sym i)

  pub sound : Sound ws c
  sound = record { framed = x; types = ts; func = ap (func_faults (module_in ws)) (sym same_func) ∙ fs; few = omega (arith, types_inside ws w o y) }

module _ (ws : List ℕ) (c : Frame) (f : FuncId) (i : c.func ≡ f) where
  parts : func_record (module_in ws) (func_at (module_in ws) f.0) ≡ head_words (module_in ws) (func_of ws c) ++ middle_words (module_in ws) (func_of ws c) ++ tail_words (module_in ws) (func_of ws c)
  unfolding func_of
  parts = ap (λ (g : FuncId). func_record (module_in ws) (func_at (module_in ws) g.0)) (sym i) ∙ record_parts (module_in ws) (func_at (module_in ws) c.func.0)

  module _ (t : List ℕ) (at : ℕ) (h : at + length (func_record (module_in ws) (func_at (module_in ws) f.0)) ≤ length t) where
    fit : at + length (head_words (module_in ws) (func_of ws c) ++ middle_words (module_in ws) (func_of ws c) ++ tail_words (module_in ws) (func_of ws c)) ≤ length t
    fit = subst (λ l. at + length l ≤ length t) parts h

    two_fit : at + length (head_words (module_in ws) (func_of ws c) ++ middle_words (module_in ws) (func_of ws c)) ≤ length t
    two_fit = join_first t at (head_words (module_in ws) (func_of ws c) ++ middle_words (module_in ws) (func_of ws c)) (tail_words (module_in ws) (func_of ws c)) fit

    pub func_first : at + length (head_words (module_in ws) (func_of ws c)) ≤ length t
    func_first = join_first t at (head_words (module_in ws) (func_of ws c)) (middle_words (module_in ws) (func_of ws c)) two_fit

    module _ (v : List ℕ) (p : ℕ) (e : v ≡ written t at (head_words (module_in ws) (func_of ws c))) (k : p ≡ at + length (head_words (module_in ws) (func_of ws c))) where
      pub func_second : p + length (middle_words (module_in ws) (func_of ws c)) ≤ length v
      func_second = join_room t at (head_words (module_in ws) (func_of ws c)) (middle_words (module_in ws) (func_of ws c)) two_fit v p e k

      module _ (u : List ℕ) (q : ℕ) (g : u ≡ written v p (middle_words (module_in ws) (func_of ws c))) (l : q ≡ p + length (middle_words (module_in ws) (func_of ws c))) where
        two : u ≡ written t at (head_words (module_in ws) (func_of ws c) ++ middle_words (module_in ws) (func_of ws c))
        two = join_written t at (head_words (module_in ws) (func_of ws c)) (middle_words (module_in ws) (func_of ws c)) two_fit v p e k g

        two_place : q ≡ at + length (head_words (module_in ws) (func_of ws c) ++ middle_words (module_in ws) (func_of ws c))
        two_place = join_place t at (head_words (module_in ws) (func_of ws c)) (middle_words (module_in ws) (func_of ws c)) two_fit v p e k l

        pub func_third : q + length (tail_words (module_in ws) (func_of ws c)) ≤ length u
        func_third = join_room t at (head_words (module_in ws) (func_of ws c) ++ middle_words (module_in ws) (func_of ws c)) (tail_words (module_in ws) (func_of ws c)) fit u q two two_place

        pub func_written : {z : List ℕ} → z ≡ written u q (tail_words (module_in ws) (func_of ws c)) → z ≡ written t at (func_record (module_in ws) (func_at (module_in ws) f.0))
        func_written b =
            join_written t at (head_words (module_in ws) (func_of ws c) ++ middle_words (module_in ws) (func_of ws c)) (tail_words (module_in ws) (func_of ws c)) fit u q two two_place b
            ∙ ap (written t at) (sym parts)

        pub func_place : {r : ℕ} → r ≡ q + length (tail_words (module_in ws) (func_of ws c)) → r ≡ at + length (func_record (module_in ws) (func_at (module_in ws) f.0))
        func_place b =
            join_place t at (head_words (module_in ws) (func_of ws c) ++ middle_words (module_in ws) (func_of ws c)) (tail_words (module_in ws) (func_of ws c)) fit u q two two_place b
            ∙ ap (λ l. at + length l) (sym parts)

-- ── functions by number ──

-- where functions hold, function f does
pub func_holds : (m : Module) (f : ℕ) → funcs_faults m ≡ [] → f < length m.funcs → func_faults m (func_at m f) ≡ []
unfolding funcs_faults func_at
func_holds m f e h = (map_empty (in_function f) (func_faults m (func_at m f))).0 ((every_from no_func (λ i g. map (in_function i) (func_faults m g)) m.funcs).0 e f h)

-- the records of the functions below f are written after the count
pub record Recorded (ws w₀ w : List ℕ) (o : Opened) (t₀ : List ℕ) (s f : ℕ) (t : List ℕ) (p : ℕ) : Type 0 where
  pub ready : Ready ws w o
  pub kept : region.Frame (λ k. k < 6 * o.layout.words) w₀ w
  pub most : f ≤ o.counts.funcs
  pub writes : Writes (func_record (module_in ws)) (module_in ws).funcs t₀ s f t p

module _ (ws w₀ : List ℕ) (o : Opened) where
  pub recorded_start : Ready ws w₀ o → (t : List ℕ) (s : ℕ) → Recorded ws w₀ w₀ o t s 0 t s
  recorded_start y t s = record { ready = y; kept = frame_refl _ w₀; most = omega arith; writes = writes_start (func_record (module_in ws)) (module_in ws).funcs t s }

  module _ (t : List ℕ) (at : ℕ) (h : at + length (encode_list (func_record (module_in ws)) (module_in ws).funcs) ≤ length t) where
    pub section_first : at < length t
    section_first = omega arith

    module _ (t₀ : List ℕ) (s : ℕ) (e : t₀ ≡ written t at (o.counts.funcs ∷ [])) (k : s ≡ at + 1) where
      count_length : length t₀ ≡ length t
      count_length = ap length e ∙ written_length t at (o.counts.funcs ∷ []) (omega arith)

      all_fit : s + length (words_of (func_record (module_in ws)) (module_in ws).funcs) ≤ length t₀
      all_fit = omega (arith, count_length, ap length (words_are (func_record (module_in ws)) (module_in ws).funcs))

      module _ (w : List ℕ) (f : ℕ) (v : List ℕ) (p : ℕ) (x : Recorded ws w₀ w o t₀ s f v p) where
        count : o.counts.funcs ≡ length (module_in ws).funcs
        count = count_funcs ws o x.ready.opens

        pub recorded_length : length v ≡ length t
        recorded_length = writes_length (func_record (module_in ws)) (module_in ws).funcs t₀ s f v p x.writes all_fit ∙ count_length

        pub recorded_written : o.counts.funcs ≤ f → v ≡ written t at (encode_list (func_record (module_in ws)) (module_in ws).funcs)
        recorded_written l =
            let z : f ≡ length (module_in ws).funcs = omega (arith, x.most, count) in
            writes_end (func_record (module_in ws)) (module_in ws).funcs t₀ s f v p x.writes z
            ∙ ap₂ (λ a i. written a i (words_of (func_record (module_in ws)) (module_in ws).funcs)) e k
            ∙ written_then t at (o.counts.funcs ∷ []) (words_of (func_record (module_in ws)) (module_in ws).funcs) (omega arith)
            ∙ ap₂ (λ n l. written t at (n ∷ l)) count (words_are (func_record (module_in ws)) (module_in ws).funcs)

        pub recorded_place : o.counts.funcs ≤ f → p ≡ at + length (encode_list (func_record (module_in ws)) (module_in ws).funcs)
        recorded_place l =
            let z : f ≡ length (module_in ws).funcs = omega (arith, x.most, count) in
            omega (arith, writes_place (func_record (module_in ws)) (module_in ws).funcs t₀ s f v p x.writes z, ap length (words_are (func_record (module_in ws)) (module_in ws).funcs))

        module _ (l : f < o.counts.funcs) where
          pub recorded_holds : funcs_faults (module_in ws) ≡ [] → func_faults (module_in ws) (func_at (module_in ws) f) ≡ []
          recorded_holds b = func_holds (module_in ws) f b (omega (arith, count))

          pub recorded_room : p + length (func_record (module_in ws) (func_at (module_in ws) f)) ≤ length v
          unfolding func_at
          recorded_room = writes_room (func_record (module_in ws)) (module_in ws).funcs t₀ s f v p no_func x.writes (omega (arith, count)) all_fit

          pub recorded_next : (w₂ v₂ : List ℕ) (q : ℕ) → v₂ ≡ written v p (func_record (module_in ws) (func_at (module_in ws) f)) → q ≡ p + length (func_record (module_in ws) (func_at (module_in ws) f))
              → region.Frame (λ k. k < 6 * o.layout.words) w w₂ → Recorded ws w₀ w₂ o t₀ s (f + 1) v₂ q
          unfolding func_at
          recorded_next w₂ v₂ q a b g = record {
            ready = ready_below ws w o x.ready w₂ (record { len = g.len; same = λ i j. g.same i (omega arith) });
            kept = frame_then (λ k. k < 6 * o.layout.words) (λ k. k < 6 * o.layout.words) (λ k. k < 6 * o.layout.words) w₀ w w₂ (λ i j. j) (λ i j. j) x.kept g;
            most = omega arith;
            writes = writes_next (func_record (module_in ws)) (module_in ws).funcs t₀ s f v p v₂ q no_func (omega (arith, all_fit)) (omega (arith, count)) x.writes a b;
          }
