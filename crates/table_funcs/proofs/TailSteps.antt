-- Names, type refs, catch table.
use Prim.Native.Nat.{ℕ, ◌+◌, ◌≤◌}
use mathlib.Core.Path.{◌≡◌, ap, ◌∙◌}
use mathlib.Core.List.{List, [], ◌++◌, map}
use native.Mathlib.Omega.{arith}
use lib.ListN.{length, length-map}
use Rattle.lists.specs.Lists.{concat_map}
use Rattle.error.specs.declared.What.TheVariants.{Types}
use Rattle.error.specs.Answer.{in_range}
use Rattle.reader.specs.Reader.{encode_words, word, list_of}
use Rattle.reader.specs.Value.{Whole, value_of}
use Rattle.reader.specs.ValueLaws.{got_whole, value_got}
use Rattle.canon.specs.Canon.{canon_string, canon_type}
use Rattle.types.specs.Types.{string_faults}
use Rattle.open_layout.specs.Opened.{module_in}
use Rattle.law_judging.specs.Judging.{list_faults}
use Rattle.table.specs.Records.{catch_table}
use Rattle.writing.specs.Writing.{written}
use Rattle.writing.specs.WritingLaws.{join_first, join_room, join_written, join_place}
use Rattle.rule_frames.specs.declared.Frame.{Frame}
use Rattle.rule_frames.specs.Frames.{func_of, Framed}
use Rattle.table_funcs.specs.FuncWords.{tail_words, Sound}
use Rattle.table_funcs.proofs.Rules.{clean}

module _ (ws : List ℕ) (c : Frame) (x : Sound ws c) where
  pub sound_framed : Framed ws c
  sound_framed = x.framed

  pub names_whole : Whole (list_of word ws c.body.names)
  names_whole = got_whole x.framed.placed.names

  pub refs_whole : Whole (list_of word ws c.body.type_refs)
  refs_whole = got_whole x.framed.placed.type_refs

  names_are : value_of [] (list_of word ws c.body.names) ≡ (func_of ws c).names
  names_are = value_got [] x.framed.placed.names

  refs_are : value_of [] (list_of word ws c.body.type_refs) ≡ (func_of ws c).type_refs
  refs_are = value_got [] x.framed.placed.type_refs

  pub names_good : list_faults (string_faults (module_in ws)) (list_of word ws c.body.names) ≡ []
  unfolding list_faults
  names_good = ap (concat_map (string_faults (module_in ws))) names_are ∙ (clean (module_in ws) (func_of ws c) x.func).names

  pub refs_good : list_faults (in_range Types (length (module_in ws).types)) (list_of word ws c.body.type_refs) ≡ []
  unfolding list_faults
  refs_good = ap (concat_map (in_range Types (length (module_in ws).types))) refs_are ∙ (clean (module_in ws) (func_of ws c) x.func).type_refs

  abbrev first : List ℕ
  first = encode_words (map (canon_string (module_in ws).strings) (func_of ws c).names)

  abbrev second : List ℕ
  second = encode_words (map (canon_type (module_in ws).types) (func_of ws c).type_refs)

  names_words : encode_words (map (canon_string (module_in ws).strings) (value_of [] (list_of word ws c.body.names))) ≡ first
  names_words = ap (λ l. encode_words (map (canon_string (module_in ws).strings) l)) names_are

  refs_words : encode_words (map (canon_type (module_in ws).types) (value_of [] (list_of word ws c.body.type_refs))) ≡ second
  refs_words = ap (λ l. encode_words (map (canon_type (module_in ws).types) l)) refs_are

  module _ (t : List ℕ) (at : ℕ) (h : at + length (tail_words (module_in ws) (func_of ws c)) ≤ length t) where
    two_fit : at + length (first ++ second) ≤ length t
    unfolding tail_words
    two_fit = join_first t at (first ++ second) (catch_table (func_of ws c)) h

    pub tail_first : at + 1 + length (value_of [] (list_of word ws c.body.names)) ≤ length t
    tail_first = omega (arith, join_first t at first second two_fit, ap length names_are, length-map (func_of ws c).names (canon_string (module_in ws).strings))

    module _ (v : List ℕ) (p : ℕ) (e : v ≡ written t at (encode_words (map (canon_string (module_in ws).strings) (value_of [] (list_of word ws c.body.names)))))
        (k : p ≡ at + length (encode_words (map (canon_string (module_in ws).strings) (value_of [] (list_of word ws c.body.names))))) where
      one : v ≡ written t at first
      one = e ∙ ap (written t at) names_words

      one_place : p ≡ at + length first
      one_place = k ∙ ap (λ l. at + length l) names_words

      pub tail_second : p + 1 + length (value_of [] (list_of word ws c.body.type_refs)) ≤ length v
      tail_second = omega (arith, join_room t at first second two_fit v p one one_place, ap length refs_are, length-map (func_of ws c).type_refs (canon_type (module_in ws).types))

      module _ (u : List ℕ) (q : ℕ) (f : u ≡ written v p (encode_words (map (canon_type (module_in ws).types) (value_of [] (list_of word ws c.body.type_refs)))))
          (l : q ≡ p + length (encode_words (map (canon_type (module_in ws).types) (value_of [] (list_of word ws c.body.type_refs))))) where
        two : u ≡ written t at (first ++ second)
        two = join_written t at first second two_fit v p one one_place (f ∙ ap (written v p) refs_words)

        two_place : q ≡ at + length (first ++ second)
        two_place = join_place t at first second two_fit v p one one_place (l ∙ ap (λ i. p + length i) refs_words)

        pub tail_third : q + length (catch_table (func_of ws c)) ≤ length u
        unfolding tail_words
        tail_third = join_room t at (first ++ second) (catch_table (func_of ws c)) h u q two two_place

        pub tail_written : {z : List ℕ} → z ≡ written u q (catch_table (func_of ws c)) → z ≡ written t at (tail_words (module_in ws) (func_of ws c))
        unfolding tail_words
        tail_written i = join_written t at (first ++ second) (catch_table (func_of ws c)) h u q two two_place i

        pub tail_place : {r : ℕ} → r ≡ q + length (catch_table (func_of ws c)) → r ≡ at + length (tail_words (module_in ws) (func_of ws c))
        unfolding tail_words
        tail_place i = join_place t at (first ++ second) (catch_table (func_of ws c)) h u q two two_place i
