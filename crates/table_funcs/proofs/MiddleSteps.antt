-- Result + 1, reference registers, captures.
use Prim.Native.Nat.{ℕ, suc, ◌+◌, ◌≤◌, ◌<◌, min}
use mathlib.Core.Path.{◌≡◌, refl, ap, ap₂, ◌∙◌}
use mathlib.Core.List.{List, [], ◌∷◌, ◌++◌, map}
use mathlib.Core.Bool.{Bool, true, false, cond}
use native.Mathlib.Omega.{arith}
use lib.ListN.{length}
use Rattle.lists.specs.Lists.{places_from}
use Rattle.blocks.specs.Frame.{first_words}
use Rattle.reader.specs.Reader.{encode_words}
use Rattle.reader.specs.ValueLaws.{got_whole, list_within}
use Rattle.sheet.specs.Module.{ValueType, is_reference}
use Rattle.sheet.specs.Decode.{value_type}
use Rattle.canon.specs.Canon.{canon_word}
use Rattle.imports.specs.Params.{sig_results}
use Rattle.open_layout.specs.Opened.{module_in}
use Rattle.table.specs.Records.{canon_words, references, result_word}
use Rattle.writing.specs.Writing.{written}
use Rattle.writing.specs.WritingLaws.{join_first, join_room, join_written, join_place}
use Rattle.rule_frames.specs.declared.Frame.{Frame}
use Rattle.rule_frames.specs.Frames.{func_of}
use Rattle.table_values.specs.Values.{values_at, Values, Present}
use Rattle.table_values.specs.ValuesLaws.{values_present}
use Rattle.table_funcs.specs.FuncWords.{middle_words, Sound}
use Rattle.table_funcs.proofs.Rules.{clean}
use Rattle.table_funcs.proofs.HeadSteps.{regs_good, list_is, list_good, list_words, list_length}

-- ── no place is cut ──

places_least : {A : Type 0} (most : ℕ) (f : A → Bool) (k : ℕ) (xs : List A) → k + length xs ≤ most + 1 → map (min most) (places_from k f xs) ≡ places_from k f xs
places_least most f k [] h = refl
places_least {A} most f k (x ∷ xs) h = go (f x) (places_least most f (suc k) xs (omega arith))
  where
    go : (b : Bool) → map (min most) (places_from (suc k) f xs) ≡ places_from (suc k) f xs → map (min most) (cond b (k ∷ places_from (suc k) f xs) (places_from (suc k) f xs)) ≡ cond b (k ∷ places_from (suc k) f xs) (places_from (suc k) f xs)
    go true e = let z : min most k ≡ k = omega arith in ap₂ (λ i (l : List ℕ). i ∷ l) z e
    go false e = e

pub references_least : (most : ℕ) (vs : List ValueType) → length vs ≤ most → map (min most) (references vs) ≡ references vs
unfolding references
references_least most vs h = places_least most is_reference 0 vs (omega arith)

-- ── code ──

pub captures_in : (b : List ℕ) (n : ℕ) (c : Frame) → Sound (first_words b n) c → c.body.captures < n
captures_in b n c x = list_within value_type b n c.body.captures (got_whole x.framed.placed.captures)

module _ (ws : List ℕ) (c : Frame) (x : Sound ws c) where
  pub regs_present : Present ws (c.body.regs + 1) 1 c.regs
  regs_present = values_present ws (c.body.regs + 1) 1 c.regs (regs_good ws c x)

  pub captures_good : Values ws (c.body.captures + 1) 1 c.captures
  captures_good =
      list_good ws c.body.captures c.captures (func_of ws c).captures c.body.names x.framed.placed.captures x.framed.captures
      (clean (module_in ws) (func_of ws c) x.func).captures

  captures_words : encode_words (map (canon_word (module_in ws).types) (values_at ws (c.body.captures + 1) 1 c.captures)) ≡ canon_words (module_in ws) (func_of ws c).captures
  captures_words = list_words ws c.body.captures c.captures (func_of ws c).captures c.body.names x.framed.placed.captures x.framed.captures

  places_words : (most : ℕ) → 65536 ≤ most → encode_words (map (min most) (references (values_at ws (c.body.regs + 1) 1 c.regs))) ≡ encode_words (references (func_of ws c).regs)
  places_words most h =
      ap (λ l. encode_words (map (min most) (references l)))
      (list_is ws c.body.regs c.regs (func_of ws c).regs c.body.params x.framed.placed.regs x.framed.regs)
      ∙ ap encode_words (references_least most (func_of ws c).regs (omega (arith, (clean (module_in ws) (func_of ws c) x.func).few)))

  abbrev first : List ℕ
  first = result_word (module_in ws) (sig_results (module_in ws) (func_of ws c).sig) ∷ []

  abbrev second : List ℕ
  second = encode_words (references (func_of ws c).regs)

  abbrev third : List ℕ
  third = canon_words (module_in ws) (func_of ws c).captures

  module _ (t : List ℕ) (at : ℕ) (h : at + length (middle_words (module_in ws) (func_of ws c)) ≤ length t) where
    two_fit : at + length (first ++ second) ≤ length t
    unfolding middle_words
    two_fit = join_first t at (first ++ second) third h

    pub middle_first : at < length t
    middle_first = omega (arith, join_first t at first second two_fit)

    module _ {s : ℕ} (y : s ≡ result_word (module_in ws) (sig_results (module_in ws) (func_of ws c).sig)) (v : List ℕ) (p : ℕ) (e : v ≡ written t at (s ∷ [])) (k : p ≡ at + 1) where
      one : v ≡ written t at first
      one = e ∙ ap (λ i. written t at (i ∷ [])) y

      pub middle_second : p + length (encode_words (map (min 4294967295) (references (values_at ws (c.body.regs + 1) 1 c.regs)))) ≤ length v
      middle_second = omega (arith, ap length (places_words 4294967295 (omega arith)), join_room t at first second two_fit v p one k)

      module _ (u : List ℕ) (q : ℕ) (f : u ≡ written v p (encode_words (map (min 4294967295) (references (values_at ws (c.body.regs + 1) 1 c.regs)))))
          (l : q ≡ p + length (encode_words (map (min 4294967295) (references (values_at ws (c.body.regs + 1) 1 c.regs))))) where
        two : u ≡ written t at (first ++ second)
        two = join_written t at first second two_fit v p one k (f ∙ ap (written v p) (places_words 4294967295 (omega arith)))

        two_place : q ≡ at + length (first ++ second)
        two_place = join_place t at first second two_fit v p one k (l ∙ ap (λ i. p + length i) (places_words 4294967295 (omega arith)))

        pub middle_third : q + 1 + c.captures ≤ length u
        unfolding middle_words
        middle_third =
            omega (
              arith,
              join_room t at (first ++ second) third h u q two two_place,
              list_length ws c.body.captures c.captures (func_of ws c).captures c.body.names x.framed.placed.captures x.framed.captures,
            )

        pub middle_written : {z : List ℕ} → z ≡ written u q (encode_words (map (canon_word (module_in ws).types) (values_at ws (c.body.captures + 1) 1 c.captures))) → z ≡ written t at (middle_words (module_in ws) (func_of ws c))
        unfolding middle_words
        middle_written i = join_written t at (first ++ second) third h u q two two_place (i ∙ ap (written u q) captures_words)

        pub middle_place : {r : ℕ} → r ≡ q + length (encode_words (map (canon_word (module_in ws).types) (values_at ws (c.body.captures + 1) 1 c.captures))) → r ≡ at + length (middle_words (module_in ws) (func_of ws c))
        unfolding middle_words
        middle_place i = join_place t at (first ++ second) third h u q two two_place (i ∙ ap (λ l. q + length l) captures_words)
