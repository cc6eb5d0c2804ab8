-- Signature, numbers of registers and parameters, registers.
use Prim.Native.Nat.{ℕ, ◌+◌, ◌*◌, ◌≤◌, ◌<◌}
use mathlib.Core.Path.{◌≡◌, refl, sym, ap, ap₂, ◌∙◌}
use mathlib.Core.List.{List, [], ◌∷◌, map}
use native.Mathlib.Omega.{arith}
use lib.ListN.{length, length-map}
use Rattle.lists.specs.Lists.{concat_map}
use Rattle.blocks.specs.Frame.{first_words}
use Rattle.reader.specs.Reader.{encode_words, got, list_of}
use Rattle.reader.specs.Value.{value_of}
use Rattle.reader.specs.ValueLaws.{got_whole, value_got, list_within}
use Rattle.sheet.specs.Module.{ValueType, Func, Module}
use Rattle.sheet.specs.Decode.{value_type}
use Rattle.canon.specs.Canon.{canon_type, canon_word}
use Rattle.types.specs.Types.{value_faults}
use Rattle.imports.specs.Params.{sig_params}
use Rattle.open_layout.specs.Opened.{module_in}
use Rattle.open_sheet.specs.declared.Opened.{Opened}
use Rattle.open_sheet.specs.Ready.{Ready, pos_at}
use Rattle.open_sheet.specs.ReadyLaws.{types_inside, type_canon}
use Rattle.table.specs.Records.{canon_words}
use Rattle.writing.specs.Writing.{written}
use Rattle.writing.specs.WritingLaws.{join_first, join_room, join_written, join_place, written_three}
use Rattle.rule_frames.specs.declared.Frame.{Frame}
use Rattle.rule_frames.specs.Frames.{func_of}
use Rattle.table_values.specs.Values.{values_at, Values}
use Rattle.table_values.specs.ValuesLaws.{values_list, values_length, list_values}
use Rattle.table_funcs.specs.FuncWords.{count_words, head_words, Sound}
use Rattle.table_funcs.proofs.Rules.{clean}
use Rattle.table_funcs.proofs.Results.{sig_has}

-- ── signature and counts ──

counts_length : (m : Module) (f : Func) → length (count_words m f) ≡ 3
unfolding count_words
counts_length m f = refl

pub counts_room : (ws : List ℕ) (c : Frame) → Sound ws c → (t : List ℕ) (at : ℕ) → at + length (count_words (module_in ws) (func_of ws c)) ≤ length t → at + 3 ≤ length t
counts_room ws c x t at h = omega (arith, counts_length (module_in ws) (func_of ws c))

module _ (ws w : List ℕ) (o : Opened) (y : Ready ws w o) (c : Frame) (x : Sound ws c) where
  pub sig_room : 2 * o.layout.words + c.body.sig.0 < length w
  sig_room = omega (arith, (sig_has ws c x).inside, types_inside ws w o y, y.room)

  module _ {s n : ℕ} (e : s ≡ pos_at w (2 * o.layout.words) c.body.sig.0) (k : n ≡ length (sig_params (module_in ws) c.body.sig.0)) where
    counts_are : s ∷ c.regs ∷ n ∷ [] ≡ count_words (module_in ws) (func_of ws c)
    unfolding count_words
    counts_are =
        let es : s ≡ canon_type (module_in ws).types (func_of ws c).sig =
        e ∙ type_canon ws w o y c.body.sig.0 (sig_has ws c x).inside ∙ ap (canon_type (module_in ws).types) x.framed.placed.sig in
        let en : n ≡ length (sig_params (module_in ws) (func_of ws c).sig) = k ∙ ap (λ t. length (sig_params (module_in ws) t)) x.framed.placed.sig in
        ap₂ (λ i (l : List ℕ). i ∷ l) es (ap₂ (λ i j. i ∷ j ∷ []) x.framed.regs en)

    pub counts_written : (t : List ℕ) (at : ℕ) {z : List ℕ} → z ≡ written t at (s ∷ c.regs ∷ n ∷ []) → z ≡ written t at (count_words (module_in ws) (func_of ws c))
    counts_written t at i = i ∙ ap (written t at) counts_are

pub counts_place : (ws : List ℕ) (c : Frame) → Sound ws c → (at r : ℕ) → r ≡ at + 3 → r ≡ at + length (count_words (module_in ws) (func_of ws c))
counts_place ws c x at r i = omega (arith, counts_length (module_in ws) (func_of ws c))

-- ── a list of value types that stands in the sheet ──

module _ (ws : List ℕ) (at n : ℕ) (vs : List ValueType) (q : ℕ) (e : list_of value_type ws at ≡ got vs q) (k : n ≡ length vs) where
  same_count : n ≡ length (value_of [] (list_of value_type ws at))
  same_count = k ∙ sym (ap length (value_got [] e))

  pub list_is : values_at ws (at + 1) 1 n ≡ vs
  list_is = values_list ws at n (got_whole e) same_count ∙ value_got [] e

  pub list_good : concat_map (value_faults (module_in ws)) vs ≡ [] → Values ws (at + 1) 1 n
  list_good h = list_values ws at n (got_whole e) same_count (ap (concat_map (value_faults (module_in ws))) (value_got [] e) ∙ h)

  pub list_words : encode_words (map (canon_word (module_in ws).types) (values_at ws (at + 1) 1 n)) ≡ canon_words (module_in ws) vs
  unfolding canon_words
  list_words = ap (λ l. encode_words (map (canon_word (module_in ws).types) l)) list_is

  pub list_length : length (canon_words (module_in ws) vs) ≡ 1 + n
  list_length = omega (arith, ap length (sym list_words), length-map (values_at ws (at + 1) 1 n) (canon_word (module_in ws).types), values_length ws (at + 1) 1 n)

-- ── registers ──

pub regs_in : (b : List ℕ) (n : ℕ) (c : Frame) → Sound (first_words b n) c → c.body.regs < n
regs_in b n c x = list_within value_type b n c.body.regs (got_whole x.framed.placed.regs)

module _ (ws : List ℕ) (c : Frame) (x : Sound ws c) where
  pub regs_good : Values ws (c.body.regs + 1) 1 c.regs
  regs_good = list_good ws c.body.regs c.regs (func_of ws c).regs c.body.params x.framed.placed.regs x.framed.regs (clean (module_in ws) (func_of ws c) x.func).regs

  regs_words : encode_words (map (canon_word (module_in ws).types) (values_at ws (c.body.regs + 1) 1 c.regs)) ≡ canon_words (module_in ws) (func_of ws c).regs
  regs_words = list_words ws c.body.regs c.regs (func_of ws c).regs c.body.params x.framed.placed.regs x.framed.regs

  module _ (t : List ℕ) (at : ℕ) (h : at + length (head_words (module_in ws) (func_of ws c)) ≤ length t) where
    pub head_first : at + length (count_words (module_in ws) (func_of ws c)) ≤ length t
    unfolding head_words
    head_first = join_first t at (count_words (module_in ws) (func_of ws c)) (canon_words (module_in ws) (func_of ws c).regs) h

    module _ (v : List ℕ) (p : ℕ) (e : v ≡ written t at (count_words (module_in ws) (func_of ws c))) (k : p ≡ at + length (count_words (module_in ws) (func_of ws c))) where
      pub head_room : p + 1 + c.regs ≤ length v
      unfolding head_words
      head_room =
          omega (
            arith,
            join_room t at (count_words (module_in ws) (func_of ws c)) (canon_words (module_in ws) (func_of ws c).regs) h v p e k,
            list_length ws c.body.regs c.regs (func_of ws c).regs c.body.params x.framed.placed.regs x.framed.regs,
          )

      pub head_written : {u : List ℕ} → u ≡ written v p (encode_words (map (canon_word (module_in ws).types) (values_at ws (c.body.regs + 1) 1 c.regs))) → u ≡ written t at (head_words (module_in ws) (func_of ws c))
      unfolding head_words
      head_written i = join_written t at (count_words (module_in ws) (func_of ws c)) (canon_words (module_in ws) (func_of ws c).regs) h v p e k (i ∙ ap (written v p) regs_words)

      pub head_place : {q : ℕ} → q ≡ p + length (encode_words (map (canon_word (module_in ws).types) (values_at ws (c.body.regs + 1) 1 c.regs))) → q ≡ at + length (head_words (module_in ws) (func_of ws c))
      unfolding head_words
      head_place i = join_place t at (count_words (module_in ws) (func_of ws c)) (canon_words (module_in ws) (func_of ws c).regs) h v p e k (i ∙ ap (λ l. p + length l) regs_words)
