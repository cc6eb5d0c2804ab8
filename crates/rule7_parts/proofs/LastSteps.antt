-- Instructions by position, and the last of them.
use Prim.Native.Nat.{ℕ, ◌+◌, ◌-◌, ◌*◌, ◌≤◌, ◌<◌}
use mathlib.Core.Path.{◌≡◌, sym, ap, ap₂, ◌∙◌}
use mathlib.Core.List.{List, [], ◌∷◌, ◌++◌, map}
use mathlib.Core.Bool.{Bool, true, false}
use native.Mathlib.Omega.{arith}
use lib.Dec.{ltb}
use lib.ListN.{length, get_or}
use borrow.Author.Tests.{lt-ltb, le-ltb}
use Rattle.blocks.specs.Frame.{first_words}
use Rattle.error.specs.declared.LoadErrorKind.TheVariants.{EmptyCode, FallsThrough}
use Rattle.std.specs.Prelude.{Err}
use Rattle.error.specs.Verdict.{Judged}
use Rattle.std.specs.Prelude.{Ok}
use Rattle.error.specs.Answer.{in_function, at_position, unless}
use Rattle.error.specs.Verdict.{judged_of, placed}
use Rattle.reader.specs.Reader.{got}
use Rattle.reader.specs.Value.{Whole, value_of}
use Rattle.reader.specs.ValueLaws.{got_whole, value_got}
use Rattle.sheet.specs.Module
use Rattle.sheet.specs.Module.{opcode}
use Rattle.sheet.specs.Decode.{inst_of}
use Rattle.code.specs.Opcodes.{row}
use Rattle.code.specs.Code.{unreachable, terminates, last_position, last_faults}
use Rattle.rule7_words.specs.declared.Inst.{Inst}
use Rattle.rule7_words.specs.Insts.{inst}
use Rattle.rule_frames.specs.declared.Frame.{Frame}
use Rattle.rule_frames.specs.Frames.{func_of, Framed}
use Rattle.rule7_parts.proofs.Sizes.{inst_takes, list_at, list_inside}

module _ (b : List ℕ) (n : ℕ) (c : Frame) (x : Framed (first_words b n) c) where
  pub code_inside : c.body.code + 1 + 2 * c.code ≤ n
  code_inside =
      let e : c.code ≡ length (func_of (first_words b n) c).code = x.code in
      let i : c.body.code + 1 + 2 * length (func_of (first_words b n) c).code ≤ n = list_inside inst_of 2 inst_takes b n c.body.code (func_of (first_words b n) c).code x.placed.end x.placed.code in
      omega arith

  module _ (pc : ℕ) (h : pc < c.code) where
    inst_read : inst_of (first_words b n) (c.body.code + 1 + 2 * pc) ≡ got (get_or (func_of (first_words b n) c).code pc unreachable) (c.body.code + 1 + 2 * pc + 2)
    inst_read =
        let e : c.code ≡ length (func_of (first_words b n) c).code = x.code in
        list_at inst_of 2 inst_takes b n c.body.code (func_of (first_words b n) c).code x.placed.end x.placed.code pc unreachable (omega arith)

    pub inst_whole : Whole (inst_of (first_words b n) (c.body.code + 1 + 2 * pc))
    inst_whole = got_whole inst_read

    pub inst_value : value_of unreachable (inst_of (first_words b n) (c.body.code + 1 + 2 * pc)) ≡ get_or (func_of (first_words b n) c).code pc unreachable
    inst_value = value_got unreachable inst_read

  -- ── the last ──

  pub last_whole : (c.code ≡ 0 → ⊥) → Whole (inst_of (first_words b n) (c.body.code + 1 + 2 * (c.code - 1)))
  last_whole h = inst_whole (c.code - 1) (omega arith)

  pub last_empty : {r : Judged} → c.code ≡ 0 → r ≡ placed (in_function c.func.0) (Err EmptyCode) → r ≡ judged_of (last_faults c.func.0 (func_of (first_words b n) c))
  unfolding last_faults placed judged_of
  last_empty h k =
      let f = func_of (first_words b n) c in
      let e : c.code ≡ length f.code = x.code in
      k ∙ ap
      (λ t. judged_of (map (in_function c.func.0) (unless t EmptyCode) ++ map (at_position c.func.0 (last_position f)) (unless (terminates (get_or f.code (last_position f) unreachable)) FallsThrough)))
      (sym (le-ltb 0 (length f.code) (omega arith)))

  module _ (i : Inst) {t : Bool} (h : c.code ≡ 0 → ⊥) (e : inst i ≡ value_of unreachable (inst_of (first_words b n) (c.body.code + 1 + 2 * (c.code - 1)))) {o : ℕ} (u : o ≡ opcode (inst i)) (z : t ≡ (row o).terminates) where
    last_is : t ≡ terminates (get_or (func_of (first_words b n) c).code (last_position (func_of (first_words b n) c)) unreachable)
    unfolding terminates last_position
    last_is =
        z ∙ ap (λ k. (row k).terminates) u
        ∙ ap (λ (j : Module.Inst). (row (opcode j)).terminates) (e ∙ inst_value (c.code - 1) (omega arith) ∙ ap (λ k. get_or (func_of (first_words b n) c).code (k - 1) unreachable) x.code)

    whole_code : true ≡ ltb 0 (length (func_of (first_words b n) c).code)
    whole_code = let k : c.code ≡ length (func_of (first_words b n) c).code = x.code in sym (lt-ltb 0 (length (func_of (first_words b n) c).code) (omega arith))

    pub last_passes : t ≡ true → Ok tt ≡ judged_of (last_faults c.func.0 (func_of (first_words b n) c))
    unfolding last_faults judged_of
    last_passes y =
        ap₂ (λ a d. judged_of (map (in_function c.func.0) (unless a EmptyCode) ++ map (at_position c.func.0 (last_position (func_of (first_words b n) c))) (unless d FallsThrough)))
        whole_code
        (sym y ∙ last_is)

    pub last_falls : {r : Judged} → t ≡ false → r ≡ placed (at_position c.func.0 (c.code - 1)) (Err FallsThrough) → r ≡ judged_of (last_faults c.func.0 (func_of (first_words b n) c))
    unfolding last_faults placed judged_of last_position
    last_falls y k =
        k ∙ ap (λ m. judged_of (at_position c.func.0 (m - 1) FallsThrough ∷ [])) x.code
        ∙ ap₂ (λ a d. judged_of (map (in_function c.func.0) (unless a EmptyCode) ++ map (at_position c.func.0 (length (func_of (first_words b n) c).code - 1)) (unless d FallsThrough)))
        whole_code
        (sym y ∙ last_is)

pub ruleset lasts = (last_whole, last_empty, last_passes, last_falls)
