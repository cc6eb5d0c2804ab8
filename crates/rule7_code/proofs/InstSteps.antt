-- Instructions by position, with how far handlers reach.
use Prim.Native.Nat.{ℕ, ◌+◌, ◌*◌, ◌≤◌, ◌<◌, max}
use mathlib.Core.Path.{◌≡◌, sym, ap, ap₂, ◌∙◌}
use mathlib.Core.List.{List, ◌++◌}
use mathlib.Core.Bool.{Bool}
use native.Mathlib.Omega.{arith}
use lib.Dec.{ltb}
use lib.ListN.{length, get_or}
use Rattle.lists.specs.Lists.{any_of}
use Rattle.blocks.specs.Frame.{first_words}
use Rattle.error.specs.declared.LoadError.{LoadError}
use Rattle.error.specs.Verdict.{Verdict}
use Rattle.error.specs.Verdict.{Judged}
use Rattle.std.specs.Prelude.{Err, Ok}
use Rattle.error.specs.Answer.{at_position}
use Rattle.error.specs.Verdict.{verdict_of, judged_of, placed}
use Rattle.error.specs.VerdictLaws.{placed_faults_lem}
use Rattle.reader.specs.Value.{value_of}
use Rattle.sheet.specs.Module
use Rattle.sheet.specs.Module.{opcode}
use Rattle.sheet.specs.Decode.{inst_of}
use Rattle.open_layout.specs.Opened.{module_in}
use Rattle.code.specs.Opcodes.{row}
use Rattle.code.specs.Code.{covers, fields_faults, rule_faults, inst_faults, placed_faults, unreachable}
use Rattle.open_sheet.specs.declared.Opened.{Opened}
use Rattle.open_sheet.specs.Ready.{Ready}
use Rattle.law_judging.specs.Clearing.{Clears, clears_start, clears_passed, clears_on, clears_refused}
use Rattle.rule_frames.specs.declared.Frame.{Frame}
use Rattle.rule_frames.specs.Frames.{func_of, Framed}
use Rattle.rule7_code.specs.Sweep.{insts_faults, reach_of, Ends}
use Rattle.rule7_code.proofs.Cover.{cover_reach, reach_start, reach_next}
use Rattle.rule7_parts.proofs.LastSteps.{code_inside, inst_value}

-- nothing is broken before pc, and the handlers that start before pc reach so far
pub record Sweeps (ws : List ℕ) (c : Frame) (pc reach : ℕ) : Type 0 where
  pub clears : Clears (placed_faults (module_in ws) c.func.0 (func_of ws c)) (func_of ws c).code pc
  pub far : reach ≡ reach_of pc (func_of ws c).handlers

pub sweeps_start : (ws : List ℕ) (c : Frame) → Sweeps ws c 0 0
sweeps_start ws c = record {
  clears = clears_start (placed_faults (module_in ws) c.func.0 (func_of ws c)) (func_of ws c).code;
  far = reach_start (func_of ws c).handlers;
}

pub sweeps_room : (b w : List ℕ) (o : Opened) (c : Frame) (pc : ℕ) → Ready (first_words b o.layout.words) w o → Framed (first_words b o.layout.words) c → pc < c.code →
    6 * o.layout.words + pc < length w
sweeps_room b w o c pc r x h = omega (arith, r.room, code_inside b o.layout.words c x)

module _ (b w : List ℕ) (o : Opened) (c : Frame) (x : Framed (first_words b o.layout.words) c) (pc reach : ℕ) (s : Sweeps (first_words b o.layout.words) c pc reach) where
  pub sweeps_end : c.code ≤ pc → Ok tt ≡ judged_of (insts_faults (module_in (first_words b o.layout.words)) c.func.0 (func_of (first_words b o.layout.words) c))
  unfolding insts_faults
  sweeps_end h =
      let ws = first_words b o.layout.words in
      let e : c.code ≡ length (func_of ws c).code = x.code in
      clears_passed (placed_faults (module_in ws) c.func.0 (func_of ws c)) (func_of ws c).code pc s.clears (omega arith)

  module _ (y : Ends (first_words b o.layout.words) w o c) (h : pc < c.code) {end far : ℕ} (u : end ≡ get_or w (6 * o.layout.words + pc) 0) (v : far ≡ max reach end) where
    reaches : far ≡ reach_of (pc + 1) (func_of (first_words b o.layout.words) c).handlers
    reaches =
        v ∙ ap₂ max s.far (u ∙ y.ends pc h) ∙ sym (reach_next pc (func_of (first_words b o.layout.words) c).handlers)

    inside : pc < length (func_of (first_words b o.layout.words) c).code
    inside = let e : c.code ≡ length (func_of (first_words b o.layout.words) c).code = x.code in omega arith

    module _ {g : Bool} {r : Verdict} {j : Judged} (covered : g ≡ ltb pc far)
        (k : r ≡ verdict_of (
        fields_faults (module_in (first_words b o.layout.words)) (func_of (first_words b o.layout.words) c) (row (opcode (value_of unreachable (inst_of (first_words b o.layout.words) (c.body.code + 1 + 2 * pc))))) (value_of unreachable (inst_of (first_words b o.layout.words) (c.body.code + 1 + 2 * pc)))
        ++ rule_faults (module_in (first_words b o.layout.words)) (func_of (first_words b o.layout.words) c) g (value_of unreachable (inst_of (first_words b o.layout.words) (c.body.code + 1 + 2 * pc))) (row (opcode (value_of unreachable (inst_of (first_words b o.layout.words) (c.body.code + 1 + 2 * pc))))).rule
        ))
        (z : j ≡ placed (at_position c.func.0 pc) r) where
      found : j ≡ judged_of (placed_faults (module_in (first_words b o.layout.words)) c.func.0 (func_of (first_words b o.layout.words) c) pc (get_or (func_of (first_words b o.layout.words) c).code pc unreachable))
      unfolding placed_faults inst_faults
      found =
          let ws = first_words b o.layout.words in
          let f = func_of ws c in
          let m = module_in ws in
          let a : g ≡ any_of (covers pc) f.handlers = covered ∙ ap (ltb pc) reaches ∙ sym (cover_reach pc f.handlers) in
          placed_faults_lem (at_position c.func.0 pc) (inst_faults m f pc (get_or f.code pc unreachable))
          (k ∙ ap₂ (λ (q : Bool) (i : Module.Inst). verdict_of (fields_faults m f (row (opcode i)) i ++ rule_faults m f q i (row (opcode i)).rule)) a (inst_value b o.layout.words c x pc h))
          z

      pub sweeps_next : j ≡ Ok tt → Sweeps (first_words b o.layout.words) c (pc + 1) far
      sweeps_next e =
          let ws = first_words b o.layout.words in
          record {
            clears = clears_on (placed_faults (module_in ws) c.func.0 (func_of ws c)) (func_of ws c).code pc s.clears unreachable inside e found;
            far = reaches;
          }

      pub sweeps_stop : {d : LoadError} → j ≡ Err d → Err d ≡ judged_of (insts_faults (module_in (first_words b o.layout.words)) c.func.0 (func_of (first_words b o.layout.words) c))
      unfolding insts_faults
      sweeps_stop e =
          let ws = first_words b o.layout.words in
          clears_refused (placed_faults (module_in ws) c.func.0 (func_of ws c)) (func_of ws c).code pc s.clears unreachable inside e found

pub ruleset sweeping = (sweeps_start, sweeps_room, sweeps_end, sweeps_next, sweeps_stop)
