-- An instruction's own rule, over what code has at hand.
use Rattle.std.specs.Prelude.{ℕ, ◌<◌, List, Bool}
use Rattle.error.specs.declared.LoadErrorKind.{LoadErrorKind}
use Rattle.sheet.specs.Module.{slot_a, slot_b, slot_w}
use Rattle.sheet.specs.Module
use Rattle.open_layout.specs.Opened.{module_in}
use Rattle.code.specs.Opcodes as definitions
use Rattle.code.specs.Code.{rule_faults}
use Rattle.open_sheet.specs.declared.Opened.{Opened}
use Rattle.rule7_words.specs.declared.Inst.{Inst}
use Rattle.rule7_opcodes.specs.declared.Rule.{Rule}
use Rattle.rule7_words.specs.Insts.{inst}
use Rattle.rule7_opcodes.specs.Rules.{rule_of}
use Rattle.rule_frames.specs.declared.Frame.{Frame}
use Rattle.rule_frames.specs.Frames.{func_of}

-- what a rule names is in range, once the fields hold
unfoldable pub Reached : Opened → Frame → Module.Inst → definitions.Rule → Type 0
Reached o c i definitions.free = Unit {0}
Reached o c i definitions.no_promote = Unit {0}
Reached o c i definitions.promote_to_dyn = slot_a i < c.regs
Reached o c i definitions.tail_call = slot_w i < o.counts.funcs
Reached o c i definitions.tail_call_indirect = Unit {0}
Reached o c i definitions.call = slot_w i < o.counts.funcs
Reached o c i definitions.call_indirect = Unit {0}
Reached o c i definitions.call_import = slot_w i < o.counts.imports
Reached o c i definitions.call_shape = slot_b i < c.shapes
Reached o c i definitions.make_closure = slot_w i < o.counts.funcs
Reached o c i (definitions.of_kind k) = slot_b i < c.type_refs
Reached o c i definitions.concatenate = Unit {0}
Reached o c i definitions.slice = Unit {0}
Reached o c i definitions.not_to_ref = Unit {0}
Reached o c i definitions.catchable = Unit {0}
Reached o c i definitions.wide_bits = Unit {0}

-- the faults of a rule
unfoldable pub rule_in : List ℕ → Frame → Bool → Inst → Rule → List LoadErrorKind
rule_in ws c covered i r = rule_faults (module_in ws) (func_of ws c) covered (inst i) (rule_of r)
