-- The fields of an instruction, over the counts that code has at hand.
use Rattle.std.specs.Prelude.{ℕ, List, [], ◌∷◌, ◌++◌, Bool, true, false}
use Rattle.error.specs.declared.What.TheVariants.{Functions, Constants, Registers, Imports, Globals, BranchTargets, Tables, Names, TypeRefs, Captures, CallShapes}
use Rattle.error.specs.declared.LoadErrorKind.{LoadErrorKind}
use Rattle.error.specs.Answer.{in_range}
use Rattle.sheet.specs.Module.{opcode, slot_a, slot_b, slot_c, slot_w}
use Rattle.sheet.specs.Module
use Rattle.code.specs.declared.FieldKind.{FieldKind}
use Rattle.code.specs.Opcodes.{row}
use Rattle.open_sheet.specs.declared.Opened.{Opened}
use Rattle.rule7_words.specs.declared.Inst.{Inst}
use Rattle.rule7_kinds.specs.declared.Slot.{Slot}
use Rattle.rule7_kinds.specs.declared.Slot.TheVariants.{A, B, W, C}
use Rattle.rule7_words.specs.Insts.{inst}
use Rattle.rule7_kinds.specs.Slots.{kind_in}
use Rattle.rule_frames.specs.declared.Frame.{Frame}

-- a list of faults is empty, as a test
unfoldable pub no_faults : List LoadErrorKind → Bool
no_faults [] = true
no_faults (k ∷ ks) = false

-- what a field's kind numbers, by the counts of the sheet and of the function
unfoldable pub kind_faults : Opened → Frame → FieldKind → ℕ → List LoadErrorKind
kind_faults o c FieldKind.Unused i = []
kind_faults o c FieldKind.Reg i = in_range Registers c.regs i
kind_faults o c FieldKind.Target i = in_range BranchTargets c.code i
kind_faults o c FieldKind.Const i = in_range Constants o.counts.consts i
kind_faults o c FieldKind.Func i = in_range Functions o.counts.funcs i
kind_faults o c FieldKind.Import i = in_range Imports o.counts.imports i
kind_faults o c FieldKind.Global i = in_range Globals o.counts.globals i
kind_faults o c FieldKind.Table i = in_range Tables c.tables i
kind_faults o c FieldKind.Name i = in_range Names c.names i
kind_faults o c FieldKind.TypeRef i = in_range TypeRefs c.type_refs i
kind_faults o c FieldKind.Upval i = in_range Captures c.captures i
kind_faults o c FieldKind.Shape i = in_range CallShapes c.shapes i

unfoldable pub slot_of : Slot → Module.Inst → ℕ
slot_of A i = slot_a i
slot_of B i = slot_b i
slot_of W i = slot_w i
slot_of C i = slot_c i

unfoldable pub slot_faults : Opened → Frame → Inst → Slot → List LoadErrorKind
slot_faults o c i s = kind_faults o c (kind_in (row (opcode (inst i))) s) (slot_of s (inst i))

-- A, then B or W, then C
unfoldable pub slots_faults : Opened → Frame → Inst → List LoadErrorKind
slots_faults o c i = slot_faults o c i A ++ slot_faults o c i B ++ slot_faults o c i W ++ slot_faults o c i C
