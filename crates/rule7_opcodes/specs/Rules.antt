-- Rules as code has them.
use Rattle.error.specs.declared.TypeKind.TheVariants.{Struct, Array, Map, Cell}
use Rattle.code.specs.Opcodes as definitions
use Rattle.rule7_opcodes.specs.declared.Rule.{Rule}
use Rattle.rule7_opcodes.specs.declared.Rule.TheVariants.{Free, NoPromote, PromoteToDyn, TailCall, TailCallIndirect, Call, CallIndirect, CallImport, CallShape, MakeClosure, NewStruct, NewArray, NewMap, NewCell, Concatenate, Slice, NotToRef, Catchable, WideBits}

-- a rule as the definitions have it
unfoldable pub rule_of : Rule → definitions.Rule
rule_of Free = definitions.free
rule_of NoPromote = definitions.no_promote
rule_of PromoteToDyn = definitions.promote_to_dyn
rule_of TailCall = definitions.tail_call
rule_of TailCallIndirect = definitions.tail_call_indirect
rule_of Call = definitions.call
rule_of CallIndirect = definitions.call_indirect
rule_of CallImport = definitions.call_import
rule_of CallShape = definitions.call_shape
rule_of MakeClosure = definitions.make_closure
rule_of NewStruct = definitions.of_kind Struct
rule_of NewArray = definitions.of_kind Array
rule_of NewMap = definitions.of_kind Map
rule_of NewCell = definitions.of_kind Cell
rule_of Concatenate = definitions.concatenate
rule_of Slice = definitions.slice
rule_of NotToRef = definitions.not_to_ref
rule_of Catchable = definitions.catchable
rule_of WideBits = definitions.wide_bits
