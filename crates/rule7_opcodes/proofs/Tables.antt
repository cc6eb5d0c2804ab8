-- The tables in code hold the definitions' rows: each is compared once as a whole, and read at any code.
use Prim.Native.Nat.{ℕ, ◌<◌}
use mathlib.Core.Path.{◌≡◌, refl, ap, ◌∙◌}
use mathlib.Core.List.{List, map}
use mathlib.Core.Bool.{Bool}
use lib.ListN.{get_or}
use Rattle.lists.specs.ListLaws.{map_at}
use Rattle.error.specs.declared.TypeKind.TheVariants.{Struct, Array, Map, Cell}
use Rattle.code.specs.declared.FieldKind.TheVariants.{Unused}
use Rattle.code.specs.Opcodes.{Row, step, rows, row}
use Rattle.code.specs.Opcodes as definitions
use Rattle.rule7_opcodes.specs.declared.Rule.{Rule}
use Rattle.rule7_opcodes.specs.declared.Rule.TheVariants.{Free, NoPromote, PromoteToDyn, TailCall, TailCallIndirect, Call, CallIndirect, CallImport, CallShape, MakeClosure, NewStruct, NewArray, NewMap, NewCell, Concatenate, Slice, NotToRef, Catchable, WideBits}
use Rattle.rule7_opcodes.specs.Rules.{rule_of}

other : Row
other = step Unused Unused Unused Unused definitions.free

-- ── terminators ──

abbrev pub endings : List Bool
endings = map (λ (r : Row). r.terminates) rows

pub ending_at : (code : ℕ) (d : Bool) → code < 35 → get_or endings code d ≡ (row code).terminates
unfolding row other
ending_at code d h = map_at (λ (r : Row). r.terminates) other d rows code h

-- ── rules ──

-- a rule of the definitions as code has it
abbrev pub coded : definitions.Rule → Rule
coded definitions.free = Free
coded definitions.no_promote = NoPromote
coded definitions.promote_to_dyn = PromoteToDyn
coded definitions.tail_call = TailCall
coded definitions.tail_call_indirect = TailCallIndirect
coded definitions.call = Call
coded definitions.call_indirect = CallIndirect
coded definitions.call_import = CallImport
coded definitions.call_shape = CallShape
coded definitions.make_closure = MakeClosure
coded (definitions.of_kind Struct) = NewStruct
coded (definitions.of_kind Array) = NewArray
coded (definitions.of_kind Map) = NewMap
coded (definitions.of_kind Cell) = NewCell
coded definitions.concatenate = Concatenate
coded definitions.slice = Slice
coded definitions.not_to_ref = NotToRef
coded definitions.catchable = Catchable
coded definitions.wide_bits = WideBits

decoded : (r : definitions.Rule) → rule_of (coded r) ≡ r
unfolding rule_of
decoded definitions.free = refl
decoded definitions.no_promote = refl
decoded definitions.promote_to_dyn = refl
decoded definitions.tail_call = refl
decoded definitions.tail_call_indirect = refl
decoded definitions.call = refl
decoded definitions.call_indirect = refl
decoded definitions.call_import = refl
decoded definitions.call_shape = refl
decoded definitions.make_closure = refl
decoded (definitions.of_kind Struct) = refl
decoded (definitions.of_kind Array) = refl
decoded (definitions.of_kind Map) = refl
decoded (definitions.of_kind Cell) = refl
decoded definitions.concatenate = refl
decoded definitions.slice = refl
decoded definitions.not_to_ref = refl
decoded definitions.catchable = refl
decoded definitions.wide_bits = refl

abbrev pub rules : List Rule
rules = map (λ (r : Row). coded r.rule) rows

pub rule_at : (code : ℕ) (d : Rule) → code < 35 → rule_of (get_or rules code d) ≡ (row code).rule
unfolding row other
rule_at code d h = ap rule_of (map_at (λ (r : Row). coded r.rule) other d rows code h) ∙ decoded (row code).rule
