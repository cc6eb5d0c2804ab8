use Rattle.rule7_fields.proofs.FieldSteps.{fails_a, fails_b, fails_w, by_c}
use Rattle.rule7_fields.proofs.fields_hold.Goals as goal

pub returns-then-not-field_holds : goal.returns-then-not-field_holds
returns-then-not-field_holds c = fails_a _ _ _ c.opcode.ensures c.row_kinds.ensures _ c.slot_a.ensures.value c.field_holds.ensures c.if-not-field_holds.true

pub returns-then-not-field_holds-2 : goal.returns-then-not-field_holds-2
returns-then-not-field_holds-2 c = fails_b _ _ _ c.opcode.ensures c.row_kinds.ensures _ c.slot_a.ensures.value c.field_holds.ensures c.if-not-field_holds.false c.slot_b.ensures.value c.field_holds-2.ensures c.if-not-field_holds-2.true

pub returns-then-not-field_holds-3 : goal.returns-then-not-field_holds-3
returns-then-not-field_holds-3 c = fails_w _ _ _ c.opcode.ensures c.row_kinds.ensures _ c.slot_a.ensures.value c.field_holds.ensures c.if-not-field_holds.false c.slot_b.ensures.value c.field_holds-2.ensures c.if-not-field_holds-2.false c.slot_w.ensures c.field_holds-3.ensures c.if-not-field_holds-3.true

pub returns : goal.returns
returns c = by_c _ _ _ c.opcode.ensures c.row_kinds.ensures _ c.slot_a.ensures.value c.field_holds.ensures c.if-not-field_holds.false c.slot_b.ensures.value c.field_holds-2.ensures c.if-not-field_holds-2.false c.slot_w.ensures c.field_holds-3.ensures c.if-not-field_holds-3.false c.slot_c.ensures.value c.field_holds-4.ensures
