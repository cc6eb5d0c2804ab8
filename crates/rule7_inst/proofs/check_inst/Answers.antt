use Rattle.rule7_inst.proofs.InstSteps.{fields_reach, checkable, inst_fields, inst_rule}
use Rattle.rule7_inst.proofs.check_inst.Goals as goal

pub read_inst-i-requires : goal.read_inst-i-requires
read_inst-i-requires c = c.requires.whole

pub fields_hold-requires : goal.fields_hold-requires
fields_hold-requires c = c.read_inst-i.ensures.result_bound

pub check_rule-requires : goal.check_rule-requires
check_rule-requires c = record { checkable = checkable _ _ _ _ c.requires.ready c.requires.framed c.requires.tallied c.requires.shaped c.requires.words_bound; reached = fields_reach _ _ _ _ c.read_inst-i.ensures.result_bound c.if-fields_hold.true c.fields_hold.ensures c.opcode.ensures c.rule_of-rule.ensures }

pub returns-then-fields_hold : goal.returns-then-fields_hold
returns-then-fields_hold c = inst_rule _ _ c.requires.ready.opens _ c.requires.framed _ _ c.read_inst-i.ensures.result_value c.fields_hold.ensures _ c.if-fields_hold.true c.opcode.ensures c.rule_of-rule.ensures c.check_rule.ensures

pub check_fields-requires : goal.check_fields-requires
check_fields-requires c = c.read_inst-i.ensures.result_bound

pub returns : goal.returns
returns c = inst_fields _ _ c.requires.ready.opens _ c.requires.framed _ _ c.read_inst-i.ensures.result_value c.fields_hold.ensures c.if-fields_hold.false c.check_fields.ensures
