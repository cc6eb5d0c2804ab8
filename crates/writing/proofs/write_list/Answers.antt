use Rattle.writing.proofs.ListSteps.{listed_next}
use Rattle.writing.proofs.write_list.Goals as goal

pub loop-i-preserved : goal.loop-i-preserved
loop-i-preserved g c =
    let w = c.requires.1.1.0 c.loop-i.i c.word_of.result c.loop-i-test.true c.word_of.ensures in
    listed_next _ _ _ _ c.requires.1.1.1.1 c.requires.1.1.1.0 _ _ _ c.loop-i.invariant c.loop-i-test.true w c.push-p-in-loop-i.ensures.table_after c.push-p-in-loop-i.ensures.value
