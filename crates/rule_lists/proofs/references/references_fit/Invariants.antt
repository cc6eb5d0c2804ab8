use Rattle.blocks.specs.Blocks.{words}
use Rattle.blocks.specs.Frame.{first_words}
use Rattle.open_layout.specs.Opened.{module_in}
use Rattle.rule_lists.proofs.ReferenceSteps.{Fitting}
use Rattle.rule_lists.proofs.references.references_fit.Given as goal

abbrev pub invariant-loop : goal.invariant-loop
invariant-loop l = Fitting (module_in (first_words l.sheet l.o.layout.words))
    (words l.sheet) l.o.layout.words l.count l.from l.values l.counter l.p l.q
