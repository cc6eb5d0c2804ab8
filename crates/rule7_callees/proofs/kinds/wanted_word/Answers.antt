use borrow.Author.Rules.{rules}
use Rattle.rule7_callees.proofs.KindSteps.{wanted_struct, wanted_array, wanted_map, wanted_cell}
use Rattle.rule7_callees.proofs.kinds.wanted_word.Goals as goal

pub returns-in-Struct : goal.returns-in-Struct
returns-in-Struct c = search (rules, wanted_struct)

pub returns-in-Array : goal.returns-in-Array
returns-in-Array c = search (rules, wanted_array)

pub returns-in-Map : goal.returns-in-Map
returns-in-Map c = search (rules, wanted_map)

pub returns-in-Cell : goal.returns-in-Cell
returns-in-Cell c = search (rules, wanted_cell)
