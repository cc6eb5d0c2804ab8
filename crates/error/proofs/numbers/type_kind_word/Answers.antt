use mathlib.Core.Path.{sym, ap}
use Rattle.error.specs.Answer.{type_kind_word}
use Rattle.error.proofs.numbers.type_kind_word.Goals as goal

pub returns-in-Struct : goal.returns-in-Struct
returns-in-Struct c = unfold type_kind_word in sym (ap type_kind_word c.in-Struct.is)

pub returns-in-Array : goal.returns-in-Array
returns-in-Array c = unfold type_kind_word in sym (ap type_kind_word c.in-Array.is)

pub returns-in-Map : goal.returns-in-Map
returns-in-Map c = unfold type_kind_word in sym (ap type_kind_word c.in-Map.is)

pub returns-in-Cell : goal.returns-in-Cell
returns-in-Cell c = unfold type_kind_word in sym (ap type_kind_word c.in-Cell.is)
