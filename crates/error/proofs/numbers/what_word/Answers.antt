use mathlib.Core.Path.{sym, ap}
use Rattle.error.specs.Answer.{what_word}
use Rattle.error.proofs.numbers.what_word.Goals as goal

pub returns-in-Types : goal.returns-in-Types
returns-in-Types c = unfold what_word in sym (ap what_word c.in-Types.is)

pub returns-in-Functions : goal.returns-in-Functions
returns-in-Functions c = unfold what_word in sym (ap what_word c.in-Functions.is)

pub returns-in-Strings : goal.returns-in-Strings
returns-in-Strings c = unfold what_word in sym (ap what_word c.in-Strings.is)

pub returns-in-Constants : goal.returns-in-Constants
returns-in-Constants c = unfold what_word in sym (ap what_word c.in-Constants.is)

pub returns-in-Registers : goal.returns-in-Registers
returns-in-Registers c = unfold what_word in sym (ap what_word c.in-Registers.is)

pub returns-in-Imports : goal.returns-in-Imports
returns-in-Imports c = unfold what_word in sym (ap what_word c.in-Imports.is)

pub returns-in-Globals : goal.returns-in-Globals
returns-in-Globals c = unfold what_word in sym (ap what_word c.in-Globals.is)

pub returns-in-BranchTargets : goal.returns-in-BranchTargets
returns-in-BranchTargets c = unfold what_word in sym (ap what_word c.in-BranchTargets.is)

pub returns-in-TableTargets : goal.returns-in-TableTargets
returns-in-TableTargets c = unfold what_word in sym (ap what_word c.in-TableTargets.is)

pub returns-in-Tables : goal.returns-in-Tables
returns-in-Tables c = unfold what_word in sym (ap what_word c.in-Tables.is)

pub returns-in-Names : goal.returns-in-Names
returns-in-Names c = unfold what_word in sym (ap what_word c.in-Names.is)

pub returns-in-TypeRefs : goal.returns-in-TypeRefs
returns-in-TypeRefs c = unfold what_word in sym (ap what_word c.in-TypeRefs.is)

pub returns-in-Captures : goal.returns-in-Captures
returns-in-Captures c = unfold what_word in sym (ap what_word c.in-Captures.is)

pub returns-in-CallShapes : goal.returns-in-CallShapes
returns-in-CallShapes c = unfold what_word in sym (ap what_word c.in-CallShapes.is)
