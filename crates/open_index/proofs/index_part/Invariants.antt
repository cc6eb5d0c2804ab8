use Rattle.open_index.specs.declared.Part.TheVariants.{Strings, Types, Consts, Imports, Funcs}
use Rattle.open_index.proofs.index_part.Given as goal

abbrev pub ghost-index_members : goal.ghost-index_members
ghost-index_members a = Strings

abbrev pub ghost-index_members-2 : goal.ghost-index_members-2
ghost-index_members-2 a = Types

abbrev pub ghost-index_members-3 : goal.ghost-index_members-3
ghost-index_members-3 a = Consts

abbrev pub ghost-index_members-4 : goal.ghost-index_members-4
ghost-index_members-4 a = Imports

abbrev pub ghost-index_members-5 : goal.ghost-index_members-5
ghost-index_members-5 a = Funcs
