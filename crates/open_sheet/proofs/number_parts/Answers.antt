use borrow.Author.Rules.{rules}
use Rattle.open_sheet.specs.Filing.{strings_asked, types_asked, marks_asked, ready_made}
use Rattle.open_sheet.proofs.number_parts.Goals as goal

pub canonical-requires : goal.canonical-requires
canonical-requires c = search (rules, strings_asked, types_asked, marks_asked, ready_made)

pub canonical-requires-2 : goal.canonical-requires-2
canonical-requires-2 c = search (rules, strings_asked, types_asked, marks_asked, ready_made)

pub fill-requires : goal.fill-requires
fill-requires c =
    marks_asked _ _ _ c.requires.filed c.requires.words_bound _ c.requires.x_value _ c.requires.c_value _
    c.canonical.ensures _ c.canonical-2.ensures

pub returns : goal.returns
returns c =
    ready_made _ _ _ c.requires.filed c.requires.words_bound _ c.requires.x_value _ c.requires.c_value _
    c.canonical.ensures _ c.canonical-2.ensures _
    c.fill.ensures.frame c.fill.ensures.by_index c.requires.e_value
