use Rattle.std.specs.Prelude.{map}
use Rattle.blocks.specs.Frame.{first_words}
use Rattle.canon.specs.Canon.{canon_word}
use Rattle.open_layout.specs.Opened.{module_in}
use Rattle.table_values.specs.Values.{values_at}
use Rattle.table_values.proofs.write_values.Given as goal

abbrev pub ghost-write_list : goal.ghost-write_list
ghost-write_list a =
    let ws = first_words a.word_of.0.now a.word_of.2.now.layout.words in
    map (canon_word (module_in ws).types) (values_at ws a.word_of.3.now a.word_of.4.now a.n)
