use Rattle.std.specs.Prelude.{[], map}
use Rattle.blocks.specs.Frame.{first_words}
use Rattle.reader.specs.Reader.{word, list_of}
use Rattle.reader.specs.Value.{value_of}
use Rattle.canon.specs.Canon.{canon_type}
use Rattle.open_layout.specs.Opened.{module_in}
use Rattle.table_numbers.proofs.write_type_refs.Given as goal

abbrev pub ghost-write_list : goal.ghost-write_list
ghost-write_list a =
    let o = a.word_of.2.now in
    let ws = first_words a.word_of.0.now o.layout.words in
    map (canon_type (module_in ws).types) (value_of [] (list_of word ws a.word_of.3.now))
