use borrow.Author.Rules.{rules}
use Rattle.std.proofs.Common.{◌<◌, length, ◌≡◌, arith, ◌∙◌, get_or, [], sym}
use Rattle.std.proofs.lemmas.List.{length-map, get_or-map}
use Rattle.reader.specs.Reader.{word, list_of}
use Rattle.reader.specs.Value.{value_of}
use Rattle.canon.specs.Canon.{canon_string}
use Rattle.open_sheet.specs.Ready.{sheet_words, module_of}
use Rattle.writing.proofs.Captures.{four_within}
use Rattle.table_numbers.proofs.NumberSteps.{number_below, numbers_count}
use Rattle.table_numbers.proofs.write_names.Goals as goal

pub write_list-requires : goal.write_list-requires
write_list-requires c κs within =
    let xs = value_of [] (list_of word (sheet_words c.args.sheet.now c.args.o) c.args.names_at) in
    let f = canon_string (module_of c.args.sheet.now c.args.o).strings in
    let k : (i : _) → i < c.word-count.result → i < length xs = λ i l. number_below _ _ _ c.requires.whole _ c.word-count.ensures i l in (
      four_within within.0 within.1.0 within.1.1.0 within.1.1.1.0,
      (
        λ i l _ _ _ _ _ _ _ _ _ _. (c.requires.ready, (c.requires.whole, (c.requires.names_at_value, k i l))),
        (
          λ i w l p. let e : w ≡ f (get_or xs i 0) = search rules in e ∙ sym (get_or-map f xs i 0 0 (k i l)),
          (numbers_count _ _ _ c.requires.whole c.word-count.ensures ∙ sym (length-map xs f), omega (arith, numbers_count _ _ _ c.requires.whole c.word-count.ensures)),
        ),
      ),
    )

pub returns-clause-table_after : goal.returns-clause-table_after
returns-clause-table_after c = c.write_list.ensures.table_after

pub returns-clause-value : goal.returns-clause-value
returns-clause-value c =
    let xs = value_of [] (list_of word (sheet_words c.args.sheet.now c.args.o) c.args.names_at) in
    omega (arith, c.write_list.ensures.value, length-map xs (canon_string (module_of c.args.sheet.now c.args.o).strings), numbers_count _ _ _ c.requires.whole c.word-count.ensures)
