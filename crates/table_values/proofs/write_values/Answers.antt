use borrow.Author.Rules.{rules}
use Rattle.std.proofs.Common.{◌≡◌, ◌+◌, ◌*◌, arith, ◌∙◌, ap, sym}
use Rattle.std.proofs.lemmas.List.{length-map, get_or-map}
use Rattle.reader.specs.Value.{value_of}
use Rattle.sheet.specs.Module.{dyn}
use Rattle.sheet.specs.Decode.{value_type}
use Rattle.canon.specs.Canon.{canon_word}
use Rattle.open_sheet.specs.Ready.{sheet_words, module_of}
use Rattle.writing.proofs.Captures.{five_within}
use Rattle.table_values.specs.Values.{values_at}
use Rattle.table_values.specs.ValuesLaws.{values_length, values_at_lem}
use Rattle.table_values.proofs.ValueSteps.{value_in, value_whole, value_clear}
use Rattle.table_values.proofs.write_values.Goals as goal

pub write_list-requires : goal.write_list-requires
write_list-requires c κs within =
    let ws = sheet_words c.args.sheet.now c.args.o in
    let f = canon_word (module_of c.args.sheet.now c.args.o).types in
    let n = values_length ws c.args.first c.args.stride c.args.n in (
      five_within within.0 within.1.0 within.1.1.0 within.1.1.1.0 within.1.1.1.1.0,
      (
        λ i l.
            let k = value_in _ _ _ _ _ c.requires.values i l in (
              λ _ _ _ _ _ _ _ _ _ _. omega (arith, k),
              λ _ _ _ _ _ _ _ _ _ _. omega (arith, k),
              λ _ _ _ _ _ _ _ _ _ _ _. (c.requires.ready, (value_whole _ _ _ _ _ c.requires.values i l, value_clear _ _ _ _ _ c.requires.values i l)),
            ),
        (
          λ i w l p.
              let e : w ≡ f (value_of dyn (value_type ws (c.args.first + c.args.stride * i))) = search rules in
              e ∙ ap f (sym (values_at_lem ws c.args.first c.args.stride c.args.n i l)) ∙ sym (get_or-map f (values_at ws c.args.first c.args.stride c.args.n) i dyn 0 (omega (arith, n))),
          (sym n ∙ sym (length-map (values_at ws c.args.first c.args.stride c.args.n) f), c.requires.n_in_bounds),
        ),
      ),
    )

pub returns-clause-table_after : goal.returns-clause-table_after
returns-clause-table_after c = c.write_list.ensures.table_after

pub returns-clause-value : goal.returns-clause-value
returns-clause-value c =
    let ws = sheet_words c.args.sheet.now c.args.o in
    let f = canon_word (module_of c.args.sheet.now c.args.o).types in
    omega (arith, c.write_list.ensures.value, length-map (values_at ws c.args.first c.args.stride c.args.n) f, values_length ws c.args.first c.args.stride c.args.n)
