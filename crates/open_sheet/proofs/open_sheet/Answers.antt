use native.Mathlib.Omega.{arith}
use Rattle.blocks.specs.ByteLaws.{all_bytes}
use Rattle.open_index.specs.SheetIndex.{indexable}
use Rattle.open_sheet.specs.Filing.{filed, filed_room}
use Rattle.open_sheet.proofs.Counting.{stated}
use Rattle.open_sheet.proofs.open_sheet.Goals as goal

pub index_sheet-x-requires : goal.index_sheet-x-requires
index_sheet-x-requires c =
    let bytes = all_bytes c.args.sheet.now (λ i. omega (arith, c.type_inv.sheet i)) in
    record { indexable = indexable _ _ _ c.requires.located; words_bound = c.requires.words_bound; l_in_bounds = filed_room _ c.args.work.now _ bytes c.requires.located c.requires.words_in_bounds }

pub number_parts-requires : goal.number_parts-requires
number_parts-requires c =
    let bytes = all_bytes c.args.sheet.now (λ i. omega (arith, c.type_inv.sheet i)) in record { filed = filed _ _ _ bytes c.requires.located c.requires.words_in_bounds c.index_sheet-x.ensures.work_after; words_bound = c.requires.words_bound; x_value = c.index_sheet-x.ensures.value; c_value = c.count_parts-c.ensures; e_value = stated _ _ c.requires.located c.word.ensures }
