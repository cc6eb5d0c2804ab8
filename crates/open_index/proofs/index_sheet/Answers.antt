use Rattle.open_index.proofs.Sides.{room₁, room₂, room₃, room₄, room₅, all_placed, all_written}
use Rattle.open_index.proofs.index_sheet.Goals as goal

pub index_part-types-requires : goal.index_part-types-requires
index_part-types-requires c = record {
  whole = c.requires.indexable.strings;
  n_bound = c.requires.words_bound;
  at_in_bounds = room₁ _ _ c.args.work.now c.requires.l_in_bounds;
}

pub index_part-consts-requires : goal.index_part-consts-requires
index_part-consts-requires c = record {
  whole = c.requires.indexable.types;
  n_bound = c.requires.words_bound;
  at_in_bounds = room₂ _ _ _ c.requires.l_in_bounds
      c.index_part-types.ensures.value c.index_part-types.ensures.work_after;
}

pub index_part-imports-requires : goal.index_part-imports-requires
index_part-imports-requires c = record {
  whole = c.requires.indexable.consts;
  n_bound = c.requires.words_bound;
  at_in_bounds = room₃ _ _ _ c.requires.l_in_bounds
      c.index_part-types.ensures.value c.index_part-types.ensures.work_after
      c.index_part-consts.ensures.value c.index_part-consts.ensures.work_after;
}

pub index_part-funcs-requires : goal.index_part-funcs-requires
index_part-funcs-requires c = record {
  whole = c.requires.indexable.imports;
  n_bound = c.requires.words_bound;
  at_in_bounds = room₄ _ _ _ c.requires.l_in_bounds
      c.index_part-types.ensures.value c.index_part-types.ensures.work_after
      c.index_part-consts.ensures.value c.index_part-consts.ensures.work_after
      c.index_part-imports.ensures.value c.index_part-imports.ensures.work_after;
}

pub index_part-end-requires : goal.index_part-end-requires
index_part-end-requires c = record {
  whole = c.requires.indexable.funcs;
  n_bound = c.requires.words_bound;
  at_in_bounds = room₅ _ _ _ c.requires.l_in_bounds
      c.index_part-types.ensures.value c.index_part-types.ensures.work_after
      c.index_part-consts.ensures.value c.index_part-consts.ensures.work_after
      c.index_part-imports.ensures.value c.index_part-imports.ensures.work_after
      c.index_part-funcs.ensures.value c.index_part-funcs.ensures.work_after;
}

pub returns-clause-value : goal.returns-clause-value
returns-clause-value c =
    all_placed _ _ _ c.requires.l_in_bounds
    c.index_part-types.ensures.value c.index_part-types.ensures.work_after
    c.index_part-consts.ensures.value c.index_part-consts.ensures.work_after
    c.index_part-imports.ensures.value c.index_part-imports.ensures.work_after
    c.index_part-funcs.ensures.value c.index_part-funcs.ensures.work_after
    c.index_part-end.ensures.value c.index_part-end.ensures.work_after

pub returns-clause-work_after : goal.returns-clause-work_after
returns-clause-work_after c =
    all_written _ _ _ c.requires.l_in_bounds
    c.index_part-types.ensures.value c.index_part-types.ensures.work_after
    c.index_part-consts.ensures.value c.index_part-consts.ensures.work_after
    c.index_part-imports.ensures.value c.index_part-imports.ensures.work_after
    c.index_part-funcs.ensures.value c.index_part-funcs.ensures.work_after
    c.index_part-end.ensures.value c.index_part-end.ensures.work_after
