use borrow.Author.Rules.{rules}
use native.Mathlib.Omega.{arith}
use mathlib.Core.Path.{ap}
use Rattle.std.specs.Prelude.{Err}
use Rattle.blocks.specs.ByteLaws.{all_bytes}
use Rattle.loader.proofs.LoadSteps.{load_asked, refused_answer, refused_table, refused_work, intact_answer, intact_table, intact_work}
use Rattle.loader.proofs.load_with.Goals as goal

pub load_intact-requires-clause-located : goal.load_intact-requires-clause-located
load_intact-requires-clause-located g c =
    let bytes = all_bytes c.args.sheet.now (λ i. omega (arith, c.type_inv.sheet i)) in
    let a = load_asked _ _ c.args.table.now _ _ _ _ c.in-Ok.is c.check_inputs.ensures.value c.check_inputs.ensures.indexed_if bytes in
    a.0

pub load_intact-requires-clause-words_bound : goal.load_intact-requires-clause-words_bound
load_intact-requires-clause-words_bound g c =
    let bytes = all_bytes c.args.sheet.now (λ i. omega (arith, c.type_inv.sheet i)) in
    let a = load_asked _ _ c.args.table.now _ _ _ _ c.in-Ok.is c.check_inputs.ensures.value c.check_inputs.ensures.indexed_if bytes in
    a.1.0

pub load_intact-requires-clause-words_in_bounds : goal.load_intact-requires-clause-words_in_bounds
load_intact-requires-clause-words_in_bounds g c =
    let bytes = all_bytes c.args.sheet.now (λ i. omega (arith, c.type_inv.sheet i)) in
    let a = load_asked _ _ c.args.table.now _ _ _ _ c.in-Ok.is c.check_inputs.ensures.value c.check_inputs.ensures.indexed_if bytes in
    a.1.1.0

pub load_intact-requires-clause-sorted_hosts : goal.load_intact-requires-clause-sorted_hosts
load_intact-requires-clause-sorted_hosts g c =
    let bytes = all_bytes c.args.sheet.now (λ i. omega (arith, c.type_inv.sheet i)) in
    let a = load_asked _ _ c.args.table.now _ _ _ _ c.in-Ok.is c.check_inputs.ensures.value c.check_inputs.ensures.indexed_if bytes in
    a.1.1.1.0

pub load_intact-requires-clause-fits : goal.load_intact-requires-clause-fits
load_intact-requires-clause-fits g c =
    let bytes = all_bytes c.args.sheet.now (λ i. omega (arith, c.type_inv.sheet i)) in
    let a = load_asked _ _ c.args.table.now _ _ _ _ c.in-Ok.is c.check_inputs.ensures.value c.check_inputs.ensures.indexed_if bytes in
    a.1.1.1.1

pub returns-in-Err-clause-value : goal.returns-in-Err-clause-value
returns-in-Err-clause-value g c = refused_answer _ _ c.args.table.now c.args.work.now c.check_inputs.ensures.value c.in-Err.kind c.in-Err.is (ap Err c.refuse.ensures)

pub returns-in-Err-clause-table_after : goal.returns-in-Err-clause-table_after
returns-in-Err-clause-table_after g c = refused_table _ _ c.args.table.now c.args.work.now c.check_inputs.ensures.value c.in-Err.kind c.in-Err.is

pub returns-in-Err-clause-work_after : goal.returns-in-Err-clause-work_after
returns-in-Err-clause-work_after g c = refused_work _ _ c.args.table.now c.args.work.now c.check_inputs.ensures.value c.in-Err.kind c.in-Err.is

pub returns-in-Ok-clause-value : goal.returns-in-Ok-clause-value
returns-in-Ok-clause-value g c = intact_answer _ _ c.args.table.now c.args.work.now c.check_inputs.ensures.value c.in-Ok.l c.in-Ok.n c.in-Ok.is c.load_intact.ensures.value

pub returns-in-Ok-clause-table_after : goal.returns-in-Ok-clause-table_after
returns-in-Ok-clause-table_after g c = intact_table _ _ c.args.table.now c.args.work.now c.check_inputs.ensures.value c.in-Ok.l c.in-Ok.n c.in-Ok.is c.load_intact.ensures.table_after

pub returns-in-Ok-clause-work_after : goal.returns-in-Ok-clause-work_after
returns-in-Ok-clause-work_after g c = intact_work _ _ c.args.table.now c.args.work.now c.check_inputs.ensures.value c.in-Ok.l c.in-Ok.n c.in-Ok.is c.load_intact.ensures.zeroed
