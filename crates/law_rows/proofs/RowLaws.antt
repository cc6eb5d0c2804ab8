-- The rows hold, by computing.
use Rattle.std.specs.Prelude.{◌≡◌, refl, true, take, drop}
use Rattle.lists.specs.Lists.{all_of}
use Rattle.lists.specs.ListLaws.{all_parts}
use Rattle.law_everything.specs.Everything.{everything}
use Rattle.law_rows.specs.Rows.{rows, holds, RowsHold}

-- each part by computing: together they are more steps than one theorem may take
short_rows : all_of holds (take 31 rows) ≡ true
unfolding everything rows holds
short_rows = refl

export_rows : all_of holds (take 12 (drop 31 rows)) ≡ true
unfolding everything rows holds
export_rows = refl

argument_rows : all_of holds (take 15 (drop 12 (drop 31 rows))) ≡ true
unfolding everything rows holds
argument_rows = refl

long_lists : all_of holds (take 2 (drop 15 (drop 12 (drop 31 rows)))) ≡ true
unfolding everything rows holds
long_lists = refl

chain_of_256 : all_of holds (take 1 (drop 2 (drop 15 (drop 12 (drop 31 rows))))) ≡ true
unfolding everything rows holds
chain_of_256 = refl

chain_of_257 : all_of holds (drop 1 (drop 2 (drop 15 (drop 12 (drop 31 rows))))) ≡ true
unfolding everything rows holds
chain_of_257 = refl

pub rows_hold : RowsHold
unfolding RowsHold
rows_hold =
    let after_short = drop 31 rows in
    let after_exports = drop 12 after_short in
    let after_arguments = drop 15 after_exports in
    let chains = drop 2 after_arguments in
    all_parts holds 31 rows short_rows
    (all_parts holds 12 after_short export_rows
    (all_parts holds 15 after_exports argument_rows
    (all_parts holds 2 after_arguments long_lists (all_parts holds 1 chains chain_of_256 chain_of_257))))
