use borrow.Author.Rules.{rules}
use Rattle.open_canon.proofs.WholeScan.{whole_scan, whole_end}
use Rattle.open_canon.proofs.canonical.Goals as goal

pub scan-requires : goal.scan-requires
scan-requires c = search (rules, whole_scan)

pub returns : goal.returns
returns c = search (rules, whole_end)
