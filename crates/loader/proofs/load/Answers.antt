use borrow.Author.Rules.{rules}
use Rattle.open_hosts.specs.SortedLaws.{roomy_few}
use Rattle.loader.proofs.load.Goals as goal

pub load_with-requires : goal.load_with-requires
load_with-requires c = search (rules, roomy_few c.args.hosts.now 512 1537)
