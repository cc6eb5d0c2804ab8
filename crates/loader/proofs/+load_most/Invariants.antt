use Rattle.loader.proofs.+load_most.Given as goal

abbrev pub decreases-load_most : goal.decreases-load_most
decreases-load_most l = l.left
