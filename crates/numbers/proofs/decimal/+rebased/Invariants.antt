use Rattle.numbers.proofs.decimal.+rebased.Given as goal

abbrev pub decreases-rebased : goal.decreases-rebased
decreases-rebased g l = l.k
