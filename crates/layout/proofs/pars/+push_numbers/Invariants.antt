use Rattle.unfold.proofs.nodes.Branches.TheLaws.{the_size}
use Rattle.layout.proofs.pars.+push_numbers.Given as goal

abbrev pub decreases-push_numbers : goal.decreases-push_numbers
decreases-push_numbers l = the_size l.branches.now
