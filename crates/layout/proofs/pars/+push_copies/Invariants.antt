use Rattle.unfold.proofs.nodes.Branches.TheLaws.{the_size}
use Rattle.layout.proofs.pars.+push_copies.Given as goal

abbrev pub decreases-push_copies : goal.decreases-push_copies
decreases-push_copies l = the_size l.branches.now
