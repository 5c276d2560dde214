use Rattle.unfold.proofs.nodes.Node.TheLaws as one
use Rattle.unfold.proofs.nodes.Nodes.TheLaws as blocks
use Rattle.unfold.proofs.nodes.Branches.TheLaws as pars
use Rattle.layout.proofs.walk.Plan.+walk.Given as goal

abbrev pub decreases-put_branches : goal.decreases-put_branches
decreases-put_branches l = pars.the_size l.branches.now

abbrev pub decreases-put_node : goal.decreases-put_node
decreases-put_node l = one.the_size l.u.now

abbrev pub decreases-put_block : goal.decreases-put_block
decreases-put_block l = blocks.the_size l.us.now
