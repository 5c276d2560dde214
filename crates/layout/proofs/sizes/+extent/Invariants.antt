use Rattle.unfold.proofs.nodes.Node.TheLaws as one
use Rattle.unfold.proofs.nodes.Nodes.TheLaws as blocks
use Rattle.unfold.proofs.nodes.Branches.TheLaws as pars
use Rattle.layout.proofs.sizes.+extent.Given as goal

abbrev pub decreases-branch_extent : goal.decreases-branch_extent
decreases-branch_extent l = pars.the_size l.branches.now

abbrev pub decreases-node_extent : goal.decreases-node_extent
decreases-node_extent l = one.the_size l.u.now

abbrev pub decreases-block_extent : goal.decreases-block_extent
decreases-block_extent l = blocks.the_size l.us.now
