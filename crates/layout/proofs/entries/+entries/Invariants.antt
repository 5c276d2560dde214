use Rattle.unfold.proofs.nodes.Node.TheLaws as one
use Rattle.unfold.proofs.nodes.Nodes.TheLaws as blocks
use Rattle.layout.proofs.entries.+entries.Given as goal

abbrev pub decreases-first_point : goal.decreases-first_point
decreases-first_point l = blocks.the_size l.us.now

abbrev pub decreases-node_point : goal.decreases-node_point
decreases-node_point l = one.the_size l.u.now
