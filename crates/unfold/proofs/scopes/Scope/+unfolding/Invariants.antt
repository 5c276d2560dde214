use Rattle.std.proofs.Common.{◌+◌, ◌*◌}
use Rattle.grammar.proofs.tree.Stmt.TheLaws as stmts
use Rattle.grammar.proofs.tree.Block.TheLaws as blocks
use Rattle.grammar.proofs.tree.Blocks.TheLaws as branches
use Rattle.unfold.proofs.Weights.{weights}
use Rattle.unfold.proofs.scopes.Scope.+unfolding.Given as goal

abbrev pub decreases-unfold_simple : goal.decreases-unfold_simple
decreases-unfold_simple g l = 4 * weights l.self.now.procs.now + 1

abbrev pub decreases-unfold_call : goal.decreases-unfold_call
decreases-unfold_call g l = 4 * weights l.self.now.procs.now

abbrev pub decreases-enter : goal.decreases-enter
decreases-enter g l = 4 * (blocks.the_size l.p.now.body + weights l.self.now.procs.now) + 3

abbrev pub decreases-unfold_stmt : goal.decreases-unfold_stmt
decreases-unfold_stmt g l = 4 * (stmts.the_size l.s.now + weights l.self.now.procs.now) + 2

abbrev pub decreases-unfold_par : goal.decreases-unfold_par
decreases-unfold_par g l = 4 * (branches.the_size l.bs.now + weights l.self.now.procs.now) + 3

abbrev pub decreases-unfold_block : goal.decreases-unfold_block
decreases-unfold_block g l = 4 * (blocks.the_size l.b.now + weights l.self.now.procs.now) + 2

abbrev pub decreases-unfold_blocks : goal.decreases-unfold_blocks
decreases-unfold_blocks g l = 4 * (branches.the_size l.bs.now + weights l.self.now.procs.now) + 2
