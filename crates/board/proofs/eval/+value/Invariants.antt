use Rattle.tables.proofs.expr.Expr.TheLaws.{the_size}
use Rattle.board.proofs.eval.+value.Given as goal

abbrev pub decreases-value : goal.decreases-value
decreases-value g l = the_size l.e.now
