use Rattle.std.proofs.Common.{◌+◌, ◌*◌}
use Rattle.tables.proofs.expr.Expr.TheLaws.{the_size}
use Rattle.layout.proofs.exprs.+copying.Given as goal

abbrev pub decreases-copy_boxed : goal.decreases-copy_boxed
decreases-copy_boxed l = 2 * the_size l.e.now + 1

abbrev pub decreases-copy_expr : goal.decreases-copy_expr
decreases-copy_expr l = 2 * the_size l.e.now
