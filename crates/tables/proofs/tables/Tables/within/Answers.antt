use Rattle.std.proofs.Common.{sym, ap, ◌∙◌, arith}
use Rattle.rules.specs.Trees.{within}
use Rattle.tables.specs.Views.{table}
use Rattle.tables.proofs.Ways.{within_here, within_up, within_none}
use Rattle.tables.proofs.tables.Tables.within.Goals as goal

pub loop-v-preserved : goal.loop-v-preserved
loop-v-preserved c =
    c.loop-v.invariant ∙ within_up (table c.args.self.now) c.args.self.now.lower _ c.loop-v.v (omega arith) (omega arith)
    ∙ ap (within (table c.args.self.now) c.args.p) (sym c.parent-v.ensures.is)

pub returns-then-v-eq0 : goal.returns-then-v-eq0
returns-then-v-eq0 c =
    sym (c.loop-v.invariant ∙ within_none (table c.args.self.now) c.args.self.now.lower _ c.loop-v.v (omega arith) (omega arith))

pub returns : goal.returns
returns c =
    sym (c.loop-v.invariant ∙ within_here (table c.args.self.now) c.args.self.now.lower _ c.loop-v.v (omega arith))
