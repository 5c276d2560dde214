use Rattle.std.proofs.Common.{◌+◌, false, get_or, drop, ◌∙◌, arith}
use Rattle.unfold.specs.declared.uses.Use as code-use
use Rattle.unfold.specs.Variables.{Uses}
use Rattle.unfold.specs.Occurrences.{uses}
use Rattle.unfold.specs.Getting.{in_all}
use Rattle.unfold.specs.Views.{variables}
use Rattle.unfold.proofs.Gains.{found_more}
use Rattle.unfold.proofs.scopes.Scope.get_variables.Goals as goal

pub loop-u-preserved : goal.loop-u-preserved
loop-u-preserved c =
    let text = c.args.self.now.text.now in
    let v = variables c.args.self.now in
    let fs = c.args.found.now in
    let inv = c.loop-u.invariant in
    let step = c.in_ok-get_next.ensures in
    let d : code-use.Use = record { name = record { at = 0; len = 0 }; written = false } in (
      inv.0 ∙ found_more (λ (us : Uses). in_all text v (uses text fs) c.loop-u.s us) text fs c.loop-u.u-index d c.loop-u-test.true
          ∙ step.0 (uses text (drop (c.loop-u.u-index + 1) fs)) (get_or fs c.loop-u.u-index d).written,
      step.1 c.args.first inv.1,
      omega (arith, step.2, inv.2),
    )
