use Rattle.std.proofs.Common.{◌≡◌, ◌+◌, ◌≤◌, [], drop}
use Rattle.unfold.specs.Variables.{gets}
use Rattle.unfold.specs.Occurrences.{uses}
use Rattle.unfold.specs.Getting.{in_all, Numbered}
use Rattle.unfold.specs.Views.{variables}
use Rattle.unfold.proofs.scopes.Scope.get_variables.Given as goal

abbrev pub invariant-loop-u : goal.invariant-loop-u
invariant-loop-u l =
    (gets (variables l.self) (uses l.self.text.now l.found) (uses l.self.text.now l.found) [] l.first
    ≡ in_all l.self.text.now (variables l.self) (uses l.self.text.now l.found) l.s (uses l.self.text.now (drop l.u-index l.found)))
    × Numbered l.self.text.now l.first l.s
    × (l.s.next ≤ l.first + l.u-index)
