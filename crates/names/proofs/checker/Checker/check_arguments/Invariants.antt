use Rattle.std.proofs.Common.{◌≡◌, drop}
use Rattle.grammar.specs.Views.{names}
use Rattle.names.specs.Naming.{all_visible}
use Rattle.names.specs.Checking.{vars_of}
use Rattle.names.proofs.checker.Checker.check_arguments.Given as goal

abbrev pub invariant-loop-n : goal.invariant-loop-n
invariant-loop-n g l =
    all_visible (vars_of l.self) (names l.self.text.now l.args) ≡ all_visible (vars_of l.self) (names l.self.text.now (drop l.n-index l.args))
