use Rattle.std.proofs.Common.{◌≡◌, drop}
use Rattle.grammar.specs.Views.{params}
use Rattle.names.specs.Naming.{names_params}
use Rattle.names.specs.Checking.{vars_of}
use Rattle.names.proofs.checker.Checker.check_params.Given as goal

abbrev pub invariant-loop-p : goal.invariant-loop-p
invariant-loop-p g l =
    (l.self.text.now ≡ l.initial.self.text.now) × (l.self.procs.now ≡ l.initial.self.procs.now)
    × (names_params (vars_of l.initial.self) (params l.initial.self.text.now l.params) ≡ names_params (vars_of l.self) (params l.initial.self.text.now (drop l.p-index l.params)))
