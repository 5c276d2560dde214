use Rattle.std.proofs.Common.{◌≡◌, [], take, drop}
use Rattle.numbers.specs.Literals.{literal_reading}
use Rattle.grammar.specs.Views.{procs}
use Rattle.names.specs.Naming.{names_procs}
use Rattle.names.specs.Scopes.{ended}
use Rattle.names.proofs.whole.check_names.Given as goal

abbrev pub invariant-loop-i : goal.invariant-loop-i
invariant-loop-i g l =
    names_procs (literal_reading g.K.NumberKind.meaning) [] (procs l.text l.procs)
    ≡ names_procs (literal_reading g.K.NumberKind.meaning) (ended l.text (take l.i l.procs)) (procs l.text (drop l.i l.procs))
