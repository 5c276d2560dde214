use Rattle.std.proofs.Common.{◌≡◌, false}
use Rattle.rules.specs.Moves.{any_below}
use Rattle.rules.specs.Tests.{knowing_child}
use Rattle.board.specs.Loops.{spoiled_child}
use Rattle.tables.specs.Views.{table}
use Rattle.board.specs.Views.{portless, flags}
use Rattle.board.proofs.state.State.spoiled_through.Given as goal

abbrev pub invariant-loop-c : goal.invariant-loop-c
invariant-loop-c l =
    (l.some ≡ any_below l.c (knowing_child (table l.t) (portless l.self) l.h l.q))
    × (any_below l.c (spoiled_child (table l.t) (portless l.self) l.q (flags l.later)) ≡ false)
