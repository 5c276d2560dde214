use Rattle.rules.specs.Tests.{knowing_child}
use Rattle.tables.specs.Views.{table}
use Rattle.board.specs.Views.{portless, flags}
use Rattle.board.proofs.Turns.{Both}
use Rattle.board.proofs.state.State.children_ready.Given as goal

abbrev pub invariant-loop-c : goal.invariant-loop-c
invariant-loop-c l = Both (knowing_child (table l.t) (portless l.self) l.h l.p) (flags l.later) l.c l.some
