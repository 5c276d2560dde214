use Rattle.std.proofs.Common.{◌≡◌, ◌+◌, drop}
use Rattle.calls.specs.Boards.{state_of}
use Rattle.tables.specs.Views.{cells_of}
use Rattle.rules.specs.Choices.{run}
use Rattle.tables.specs.Views.{table}
use Rattle.calls.proofs.Choosing.{plus}
use Rattle.calls.proofs.powered.Board.run.Given as goal

abbrev pub invariant-loop-choice : goal.invariant-loop-choice
invariant-loop-choice g l =
    let k = g.K.NumberKind.meaning in
    let words = g.B.Bank.words in
    let t = table l.initial.self.tables in
    let m = cells_of l.initial.self.tables in
    (run k t m (state_of words l.initial.self) l.choices ≡ plus l.granted (run k t m (state_of words l.self) (drop l.choice-index l.choices)))
    × (l.self.tables ≡ l.initial.self.tables) × (l.self.kind ≡ l.initial.self.kind)
    × (l.granted + l.initial.self.state.total ≡ l.self.state.total)
