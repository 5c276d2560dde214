use Rattle.std.proofs.Common.{refl}
use Rattle.calls.proofs.powered.Board.power.Goals as goal

pub returns : goal.returns
returns g c = record { view = c.power-state.ensures.view (g.B.Bank.words c.args.bank); tables = refl; kind = refl; bank = refl }
