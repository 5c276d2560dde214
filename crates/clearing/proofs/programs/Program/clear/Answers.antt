use Rattle.std.proofs.Common.{refl}
use Rattle.clearing.proofs.Filling.{clear_granted}
use Rattle.clearing.proofs.programs.Program.clear.Goals as goal

pub returns : goal.returns
returns g c =
    let x = c.args.self.now in
    clear_granted g.K.NumberKind.meaning x (record { kind = x.kind; tables = c.in_ok-tables.tables; statements = c.in_ok-tables.statements }) c.args.text.now c.in_ok-tables.ensures refl
