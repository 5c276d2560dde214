use Rattle.std.proofs.Common.{◌≡◌, refl, rules}
use Rattle.tables.specs.Views.{table}
use Rattle.board.specs.Views.{idle_place}
use Rattle.board.proofs.Powering.{view_at_power, bounded_at_power}
use Rattle.board.proofs.state.State.power.Goals as goal

pub returns : goal.returns
returns c =
    let at = c.default-places.ensures in
    let idle : c.default-places.result ≡ idle_place = search rules in
    record {
      view = view_at_power (table c.args.t.now) c.default-places.result c.started.result idle c.started.ensures;
      shaped = (refl, refl, refl);
      bounded = bounded_at_power (table c.args.t.now) c.default-places.result c.started.result idle c.started.ensures;
      total = refl;
    }
