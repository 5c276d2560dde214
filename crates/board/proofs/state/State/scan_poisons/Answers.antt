use Rattle.std.proofs.Common.{ℕ, List, ◌++◌, ap, rules, arith}
use Rattle.rules.specs.States.{Move, poison}
use Rattle.rules.specs.Listings.{each, if_permitted, poisons_of}
use Rattle.tables.specs.Views.{table, cells_of}
use Rattle.board.specs.Views.{portless}
use Rattle.board.proofs.Scanning.{each_more}
use Rattle.board.proofs.state.State.scan_poisons.Goals as goal

pub loop-p-preserved : goal.loop-p-preserved
loop-p-preserved c =
    let p = c.loop-p.p-counter in
    let f = poisons_of (table c.args.t.now) (portless c.args.self.now) (cells_of c.args.t.now) in
    let g : ℕ → List Move = λ h. if_permitted (table c.args.t.now) (portless c.args.self.now) (poison p h) in
    let offered = c.offer_each.ensures.list g (λ i m l k. search rules) in
    record {
      grows = omega (arith, c.offer_each.ensures.grows);
      list = λ w xs s. each_more f p w xs (each g c.cell_count.result) c.offer_each.new.self (ap (each g) c.cell_count.ensures.is)
          (offered w (xs ++ each f p) (c.loop-p.invariant.list w xs s));
    }
