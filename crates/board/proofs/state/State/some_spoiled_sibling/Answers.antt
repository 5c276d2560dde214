use Rattle.std.proofs.Common.{◌-◌, refl, rules, tests}
use Rattle.std.proofs.lemmas.Bool.{and_right}
use Rattle.std.proofs.lemmas.Iterator.{YieldsList-from_range}
use Rattle.std.proofs.lemmas.Iterator.Search.{any_from_yields_List}
use Rattle.tables.specs.Views.{table}
use Rattle.board.specs.Views.{portless, flags}
use Rattle.board.specs.Loops.{spoiled_sibling}
use Rattle.board.proofs.Searches.{any_child}
use Rattle.board.proofs.state.State.some_spoiled_sibling.Goals as goal

pub returns : goal.returns
returns c =
    let n = c.place_count.result in
    let f = spoiled_sibling (table c.args.t.now) (portless c.args.self.now) c.args.p (flags c.args.spoiled.now) in
    any_child f n _ c.place_count.ensures.some c.place_count.ensures.is _ (and_right _ _ refl)
    (any_from_yields_List f _ _ _ c.any.ensures.ran (YieldsList-from_range 1 n (n - 1) refl refl) (λ x b q k. search (rules, tests)))
