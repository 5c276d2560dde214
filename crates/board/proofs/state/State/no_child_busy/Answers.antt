use Rattle.std.proofs.Common.{ℕ, Bool, ◌-◌, not, refl, rules, tests}
use Rattle.std.proofs.lemmas.Iterator.{YieldsList-from_range}
use Rattle.std.proofs.lemmas.Iterator.Search.{all_from_yields_List}
use Rattle.tables.specs.Views.{table}
use Rattle.board.specs.Views.{portless}
use Rattle.board.specs.Loops.{busy_child}
use Rattle.board.proofs.Searches.{all_children}
use Rattle.board.proofs.state.State.no_child_busy.Goals as goal

pub returns : goal.returns
returns c =
    let n = c.place_count.result in
    let f : ℕ → Bool = λ q. not (busy_child (table c.args.t.now) (portless c.args.self.now) c.args.p q) in
    all_children f n _ c.place_count.ensures.some c.place_count.ensures.is _ refl
    (all_from_yields_List f _ _ _ c.all.ensures.ran (YieldsList-from_range 1 n (n - 1) refl refl) (λ x b q k. search (rules, tests)))
