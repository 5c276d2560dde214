use Rattle.std.proofs.Common.{ℕ, Bool, ◌&&◌, subst, rules}
use Rattle.rules.specs.Tests.{spoiled_at}
use Rattle.tables.specs.Views.{table}
use Rattle.board.specs.Views.{portless}
use Rattle.board.specs.Loops.{AnsweredFrom}
use Rattle.board.proofs.Backward.{spoiled_settled}
use Rattle.board.proofs.state.State.spoiled.Goals as goal

pub returns : goal.returns
returns c =
    let t = table c.args.t.now in
    let s = portless c.args.self.now in
    let g : ℕ → (ℕ → Bool) → Bool = λ p r. t.knows p c.args.h && spoiled_at t s c.args.h p r (s.at p) in
    spoiled_settled t s c.args.h c.args.t.now.lower c.backward.result
    (subst (λ (n : ℕ). AnsweredFrom g n c.backward.result 0) c.place_count.ensures.is (c.backward.ensures g (λ p later r k. search rules)))
