use Rattle.std.proofs.Common.{not, ◌&&◌, eqb, sym, ap, ◌∙◌, arith}
use Rattle.std.proofs.lemmas.Bool.{eq-eqb}
use Rattle.rules.specs.States.{live}
use Rattle.rules.specs.Moves.{any_below}
use Rattle.rules.specs.Tests.{child, spoiled, ready}
use Rattle.board.specs.Loops.{spoiled_sibling}
use Rattle.tables.specs.Views.{table}
use Rattle.board.specs.Views.{portless, flags}
use Rattle.tables.proofs.Counts.{any_same}
use Rattle.board.proofs.Searches.{and_3}
use Rattle.board.proofs.state.State.can_poison.Goals as goal

pub returns : goal.returns
returns c =
    let t = table c.args.t.now in
    let s = portless c.args.self.now in
    let h = c.args.h in
    let p = c.args.p in
    let sp = spoiled_sibling t s p (spoiled t s h t.places) in
    and_3 (eqb (t.home h) h) (t.knows p h) (ready t s h t.places p) (any_below t.places sp) _
    (eq-eqb _ _ (omega arith)) (sym c.if-not-knows.ensures) (sym (c.ready.ensures p c.requires) ∙ c.if-not-ready-p.false)
    (c.some_spoiled_sibling.ensures
    ∙ any_same t.places (spoiled_sibling t s p (flags c.spoiled.result)) sp
    (λ q l. ap (λ b. not (eqb q p) && (child t (t.parent p) q && (live (s.at q) && b))) (c.spoiled.ensures q l)))
