use Rattle.std.proofs.Common.{◌+◌, get_or, drop, set, sym, ap, ◌∙◌, arith}
use Rattle.std.proofs.lemmas.List.{at_drop_all, at_drop_more}
use Rattle.board.specs.declared.state.State.{State}
use Rattle.board.specs.declared.state.PlaceState.{PlaceState}
use Rattle.tables.specs.Views.{table}
use Rattle.board.specs.Effects.{with_places, forked}
use Rattle.board.proofs.Copying.{places_at}
use Rattle.board.proofs.state.State.fork.Goals as goal

pub bounds-self-q : goal.bounds-self-q
bounds-self-q c = places_at c.args.branches.now c.loop-b.b-index c.requires (omega arith)

pub bounds-self-q-in-loop-b : goal.bounds-self-q-in-loop-b
bounds-self-q-in-loop-b c = places_at c.args.branches.now c.loop-b.b-index c.requires (omega arith)

pub loop-b-preserved : goal.loop-b-preserved
loop-b-preserved c =
    let st = (table c.args.t.now).start in
    let ps = c.loop-b.self.places in
    let b = get_or c.args.branches.now c.loop-b.b-index 0 in (
      ap (λ (s : State). with_places s (set ps b c.started.result)) c.loop-b.invariant.0,
      c.loop-b.invariant.1 ∙ at_drop_more (forked st ps) c.args.branches.now c.loop-b.b-index 0 (omega arith)
          ∙ ap (λ (v : PlaceState). forked st (set ps b v) (drop (c.loop-b.b-index + 1) c.args.branches.now)) (sym c.started.ensures),
    )

pub returns : goal.returns
returns c =
    let st = (table c.args.t.now).start in
    c.loop-b.invariant.0
    ∙ ap (with_places c.args.self.now) (sym (c.loop-b.invariant.1 ∙ at_drop_all (forked st c.loop-b.self.places) c.args.branches.now c.loop-b.b-index (omega arith)))
