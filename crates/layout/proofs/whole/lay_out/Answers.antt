use Rattle.unfold.specs.Views.{nodes}
use Rattle.program.specs.Layout.{laid_out}
use Rattle.layout.proofs.Showing.{shown, sized_shown, named_shown, lower_shown, declared_shown}
use Rattle.layout.proofs.whole.lay_out.Goals as goal

pub invariant_of-result : goal.invariant_of-result
invariant_of-result c =
    let p = laid_out (nodes c.args.text.now c.args.us.now) in
    let points = c.in_ok-rows.rows.points in
    let places = c.in_ok-rows.rows.places in
    let cells = c.in_ok-rows.rows.cells in
    let b = c.requires.bounded in
    let pt = c.in_ok-rows.ensures.points in
    let pl = c.in_ok-rows.ensures.places in
    let ce = c.in_ok-rows.ensures.cells in
    record {
      sized = sized_shown p places cells b pl ce;
      named = named_shown p points b pt;
      lower = lower_shown p places c.requires.sound pl;
      declared = declared_shown p places cells b pl ce;
    }

pub returns : goal.returns
returns c =
    shown _ (laid_out (nodes c.args.text.now c.args.us.now)) c.in_ok-rows.ensures.points c.in_ok-rows.ensures.places
    c.in_ok-rows.ensures.cells c.in_ok-rows.ensures.got
