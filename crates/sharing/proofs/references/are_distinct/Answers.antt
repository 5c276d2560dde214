use Rattle.std.proofs.Common.{◌+◌, true, false, sym, ◌∙◌}
use Rattle.std.proofs.lemmas.List.{take_rest}
use Rattle.sharing.proofs.Listed.{distinct_more, distinct_end}
use Rattle.sharing.proofs.references.are_distinct.Goals as goal

pub returns-then-is_among : goal.returns-then-is_among
returns-then-is_among c =
    let list = c.args.list.now in
    let i = c.loop-i.i in
    sym (c.loop-i.invariant ∙ distinct_more c.args.text.now list _ i _ true c.loop-i-test.true (take_rest list (i + 1)) c.if-is_among.ensures)

pub loop-i-preserved : goal.loop-i-preserved
loop-i-preserved c =
    let list = c.args.list.now in
    let i = c.loop-i.i in
    c.loop-i.invariant ∙ distinct_more c.args.text.now list _ i _ false c.loop-i-test.true (take_rest list (i + 1)) c.if-is_among.ensures

pub returns : goal.returns
returns c = sym (c.loop-i.invariant ∙ distinct_end c.args.text.now c.args.list.now _ c.loop-i-test.false)
