use Rattle.std.proofs.Common.{◌≡◌, vec_items, sym, ◌∙◌, rules}
use Rattle.unfold.specs.Views.{nodes}
use Rattle.program.specs.Sizes.{size}
use Rattle.layout.specs.Given.{nodes_given}
use Rattle.layout.proofs.Fitting.{within_fits}
use Rattle.layout.proofs.Numbering.{given_is}
use Rattle.layout.proofs.whole.lay_rows.Goals as goal

pub put_block-requires-clause-fit : goal.put_block-requires-clause-fit
put_block-requires-clause-fit c = within_fits (nodes c.args.text.now c.args.us.now) c.requires

pub returns-clause-got : goal.returns-clause-got
returns-clause-got c =
    let us = nodes c.args.text.now c.args.us.now in
    let e : vec_items c.put_block.new.rows.got ≡ nodes_given us 1 = search rules in
    e ∙ sym (given_is (size us) 0 us 1 0)
