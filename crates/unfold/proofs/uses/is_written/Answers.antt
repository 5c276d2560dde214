use Rattle.std.proofs.Common.{◌&&◌, ◌∙◌, rules, tests}
use Rattle.std.proofs.lemmas.Iterator.{YieldsList-from_slice}
use Rattle.std.proofs.lemmas.Iterator.Search.{any_from_yields_List}
use Rattle.reader.specs.Tokens.{same}
use Rattle.grammar.specs.Views.{name}
use Rattle.unfold.specs.declared.uses.Use as code-use
use Rattle.unfold.proofs.Lookups.{written_any}
use Rattle.unfold.proofs.uses.is_written.Goals as goal

pub returns : goal.returns
returns c =
    let text = c.args.text.now in
    let w = (name text c.args.n).text in
    let us = c.args.found.now in
    any_from_yields_List (λ (u : code-use.Use). u.written && same w (name text u.name).text) _ _ _ c.any.ensures.ran (YieldsList-from_slice us cc) (λ x b q k. search (rules, tests))
    ∙ written_any text w us
