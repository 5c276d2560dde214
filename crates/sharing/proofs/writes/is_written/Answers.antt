use Rattle.std.proofs.Common.{◌&&◌, rules, ◌∙◌}
use Rattle.std.proofs.lemmas.Iterator.{YieldsList-from_slice}
use Rattle.std.proofs.lemmas.Iterator.Search.{any_from_yields_List}
use Rattle.std.specs.Option.{is_none}
use Rattle.reader.specs.Tokens.{same}
use Rattle.grammar.specs.Views.{name}
use Rattle.unfold.specs.declared.nodes.Got as code_got
use Rattle.sharing.proofs.Listed.{any_written}
use Rattle.sharing.proofs.writes.is_written.Goals as goal

pub returns : goal.returns
returns c =
    let text = c.args.text.now in
    let w = (name text c.args.n).text in
    any_from_yields_List (λ (g : code_got.Got). is_none g.from && same w (name text g.name).text) _ _ _ c.any.ensures.ran (YieldsList-from_slice c.args.gots.now cc) (λ x b q k. search rules)
    ∙ any_written text w c.args.gots.now
