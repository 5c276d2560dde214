use Rattle.std.proofs.Common.{rules, sym, ◌∙◌}
use Rattle.std.proofs.lemmas.Iterator.{YieldsList-from_slice}
use Rattle.std.proofs.lemmas.Iterator.Search.{any_from_yields_List}
use Rattle.reader.specs.Tokens.{same}
use Rattle.grammar.specs.declared.tree.Name as code-name
use Rattle.grammar.specs.Views.{name}
use Rattle.names.proofs.Stacks.{among_scope}
use Rattle.names.proofs.visible.is_among.Goals as goal

pub returns : goal.returns
returns c =
    let text = c.args.text.now in
    let w = (name text c.args.n).text in
    any_from_yields_List (λ (m : code-name.Name). same w (name text m).text) _ _ _ c.any.ensures.ran (YieldsList-from_slice c.args.names.now cc) (λ x b q k. search rules)
    ∙ sym (among_scope text w c.args.names.now)
