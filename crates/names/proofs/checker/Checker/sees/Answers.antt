use Rattle.std.proofs.Common.{vec_items, reverse, sym, ◌∙◌, rules, tests}
use Rattle.std.proofs.lemmas.Iterator.Adapters.{YieldsList-from_rev_slice}
use Rattle.std.proofs.lemmas.Iterator.Search.{any_from_yields_List}
use Rattle.std.proofs.lemmas.List.Sorted.{list_any-IsPermutation, IsPermutation-reverse}
use Rattle.reader.specs.Tokens.{same}
use Rattle.grammar.specs.declared.tree.Name as code-name
use Rattle.grammar.specs.Views.{name}
use Rattle.names.proofs.Stacks.{among_scope}
use Rattle.names.proofs.checker.Checker.sees.Goals as goal

pub returns : goal.returns
returns g c =
    let text = c.args.self.now.text.now in
    let w = (name text c.args.n).text in
    let ns = vec_items c.args.self.now.vars in
    any_from_yields_List (λ (m : code-name.Name). same w (name text m).text) _ _ _ c.any.ensures.ran (YieldsList-from_rev_slice ns (search rules)) (λ x b q k. search (rules, tests))
    ∙ sym (list_any-IsPermutation (λ (m : code-name.Name). same w (name text m).text) ns (reverse ns) (IsPermutation-reverse ns))
    ∙ sym (among_scope text w ns)
