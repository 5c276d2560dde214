use Rattle.std.proofs.Common.{vec_items, reverse, sym, ◌∙◌, rules, tests}
use Rattle.std.proofs.lemmas.Iterator.Adapters.{YieldsList-from_rev_slice}
use Rattle.std.proofs.lemmas.Iterator.Search.{any_from_yields_List}
use Rattle.std.proofs.lemmas.List.Sorted.{list_any-IsPermutation, IsPermutation-reverse}
use Rattle.reader.specs.Tokens.{same}
use Rattle.grammar.specs.Views.{name}
use Rattle.unfold.specs.declared.nodes.Got as code_got
use Rattle.unfold.proofs.Gains.{had_any}
use Rattle.unfold.proofs.gets.Getting.has.Goals as goal

pub returns : goal.returns
returns c =
    let text = c.args.text.now in
    let w = (name text c.args.n).text in
    let gs = vec_items c.args.self.now.got in
    any_from_yields_List (λ (g : code_got.Got). same w (name text g.name).text) _ _ _ c.any.ensures.ran (YieldsList-from_rev_slice gs (search rules)) (λ x b q k. search (rules, tests))
    ∙ sym (list_any-IsPermutation (λ (g : code_got.Got). same w (name text g.name).text) gs (reverse gs) (IsPermutation-reverse gs))
    ∙ had_any text w gs
