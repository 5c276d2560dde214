use Rattle.std.proofs.Common.{List, vec_items, sym, ap, ◌∙◌, subst, ap₂}
use Rattle.grammar.specs.Trees.{Block, Blocks, Also}
use Rattle.grammar.specs.Views.{block, blocks}
use Rattle.unfold.specs.declared.nodes.Got as code_got
use Rattle.unfold.specs.Variables.{all_get, all_new}
use Rattle.unfold.specs.Occurrences.{visible_params}
use Rattle.unfold.specs.Views.{gots, variables, visible, MoreNews}
use Rattle.unfold.proofs.Gains.{branch_news}
use Rattle.unfold.proofs.scopes.Scope.+add_branch_news.Goals as goal

pub returns-in_ok-add_news-in-Also : goal.returns-in_ok-add_news-in-Also
returns-in_ok-add_news-in-Also t c =
    let text = c.args.self.now.text.now in
    let f = visible_params (visible c.args.self.now) in
    let v = variables c.args.self.now in
    let a = block text c.deref.result.now in
    let bs = blocks text c.deref-in-Also.result.now in
    let old = vec_items c.args.out.now in
    let end = vec_items c.add_branch_news.new.out in
    let r = c.add_branch_news.result in
    subst (λ (x : Blocks). MoreNews text old (all_new (all_get f v x 0)) r end)
    (ap₂ {B = Blocks} (λ (x : Block) (y : Blocks). Also x y) (ap (block text) c.deref.ensures) (ap (blocks text) c.deref-in-Also.ensures) ∙ sym (ap (blocks text) c.in-Also.is))
    (branch_news text f v a bs old (vec_items c.add_news.new.out) end (gots text c.as_slice.result.now) r
    (ap (λ (gs : List code_got.Got). gots text gs) c.as_slice.ensures.value ∙ c.in_ok-s-in-Also.ensures.0) c.in_ok-add_news-in-Also.ensures c.add_branch_news.ensures)
