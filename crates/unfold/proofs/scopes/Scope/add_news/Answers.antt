use Rattle.std.proofs.Common.{◌≡◌, List, ◌++◌, map, filter, is_some, vec_items, ap, ◌∙◌, rules, tests}
use Rattle.std.proofs.lemmas.Iterator.{YieldsList-from_slice, YieldsList-from_map}
use Rattle.std.proofs.lemmas.Iterator.Consumers.{YieldsList-at, YieldsList-from_filter}
use Rattle.std.proofs.lemmas.Iterator.Adapters.{items_from_extend}
use Rattle.unfold.specs.declared.nodes.Got as code_got
use Rattle.unfold.specs.declared.nodes.New as code-new
use Rattle.unfold.specs.Unfolded.{New}
use Rattle.unfold.specs.Views.{news}
use Rattle.unfold.proofs.Gains.{new_of, news_app, news_kept}
use Rattle.unfold.proofs.scopes.Scope.add_news.Goals as goal

pub returns : goal.returns
returns c =
    let text = c.args.self.now.text.now in
    let gs = c.args.got.now in
    let old = vec_items c.args.out.now in
    let kept = filter (λ (g : code_got.Got). is_some g.from) gs in
    let ran = items_from_extend c.extend.result c.extend.ensures.ran
    (YieldsList-from_map _ new_of (YieldsList-at c.map.ensures.source (YieldsList-from_filter _ (λ (g : code_got.Got). is_some g.from) (YieldsList-from_slice gs cc) c.filter.ensures.closure (λ x r q k. search (rules, tests)))) c.map.ensures.closure (λ x r q k. search rules)) in
    let e : vec_items c.extend.new.self ≡ old ++ map new_of kept = search rules in
    ap (λ (ns : List code-new.New). news text ns) e ∙ news_app text old (map new_of kept) ∙ ap (λ (ns : List New). news text old ++ ns) (news_kept text gs)
