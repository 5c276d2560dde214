use Rattle.std.proofs.Common.{◌≡◌, ◌++◌, vec_items, rules, tests, ap, ◌∙◌}
use Rattle.std.specs.List.{filter_map}
use Rattle.std.proofs.lemmas.Iterator.{YieldsList-from_slice}
use Rattle.std.proofs.lemmas.Iterator.Adapters.{items_from_extend}
use Rattle.std.proofs.lemmas.Iterator.Consumers.{YieldsList-from_filter_map}
use Rattle.tables.specs.Stms.{copies}
use Rattle.layout.proofs.Sharing.{own_copy, own_copies, copies_append}
use Rattle.layout.proofs.pars.push_own.Goals as goal

pub returns : goal.returns
returns c = λ text.
    let was = vec_items c.args.out.now in
    let gs = c.args.gots.now in
    let h = items_from_extend c.extend.result c.extend.ensures.ran (YieldsList-from_filter_map _ own_copy (YieldsList-from_slice gs cc) c.filter_map.ensures.closure (λ x r q k. search (rules, tests))) in
    let e : vec_items c.extend.new.self ≡ was ++ filter_map own_copy gs = search rules in
    ap copies e ∙ copies_append was (filter_map own_copy gs) ∙ ap (λ l. copies was ++ l) (own_copies text gs)
