use Rattle.std.proofs.Common.{◌≡◌, List, map, vec_items, ap, ◌∙◌, rules}
use Rattle.std.proofs.lemmas.Iterator.{YieldsList-from_slice, YieldsList-from_map, items_from_collect}
use Rattle.unfold.specs.declared.scopes.Binding as code-binding
use Rattle.unfold.specs.Views.{env}
use Rattle.unfold.proofs.Gains.{binding_of, env_map}
use Rattle.unfold.proofs.scopes.Scope.branch_bindings.Goals as goal

pub returns : goal.returns
returns c =
    let text = c.args.self.now.text.now in
    let gs = c.args.got.now in
    let ran = items_from_collect c.collect.result c.collect.ensures.ran (YieldsList-from_map _ binding_of (YieldsList-from_slice gs cc) c.map.ensures.closure (λ x r q k. search rules)) in
    let e : vec_items c.in_ok-collect.field-0 ≡ map binding_of gs = search rules in
    ap (λ (bs : List code-binding.Binding). env text bs) e ∙ env_map text gs
