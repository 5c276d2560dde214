use Rattle.std.proofs.Common.{◌≡◌, List, ◌++◌, map, vec_items, ap, ◌∙◌, rules}
use Rattle.std.specs.List.{zip}
use Rattle.std.proofs.lemmas.Iterator.{YieldsList-from_slice, YieldsList-from_map, YieldsList-from_zip}
use Rattle.std.proofs.lemmas.Iterator.Consumers.{YieldsList-at}
use Rattle.std.proofs.lemmas.Iterator.Adapters.{items_from_extend}
use Rattle.std.proofs.lemmas.List.{map-append}
use Rattle.unfold.specs.declared.uses.Use as code-use
use Rattle.unfold.specs.Variables.{Uses}
use Rattle.unfold.specs.Occurrences.{uses}
use Rattle.unfold.proofs.Adding.{use_of, uses_zip}
use Rattle.unfold.proofs.scopes.Scope.add_args.Goals as goal

pub returns : goal.returns
returns c =
    let text = c.args.self.now.text.now in
    let ps = c.args.params.now in
    let as' = c.args.args.now in
    let old = vec_items c.args.found.now in
    let ran = items_from_extend c.extend.result c.extend.ensures.ran
    (YieldsList-from_map _ use_of (YieldsList-at c.map.ensures.source (YieldsList-from_zip (YieldsList-from_slice ps cc) (YieldsList-from_slice as' cc))) c.map.ensures.closure (λ x r q k. search rules)) in
    let e : vec_items c.extend.new.self ≡ old ++ map use_of (zip ps as') = search rules in
    ap (λ (us : List code-use.Use). uses text us) e ∙ map-append _ old (map use_of (zip ps as')) ∙ ap (λ (us : Uses). uses text old ++ us) (uses_zip text ps as')
