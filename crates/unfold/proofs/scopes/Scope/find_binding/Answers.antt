use Rattle.std.proofs.Common.{◌≡◌, ap, ◌∙◌, rules, tests, find}
use Rattle.std.proofs.lemmas.Iterator.{YieldsList-from_slice}
use Rattle.std.proofs.lemmas.Iterator.Search.{find_from_yields_List}
use Rattle.reader.specs.Tokens.{same}
use Rattle.grammar.specs.Views.{name}
use Rattle.unfold.specs.declared.scopes.Binding as code-binding
use Rattle.unfold.specs.Views.{binding, perhaps}
use Rattle.unfold.proofs.Lookups.{lookup_find}
use Rattle.unfold.proofs.scopes.Scope.find_binding.Goals as goal

pub returns : goal.returns
returns c =
    let text = c.args.self.now.text.now in
    let w = (name text c.args.n).text in
    let bs = c.args.self.now.bindings.now in
    let f = find_from_yields_List (λ (b : code-binding.Binding). same w (name text b.name).text) _ _ c.find.result c.find.ensures.ran (YieldsList-from_slice bs cc) (λ x b q k. search (rules, tests)) in
    let e : c.copied.result ≡ find (λ b. same w (name text b.name).text) bs = search (rules, f) in
    ap (perhaps (binding text)) e ∙ lookup_find text w bs
