use Rattle.std.proofs.Common.{◌≡◌, ap, ◌∙◌, rules, tests, find}
use Rattle.std.proofs.lemmas.Iterator.{YieldsList-from_slice}
use Rattle.std.proofs.lemmas.Iterator.Search.{find_from_yields_List}
use Rattle.reader.specs.Tokens.{same}
use Rattle.grammar.specs.Views.{name}
use Rattle.unfold.specs.Views.{perhaps}
use Rattle.layout.specs.declared.tries.Held as code-held
use Rattle.layout.specs.Opens.{held}
use Rattle.layout.proofs.Nearest.{found}
use Rattle.layout.proofs.tries.nearest_try.Goals as goal

pub returns : goal.returns
returns c =
    let text = c.args.text.now in
    let w = (name text c.args.n).text in
    let rs = c.args.tries.now in
    let f = find_from_yields_List (λ (r : code-held.Held). same w (name text r.name).text) _ _ c.find.result c.find.ensures.ran (YieldsList-from_slice rs cc) (λ x b q k. search (rules, tests)) in
    let e : c.copied.result ≡ find (λ r. same w (name text r.name).text) rs = search (rules, f) in
    ap (perhaps (held text)) e ∙ found text w rs
