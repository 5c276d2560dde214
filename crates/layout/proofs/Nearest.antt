-- The nearest open try of a name is the first that is found.
use Rattle.std.proofs.Common.{◌≡◌, ℕ, Bool, true, false, cond, List, [], ◌∷◌, Some, Option, refl, ap, ◌∙◌}
use Rattle.std.specs.List.{find}
use Rattle.reader.specs.Tokens.{same}
use Rattle.program.specs.Layout.{Open, nearest}
use Rattle.unfold.specs.Views.{perhaps}
use Rattle.layout.specs.declared.tries.Held as code-held
use Rattle.layout.specs.Opens.{held, all_held}

here : (text : List ℕ) (b : Bool) (r : code-held.Held) (o : Option code-held.Held)
    → perhaps (held text) (cond b (Some r) o) ≡ elim b [ true ↦ Some (held text r) | false ↦ perhaps (held text) o ]
here text true r o = refl
here text false r o = refl

pub found : (text w : List ℕ) (rs : List code-held.Held)
    → perhaps (held text) (find (λ r. same w (held text r).name) rs) ≡ nearest w (all_held text rs)
found text w [] = refl
found text w (r ∷ rs) =
    let b = same w (held text r).name in
    here text b r (find (λ (x : code-held.Held). same w (held text x).name) rs)
    ∙ ap (λ (o : Option Open). elim b [ true ↦ Some (held text r) | false ↦ o ]) (found text w rs)
