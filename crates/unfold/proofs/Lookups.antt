-- Looking up a name in a table.
use Rattle.std.proofs.Common.{◌≡◌, ℕ, Bool, true, false, cond, ◌&&◌, ◌||◌, List, [], ◌∷◌, Some, Option, refl, ap, find}
use Rattle.std.specs.List.{list_any}
use Rattle.reader.specs.Tokens.{same}
use Rattle.grammar.specs.Views.{name}
use Rattle.unfold.specs.declared.scopes.Binding as code-binding
use Rattle.unfold.specs.declared.uses.Use as code-use
use Rattle.unfold.specs.Scopes.{Binding, lookup}
use Rattle.unfold.specs.Variables.{written}
use Rattle.unfold.specs.Occurrences.{uses}
use Rattle.unfold.specs.Views.{env, binding, perhaps}

pub lookup_find : (text w : List ℕ) (bs : List code-binding.Binding) → perhaps (binding text) (find (λ b. same w (name text b.name).text) bs) ≡ lookup (env text bs) w
lookup_find text w [] = refl
lookup_find text w (b ∷ bs) = go (same w (name text b.name).text) (lookup_find text w bs)
  where
    F : Option code-binding.Binding
    F = find (λ (x : code-binding.Binding). same w (name text x.name).text) bs

    go : (t : Bool) → perhaps (binding text) F ≡ lookup (env text bs) w
        → perhaps (binding text) (cond t (Some b) F) ≡ elim t as (λ z. Option Binding) [ true ↦ Some (binding text b) | false ↦ lookup (env text bs) w ]
    go true h = refl
    go false h = h

pub written_any : (text w : List ℕ) (us : List code-use.Use) → list_any (λ (u : code-use.Use). u.written && same w (name text u.name).text) us ≡ written (uses text us) w
written_any text w [] = refl
written_any text w (u ∷ us) = ap (λ (b : Bool). (u.written && same w (name text u.name).text) || b) (written_any text w us)
