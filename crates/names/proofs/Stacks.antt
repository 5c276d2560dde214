-- A table as a stack: its last entry is the first of the list that it stands for.
use Rattle.std.proofs.Common.{◌≡◌, ℕ, Bool, ◌||◌, List, [], ◌∷◌, ◌++◌, sym, refl, ap, ◌∙◌}
use Rattle.std.proofs.Math.Bool.{or_comm, or_assoc, or-false}
use Rattle.std.specs.List.{list_any}
use Rattle.reader.specs.Tokens.{same, among}
use Rattle.grammar.specs.declared.tree.Name as code-name
use Rattle.grammar.specs.Views.{name}
use Rattle.names.specs.Naming.{Scope}
use Rattle.names.specs.Scopes.{stacked, scope}

pub stacked_push : (text : List ℕ) (v : Scope) (ns : List code-name.Name) (n : code-name.Name)
    → stacked text v (ns ++ (n ∷ [])) ≡ (name text n).text ∷ stacked text v ns
stacked_push text v [] n = refl
stacked_push text v (m ∷ ns) n = stacked_push text ((name text m).text ∷ v) ns n

-- ---- a test of a table, which need not look at the last name first

among_stacked : (text w : List ℕ) (v : Scope) (ns : List code-name.Name) → among w (stacked text v ns) ≡ (list_any (λ (m : code-name.Name). same w (name text m).text) ns || among w v)
among_stacked text w v [] = refl
among_stacked text w v (n ∷ ns) =
    among_stacked text w ((name text n).text ∷ v) ns ∙ sym (or_assoc (list_any (λ (m : code-name.Name). same w (name text m).text) ns) (same w (name text n).text) (among w v))
    ∙ ap (λ (b : Bool). b || among w v) (or_comm (list_any (λ (m : code-name.Name). same w (name text m).text) ns) (same w (name text n).text))

pub among_scope : (text w : List ℕ) (ns : List code-name.Name) → among w (scope text ns) ≡ list_any (λ (m : code-name.Name). same w (name text m).text) ns
among_scope text w ns = among_stacked text w [] ns ∙ or-false (list_any (λ (m : code-name.Name). same w (name text m).text) ns)
