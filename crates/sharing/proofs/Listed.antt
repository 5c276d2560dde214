-- Tests of lists of names and of the variables that a branch got.
use Rattle.std.proofs.Common.{◌≡◌, ℕ, ◌+◌, ◌<◌, ◌≤◌, Bool, true, not, ◌&&◌, ◌||◌, List, [], ◌∷◌, length, get_or, drop, is_some, Some, None, Option, sym, refl, ap, ◌∙◌}
use Rattle.std.proofs.lemmas.List.{at_drop_more, at_drop_all}
use Rattle.std.specs.List.{list_any, list_all}
use Rattle.std.specs.Option.{is_none}
use Rattle.reader.specs.Tokens.{same, among}
use Rattle.grammar.specs.declared.tree.Name as code-name
use Rattle.grammar.specs.Views.{name}
use Rattle.names.specs.Scopes.{scope}
use Rattle.names.proofs.Stacks.{among_scope}
use Rattle.unfold.specs.declared.nodes.Got as code_got
use Rattle.unfold.specs.Sharing.{names_distinct, writes, none_among}
use Rattle.unfold.specs.Views.{spellings, gots}

-- the order of a list does not matter to whether a name stands in it
among_spellings : (text w : List ℕ) (ns : List code-name.Name) → list_any (λ (m : code-name.Name). same w (name text m).text) ns ≡ among w (spellings text ns)
among_spellings text w [] = refl
among_spellings text w (n ∷ ns) = ap (λ (b : Bool). same w (name text n).text || b) (among_spellings text w ns)

pub among_listed : (text w : List ℕ) (ns : List code-name.Name) → among w (scope text ns) ≡ among w (spellings text ns)
among_listed text w ns = among_scope text w ns ∙ among_spellings text w ns

-- a name of the rest stands again after it, or not
pub distinct_more : (text : List ℕ) (ns ms : List code-name.Name) (i : ℕ) (d : code-name.Name) (b : Bool) → i < length ns → ms ≡ drop (i + 1) ns
    → b ≡ among (name text (get_or ns i d)).text (scope text ms) → names_distinct (spellings text (drop i ns)) ≡ (not b && names_distinct (spellings text (drop (i + 1) ns)))
distinct_more text ns ms i d b h k e =
    let w = (name text (get_or ns i d)).text in
    at_drop_more (λ (xs : List code-name.Name). names_distinct (spellings text xs)) ns i d h
    ∙ ap (λ (x : Bool). not x && names_distinct (spellings text (drop (i + 1) ns)))
    (sym (e ∙ among_listed text w ms ∙ ap (λ (xs : List code-name.Name). among w (spellings text xs)) k))

pub distinct_end : (text : List ℕ) (ns : List code-name.Name) (i : ℕ) → length ns ≤ i → names_distinct (spellings text (drop i ns)) ≡ true
distinct_end text ns i h = at_drop_all (λ (ms : List code-name.Name). names_distinct (spellings text ms)) ns i h

-- the first variable, which is written or not
first_among : (w a : List ℕ) (ws : List (List ℕ)) (o : Option ℕ) → among w (elim o [ None ↦ a ∷ ws | Some c ↦ ws ]) ≡ ((is_none o && same w a) || among w ws)
first_among w a ws None = refl
first_among w a ws (Some c) = refl

first_apart : (a : List ℕ) (ws vs : List (List ℕ)) (o : Option ℕ) → none_among (elim o [ None ↦ a ∷ ws | Some c ↦ ws ]) vs ≡ ((is_some o || not (among a vs)) && none_among ws vs)
first_apart a ws vs None = refl
first_apart a ws vs (Some c) = refl

pub any_written : (text w : List ℕ) (gs : List code_got.Got) → list_any (λ (g : code_got.Got). is_none g.from && same w (name text g.name).text) gs ≡ among w (writes (gots text gs))
any_written text w [] = refl
any_written text w (g ∷ gs) =
    ap (λ (b : Bool). (is_none g.from && same w (name text g.name).text) || b) (any_written text w gs) ∙ sym (first_among w (name text g.name).text (writes (gots text gs)) g.from)

pub all_unshared : (text : List ℕ) (vs : List (List ℕ)) (gs : List code_got.Got)
    → list_all (λ (g : code_got.Got). is_some g.from || not (among (name text g.name).text vs)) gs ≡ none_among (writes (gots text gs)) vs
all_unshared text vs [] = refl
all_unshared text vs (g ∷ gs) =
    ap (λ (b : Bool). (is_some g.from || not (among (name text g.name).text vs)) && b) (all_unshared text vs gs) ∙ sym (first_apart (name text g.name).text (writes (gots text gs)) vs g.from)
