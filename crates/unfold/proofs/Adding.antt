-- The occurrences in a call, and procedures by their index.
use Rattle.std.proofs.Common.{◌≡◌, ℕ, Bool, true, false, List, [], ◌∷◌, map, get_or, take, Some, None, vec_items, Option, Result, sym, refl, ap, ◌∙◌, subst}
use Rattle.std.specs.List.{zip}
use Rattle.reader.specs.declared.fault.Error.{Error}
use Rattle.reader.specs.Tokens.{same}
use Rattle.grammar.specs.declared.tree.Name as code-name
use Rattle.grammar.specs.declared.tree.Param as code-param
use Rattle.grammar.specs.declared.tree.Proc as code-proc
use Rattle.grammar.specs.Trees.{Name, Param, Proc}
use Rattle.grammar.specs.Views.{name, names, params}
use Rattle.names.specs.Naming.{Reading, find_proc}
use Rattle.names.specs.Scopes.{ended, place}
use Rattle.names.proofs.Places.{Skips, place_at, no_place}
use Rattle.unfold.specs.declared.uses.Use as code-use
use Rattle.unfold.specs.Variables.{Uses, uses_args}
use Rattle.unfold.specs.Unfolding.{callees, params_of, unfold_block}
use Rattle.unfold.specs.Calls.{callee_at, FoundAt}
use Rattle.unfold.specs.Occurrences.{uses, params_in, visible_params, Adds}

-- what a call's arguments add
abbrev pub use_of : code-param.Param × code-name.Name → code-use.Use
use_of q = record { name = q.1; written = q.0.reference }

pub uses_zip : (text : List ℕ) (ps : List code-param.Param) (as' : List code-name.Name) → uses text (map use_of (zip ps as')) ≡ uses_args (params text ps) (names text as')
uses_zip text [] as' = refl
uses_zip text (p ∷ ps) [] = refl
uses_zip text (p ∷ ps) (a ∷ as') = ap (λ (us : Uses). (name text a, p.reference) ∷ us) (uses_zip text ps as')

-- ---- procedures

no_reading : Reading
no_reading ds = None

skips : (l : Reading) (w : List ℕ) → Skips (λ ps. callees l ps w) w
skips l w p ps e = ap (λ (b : Bool). elim b [ true ↦ Some (record { params = p.params; body = λ v n. unfold_block l (λ y. callees l ps y) p.body v n }) | false ↦ callees l ps w ]) (sym e)

-- the place of a procedure is where a call finds it
pub found_at : (text w : List ℕ) (qs : List code-proc.Proc) (r : Option ℕ) → r ≡ place w (ended text qs) → FoundAt text qs w r
found_at text w qs None e = λ l. no_place (λ ps. callees l ps w) w (skips l w) (ended text qs) e
found_at text w qs (Some i) e = (
  (place_at (λ ps. callees no_reading ps w) text w (skips no_reading w) qs i e).0,
  λ l q h. let at = (place_at (λ ps. callees l ps w) text w (skips l w) qs i e).1 q h in
      at.1 ∙ ap (λ (b : Bool). elim b [ true ↦ Some (callee_at l text qs i q) | false ↦ callees l (ended text (take i qs)) w ]) (sym at.0),
)

-- the parameters of a callee are those of the visible procedure
pub visible_is : (l : Reading) (ps : List Proc) (x : List ℕ) → params_of (callees l ps x) ≡ visible_params ps x
visible_is l [] x = refl
visible_is l (p ∷ ps) x = go (same x p.name.text) (visible_is l ps x)
  where
    go : (t : Bool) → params_of (callees l ps x) ≡ visible_params ps x
        → params_of (elim t [ true ↦ Some (record { params = p.params; body = λ v n. unfold_block l (λ y. callees l ps y) p.body v n }) | false ↦ callees l ps x ])
        ≡ params_in (elim t [ true ↦ Some p | false ↦ find_proc ps x ])
    go true h = refl
    go false h = h

pub call_params : (text w : List ℕ) (qs : List code-proc.Proc) (i : ℕ) (q : code-proc.Proc) → FoundAt text qs w (Some i) → q ≡ get_or qs i q
    → visible_params (ended text qs) w ≡ params text (vec_items q.params)
call_params text w qs i q h e = sym (visible_is no_reading (ended text qs) w) ∙ ap params_of (h.1 no_reading q e)

pub call_none : (text w : List ℕ) (qs : List code-proc.Proc) → FoundAt text qs w None → visible_params (ended text qs) w ≡ []
call_none text w qs h = sym (visible_is no_reading (ended text qs) w) ∙ ap params_of (h no_reading)

pub call_adds : (text w : List ℕ) (qs : List code-proc.Proc) (i : ℕ) (q : code-proc.Proc) (old end : List code-use.Use) (as' : List Name) (r : Result (Unit {0}) Error) (ps : List code-param.Param)
    → FoundAt text qs w (Some i) → q ≡ get_or qs i q → ps ≡ vec_items q.params → Adds text old (uses_args (params text ps) as') r end
    → Adds text old (uses_args (visible_params (ended text qs) w) as') r end
call_adds text w qs i q old end as' r ps h e f a =
    subst (λ (zs : List Param). Adds text old (uses_args zs as') r end) (ap (params text) f ∙ sym (call_params text w qs i q h e)) a
