-- The visible procedures.
use Rattle.std.proofs.Common.{◌≡◌, ℕ, suc, Bool, true, false, eqb, List, [], ◌∷◌, ◌++◌, length, get_or, take, Some, None, Option, vec_items, sym, refl, ap, ◌∙◌}
use Rattle.reader.specs.declared.fault.Cause.TheVariants.{ArgumentCount}
use Rattle.reader.specs.Faults.{◌>>=◌, must}
use Rattle.grammar.specs.declared.tree.Name as code-name
use Rattle.grammar.specs.declared.tree.Param as code-param
use Rattle.grammar.specs.declared.tree.Proc as code-proc
use Rattle.grammar.specs.Trees.{Name, Proc}
use Rattle.grammar.specs.Views.{names, params, proc}
use Rattle.names.specs.Naming.{Scope, find_proc, names_call, all_visible}
use Rattle.names.specs.Scopes.{after, ended, place, arity}
use Rattle.names.proofs.Places.{Skips, place_at, no_place}

pub after_push : (text : List ℕ) (ps : List Proc) (qs : List code-proc.Proc) (q : code-proc.Proc) → after text ps (qs ++ (q ∷ [])) ≡ proc text q ∷ after text ps qs
after_push text ps [] q = refl
after_push text ps (r ∷ qs) q = after_push text (proc text r ∷ ps) qs q

pub length_params : (text : List ℕ) (ps : List code-param.Param) → length (params text ps) ≡ length ps
length_params text [] = refl
length_params text (p ∷ ps) = ap suc (length_params text ps)

-- how many parameters the procedure has that stands at the place of a name
skips : (w : List ℕ) → Skips (λ ps. find_proc ps w) w
skips w p ps e = ap (λ (b : Bool). elim b [ true ↦ Some p | false ↦ find_proc ps w ]) (sym e)

pub arity_at : (text w : List ℕ) (qs : List code-proc.Proc) (i : ℕ) (q : code-proc.Proc) → Some i ≡ place w (ended text qs) → q ≡ get_or qs i q
    → Some (length (vec_items q.params)) ≡ arity (find_proc (ended text qs) w)
arity_at text w qs i q e k =
    let h = (place_at (λ ps. find_proc ps w) text w (skips w) qs i e).1 q k in
    ap Some (sym (length_params text (vec_items q.params)))
    ∙ sym (ap arity (h.1 ∙ ap (λ (b : Bool). elim b [ true ↦ Some (proc text q) | false ↦ find_proc (ended text (take i qs)) w ]) (sym h.0)))

pub no_proc : (w : List ℕ) (ps : List Proc) → None ≡ place w ps → find_proc ps w ≡ None
no_proc w ps e = no_place (λ qs. find_proc qs w) w (skips w) ps e

pub length_names : (text : List ℕ) (ns : List code-name.Name) → length (names text ns) ≡ length ns
length_names text [] = refl
length_names text (n ∷ ns) = ap suc (length_names text ns)

-- a call of a procedure with so many parameters
pub call_some : (text : List ℕ) (v : Scope) (o : Option Proc) (n : Name) (ns : List code-name.Name) (k : ℕ) → Some k ≡ arity o
    → names_call v o n (names text ns) ≡ (must (eqb k (length ns)) ArgumentCount n.at >>= (λ u. all_visible v (names text ns)))
call_some text v None n ns k e = absurd (let z : Some k ≡ None = e in cc)
call_some text v (Some p) n ns k e =
    let i : length p.params ≡ k = cc in
    ap (λ (m : ℕ). must (eqb m (length (names text ns))) ArgumentCount n.at >>= (λ u. all_visible v (names text ns))) i
    ∙ ap (λ (m : ℕ). must (eqb k m) ArgumentCount n.at >>= (λ u. all_visible v (names text ns))) (length_names text ns)
