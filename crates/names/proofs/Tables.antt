-- Loops over the parameters of a procedure and over the procedures.
use Rattle.std.proofs.Common.{◌≡◌, ℕ, ◌+◌, ◌<◌, List, [], ◌∷◌, ◌++◌, length, get_or, take, drop, Ok, Err, sym, ap, ◌∙◌}
use Rattle.std.proofs.lemmas.List.{take_more, at_drop_more}
use Rattle.reader.specs.declared.fault.Error.{Error}
use Rattle.reader.specs.declared.fault.Error.TheVariants.{Refused, OutOfMemory}
use Rattle.reader.specs.Faults.{Answer, Meets, ◌>>=◌}
use Rattle.grammar.specs.declared.tree.Name as code-name
use Rattle.grammar.specs.declared.tree.Param as code-param
use Rattle.grammar.specs.declared.tree.Proc as code-proc
use Rattle.grammar.specs.Trees.{Proc}
use Rattle.grammar.specs.Views.{name, params, proc, procs}
use Rattle.names.specs.Naming.{Reading, Scope, undeclared, names_params, names_proc, names_procs}
use Rattle.names.specs.Scopes.{scope, ended}
use Rattle.names.proofs.Binds.{bind_ok}
use Rattle.names.proofs.Finding.{after_push}
use Rattle.names.proofs.Stacks.{stacked_push}

params_more : (text : List ℕ) (v : Scope) (ps : List code-param.Param) (i : ℕ) (d : code-param.Param) → i < length ps
    → names_params v (params text (drop i ps))
    ≡ (undeclared v (name text (get_or ps i d).name) >>= (λ u. names_params ((name text (get_or ps i d).name).text ∷ v) (params text (drop (i + 1) ps))))
params_more text v ps i d h = at_drop_more (λ (qs : List code-param.Param). names_params v (params text qs)) ps i d h

-- one parameter more, which was not visible
pub params_next : (text text' : List ℕ) (ns ms : List code-name.Name) (ps : List code-param.Param) (i : ℕ) (d : code-param.Param) → text' ≡ text → i < length ps
    → Ok tt ≡ undeclared (scope text' ns) (name text' (get_or ps i d).name) → ms ≡ ns ++ ((get_or ps i d).name ∷ [])
    → names_params (scope text' ns) (params text (drop i ps)) ≡ names_params (scope text' ms) (params text (drop (i + 1) ps))
params_next text text' ns ms ps i d t h e k =
    let n = (get_or ps i d).name in
    params_more text (scope text' ns) ps i d h
    ∙ bind_ok tt (λ (u : Unit {0}). names_params ((name text n).text ∷ scope text' ns) (params text (drop (i + 1) ps))) (e ∙ ap (λ (x : List ℕ). undeclared (scope text' ns) (name x n)) t)
    ∙ ap (λ (x : List ℕ). names_params ((name x n).text ∷ scope text' ns) (params text (drop (i + 1) ps))) (sym t)
    ∙ ap (λ (v : Scope). names_params v (params text (drop (i + 1) ps))) (sym (ap (scope text') k ∙ stacked_push text' [] ns n))

pub procs_more : (l : Reading) (text : List ℕ) (qs : List code-proc.Proc) (i : ℕ) (q : code-proc.Proc) → i < length qs → q ≡ get_or qs i q
    → names_procs l (ended text (take i qs)) (procs text (drop i qs))
    ≡ (names_proc l (ended text (take i qs)) (proc text q) >>= (λ u. names_procs l (ended text (take (i + 1) qs)) (procs text (drop (i + 1) qs))))
procs_more l text qs i q h e =
    at_drop_more (λ (rs : List code-proc.Proc). names_procs l (ended text (take i qs)) (procs text rs)) qs i q h
    ∙ ap (λ (r : code-proc.Proc). names_proc l (ended text (take i qs)) (proc text r) >>= (λ u. names_procs l (proc text r ∷ ended text (take i qs)) (procs text (drop (i + 1) qs)))) (sym e)
    ∙ ap (λ (ps : List Proc). names_proc l (ended text (take i qs)) (proc text q) >>= (λ u. names_procs l ps (procs text (drop (i + 1) qs))))
    (sym (ap (ended text) (take_more qs i q h ∙ ap (λ (r : code-proc.Proc). take i qs ++ (r ∷ [])) (sym e)) ∙ after_push text [] (take i qs) q))

-- a fault ends what follows
pub met_stop : {V W A B : Type 0} (P : V → A → Type 0) (Q : W → B → Type 0) (e : Error) (r : Answer A) (f : A → Answer B) → Meets P (Err e) r → Meets Q (Err e) (r >>= f)
met_stop P Q (Refused g) (Ok a) f h = absurd h
met_stop P Q (Refused g) (Err i) f h = h
met_stop P Q OutOfMemory r f h = tt
