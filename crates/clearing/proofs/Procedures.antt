-- The procedures that the stage of names answers are those of the tree, the last in front.
use Rattle.std.proofs.Common.{◌≡◌, ℕ, List, [], ◌∷◌, Ok, vec_items, sym, ap, ◌∙◌}
use Rattle.reader.specs.Faults.{Answer, Meets, ◌>>=◌}
use Rattle.grammar.specs.declared.tree.Proc as code-proc
use Rattle.grammar.specs.declared.tree.Tree as code-tree
use Rattle.grammar.specs.Trees.{Proc}
use Rattle.grammar.specs.Views.{proc, procs, block, tree}
use Rattle.names.specs.Naming.{Reading, names_proc, names_procs, names_block, named}
use Rattle.names.specs.Scopes.{after, ended}
use Rattle.names.proofs.Declaring.{met_ok}
use Rattle.unfold.specs.Unfolded.{Nodes}
use Rattle.unfold.specs.Unfolding.{unfolded}
use Rattle.unfold.specs.Sharing.{sharing}
use Rattle.program.proofs.Results.{bound, ok_eq}
use Rattle.clearing.specs.Stages.{nodes_of}

pub procs_are : (l : Reading) (text : List ℕ) (before : List Proc) (qs : List code-proc.Proc) (ps : List Proc)
    → names_procs l before (procs text qs) ≡ Ok ps → ps ≡ after text before qs
procs_are l text before [] ps e = sym (ok_eq before ps e)
procs_are l text before (q ∷ qs) ps e =
    let b = bound (names_proc l before (proc text q)) (λ u. names_procs l (proc text q ∷ before) (procs text qs)) ps e in
    procs_are l text (proc text q ∷ before) qs ps b.2

pub named_are : (l : Reading) (text : List ℕ) (t : code-tree.Tree) (ps : List Proc) → named l (tree text t) ≡ Ok ps → ps ≡ ended text (vec_items t.procs)
named_are l text t ps e =
    let b = bound (names_procs l [] (procs text (vec_items t.procs))) (λ qs. names_block l qs [] (tree text t).main >>= (λ u. Ok qs)) ps e in
    let d = bound (names_block l b.0 [] (tree text t).main) (λ u. Ok b.0) ps b.2 in
    sym (ok_eq b.0 ps d.2) ∙ procs_are l text [] (vec_items t.procs) b.0 b.1

-- after the stage of names the tree is unfolded with its own procedures
pub after_names : (l : Reading) (text : List ℕ) (t : code-tree.Tree) (u : Unit {0})
    → Meets (λ (v : Unit {0}) (ps : List Proc). Unit {0}) (Ok u) (named l (tree text t))
    → nodes_of l (tree text t) ≡ (unfolded l (ended text (vec_items t.procs)) (block text t.main) >>= (λ us. sharing [] us >>= (λ w. Ok us)))
after_names l text t u h =
    let m = met_ok (λ (v : Unit {0}) (ps : List Proc). Unit {0}) u (named l (tree text t)) h in
    let f : List Proc → Answer Nodes = λ ps. unfolded l ps (block text t.main) >>= (λ us. sharing [] us >>= (λ w. Ok us)) in
    ap (λ (a : Answer (List Proc)). a >>= f) m.1 ∙ ap f (named_are l text t m.0 m.1)
