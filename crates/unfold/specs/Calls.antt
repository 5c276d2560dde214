-- Procedures by their index in the code's table, in which the last stands last.
use Rattle.std.specs.Prelude.{◌≡◌, ℕ, ◌<◌, List, length, take, Some, None, Ok, vec_items, Option, slice_index_or}
use Rattle.grammar.specs.declared.tree.Proc as code-proc
use Rattle.reader.specs.Faults.{Answer, ◌>>=◌}
use Rattle.grammar.specs.Trees.{Name, Block, Blocks, Proc, Param}
use Rattle.grammar.specs.Views.{params, block}
use Rattle.names.specs.Naming.{Reading}
use Rattle.names.specs.Scopes.{ended}
use Rattle.unfold.specs.Unfolded.{calls, Node, two, par, nil}
use Rattle.unfold.specs.Scopes.{Env}
use Rattle.unfold.specs.Variables.{all_get, all_new}
use Rattle.unfold.specs.Unfolding.{Count, Callee, callees, passes, brings, branch_count, unfold_block, unfold_blocks}
use Rattle.unfold.specs.Occurrences.{visible_params}

-- the procedure at an index, which sees those before it
abbrev pub callee_at : Reading → List ℕ → List code-proc.Proc → ℕ → code-proc.Proc → Callee
callee_at l text qs i q =
    record { params = params text (vec_items q.params); body = λ v n. unfold_block l (callees l (ended text (take i qs))) (block text q.body) v n }

-- the index of the procedure that a name calls
abbrev pub FoundAt : List ℕ → List code-proc.Proc → List ℕ → Option ℕ → Type 0
FoundAt text qs w None = (l : Reading) → callees l (ended text qs) w ≡ None
FoundAt text qs w (Some i) =
    (i < length qs) × ((l : Reading) (q : code-proc.Proc) → q ≡ slice_index_or qs i q → callees l (ended text qs) w ≡ Some (callee_at l text qs i q))

-- a call of a procedure, by those that it sees, its parameters and its block
abbrev pub entered : Reading → List Proc → List Param → Block → Env → Count → ℕ → List Name → Answer (Node × Count)
entered l ps params body v n at as' =
    passes v params as' n.cells >>= (λ p.
    brings n 0 (length p.news) at >>= (λ m.
    unfold_block l (callees l ps) body p.env m >>= (λ r. Ok (two at p.news (calls p.copies p.refs) r.0 nil, r.1))))

-- a par, by the parameters of the visible procedures
abbrev pub parted : Reading → List Proc → Env → Count → ℕ → Blocks → Answer (Node × Count)
parted l ps v n at bs =
    brings n (branch_count bs) (length (all_new (all_get (visible_params ps) v bs 0))) at >>= (λ m.
    unfold_blocks l (callees l ps) bs (all_get (visible_params ps) v bs n.cells) m >>= (λ r.
    Ok (par at (all_new (all_get (visible_params ps) v bs 0)) r.0, r.1)))
