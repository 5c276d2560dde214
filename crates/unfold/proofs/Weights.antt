-- What every call and every block makes smaller.
use Rattle.std.proofs.Common.{ℕ, zero, suc, ◌+◌, ◌<◌, ◌≤◌, List, [], ◌∷◌, length, get_or, take, arith}
use Rattle.grammar.specs.declared.tree.Proc as code-proc
use Rattle.grammar.proofs.tree.Block.TheLaws as sizes

abbrev pub weight : code-proc.Proc → ℕ
weight q = suc (sizes.the_size q.body)

abbrev pub weights : List code-proc.Proc → ℕ
weights [] = 0
weights (q ∷ qs) = weight q + weights qs

pub lighter : (qs : List code-proc.Proc) (i : ℕ) (d : code-proc.Proc) → i < length qs → weight (get_or qs i d) + weights (take i qs) ≤ weights qs
lighter [] i d h = absurd (omega arith)
lighter (p ∷ qs) zero d h = omega arith
lighter (p ∷ qs) (suc i) d h = let w = lighter qs i d (omega arith) in omega arith
