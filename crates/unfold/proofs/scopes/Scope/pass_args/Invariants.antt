use Rattle.std.proofs.Common.{◌≡◌, ◌+◌, length, Ok, vec_items}
use Rattle.std.specs.Iterator.Adapters.{zip_first, zip_second}
use Rattle.std.specs.Slice.Iter.{iter_rest}
use Rattle.reader.specs.Faults.{◌>>=◌}
use Rattle.grammar.specs.Views.{names, params}
use Rattle.unfold.specs.Unfolding.{passes}
use Rattle.unfold.specs.Passing.{passed_with}
use Rattle.unfold.specs.Views.{variables}
use Rattle.unfold.proofs.scopes.Scope.pass_args.Given as goal

abbrev pub invariant-loop-p : goal.invariant-loop-p
invariant-loop-p l =
    let text = l.self.text.now in
    passes (variables l.self) (params text l.params) (names text l.args) l.n.cells
    ≡ (passes (variables l.self) (params text (iter_rest (zip_first l.p-iterator))) (names text (iter_rest (zip_second l.p-iterator))) (l.n.cells + length (vec_items l.s.news))
    >>= (λ r. Ok (passed_with text l.s r)))
