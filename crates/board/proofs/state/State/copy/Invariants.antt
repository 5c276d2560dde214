use Rattle.std.proofs.Common.{◌≡◌, ◌++◌, length, drop}
use Rattle.std.specs.Iterator.Adapters.{rev_source}
use Rattle.std.specs.Slice.Iter.{iter_rest}
use Rattle.board.specs.Effects.{with_cells, copied}
use Rattle.board.proofs.state.State.copy.Given as goal

-- the copies that are left stand before those that were made
abbrev pub invariant-loop-c : goal.invariant-loop-c
invariant-loop-c l =
    let rest = iter_rest (rev_source l.c-iterator) in
    record {
      split : rest ++ drop (length rest) l.list ≡ l.list;
      made : l.self ≡ with_cells l.initial.self (copied l.initial.self.cells (drop (length rest) l.list));
    }
