use Rattle.std.proofs.Common.{◌≡◌, ◌++◌, get_or, set, sym, ap, ◌∙◌, arith, rules}
use Rattle.std.proofs.lemmas.List.{append-nil}
use Rattle.std.specs.Iterator.Adapters.{rev_source}
use Rattle.std.specs.Slice.Iter.{iter_rest}
use Rattle.board.specs.declared.state.State.{State}
use Rattle.board.specs.Effects.{with_cells, copied}
use Rattle.board.proofs.Copying.{all_left, next_drop, split_next, copy_in}
use Rattle.board.proofs.state.State.copy.Goals as goal

pub loop-c-init : goal.loop-c-init
loop-c-init c =
    let list = c.args.list.now in
    let rest = iter_rest (rev_source c.into_iter-c-iterator.result) in
    let e : rest ≡ list = search rules in
    let none = all_left list rest e in
    record {
      split = ap (λ v. rest ++ v) none ∙ append-nil rest ∙ e;
      made = ap (λ v. with_cells c.args.self.now (copied c.args.self.now.cells v)) (sym none);
    }

pub bounds-old-c : goal.bounds-old-c
bounds-old-c c =
    (copy_in c.args.list.now (iter_rest (rev_source c.loop-c.c-iterator)) (iter_rest (rev_source c.next.new.self)) c.in-Some.c.now c.loop-c.invariant.split c.in-Some.ensures.steps c.requires).1

pub bounds-self-c : goal.bounds-self-c
bounds-self-c c =
    (copy_in c.args.list.now (iter_rest (rev_source c.loop-c.c-iterator)) (iter_rest (rev_source c.next.new.self)) c.in-Some.c.now c.loop-c.invariant.split c.in-Some.ensures.steps c.requires).0

pub offset_bounds-old-c : goal.offset_bounds-old-c
offset_bounds-old-c c = let h = copy_in c.args.list.now (iter_rest (rev_source c.loop-c.c-iterator)) (iter_rest (rev_source c.next.new.self)) c.in-Some.c.now c.loop-c.invariant.split c.in-Some.ensures.steps c.requires in omega (arith, h.1)

pub offset_bounds-self-c : goal.offset_bounds-self-c
offset_bounds-self-c c = let h = copy_in c.args.list.now (iter_rest (rev_source c.loop-c.c-iterator)) (iter_rest (rev_source c.next.new.self)) c.in-Some.c.now c.loop-c.invariant.split c.in-Some.ensures.steps c.requires in omega (arith, h.0)

pub loop-c-preserved : goal.loop-c-preserved
loop-c-preserved c =
    let list = c.args.list.now in
    let rest = iter_rest (rev_source c.loop-c.c-iterator) in
    let left = iter_rest (rev_source c.next.new.self) in
    let x = c.in-Some.c.now in
    let old = c.args.self.now.cells in
    record {
      split = split_next list rest left x c.loop-c.invariant.split c.in-Some.ensures.steps;
      made =
          ap (λ (s : State). with_cells s (set s.cells x.to (get_or old x.from 0))) c.loop-c.invariant.made
          ∙ ap (λ v. with_cells c.args.self.now (copied old v)) (sym (next_drop list rest left x c.loop-c.invariant.split c.in-Some.ensures.steps));
    }
