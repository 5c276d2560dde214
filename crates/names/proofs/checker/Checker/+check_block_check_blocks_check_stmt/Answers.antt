use Rattle.std.proofs.Common.{◌≡◌, Ok, Err, vec_items, sym, refl, ap, ◌∙◌}
use Rattle.std.proofs.lemmas.Result.{err_from_is_err_and}
use Rattle.numbers.specs.Literals.{literal_reading}
use Rattle.grammar.specs.declared.tree.Block as code-block
use Rattle.grammar.specs.Views.{block}
use Rattle.names.specs.Naming.{names_block}
use Rattle.names.specs.Scopes.{scope, declares}
use Rattle.names.specs.Checking.{vars_of, procs_of, SeesSame}
use Rattle.names.proofs.Declaring.{met_by, met_with, met_err, seq_is, cut}
use Rattle.names.proofs.checker.Checker.+check_block_check_blocks_check_stmt.Goals as goal

pub check_block-returns-in_err-check_block-in-Seq : goal.check_block-returns-in_err-check_block-in-Seq
check_block-returns-in_err-check_block-in-Seq g t c =
    let l = literal_reading g.K.NumberKind.meaning in
    let was = c.args.self.now in
    let then = c.check_stmt.new.self in
    let ms = vec_items c.declare.new.vars in
    let after = c.check_block.new.self in
    let p = err_from_is_err_and c.from_residual-in_err-check_block-in-Seq.result c.from_residual-in_err-check_block-in-Seq.ensures.1 in
    let q = seq_is l was then ms c.args.b.now c.in-Seq.s.value c.deref.result.now c.deref-in-Seq.result.now c.in-Seq.rest.value c.deref-in-Seq-2.result.now
    (ap (λ (x : code-block.Block). names_block l (procs_of was) (vars_of was) (block was.text.now x)) c.in-Seq.is) c.deref.ensures c.deref-in-Seq.ensures c.deref-in-Seq-2.ensures
    c.in_ok-check_stmt-in-Seq.ensures c.in_ok-declare-in-Seq.ensures in
    let Mid : Unit {0} → Unit {0} → Type 0 = λ u w. (after.text.now ≡ then.text.now) × (after.procs.now ≡ then.procs.now) × (vec_items after.vars ≡ ms) in
    met_by (λ (u w : Unit {0}). SeesSame was after) (sym (p.1 ∙ ap Err p.2)) q.0
    (met_err Mid (λ (u w : Unit {0}). SeesSame was after) c.in_err-check_block-in-Seq.field-0.0
    (names_block l (procs_of then) (scope then.text.now ms) (block then.text.now c.deref-in-Seq-2.result.now)) c.in_err-check_block-in-Seq.ensures)

pub check_block-returns-in_ok-check_block-in-Seq : goal.check_block-returns-in_ok-check_block-in-Seq
check_block-returns-in_ok-check_block-in-Seq g t c =
    let l = literal_reading g.K.NumberKind.meaning in
    let was = c.args.self.now in
    let then = c.check_stmt.new.self in
    let ms = vec_items c.declare.new.vars in
    let s = c.in-Seq.s.value in
    let q = seq_is l was then ms c.args.b.now s c.deref.result.now c.deref-in-Seq.result.now c.in-Seq.rest.value c.deref-in-Seq-2.result.now
    (ap (λ (x : code-block.Block). names_block l (procs_of was) (vars_of was) (block was.text.now x)) c.in-Seq.is) c.deref.ensures c.deref-in-Seq.ensures c.deref-in-Seq-2.ensures
    c.in_ok-check_stmt-in-Seq.ensures c.in_ok-declare-in-Seq.ensures in
    let after = c.check_block.new.self in
    let end = vec_items c.truncate.new.self in
    let Same : Unit {0} → Unit {0} → Type 0 = λ u w. (after.text.now ≡ was.text.now) × (after.procs.now ≡ was.procs.now) × (end ≡ vec_items was.vars) in
    let Mid : Unit {0} → Unit {0} → Type 0 = λ u w. (after.text.now ≡ then.text.now) × (after.procs.now ≡ then.procs.now) × (vec_items after.vars ≡ ms) in
    met_by Same {x = Ok tt} {y = Ok tt} refl q.0
    (met_with Mid Same tt (names_block l (procs_of then) (scope then.text.now ms) (block then.text.now c.deref-in-Seq-2.result.now)) (λ a same. (
      same.0 ∙ q.1.0,
      same.1 ∙ q.1.1,
      cut (vec_items was.vars) (vec_items then.vars) ms (vec_items after.vars) end (declares s) c.len-count.result q.1.2 q.2 same.2 (c.len-count.ensures ∙ then.vars.ok.0) c.truncate.ensures.items,
    )) c.in_ok-check_block-in-Seq.ensures)
