use Rattle.std.proofs.Common.{suc, ◌-◌, List, [], length, refl, ap, ◌∙◌, arith}
use Rattle.reader.specs.declared.token.Token.{Token}
use Rattle.reader.specs.Views.{lexemes}
use Rattle.grammar.specs.Trees.{Exp}
use Rattle.grammar.specs.Views.{exp, operator}
use Rattle.grammar.specs.Parsing.{chain}
use Rattle.grammar.specs.Readers.{signs_of, level_at}
use Rattle.grammar.proofs.Tags.{lexemes_length, is_next, is_not_next}
use Rattle.grammar.proofs.Telling.{told, made_is, via, valued, stopped, unmade, with_rest}
use Rattle.grammar.proofs.ExpressionSteps.{grouped_step, level_more, chain_from, chain_stop, op_left, operand_minus, operand_plain, atom_name, atom_number, atom_grouped}
use Rattle.grammar.proofs.parser.Parser.+expressions.Goals as goal

pub atom-returns-in_err-name-in-Name-clause-tells : goal.atom-returns-in_err-name-in-Name-clause-tells
atom-returns-in_err-name-in-Name-clause-tells t c text =
    rw (atom_name text c.args.self.now.rest.now c.args.room (is_next c.peek.ensures c.in-Name.is)) (stopped _ _ c.from_residual.ensures.1 (c.in_err-name-in-Name.ensures.tells text))

pub atom-returns-in_err-number-in-Number-clause-tells : goal.atom-returns-in_err-number-in-Number-clause-tells
atom-returns-in_err-number-in-Number-clause-tells t c text =
    rw (atom_number text c.args.self.now.rest.now c.args.room (is_next c.peek.ensures c.in-Number.is)) (stopped _ _ c.from_residual-in_err-number-in-Number.ensures.1 (c.in_err-number-in-Number.ensures.tells text))

pub atom-returns-in_ok-name-in-Name-clause-tells : goal.atom-returns-in_ok-name-in-Name-clause-tells
atom-returns-in_ok-name-in-Name-clause-tells t c text =
    valued _ (rw (atom_name text c.args.self.now.rest.now c.args.room (is_next c.peek.ensures c.in-Name.is), told (c.in_ok-name-in-Name.ensures.tells text)))

pub atom-returns-in_ok-number-in-Number-clause-tells : goal.atom-returns-in_ok-number-in-Number-clause-tells
atom-returns-in_ok-number-in-Number-clause-tells t c text =
    valued _ (rw (atom_number text c.args.self.now.rest.now c.args.room (is_next c.peek.ensures c.in-Number.is), told (c.in_ok-number-in-Number.ensures.tells text)))

pub atom-returns-in_default-clause-tells : goal.atom-returns-in_default-clause-tells
atom-returns-in_default-clause-tells t c text =
    via (atom_grouped text c.args.self.now.rest.now c.args.room (is_not_next c.peek.ensures c.in_default.not-Name) (is_not_next c.peek.ensures c.in_default.not-Number)) (c.grouped.ensures.tells text)

pub grouped-returns-in_err-open-clause-tells : goal.grouped-returns-in_err-open-clause-tells
grouped-returns-in_err-open-clause-tells t c text = rw grouped_step (stopped _ _ c.from_residual.ensures.1 (c.in_err-open.ensures.tells text))

pub grouped-returns-in_err-inner-clause-tells : goal.grouped-returns-in_err-inner-clause-tells
grouped-returns-in_err-inner-clause-tells t c text =
    rw (grouped_step, told (c.in_ok-open.ensures.tells text)) (stopped _ _ c.from_residual-in_err-inner.ensures.1 (c.in_err-inner.ensures.tells text))

pub grouped-returns-in_err-eat-clause-tells : goal.grouped-returns-in_err-eat-clause-tells
grouped-returns-in_err-eat-clause-tells t c text =
    rw (grouped_step, told (c.in_ok-open.ensures.tells text), told (c.in_ok-inner.ensures.tells text)) (stopped _ _ c.from_residual-in_err-eat.ensures.1 (c.in_err-eat.ensures.tells text))

pub grouped-returns-clause-tells : goal.grouped-returns-clause-tells
grouped-returns-clause-tells t c text =
    valued _ (rw (grouped_step, told (c.in_ok-open.ensures.tells text), told (c.in_ok-inner.ensures.tells text), told (c.in_ok-eat.ensures.tells text)))

pub operand-returns-in_err-inner-clause-tells : goal.operand-returns-in_err-inner-clause-tells
operand-returns-in_err-inner-clause-tells t c text =
    let p = c.takes.ensures.yes c.if-takes.true in
    rw (operand_minus text c.args.self.now.rest.now c.args.room p.0, ← p.1) (stopped _ _ c.from_residual.ensures.1 (c.in_err-inner.ensures.tells text))

pub operand-returns-in_ok-inner-clause-tells : goal.operand-returns-in_ok-inner-clause-tells
operand-returns-in_ok-inner-clause-tells t c text =
    let p = c.takes.ensures.yes c.if-takes.true in
    rw (operand_minus text c.args.self.now.rest.now c.args.room p.0, ← p.1, told (c.in_ok-inner.ensures.tells text)) (with_rest _ (c.negate.ensures text))

pub operand-returns-else-takes-clause-tells : goal.operand-returns-else-takes-clause-tells
operand-returns-else-takes-clause-tells t c text =
    let p = c.takes.ensures.no c.if-takes.false in
    rw (operand_plain text c.args.self.now.rest.now c.args.room p.0, ← p.1) (c.atom-else-takes.ensures.tells text)

pub level-returns-in_err-left-clause-tells : goal.level-returns-in_err-left-clause-tells
level-returns-in_err-left-clause-tells t c text =
    rw (level_more c.args.room c.args.rank (lexemes text c.args.self.now.rest.now) c.if-rank-eq0.false) (stopped _ _ c.from_residual.ensures.1 (c.in_err-left.ensures.tells text))

pub level-loop-op-init : goal.level-loop-op-init
level-loop-op-init t c =
    let s = c.in_ok-left.ensures.shorter in (
      omega arith,
      omega arith,
      λ text.
          let us = c.level.new.self.rest.now in
          let e = lexemes_length text us in
          (suc (length (lexemes text us)), omega arith, level_more c.args.room c.args.rank (lexemes text c.args.self.now.rest.now) c.if-rank-eq0.false ∙ rw (told (c.in_ok-left.ensures.tells text)) refl),
    )

pub level-returns-in_err-right-clause-tells : goal.level-returns-in_err-right-clause-tells
level-returns-in_err-right-clause-tells t c text =
    let i = c.loop-op.invariant.2 text in
    let o = c.in-Some.ensures text c.loop-op.self.rest.now (ap (λ (x : Token). x.tag) c.peek.ensures) in
    let e = i.2 ∙ chain_from text c.loop-op.self.rest.now c.next.new.self.rest.now (signs_of c.args.rank) (level_at c.args.room (c.args.rank - 1)) (exp text c.loop-op.left) i.0 (operator c.in-Some.op) (omega (arith, i.1)) o c.next.ensures.rest in
    via e (stopped _ _ c.from_residual-in_err-right.ensures.1 (c.in_err-right.ensures.tells text))

pub level-returns-in_err-left-2-clause-tells : goal.level-returns-in_err-left-2-clause-tells
level-returns-in_err-left-2-clause-tells t c text = unmade _ _ c.from_residual-in_err-left-2.ensures.1 (c.in_err-left-2.ensures text)

pub level-loop-op-preserved : goal.level-loop-op-preserved
level-loop-op-preserved t c =
    let s = c.in_ok-right.ensures.shorter in
    let l = op_left [] c.loop-op.self.rest.now (signs_of c.args.rank) (operator c.in-Some.op) (c.in-Some.ensures [] c.loop-op.self.rest.now (ap (λ (x : Token). x.tag) c.peek.ensures)) in
    let n = ap (λ (us : List Token). length us) c.next.ensures.rest in
    let v = c.loop-op.invariant in (
      omega (arith, v.0),
      v.1,
      λ text.
          let i = c.loop-op.invariant.2 text in
          let o = c.in-Some.ensures text c.loop-op.self.rest.now (ap (λ (x : Token). x.tag) c.peek.ensures) in
          let e = i.2 ∙ chain_from text c.loop-op.self.rest.now c.next.new.self.rest.now (signs_of c.args.rank) (level_at c.args.room (c.args.rank - 1)) (exp text c.loop-op.left) i.0 (operator c.in-Some.op) (omega (arith, i.1)) o c.next.ensures.rest in
          let us = c.level-in-Some.new.self.rest.now in (
            i.0 - 1,
            omega (arith, i.1),
            e ∙ rw (told (c.in_ok-right.ensures.tells text)) (ap (λ (x : Exp). chain (signs_of c.args.rank) (level_at c.args.room (c.args.rank - 1)) (i.0 - 1) x (lexemes text us)) (made_is (c.in_ok-left-2.ensures text))),
          ),
    )

pub level-returns-clause-tells : goal.level-returns-clause-tells
level-returns-clause-tells t c text =
    let i = c.loop-op.invariant.2 text in
    let o = c.in_default.ensures text c.loop-op.self.rest.now (ap (λ (x : Token). x.tag) c.peek.ensures) in
    valued _ (i.2 ∙ chain_stop (signs_of c.args.rank) (level_at c.args.room (c.args.rank - 1)) (exp text c.loop-op.left) (lexemes text c.loop-op.self.rest.now) i.0 (omega (arith, i.1)) o)
