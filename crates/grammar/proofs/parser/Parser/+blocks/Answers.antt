use Rattle.std.proofs.Common.{suc, ◌-◌, length, refl, arith}
use Rattle.reader.specs.Views.{lexemes}
use Rattle.grammar.proofs.Tags.{lexemes_length, is_next, is_not_next, not_seen}
use Rattle.grammar.proofs.Telling.{told, made_is, via, valued, refuses, stopped, unmade, with_rest}
use Rattle.grammar.proofs.StatementSteps.{block_step, statements_none, statements_more, branches_none, branches_stop, branches_more, begins_Name, begins_OpenBrace, begins_Var, begins_Next, begins_Know, begins_Throw, begins_If, begins_While, begins_Try, begins_Take, begins_Par, begins_none, plain_step, if_step, while_step, try_step, take_step, par_step}
use Rattle.grammar.proofs.parser.Parser.+blocks.Goals as goal
use Rattle.grammar.proofs.parser.Parser.+blocks.Goals.{branches-then-left-eq0-via-then-left-eq0, branches-then-left-eq0-via-else-left-eq0+then-not-sees}

pub block_statement-returns-in_err-body-clause-tells : goal.block_statement-returns-in_err-body-clause-tells
block_statement-returns-in_err-body-clause-tells t c text =
    rw (← c.peek-offset.ensures, plain_step) (stopped _ _ c.from_residual.ensures.1 (c.in_err-body.ensures.tells text))

pub block_statement-returns-clause-tells : goal.block_statement-returns-clause-tells
block_statement-returns-clause-tells t c text = rw (← c.peek-offset.ensures, plain_step, told (c.in_ok-body.ensures.tells text)) (with_rest _ (c.two.ensures text))

pub if_statement-returns-in_err-test-clause-tells : goal.if_statement-returns-in_err-test-clause-tells
if_statement-returns-in_err-test-clause-tells t c text =
    rw if_step (stopped _ _ c.from_residual.ensures.1 (c.in_err-test.ensures.tells text))

pub if_statement-returns-in_err-first-clause-tells : goal.if_statement-returns-in_err-first-clause-tells
if_statement-returns-in_err-first-clause-tells t c text =
    rw (if_step, told (c.in_ok-test.ensures.tells text)) (stopped _ _ c.from_residual-in_err-first.ensures.1 (c.in_err-first.ensures.tells text))

pub if_statement-returns-in_err-eat-clause-tells : goal.if_statement-returns-in_err-eat-clause-tells
if_statement-returns-in_err-eat-clause-tells t c text =
    rw (if_step, told (c.in_ok-test.ensures.tells text), told (c.in_ok-first.ensures.tells text)) (stopped _ _ c.from_residual-in_err-eat.ensures.1 (c.in_err-eat.ensures.tells text))

pub if_statement-returns-in_err-second-clause-tells : goal.if_statement-returns-in_err-second-clause-tells
if_statement-returns-in_err-second-clause-tells t c text =
    rw (if_step, told (c.in_ok-test.ensures.tells text), told (c.in_ok-first.ensures.tells text), told (c.in_ok-eat.ensures.tells text)) (stopped _ _ c.from_residual-in_err-second.ensures.1 (c.in_err-second.ensures.tells text))

pub if_statement-returns-clause-tells : goal.if_statement-returns-clause-tells
if_statement-returns-clause-tells t c text = rw (if_step, told (c.in_ok-test.ensures.tells text), told (c.in_ok-first.ensures.tells text), told (c.in_ok-eat.ensures.tells text), told (c.in_ok-second.ensures.tells text)) (with_rest _ (c.two.ensures text))

pub while_statement-returns-in_err-test-clause-tells : goal.while_statement-returns-in_err-test-clause-tells
while_statement-returns-in_err-test-clause-tells t c text =
    rw while_step (stopped _ _ c.from_residual.ensures.1 (c.in_err-test.ensures.tells text))

pub while_statement-returns-in_err-body-clause-tells : goal.while_statement-returns-in_err-body-clause-tells
while_statement-returns-in_err-body-clause-tells t c text =
    rw (while_step, told (c.in_ok-test.ensures.tells text)) (stopped _ _ c.from_residual-in_err-body.ensures.1 (c.in_err-body.ensures.tells text))

pub while_statement-returns-clause-tells : goal.while_statement-returns-clause-tells
while_statement-returns-clause-tells t c text = rw (while_step, told (c.in_ok-test.ensures.tells text), told (c.in_ok-body.ensures.tells text)) (with_rest _ (c.two.ensures text))

pub try_statement-returns-in_err-first-clause-tells : goal.try_statement-returns-in_err-first-clause-tells
try_statement-returns-in_err-first-clause-tells t c text =
    rw try_step (stopped _ _ c.from_residual.ensures.1 (c.in_err-first.ensures.tells text))

pub try_statement-returns-in_err-eat-clause-tells : goal.try_statement-returns-in_err-eat-clause-tells
try_statement-returns-in_err-eat-clause-tells t c text =
    rw (try_step, told (c.in_ok-first.ensures.tells text)) (stopped _ _ c.from_residual-in_err-eat.ensures.1 (c.in_err-eat.ensures.tells text))

pub try_statement-returns-in_err-exception-clause-tells : goal.try_statement-returns-in_err-exception-clause-tells
try_statement-returns-in_err-exception-clause-tells t c text =
    rw (try_step, told (c.in_ok-first.ensures.tells text), told (c.in_ok-eat.ensures.tells text)) (stopped _ _ c.from_residual-in_err-exception.ensures.1 (c.in_err-exception.ensures.tells text))

pub try_statement-returns-in_err-second-clause-tells : goal.try_statement-returns-in_err-second-clause-tells
try_statement-returns-in_err-second-clause-tells t c text =
    rw (try_step, told (c.in_ok-first.ensures.tells text), told (c.in_ok-eat.ensures.tells text), told (c.in_ok-exception.ensures.tells text)) (stopped _ _ c.from_residual-in_err-second.ensures.1 (c.in_err-second.ensures.tells text))

pub try_statement-returns-clause-tells : goal.try_statement-returns-clause-tells
try_statement-returns-clause-tells t c text = rw (try_step, told (c.in_ok-first.ensures.tells text), told (c.in_ok-eat.ensures.tells text), told (c.in_ok-exception.ensures.tells text), told (c.in_ok-second.ensures.tells text)) (with_rest _ (c.two.ensures text))

pub take_statement-returns-in_err-port-clause-tells : goal.take_statement-returns-in_err-port-clause-tells
take_statement-returns-in_err-port-clause-tells t c text =
    rw take_step (stopped _ _ c.from_residual.ensures.1 (c.in_err-port.ensures.tells text))

pub take_statement-returns-in_err-target-clause-tells : goal.take_statement-returns-in_err-target-clause-tells
take_statement-returns-in_err-target-clause-tells t c text =
    rw (take_step, told (c.in_ok-port.ensures.tells text)) (stopped _ _ c.from_residual-in_err-target.ensures.1 (c.in_err-target.ensures.tells text))

pub take_statement-returns-in_err-eat-clause-tells : goal.take_statement-returns-in_err-eat-clause-tells
take_statement-returns-in_err-eat-clause-tells t c text =
    rw (take_step, told (c.in_ok-port.ensures.tells text), told (c.in_ok-target.ensures.tells text)) (stopped _ _ c.from_residual-in_err-eat.ensures.1 (c.in_err-eat.ensures.tells text))

pub take_statement-returns-in_err-body-clause-tells : goal.take_statement-returns-in_err-body-clause-tells
take_statement-returns-in_err-body-clause-tells t c text =
    rw (take_step, told (c.in_ok-port.ensures.tells text), told (c.in_ok-target.ensures.tells text), told (c.in_ok-eat.ensures.tells text)) (stopped _ _ c.from_residual-in_err-body.ensures.1 (c.in_err-body.ensures.tells text))

pub take_statement-returns-clause-tells : goal.take_statement-returns-clause-tells
take_statement-returns-clause-tells t c text = rw (take_step, told (c.in_ok-port.ensures.tells text), told (c.in_ok-target.ensures.tells text), told (c.in_ok-eat.ensures.tells text), told (c.in_ok-body.ensures.tells text)) (with_rest _ (c.two.ensures text))

pub par_statement-returns-in_err-first-clause-tells : goal.par_statement-returns-in_err-first-clause-tells
par_statement-returns-in_err-first-clause-tells t c text =
    rw par_step (stopped _ _ c.from_residual.ensures.1 (c.in_err-first.ensures.tells text))

pub par_statement-returns-in_err-second-clause-tells : goal.par_statement-returns-in_err-second-clause-tells
par_statement-returns-in_err-second-clause-tells t c text =
    rw (par_step, told (c.in_ok-first.ensures.tells text)) (stopped _ _ c.from_residual-in_err-second.ensures.1 (c.in_err-second.ensures.tells text))

pub par_statement-returns-in_err-others-clause-tells : goal.par_statement-returns-in_err-others-clause-tells
par_statement-returns-in_err-others-clause-tells t c text =
    rw (par_step, told (c.in_ok-first.ensures.tells text), told (c.in_ok-second.ensures.tells text)) (stopped _ _ c.from_residual-in_err-others.ensures.1 (c.in_err-others.ensures.tells text))

pub par_statement-returns-in_err-eat-clause-tells : goal.par_statement-returns-in_err-eat-clause-tells
par_statement-returns-in_err-eat-clause-tells t c text =
    rw (par_step, told (c.in_ok-first.ensures.tells text), told (c.in_ok-second.ensures.tells text), told (c.in_ok-others.ensures.tells text)) (stopped _ _ c.from_residual-in_err-eat.ensures.1 (c.in_err-eat.ensures.tells text))

pub par_statement-returns-in_err-tail-clause-tells : goal.par_statement-returns-in_err-tail-clause-tells
par_statement-returns-in_err-tail-clause-tells t c text = unmade _ _ c.from_residual-in_err-tail.ensures.1 (c.in_err-tail.ensures text)

pub par_statement-returns-in_err-whole-clause-tells : goal.par_statement-returns-in_err-whole-clause-tells
par_statement-returns-in_err-whole-clause-tells t c text = unmade _ _ c.from_residual-in_err-whole.ensures.1 (c.in_err-whole.ensures text)

pub par_statement-returns-clause-tells : goal.par_statement-returns-clause-tells
par_statement-returns-clause-tells t c text =
    rw (par_step, told (c.in_ok-first.ensures.tells text), told (c.in_ok-second.ensures.tells text), told (c.in_ok-others.ensures.tells text), told (c.in_ok-eat.ensures.tells text), made_is (c.in_ok-tail.ensures text), made_is (c.in_ok-whole.ensures text))
    (with_rest _ (c.par.ensures text))

pub block-returns-in_err-open-clause-tells : goal.block-returns-in_err-open-clause-tells
block-returns-in_err-open-clause-tells t c text = rw block_step (stopped _ _ c.from_residual.ensures.1 (c.in_err-open.ensures.tells text))

pub block-returns-in_err-body-clause-tells : goal.block-returns-in_err-body-clause-tells
block-returns-in_err-body-clause-tells t c text =
    let e = lexemes_length text c.open.new.self.rest.now in
    rw (block_step, told (c.in_ok-open.ensures.tells text))
    (stopped _ _ c.from_residual-in_err-body.ensures.1 (c.in_err-body.ensures.tells text (suc (length (lexemes text c.open.new.self.rest.now))) (omega arith)))

pub block-returns-in_err-eat-clause-tells : goal.block-returns-in_err-eat-clause-tells
block-returns-in_err-eat-clause-tells t c text =
    let e = lexemes_length text c.open.new.self.rest.now in
    rw (block_step, told (c.in_ok-open.ensures.tells text), told (c.in_ok-body.ensures.tells text (suc (length (lexemes text c.open.new.self.rest.now))) (omega arith)))
    (stopped _ _ c.from_residual-in_err-eat.ensures.1 (c.in_err-eat.ensures.tells text))

pub block-returns-clause-tells : goal.block-returns-clause-tells
block-returns-clause-tells t c text =
    let e = lexemes_length text c.open.new.self.rest.now in
    valued _ (rw (block_step, told (c.in_ok-open.ensures.tells text), told (c.in_ok-body.ensures.tells text (suc (length (lexemes text c.open.new.self.rest.now))) (omega arith)), told (c.in_ok-eat.ensures.tells text)))

pub statements-returns-then-sees-clause-tells : goal.statements-returns-then-sees-clause-tells
statements-returns-then-sees-clause-tells t c text n l = valued _ (statements_none text c.args.self.now.rest.now c.args.room n (omega arith) (c.sees.ensures.0 c.if-sees.true))

pub statements-returns-in_err-first-clause-tells : goal.statements-returns-in_err-first-clause-tells
statements-returns-in_err-first-clause-tells t c text n l =
    via (statements_more text c.args.self.now.rest.now c.args.room n (omega arith) (not_seen c.sees.ensures c.if-sees.false)) (stopped _ _ c.from_residual.ensures.1 (c.in_err-first.ensures.tells text))

pub statements-returns-in_err-others-clause-tells : goal.statements-returns-in_err-others-clause-tells
statements-returns-in_err-others-clause-tells t c text n l =
    let s = c.in_ok-first.ensures.shorter in
    via (statements_more text c.args.self.now.rest.now c.args.room n (omega arith) (not_seen c.sees.ensures c.if-sees.false))
    (rw (told (c.in_ok-first.ensures.tells text)) (stopped _ _ c.from_residual-in_err-others.ensures.1 (c.in_err-others.ensures.tells text (n - 1) (omega arith))))

pub statements-returns-clause-tells : goal.statements-returns-clause-tells
statements-returns-clause-tells t c text n l =
    let s = c.in_ok-first.ensures.shorter in
    via (statements_more text c.args.self.now.rest.now c.args.room n (omega arith) (not_seen c.sees.ensures c.if-sees.false))
    (rw (told (c.in_ok-first.ensures.tells text), told (c.in_ok-others.ensures.tells text (n - 1) (omega arith))) (with_rest _ (c.seq.ensures text)))

pub statement-returns-then-sees-clause-tells : goal.statement-returns-then-sees-clause-tells
statement-returns-then-sees-clause-tells t c text = via (begins_OpenBrace text c.args.self.now.rest.now c.args.room (c.sees.ensures.0 c.if-sees.true)) (c.block_statement.ensures.tells text)

pub statement-returns-in-Name-clause-tells : goal.statement-returns-in-Name-clause-tells
statement-returns-in-Name-clause-tells t c text =
    rw (begins_Name text c.args.self.now.rest.now c.args.room (is_next c.next-word.ensures.token c.in-Name.is), ← c.next-word.ensures.rest, ← c.next-word.ensures.token) (rw c.from.ensures at (c.named.ensures.tells text))

pub statement-returns-in_err-ended_name-in-Var-clause-tells : goal.statement-returns-in_err-ended_name-in-Var-clause-tells
statement-returns-in_err-ended_name-in-Var-clause-tells t c text =
    rw (begins_Var text c.args.self.now.rest.now c.args.room (is_next c.next-word.ensures.token c.in-Var.is), ← c.next-word.ensures.rest) (stopped _ _ c.from_residual.ensures.1 (c.in_err-ended_name-in-Var.ensures.tells text))

pub statement-returns-in_ok-ended_name-in-Var-clause-tells : goal.statement-returns-in_ok-ended_name-in-Var-clause-tells
statement-returns-in_ok-ended_name-in-Var-clause-tells t c text =
    valued _ (rw (begins_Var text c.args.self.now.rest.now c.args.room (is_next c.next-word.ensures.token c.in-Var.is), ← c.next-word.ensures.rest, ← c.next-word.ensures.token, told (c.in_ok-ended_name-in-Var.ensures.tells text)))

pub statement-returns-in_err-ended_name-in-Next-clause-tells : goal.statement-returns-in_err-ended_name-in-Next-clause-tells
statement-returns-in_err-ended_name-in-Next-clause-tells t c text =
    rw (begins_Next text c.args.self.now.rest.now c.args.room (is_next c.next-word.ensures.token c.in-Next.is), ← c.next-word.ensures.rest) (stopped _ _ c.from_residual-in_err-ended_name-in-Next.ensures.1 (c.in_err-ended_name-in-Next.ensures.tells text))

pub statement-returns-in_ok-ended_name-in-Next-clause-tells : goal.statement-returns-in_ok-ended_name-in-Next-clause-tells
statement-returns-in_ok-ended_name-in-Next-clause-tells t c text =
    valued _ (rw (begins_Next text c.args.self.now.rest.now c.args.room (is_next c.next-word.ensures.token c.in-Next.is), ← c.next-word.ensures.rest, ← c.next-word.ensures.token, told (c.in_ok-ended_name-in-Next.ensures.tells text)))

pub statement-returns-in_err-ended_name-in-Know-clause-tells : goal.statement-returns-in_err-ended_name-in-Know-clause-tells
statement-returns-in_err-ended_name-in-Know-clause-tells t c text =
    rw (begins_Know text c.args.self.now.rest.now c.args.room (is_next c.next-word.ensures.token c.in-Know.is), ← c.next-word.ensures.rest) (stopped _ _ c.from_residual-in_err-ended_name-in-Know.ensures.1 (c.in_err-ended_name-in-Know.ensures.tells text))

pub statement-returns-in_ok-ended_name-in-Know-clause-tells : goal.statement-returns-in_ok-ended_name-in-Know-clause-tells
statement-returns-in_ok-ended_name-in-Know-clause-tells t c text =
    valued _ (rw (begins_Know text c.args.self.now.rest.now c.args.room (is_next c.next-word.ensures.token c.in-Know.is), ← c.next-word.ensures.rest, ← c.next-word.ensures.token, told (c.in_ok-ended_name-in-Know.ensures.tells text)))

pub statement-returns-in_err-ended_name-in-Throw-clause-tells : goal.statement-returns-in_err-ended_name-in-Throw-clause-tells
statement-returns-in_err-ended_name-in-Throw-clause-tells t c text =
    rw (begins_Throw text c.args.self.now.rest.now c.args.room (is_next c.next-word.ensures.token c.in-Throw.is), ← c.next-word.ensures.rest) (stopped _ _ c.from_residual-in_err-ended_name-in-Throw.ensures.1 (c.in_err-ended_name-in-Throw.ensures.tells text))

pub statement-returns-in_ok-ended_name-in-Throw-clause-tells : goal.statement-returns-in_ok-ended_name-in-Throw-clause-tells
statement-returns-in_ok-ended_name-in-Throw-clause-tells t c text =
    valued _ (rw (begins_Throw text c.args.self.now.rest.now c.args.room (is_next c.next-word.ensures.token c.in-Throw.is), ← c.next-word.ensures.rest, ← c.next-word.ensures.token, told (c.in_ok-ended_name-in-Throw.ensures.tells text)))

pub statement-returns-in-If-clause-tells : goal.statement-returns-in-If-clause-tells
statement-returns-in-If-clause-tells t c text =
    rw (begins_If text c.args.self.now.rest.now c.args.room (is_next c.next-word.ensures.token c.in-If.is), ← c.next-word.ensures.rest, ← c.next-word.ensures.token) (c.if_statement.ensures.tells text)

pub statement-returns-in-While-clause-tells : goal.statement-returns-in-While-clause-tells
statement-returns-in-While-clause-tells t c text =
    rw (begins_While text c.args.self.now.rest.now c.args.room (is_next c.next-word.ensures.token c.in-While.is), ← c.next-word.ensures.rest, ← c.next-word.ensures.token) (c.while_statement.ensures.tells text)

pub statement-returns-in-Try-clause-tells : goal.statement-returns-in-Try-clause-tells
statement-returns-in-Try-clause-tells t c text =
    rw (begins_Try text c.args.self.now.rest.now c.args.room (is_next c.next-word.ensures.token c.in-Try.is), ← c.next-word.ensures.rest, ← c.next-word.ensures.token) (c.try_statement.ensures.tells text)

pub statement-returns-in-Take-clause-tells : goal.statement-returns-in-Take-clause-tells
statement-returns-in-Take-clause-tells t c text =
    rw (begins_Take text c.args.self.now.rest.now c.args.room (is_next c.next-word.ensures.token c.in-Take.is), ← c.next-word.ensures.rest, ← c.next-word.ensures.token) (c.take_statement.ensures.tells text)

pub statement-returns-in-Par-clause-tells : goal.statement-returns-in-Par-clause-tells
statement-returns-in-Par-clause-tells t c text =
    rw (begins_Par text c.args.self.now.rest.now c.args.room (is_next c.next-word.ensures.token c.in-Par.is), ← c.next-word.ensures.rest, ← c.next-word.ensures.token) (c.par_statement.ensures.tells text)

pub statement-returns-in_default-clause-tells : goal.statement-returns-in_default-clause-tells
statement-returns-in_default-clause-tells t c text =
    refuses (rw (c.at.ensures, c.next-word.ensures.token) refl)
    (begins_none text c.args.self.now.rest.now c.args.room (is_not_next c.next-word.ensures.token c.in_default.not-Name) (not_seen c.sees.ensures c.if-sees.false) (is_not_next c.next-word.ensures.token c.in_default.not-Var) (is_not_next c.next-word.ensures.token c.in_default.not-Next) (is_not_next c.next-word.ensures.token c.in_default.not-Know) (is_not_next c.next-word.ensures.token c.in_default.not-Throw) (is_not_next c.next-word.ensures.token c.in_default.not-If) (is_not_next c.next-word.ensures.token c.in_default.not-While) (is_not_next c.next-word.ensures.token c.in_default.not-Try) (is_not_next c.next-word.ensures.token c.in_default.not-Take) (is_not_next c.next-word.ensures.token c.in_default.not-Par))

pub branches-returns-then-left-eq0-clause-tells : goal.branches-returns-then-left-eq0-clause-tells
branches-returns-then-left-eq0-clause-tells t c text =
    valued _
    (elim c.then-left-eq0.branch [
      | branches-then-left-eq0-via-then-left-eq0 w ↦ branches_none c.args.room c.args.left (lexemes text c.args.self.now.rest.now) w.if-left-eq0.true
      | branches-then-left-eq0-via-else-left-eq0+then-not-sees w ↦ branches_stop text c.args.self.now.rest.now c.args.room c.args.left (not_seen w.sees.ensures w.if-not-sees.true)
    ])

pub branches-returns-in_err-first-clause-tells : goal.branches-returns-in_err-first-clause-tells
branches-returns-in_err-first-clause-tells t c text =
    via (branches_more text c.args.self.now.rest.now c.args.room c.args.left c.if-left-eq0.false (c.sees.ensures.0 c.if-not-sees.false)) (stopped _ _ c.from_residual.ensures.1 (c.in_err-first.ensures.tells text))

pub branches-returns-in_err-others-clause-tells : goal.branches-returns-in_err-others-clause-tells
branches-returns-in_err-others-clause-tells t c text =
    via (branches_more text c.args.self.now.rest.now c.args.room c.args.left c.if-left-eq0.false (c.sees.ensures.0 c.if-not-sees.false)) (rw (told (c.in_ok-first.ensures.tells text)) (stopped _ _ c.from_residual-in_err-others.ensures.1 (c.in_err-others.ensures.tells text)))

pub branches-returns-clause-tells : goal.branches-returns-clause-tells
branches-returns-clause-tells t c text =
    via (branches_more text c.args.self.now.rest.now c.args.room c.args.left c.if-left-eq0.false (c.sees.ensures.0 c.if-not-sees.false)) (rw (told (c.in_ok-first.ensures.tells text), told (c.in_ok-others.ensures.tells text)) (with_rest _ (c.also.ensures text)))
