use Rattle.std.proofs.Common.{refl}
use Rattle.grammar.specs.Views.{name}
use Rattle.grammar.proofs.Telling.{told, valued, stopped}
use Rattle.grammar.proofs.SimpleSteps.{named_set, named_call}
use Rattle.grammar.proofs.parser.Parser.named.Goals as goal
use Rattle.grammar.proofs.parser.Parser.named.Goals.{then-takes+in_ok-level, else-takes+in_ok-called}

pub returns-in_err-level-clause-tells : goal.returns-in_err-level-clause-tells
returns-in_err-level-clause-tells c text =
    rw (named_set text c.args.self.now.rest.now c.takes.new.self.rest.now c.args.room (name text c.args.target) (c.takes.ensures.yes c.if-takes.true)) (stopped _ _ c.from_residual.ensures.1 (c.in_err-level.ensures.tells text))

pub returns-in_err-called-clause-tells : goal.returns-in_err-called-clause-tells
returns-in_err-called-clause-tells c text =
    rw (named_call text c.args.self.now.rest.now c.takes.new.self.rest.now c.args.room (name text c.args.target) (c.takes.ensures.no c.if-takes.false)) (stopped _ _ c.from_residual-in_err-called.ensures.1 (c.in_err-called.ensures.tells text))

pub returns-in_err-eat-clause-tells : goal.returns-in_err-eat-clause-tells
returns-in_err-eat-clause-tells c text =
    elim c.if-takes.branch [
      | then-takes+in_ok-level w ↦ rw (named_set text c.args.self.now.rest.now c.takes.new.self.rest.now c.args.room (name text c.args.target) (c.takes.ensures.yes w.if-takes.true), told (w.in_ok-level.ensures.tells text), ← w.self-is) (stopped _ _ c.from_residual-in_err-eat.ensures.1 (c.in_err-eat.ensures.tells text))
      | else-takes+in_ok-called w ↦ rw (named_call text c.args.self.now.rest.now c.takes.new.self.rest.now c.args.room (name text c.args.target) (c.takes.ensures.no w.if-takes.false), told (w.in_ok-called.ensures.tells text), ← w.self-is) (stopped _ _ c.from_residual-in_err-eat.ensures.1 (c.in_err-eat.ensures.tells text))
    ]

pub returns-clause-tells : goal.returns-clause-tells
returns-clause-tells c text =
    valued _
    (elim c.if-takes.branch [
      | then-takes+in_ok-level w ↦ rw (named_set text c.args.self.now.rest.now c.takes.new.self.rest.now c.args.room (name text c.args.target) (c.takes.ensures.yes w.if-takes.true), told (w.in_ok-level.ensures.tells text), ← w.self-is, told (c.in_ok-eat.ensures.tells text), w.simple-is) refl
      | else-takes+in_ok-called w ↦ rw (named_call text c.args.self.now.rest.now c.takes.new.self.rest.now c.args.room (name text c.args.target) (c.takes.ensures.no w.if-takes.false), told (w.in_ok-called.ensures.tells text), ← w.self-is, told (c.in_ok-eat.ensures.tells text), w.simple-is) refl
    ])
