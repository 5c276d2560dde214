use Rattle.std.proofs.Common.{[], Err, refl, sym, ap, ◌∙◌, arith}
use Rattle.std.proofs.lemmas.Bool.{ltb-true, ltb-false}
use Rattle.reader.specs.declared.fault.Cause.TheVariants.{TooDeep}
use Rattle.reader.specs.declared.token.Token.{Token}
use Rattle.reader.specs.Faults.{refuse}
use Rattle.reader.specs.Views.{spelled, lexemes}
use Rattle.grammar.proofs.Telling.{told, valued, refuses, passed, must_failed, must_held, deep_from, opened_stop, opened_deep, opened_yes}
use Rattle.grammar.proofs.parser.Parser.open.Goals as goal

pub returns-in_err-eat-clause-tells : goal.returns-in_err-eat-clause-tells
returns-in_err-eat-clause-tells c text = opened_stop _ _ c.args.room _ c.from_residual.ensures.1 (c.in_err-eat.ensures.tells text)

pub returns-in_err-must-clause-tells : goal.returns-in_err-must-clause-tells
returns-in_err-must-clause-tells c text =
    let ts = c.args.self.now.rest.now in
    let p = must_failed _ _ _ (sym c.must.ensures ∙ c.in_err-must.was) in
    let none = ltb-false 0 c.args.room p.0 in
    let e = opened_deep (spelled [] c.args.tag) (lexemes text ts) c.args.room (omega arith) (told (c.in_ok-eat.ensures.tells text)) in
    passed _ c.from_residual-in_err-must.ensures.1 (refuses refl (e ∙ deep_from text ts ∙ ap (λ (t : Token). refuse TooDeep t.at) (sym c.peek-bracket.ensures) ∙ ap Err p.1))

pub returns-clause-tells : goal.returns-clause-tells
returns-clause-tells c text =
    let some = ltb-true 0 c.args.room (must_held _ _ _ (sym c.must.ensures ∙ c.in_ok-must.was)) in
    valued _ (opened_yes (spelled [] c.args.tag) (lexemes text c.args.self.now.rest.now) c.args.room (λ e. omega arith) (told (c.in_ok-eat.ensures.tells text)))
