use Rattle.std.proofs.Common.{◌≡◌, ◌-◌, List, [], ◌∷◌, ◌++◌, length, Ok, vec_items, sym, refl, ap, ◌∙◌, arith, length-append}
use Rattle.reader.specs.Faults.{◌>>=◌}
use Rattle.reader.specs.Views.{lexemes}
use Rattle.reader.specs.declared.token.Token.{Token}
use Rattle.reader.specs.declared.token.Tag.TheVariants as tags
use Rattle.grammar.specs.declared.tree.Param as code-param
use Rattle.grammar.specs.Views as view
use Rattle.grammar.specs.Trees.{Param}
use Rattle.grammar.specs.Parsers.{Tokens}
use Rattle.grammar.specs.Readers.{more_params_at}
use Rattle.grammar.specs.Reading.{in_front}
use Rattle.grammar.proofs.Tags.{sign_left, not_seen}
use Rattle.grammar.proofs.Telling.{told, via, valued, broken, stopped, starved}
use Rattle.grammar.proofs.Levels.{then}
use Rattle.grammar.proofs.SimpleSteps.{gather, append_nil}
use Rattle.grammar.proofs.ProgramSteps.{parameters_none, parameters_some, more_params_none, more_params_go, more_params_stop, params_push}
use Rattle.grammar.proofs.parser.Parser.parameters.Goals as goal
use Rattle.grammar.proofs.parser.Parser.parameters.Goals.{then-loop-self-test+else-takes, else-loop-self-test}

pub returns-then-sees-clause-tells : goal.returns-then-sees-clause-tells
returns-then-sees-clause-tells c text =
    valued _ (rw c.new-params.ensures.items (parameters_none text c.args.self.now.rest.now (c.sees.ensures.0 c.if-sees.true)))

pub returns-in_err-param-clause-tells : goal.returns-in_err-param-clause-tells
returns-in_err-param-clause-tells c text =
    via (parameters_some text c.args.self.now.rest.now (not_seen c.sees.ensures c.if-sees.false)) (stopped _ _ c.from_residual.ensures.1 (c.in_err-param.ensures.tells text))

pub returns-in_err-push-clause-tells : goal.returns-in_err-push-clause-tells
returns-in_err-push-clause-tells c text = starved _ _ c.from_residual-in_err-push.ensures.1 refl

pub loop-self-init : goal.loop-self-init
loop-self-init c =
    let s = c.in_ok-param.ensures.shorter in
    let e = c.in_ok-push.ensures.items ∙ ap (λ (ys : List code-param.Param). ys ++ c.in_ok-param.field-0 ∷ []) c.new-params.ensures.items in (
      omega arith,
      λ text.
          let us = lexemes text c.param.new.self.rest.now in
          parameters_some text c.args.self.now.rest.now (not_seen c.sees.ensures c.if-sees.false)
          ∙ then (λ r. more_params_at 7 r.1 >>= (λ s. Ok (r.0 ∷ s.0, s.1))) (told (c.in_ok-param.ensures.tells text))
          ∙ ap (λ (xs : List code-param.Param). in_front (view.params text xs) (more_params_at (8 - length xs) us)) (sym e),
    )

pub returns-in_err-param-2-clause-tells : goal.returns-in_err-param-2-clause-tells
returns-in_err-param-2-clause-tells c text =
    let ok = c.loop-self.params.ok.0 in
    let x = vec_items c.loop-self.params in
    let go = more_params_go text c.loop-self.self.rest.now c.takes.new.self.rest.now (8 - length x) (omega (arith, c.len.ensures)) (c.takes.ensures.yes c.if-takes.true) in
    via (c.loop-self.invariant.1 text ∙ ap (in_front (view.params text x)) go)
    (stopped _ _ c.from_residual-in_err-param-2.ensures.1 (broken {g = λ (v : List Param × Tokens). v} _ (c.in_err-param-2.ensures.tells text)))

pub returns-in_err-push-2-clause-tells : goal.returns-in_err-push-2-clause-tells
returns-in_err-push-2-clause-tells c text = starved _ _ c.from_residual-in_err-push-2.ensures.1 refl

pub loop-self-preserved : goal.loop-self-preserved
loop-self-preserved c =
    let s = c.in_ok-param-2.ensures.shorter in
    let p = c.takes.ensures.yes c.if-takes.true in
    let l = sign_left c.loop-self.self.rest.now tags.Comma refl p.0 in
    let n = ap (λ (us : List Token). length us) p.1 in
    let x = vec_items c.loop-self.params in
    let z = c.in_ok-param-2.field-0 in
    let y = vec_items c.push-in-loop-self.new.self in
    let f : y ≡ x ++ z ∷ [] = c.in_ok-push-2.ensures.items in (
      omega (arith, c.loop-self.invariant.0),
      λ text.
          let ok = c.loop-self.params.ok.0 in
          let go = more_params_go text c.loop-self.self.rest.now c.takes.new.self.rest.now (8 - length x) (omega (arith, c.len.ensures)) p in
          let us = lexemes text c.param-in-loop-self.new.self.rest.now in
          let k : (8 - length x) - 1 ≡ 8 - length y = omega (arith, ap length f ∙ length-append x (z ∷ [])) in
          c.loop-self.invariant.1 text
          ∙ gather (more_params_at (8 - length x) (lexemes text c.loop-self.self.rest.now)) (more_params_at ((8 - length x) - 1) us) (view.params text x) (view.params text y)
          (view.param text z) (go ∙ then (λ r. more_params_at ((8 - length x) - 1) r.1 >>= (λ s. Ok (r.0 ∷ s.0, s.1))) (told (c.in_ok-param-2.ensures.tells text)))
          (ap (λ (xs : List code-param.Param). view.params text xs) f ∙ params_push text x z)
          ∙ ap (λ n. in_front (view.params text y) (more_params_at n us)) k,
    )

pub returns-clause-tells : goal.returns-clause-tells
returns-clause-tells c text =
    let ok = c.loop-self.params.ok.0 in
    let x = vec_items c.loop-self.params in
    let v = view.params text x in
    let us = lexemes text c.loop-self.self.rest.now in
    let whole = λ (e : more_params_at (8 - length x) us ≡ Ok ([], us)). c.loop-self.invariant.1 text ∙ ap (in_front v) e ∙ ap (λ (ys : List Param). Ok (ys, us)) (append_nil v) in
    valued _
    (elim c.loop-self-test.branch [
      | then-loop-self-test+else-takes w ↦
          let p = w.takes.ensures.no w.if-takes.false in
          rw (w.self-is, p.1) (whole (more_params_stop text c.loop-self.self.rest.now (8 - length x) p.0))
      | else-loop-self-test w ↦
          let n = w.loop-self-test.false in
          rw w.self-is (whole (more_params_none (8 - length x) us (omega (arith, c.len.ensures))))
    ])
