use Rattle.std.proofs.Common.{suc, ◌-◌, List, [], ◌∷◌, ◌++◌, length, Ok, vec_items, sym, refl, ap, ◌∙◌, arith}
use Rattle.reader.specs.Faults.{◌>>=◌}
use Rattle.reader.specs.Views.{lexemes}
use Rattle.reader.specs.declared.token.Token.{Token}
use Rattle.reader.specs.declared.token.Tag.TheVariants as tags
use Rattle.grammar.specs.declared.tree.Name as code-name
use Rattle.grammar.specs.Views as view
use Rattle.grammar.specs.Trees.{Name}
use Rattle.grammar.specs.Parsers.{Tokens}
use Rattle.grammar.specs.Parsing.{more_names}
use Rattle.grammar.specs.Reading.{in_front}
use Rattle.grammar.proofs.Tags.{lexemes_length, sign_left, not_seen}
use Rattle.grammar.proofs.Telling.{told, via, valued, broken, stopped, starved}
use Rattle.grammar.proofs.Levels.{then}
use Rattle.grammar.proofs.SimpleSteps.{arguments_none, arguments_some, more_names_go, more_names_stop, gather, append_nil, names_push}
use Rattle.grammar.proofs.parser.Parser.arguments.Goals as goal

pub returns-then-sees-clause-tells : goal.returns-then-sees-clause-tells
returns-then-sees-clause-tells c text =
    valued _ (rw c.new-names.ensures.items (arguments_none text c.args.self.now.rest.now (c.sees.ensures.0 c.if-sees.true)))

pub returns-in_err-name-clause-tells : goal.returns-in_err-name-clause-tells
returns-in_err-name-clause-tells c text =
    via (arguments_some text c.args.self.now.rest.now (not_seen c.sees.ensures c.if-sees.false)) (stopped _ _ c.from_residual.ensures.1 (c.in_err-name.ensures.tells text))

pub returns-in_err-push-clause-tells : goal.returns-in_err-push-clause-tells
returns-in_err-push-clause-tells c text = starved _ _ c.from_residual-in_err-push.ensures.1 refl

pub loop-names-init : goal.loop-names-init
loop-names-init c =
    let s = c.in_ok-name.ensures.shorter in (
      omega arith,
      λ text.
          let us = lexemes text c.name.new.self.rest.now in
          let e = lexemes_length text c.name.new.self.rest.now in (
            suc (length us),
            omega arith,
            arguments_some text c.args.self.now.rest.now (not_seen c.sees.ensures c.if-sees.false)
                ∙ then (λ r. more_names (suc (length r.1)) r.1 >>= (λ s. Ok (r.0 ∷ s.0, s.1))) (told (c.in_ok-name.ensures.tells text))
                ∙ ap (λ (xs : List code-name.Name). in_front (view.names text xs) (more_names (suc (length us)) us))
                (sym (c.in_ok-push.ensures.items ∙ ap (λ (ys : List code-name.Name). ys ++ c.in_ok-name.field-0 ∷ []) c.new-names.ensures.items)),
          ),
    )

pub returns-in_err-name-2-clause-tells : goal.returns-in_err-name-2-clause-tells
returns-in_err-name-2-clause-tells c text =
    let i = c.loop-names.invariant.1 text in
    let p = c.takes.ensures.yes c.loop-names-test.true in
    via (i.2 ∙ ap (in_front (view.view_names text c.loop-names.names)) (more_names_go text c.loop-names.self.rest.now c.takes.new.self.rest.now i.0 (omega (arith, i.1)) p))
    (stopped _ _ c.from_residual-in_err-name-2.ensures.1 (broken {g = λ (v : List Name × Tokens). v} _ (c.in_err-name-2.ensures.tells text)))

pub returns-in_err-push-2-clause-tells : goal.returns-in_err-push-2-clause-tells
returns-in_err-push-2-clause-tells c text = starved _ _ c.from_residual-in_err-push-2.ensures.1 refl

pub loop-names-preserved : goal.loop-names-preserved
loop-names-preserved c =
    let s = c.in_ok-name-2.ensures.shorter in
    let p = c.takes.ensures.yes c.loop-names-test.true in
    let l = sign_left c.loop-names.self.rest.now tags.Comma refl p.0 in
    let n = ap (λ (us : List Token). length us) p.1 in
    let v = c.loop-names.invariant in (
      omega (arith, v.0),
      λ text.
          let i = c.loop-names.invariant.1 text in
          let x = view.view_names text c.loop-names.names in
          let e = more_names_go text c.loop-names.self.rest.now c.takes.new.self.rest.now i.0 (omega (arith, i.1)) p in
          let us = lexemes text c.name-in-loop-names.new.self.rest.now in
          let y = view.view_names text c.push-in-loop-names.new.self in (
            i.0 - 1,
            omega (arith, i.1),
            i.2 ∙ gather (more_names i.0 (lexemes text c.loop-names.self.rest.now)) (more_names (i.0 - 1) us) x y
                (view.name text c.in_ok-name-2.field-0) (e ∙ then (λ r. more_names (i.0 - 1) r.1 >>= (λ s. Ok (r.0 ∷ s.0, s.1))) (told (c.in_ok-name-2.ensures.tells text)))
                (ap (λ (xs : List code-name.Name). view.names text xs) c.in_ok-push-2.ensures.items ∙ names_push text (vec_items c.loop-names.names) c.in_ok-name-2.field-0),
          ),
    )

pub returns-clause-tells : goal.returns-clause-tells
returns-clause-tells c text =
    let i = c.loop-names.invariant.1 text in
    let p = c.takes.ensures.no c.loop-names-test.false in
    let x = view.view_names text c.loop-names.names in
    valued _ (rw p.1 (i.2 ∙ ap (in_front x) (more_names_stop text c.loop-names.self.rest.now i.0 (omega (arith, i.1)) p.0) ∙ ap (λ (ys : List Name). Ok (ys, lexemes text c.loop-names.self.rest.now)) (append_nil x)))
