use Rattle.std.proofs.Common.{suc, ◌-◌, List, ◌∷◌, length, Ok, vec_items, sym, refl, ap, ◌∙◌, arith}
use Rattle.reader.specs.Faults.{◌>>=◌}
use Rattle.reader.specs.Views.{lexemes}
use Rattle.reader.specs.declared.token.Token.{Token}
use Rattle.reader.specs.declared.token.Tag.TheVariants as tags
use Rattle.grammar.specs.declared.tree.Proc as code-proc
use Rattle.grammar.specs.Views as view
use Rattle.grammar.specs.Trees.{Proc}
use Rattle.grammar.specs.Parsers.{Tokens}
use Rattle.grammar.specs.Readers.{procedures_at}
use Rattle.grammar.specs.Reading.{in_front}
use Rattle.grammar.proofs.Tags.{lexemes_length, sign_left}
use Rattle.grammar.proofs.Telling.{told, via, valued, broken, stopped, starved}
use Rattle.grammar.proofs.Levels.{then}
use Rattle.grammar.proofs.SimpleSteps.{gather, append_nil}
use Rattle.grammar.proofs.ProgramSteps.{procedures_go, procedures_stop, procs_push, in_front_none}
use Rattle.grammar.proofs.parser.Parser.procedures.Goals as goal

pub loop-procs-init : goal.loop-procs-init
loop-procs-init c = (
  omega arith,
  λ text.
      let us = lexemes text c.args.self.now.rest.now in
      let e = lexemes_length text c.args.self.now.rest.now in (
        suc (length us),
        omega arith,
        in_front_none (procedures_at (suc (length us)) us) ∙ ap (λ (xs : List code-proc.Proc). in_front (view.procs text xs) (procedures_at (suc (length us)) us)) (sym c.new-procs.ensures.items),
      ),
)

pub returns-in_err-procedure-clause-tells : goal.returns-in_err-procedure-clause-tells
returns-in_err-procedure-clause-tells c text =
    let i = c.loop-procs.invariant.1 text in
    let p = c.takes.ensures.yes c.loop-procs-test.true in
    via (i.2 ∙ ap (in_front (view.view_procs text c.loop-procs.procs)) (procedures_go text c.loop-procs.self.rest.now c.takes.new.self.rest.now i.0 (omega (arith, i.1)) p))
    (stopped _ _ c.from_residual.ensures.1 (broken {g = λ (v : List Proc × Tokens). v} _ (c.in_err-procedure.ensures.tells text)))

pub returns-in_err-push-clause-tells : goal.returns-in_err-push-clause-tells
returns-in_err-push-clause-tells c text = starved _ _ c.from_residual-in_err-push.ensures.1 refl

pub loop-procs-preserved : goal.loop-procs-preserved
loop-procs-preserved c =
    let s = c.in_ok-procedure.ensures.shorter in
    let p = c.takes.ensures.yes c.loop-procs-test.true in
    let l = sign_left c.loop-procs.self.rest.now tags.Proc refl p.0 in
    let n = ap (λ (us : List Token). length us) p.1 in
    let v = c.loop-procs.invariant in (
      omega (arith, v.0),
      λ text.
          let i = c.loop-procs.invariant.1 text in
          let x = view.view_procs text c.loop-procs.procs in
          let e = procedures_go text c.loop-procs.self.rest.now c.takes.new.self.rest.now i.0 (omega (arith, i.1)) p in
          let us = lexemes text c.procedure.new.self.rest.now in
          let y = view.view_procs text c.push.new.self in (
            i.0 - 1,
            omega (arith, i.1),
            i.2 ∙ gather (procedures_at i.0 (lexemes text c.loop-procs.self.rest.now)) (procedures_at (i.0 - 1) us) x y
                (view.proc text c.in_ok-procedure.field-0) (e ∙ then (λ r. procedures_at (i.0 - 1) r.1 >>= (λ s. Ok (r.0 ∷ s.0, s.1))) (told (c.in_ok-procedure.ensures.tells text)))
                (ap (λ (xs : List code-proc.Proc). view.procs text xs) c.in_ok-push.ensures.items ∙ procs_push text (vec_items c.loop-procs.procs) c.in_ok-procedure.field-0),
          ),
    )

pub returns-clause-tells : goal.returns-clause-tells
returns-clause-tells c text =
    let i = c.loop-procs.invariant.1 text in
    let p = c.takes.ensures.no c.loop-procs-test.false in
    let x = view.view_procs text c.loop-procs.procs in
    valued _ (rw p.1 (i.2 ∙ ap (in_front x) (procedures_stop text c.loop-procs.self.rest.now i.0 (omega (arith, i.1)) p.0) ∙ ap (λ (ys : List Proc). Ok (ys, lexemes text c.loop-procs.self.rest.now)) (append_nil x)))
