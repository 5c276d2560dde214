use Rattle.std.proofs.Common.{◌∙◌}
use Rattle.reader.specs.Views.{lexemes}
use Rattle.grammar.specs.Views as view
use Rattle.grammar.proofs.Tags.{not_seen}
use Rattle.grammar.proofs.Telling.{told, via, valued, refuses, stopped, meets}
use Rattle.grammar.proofs.ProgramSteps.{parsed_step, finished_yes, finished_no}
use Rattle.grammar.proofs.programs.parse.Goals as goal

pub returns-in_err-procs : goal.returns-in_err-procs
returns-in_err-procs c text =
    meets {f = view.tree text} (via (parsed_step (lexemes text c.args.tokens.now)) (stopped _ _ c.from_residual.ensures.1 (c.in_err-procs.ensures.tells text)))

pub returns-in_err-eat : goal.returns-in_err-eat
returns-in_err-eat c text =
    meets {f = view.tree text} {r = c.from_residual-in_err-eat.result}
    (via (parsed_step (lexemes text c.args.tokens.now)) (rw (told (c.in_ok-procs.ensures.tells text)) (stopped _ _ c.from_residual-in_err-eat.ensures.1 (c.in_err-eat.ensures.tells text))))

pub returns-in_err-main : goal.returns-in_err-main
returns-in_err-main c text =
    meets {f = view.tree text} {r = c.from_residual-in_err-main.result}
    (via (parsed_step (lexemes text c.args.tokens.now)) (rw (told (c.in_ok-procs.ensures.tells text), told (c.in_ok-eat.ensures.tells text)) (stopped _ _ c.from_residual-in_err-main.ensures.1 (c.in_err-main.ensures.tells text))))

pub returns-then-sees : goal.returns-then-sees
returns-then-sees c text =
    let ps = view.view_procs text c.in_ok-procs.procs in
    let b = view.block text c.in_ok-main.main in
    meets {f = view.tree text}
    (valued (record { procs = c.in_ok-procs.procs; main = c.in_ok-main.main })
    (parsed_step (lexemes text c.args.tokens.now)
    ∙ rw (told (c.in_ok-procs.ensures.tells text), told (c.in_ok-eat.ensures.tells text), told (c.in_ok-main.ensures.tells text))
    (finished_yes text c.block.new.self.rest.now ps b (c.sees.ensures.0 c.if-sees.true))))

pub returns-else-sees : goal.returns-else-sees
returns-else-sees c text =
    let ps = view.view_procs text c.in_ok-procs.procs in
    let b = view.block text c.in_ok-main.main in
    meets {f = view.tree text}
    (refuses c.refuse.ensures
    (parsed_step (lexemes text c.args.tokens.now)
    ∙ rw (told (c.in_ok-procs.ensures.tells text), told (c.in_ok-eat.ensures.tells text), told (c.in_ok-main.ensures.tells text))
    (finished_no text c.block.new.self.rest.now ps b (not_seen c.sees.ensures c.if-sees.false))))
