use Rattle.std.proofs.Common.{Err, rules, sym, ap, ◌∙◌}
use Rattle.std.proofs.lemmas.Result.{err_from_is_err_and}
use Rattle.grammar.specs.Views.{name}
use Rattle.names.specs.Naming.{find_proc}
use Rattle.names.specs.Checking.{vars_of, procs_of}
use Rattle.names.proofs.Binds.{bind_ok, bind_err}
use Rattle.names.proofs.Finding.{call_some}
use Rattle.names.proofs.checker.Checker.check_call.Goals as goal

pub returns-in_err-must : goal.returns-in_err-must
returns-in_err-must g c =
    let self = c.args.self.now in
    let text = self.text.now in
    let n = name text c.args.n in
    let p = err_from_is_err_and c.from_residual-in_err-must.result c.from_residual-in_err-must.ensures.1 in
    let h = call_some text (vars_of self) (find_proc (procs_of self) n.text) n c.args.args.now c.in_ok-count.count (search rules) in
    p.1 ∙ ap Err p.2 ∙ sym (h ∙ bind_err _ _ c.in_err-must.ensures)

pub returns : goal.returns
returns g c =
    let self = c.args.self.now in
    let text = self.text.now in
    let n = name text c.args.n in
    let h = call_some text (vars_of self) (find_proc (procs_of self) n.text) n c.args.args.now c.in_ok-count.count (search rules) in
    c.check_arguments.ensures ∙ sym (h ∙ bind_ok _ _ c.in_ok-must.ensures)
