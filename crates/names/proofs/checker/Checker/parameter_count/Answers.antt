use Rattle.std.proofs.Common.{sym, ap, ◌∙◌}
use Rattle.grammar.specs.Views.{name}
use Rattle.names.specs.Scopes.{arity}
use Rattle.names.specs.Checking.{procs_of}
use Rattle.names.proofs.Finding.{arity_at, no_proc}
use Rattle.names.proofs.checker.Checker.parameter_count.Goals as goal

pub returns-in_err-place : goal.returns-in_err-place
returns-in_err-place g c =
    let self = c.args.self.now in
    c.from_residual.ensures ∙ sym (ap arity (no_proc (name self.text.now c.args.n).text (procs_of self) c.in_err-place.ensures.answer))

pub returns : goal.returns
returns g c =
    let self = c.args.self.now in
    let q = c.index-self-place.result in
    let h = arity_at self.text.now (name self.text.now c.args.n).text self.procs.now _ q c.in_ok-place.ensures.answer c.index-self-place.is in
    let k = q.params.ok.0 in
    cc
