use Rattle.std.proofs.Common.{List, ◌++◌, vec_items, sym, ap, ◌∙◌, append-nil}
use Rattle.grammar.specs.declared.tree.Proc as code-proc
use Rattle.grammar.specs.Trees.{Param}
use Rattle.grammar.specs.Views.{name, names}
use Rattle.unfold.specs.Variables.{uses_args}
use Rattle.unfold.specs.Occurrences.{uses}
use Rattle.unfold.proofs.Adding.{call_adds, call_none}
use Rattle.unfold.proofs.scopes.Scope.add_call.Goals as goal

pub returns-in-Some : goal.returns-in-Some
returns-in-Some c =
    let s = c.args.self.now in
    let text = s.text.now in
    call_adds text (name text c.args.n).text s.procs.now c.in-Some.i c.index-self-i.result (vec_items c.args.found.now) (vec_items c.add_args.new.found)
    (names text c.args.args.now) c.add_args.result c.as_slice.result.now c.in-Some.ensures c.index-self-i.is (c.as_slice.ensures.value ∙ ap (λ (q : code-proc.Proc). vec_items q.params) (sym c.index-self-i.is)) c.add_args.ensures

pub returns-in-None : goal.returns-in-None
returns-in-None c =
    let s = c.args.self.now in
    let text = s.text.now in
    let w = (name text c.args.n).text in
    let as' = names text c.args.args.now in
    let old = vec_items c.args.found.now in
    sym (append-nil (uses text old)) ∙ ap (λ (ps : List Param). uses text old ++ uses_args ps as') (sym (call_none text w s.procs.now c.in-None.ensures))
