use Rattle.std.proofs.Common.{◌≡◌, ℕ, ◌+◌, List, take, drop, Ok, arith, sym, refl, ap, ◌∙◌}
use Rattle.std.proofs.lemmas.Grind.{common_steps}
use Rattle.numbers.specs.Literals.{literal_reading}
use Rattle.grammar.specs.declared.tree.Proc as code-proc
use Rattle.grammar.specs.Views.{proc, procs, tree}
use Rattle.names.specs.Naming.{names_proc, names_procs, named}
use Rattle.names.specs.Scopes.{ended}
use Rattle.names.specs.Checking.{procs_of}
use Rattle.names.proofs.Binds.{bind_ok}
use Rattle.names.proofs.Declaring.{met_ok}
use Rattle.names.proofs.Judging.{judged}
use Rattle.names.proofs.Tables.{procs_more}
use Rattle.names.proofs.whole.check_names.Goals as goal

pub returns-in_err-check_proc-clause-rules : goal.returns-in_err-check_proc-clause-rules
returns-in_err-check_proc-clause-rules g c =
    let l = literal_reading g.K.NumberKind.meaning in
    let t = tree c.args.text.now c.args.tree.now in
    judged l t c.from_residual.result (named l t) refl (grind (arith, common_steps))

pub loop-i-preserved : goal.loop-i-preserved
loop-i-preserved g c =
    let l = literal_reading g.K.NumberKind.meaning in
    let text = c.args.text.now in
    let qs = c.as_slice-procs.result.now in
    let i = c.loop-i.i in
    let q = c.index-procs-i.result in
    let new = c.new-checker.result in
    let m = met_ok (λ (u w : Unit {0}). Unit {0}) tt (names_proc l (procs_of new) (proc new.text.now q)) c.in_ok-check_proc.ensures in
    let n : names_proc l (ended text (take i qs)) (proc text q) ≡ Ok tt =
    ap (λ (ps : List code-proc.Proc). names_proc l (ended text ps) (proc text q)) (sym c.new-checker.ensures.procs)
    ∙ ap (λ (x : List ℕ). names_proc l (ended x new.procs.now) (proc x q)) (sym c.new-checker.ensures.text) ∙ m.1 in
    c.loop-i.invariant ∙ procs_more l text qs i q c.loop-i-test.true c.index-procs-i.is ∙ bind_ok tt (λ u. names_procs l (ended text (take (i + 1) qs)) (procs text (drop (i + 1) qs))) (sym n)

pub returns-clause-rules : goal.returns-clause-rules
returns-clause-rules g c =
    let l = literal_reading g.K.NumberKind.meaning in
    let t = tree c.args.text.now c.args.tree.now in
    judged l t c.check_block.result (named l t) refl (grind (arith, common_steps))
