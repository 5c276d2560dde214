use Rattle.std.proofs.Common.{◌+◌, length, Ok, vec_items, ap, ◌∙◌, arith, rules}
use Rattle.std.proofs.lemmas.Slice.Zip.{Zip-more, either_empty_from_Zip}
use Rattle.reader.specs.Faults.{Answer, ◌>>=◌}
use Rattle.grammar.specs.Views.{names, params}
use Rattle.unfold.specs.Unfolding.{Passed, passes}
use Rattle.unfold.specs.Passing.{passed, passed_with}
use Rattle.unfold.specs.Views.{variables}
use Rattle.unfold.proofs.Passes.{pass_on, pass_stop, passes_end, listed_end}
use Rattle.unfold.proofs.scopes.Scope.pass_args.Goals as goal

pub returns-in_err-b : goal.returns-in_err-b
returns-in_err-b c =
    let text = c.args.self.now.text.now in
    let v = variables c.args.self.now in
    let s = c.loop-p.s in
    let z = Zip-more c.loop-p.p-iterator c.next.new.self _ _ c.in-Some.is c.next.ensures.steps in
    let h = pass_stop (passes v (params text c.args.params.now) (names text c.args.args.now) c.args.n.cells) v text _ _ _ _ _ _ (c.args.n.cells + length (vec_items s.news))
    (passed_with text s) z.0 z.1 c.loop-p.invariant (passed text) c.in_err-b.field-0.0 c.in_err-b.ensures in
    search rules

pub loop-p-preserved : goal.loop-p-preserved
loop-p-preserved c =
    let text = c.args.self.now.text.now in
    let v = variables c.args.self.now in
    let s = c.loop-p.s in
    let t = c.pass.new.self in
    let z = Zip-more c.loop-p.p-iterator c.next.new.self _ _ c.in-Some.is c.next.ensures.steps in
    let step = c.in_ok-pass.ensures text in
    pass_on (passes v (params text c.args.params.now) (names text c.args.args.now) c.args.n.cells) v text _ _ _ _ _ _ (c.args.n.cells + length (vec_items s.news))
    (passed_with text s) z.0 z.1 c.loop-p.invariant (c.args.n.cells + length (vec_items t.news)) _ (passed_with text t) c.in_ok-b.ensures step.0 (omega (arith, step.1))

pub returns-in_err-pass : goal.returns-in_err-pass
returns-in_err-pass c =
    let h = c.in_err-pass.ensures c.args.self.now.text.now in
    search rules

pub returns : goal.returns
returns c =
    let text = c.args.self.now.text.now in
    let s = c.loop-p.s in
    c.loop-p.invariant
    ∙ ap (λ (z : Answer Passed). z >>= (λ r. Ok (passed_with text s r)))
    (passes_end (variables c.args.self.now) text _ _ (c.args.n.cells + length (vec_items s.news)) (either_empty_from_Zip c.loop-p.p-iterator c.next.new.self _ c.in-None.is c.next.ensures.steps))
    ∙ ap Ok (listed_end text (vec_items s.env) (vec_items s.copies) (vec_items s.news) (vec_items s.refs))
