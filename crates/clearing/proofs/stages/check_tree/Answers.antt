use Rattle.std.proofs.Common.{◌≡◌, [], Ok, Err, vec_items, sym, ap, ◌∙◌}
use Rattle.std.proofs.lemmas.Result.{err_from_is_err_and}
use Rattle.numbers.specs.Literals.{literal_reading}
use Rattle.reader.specs.Faults.{Answer, ◌>>=◌}
use Rattle.grammar.specs.Views.{block}
use Rattle.names.specs.Scopes.{ended}
use Rattle.names.proofs.Declaring.{met_ok}
use Rattle.unfold.specs.Unfolded.{Nodes}
use Rattle.unfold.specs.Unfolding.{unfolded}
use Rattle.unfold.specs.Sharing.{sharing}
use Rattle.unfold.specs.Views.{nodes}
use Rattle.clearing.proofs.Answering.{met_stops, given_stops, given_by}
use Rattle.unfold.specs.declared.nodes.Nodes as code-nodes
use Rattle.clearing.proofs.Procedures.{after_names}
use Rattle.clearing.proofs.stages.check_tree.Goals as goal

pub returns-in_err-all : goal.returns-in_err-all
returns-in_err-all g c =
    let l = literal_reading g.K.NumberKind.meaning in
    let text = c.args.text.now in
    let t = c.args.tree.now in
    let e = c.in_err-all.field-0.0 in
    let p = err_from_is_err_and c.from_residual-in_err-all.result c.from_residual-in_err-all.ensures.1 in
    given_by (nodes text) {x = Err e} (sym (p.1 ∙ ap Err p.2))
    (sym (after_names l text t c.in_ok-check_names.field-0 c.in_ok-check_names.ensures.answer))
    (met_stops (λ (v : code-nodes.Nodes) (us : Nodes). nodes text v ≡ us) (nodes text) e (unfolded l (ended text (vec_items t.procs)) (block text t.main)) (λ us. sharing [] us >>= (λ w. Ok us)) c.in_err-all.ensures)

pub returns-in_err-check_sharing : goal.returns-in_err-check_sharing
returns-in_err-check_sharing g c =
    let l = literal_reading g.K.NumberKind.meaning in
    let text = c.args.text.now in
    let t = c.args.tree.now in
    let v = c.in_ok-all.all in
    let e = c.in_err-check_sharing.field-0.0 in
    let p = err_from_is_err_and c.from_residual-in_err-check_sharing.result c.from_residual-in_err-check_sharing.ensures.1 in
    let m = met_ok (λ (w : code-nodes.Nodes) (us : Nodes). nodes text w ≡ us) v (unfolded l (ended text (vec_items t.procs)) (block text t.main)) c.in_ok-all.ensures in
    let f : Nodes → Answer Nodes = λ us. sharing [] us >>= (λ w. Ok us) in
    given_by (nodes text) {x = Err e} (sym (p.1 ∙ ap Err p.2))
    (ap f m.2 ∙ sym (after_names l text t c.in_ok-check_names.field-0 c.in_ok-check_names.ensures.answer ∙ ap (λ (a : Answer Nodes). a >>= f) m.1))
    (given_stops (λ (u : Unit {0}). u) (nodes text) e (sharing [] (nodes text v)) (λ w. Ok (nodes text v)) c.in_err-check_sharing.ensures)

pub returns : goal.returns
returns g c =
    let l = literal_reading g.K.NumberKind.meaning in
    let text = c.args.text.now in
    let t = c.args.tree.now in
    let v = c.in_ok-all.all in
    let m = met_ok (λ (w : code-nodes.Nodes) (us : Nodes). nodes text w ≡ us) v (unfolded l (ended text (vec_items t.procs)) (block text t.main)) c.in_ok-all.ensures in
    let f : Nodes → Answer Nodes = λ us. sharing [] us >>= (λ w. Ok us) in
    after_names l text t c.in_ok-check_names.field-0 c.in_ok-check_names.ensures.answer
    ∙ ap (λ (a : Answer Nodes). a >>= f) m.1
    ∙ sym (ap f m.2)
    ∙ ap (λ (a : Answer (Unit {0})). a >>= (λ w. Ok (nodes text v))) c.in_ok-check_sharing.ensures
