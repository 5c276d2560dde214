use Rattle.std.proofs.Common.{◌≡◌, ℕ, ◌<◌, ◌≤◌, Bool, true, cond, eqb, ltb, List, [], length, get_or, set, vec_items, sym, refl, ap, ◌∙◌, subst, ap₂, arith, length-set}
use Rattle.std.proofs.lemmas.Bool.{and_parts, ltb-true, eq-eqb, ne_eqb, cond-true, cond-false}
use Rattle.rules.specs.Answers.{limit}
use Rattle.rules.specs.Values.{value}
use Rattle.rules.specs.Effects.{only, never, nothing}
use Rattle.rules.specs.Programs.{goto, throw}
use Rattle.rules.specs.Steps.{Act, step_effect, copying, taking, act}
use Rattle.tables.specs.declared.stmt.Stmt.{Stmt}
use Rattle.tables.specs.declared.stmt.Stmt.TheVariants.{Set, Call, Test, Take, Par, Throw}
use Rattle.tables.specs.declared.stmt.Copied.{Copied}
use Rattle.board.specs.declared.state.State.{State}
use Rattle.board.specs.declared.state.Local.TheVariants.{Running, Parted}
use Rattle.tables.specs.Fit.{named, in_cells, places_in, copies_in}
use Rattle.tables.specs.Stms.{stm, expr, copies}
use Rattle.tables.specs.Views.{table}
use Rattle.board.specs.Views.{place}
use Rattle.board.specs.Effects.{After, Shaped, acted, act_words, stepped, with_cells, with_places, copied, forked}
use Rattle.board.proofs.Copying.{copied_is, length_copied}
use Rattle.board.proofs.Performing.{passes, named_as, fork_after, only_is, forked_few}
use Rattle.board.proofs.state.State.perform.Goals as goal

pub returns-in-Set : goal.returns-in-Set
returns-in-Set g c =
    let k = g.K.NumberKind.meaning in
    let t = table c.args.t.now in
    let s = c.args.self.now in
    let shaped : Shaped s = (omega arith, omega arith, omega arith) in
    let x = c.args.x in
    let q = c.args.point.now.place in
    let ws = g.B.Bank.words c.args.bank.now in
    let d = c.in-Set.c in
    let b = Set d c.in-Set.e in
    let v : ℕ = value k (λ i. get_or s.cells i 0) (expr c.in-Set.e) in
    let n = and_parts (ltb d 128) (in_cells (expr c.in-Set.e)) (named_as q _ b c.in-Set.is c.requires.named) in
    let l : d < length s.cells = omega (arith, ltb-true d 128 n.0, shaped.1) in
    record {
      did = passes k t s ws c.args.p x q _ b _ (only d v) never (t.after x) (set s.cells d v) shaped c.requires.inside c.in-Set.is refl
          (c.step_to-in-Set.ensures ∙ ap₂ (λ (u : State) a. stepped u c.args.p (Running a)) c.assign.ensures c.after-in-Set.ensures)
          (length-set s.cells d v ∙ shaped.1) (only_is s.cells d v l);
      ports = λ i. sym (ap (λ (v : Stmt). act_words (acted k t s ws x q v) ws i) c.in-Set.is);
    }

pub returns-in-Call : goal.returns-in-Call
returns-in-Call g c =
    let k = g.K.NumberKind.meaning in
    let t = table c.args.t.now in
    let s = c.args.self.now in
    let shaped : Shaped s = (omega arith, omega arith, omega arith) in
    let x = c.args.x in
    let q = c.args.point.now.place in
    let ws = g.B.Bank.words c.args.bank.now in
    let list : List Copied = vec_items c.in-Call.list in
    let to = c.in-Call.to in
    let b = Call c.in-Call.list to in
    record {
      did = passes k t s ws c.args.p x q _ b _ (copying (λ i. get_or s.cells i 0) (copies list)) never to (copied s.cells list) shaped c.requires.inside c.in-Call.is refl
          (c.step_to-in-Call.ensures ∙ ap (λ v. stepped v c.args.p (Running to)) (c.copy.ensures ∙ ap (λ v. with_cells s (copied s.cells v)) c.as_slice.ensures.value))
          (length_copied s.cells list ∙ shaped.1) (copied_is s.cells list shaped.1 (named_as q _ b c.in-Call.is c.requires.named));
      ports = λ i. sym (ap (λ (v : Stmt). act_words (acted k t s ws x q v) ws i) c.in-Call.is);
    }

pub returns-in-Test : goal.returns-in-Test
returns-in-Test g c =
    let k = g.K.NumberKind.meaning in
    let t = table c.args.t.now in
    let s = c.args.self.now in
    let x = c.args.x in
    let q = c.args.point.now.place in
    let ws = g.B.Bank.words c.args.bank.now in
    let z = c.in-Test.to in
    let y = c.in-Test.field-1 in
    let v : ℕ = value k (λ i. get_or s.cells i 0) (expr c.in-Test.e) in
    let led = sym (cond-true (eqb v 0) z y (eq-eqb v 0 (sym c.value.ensures ∙ c.if-value-eq0.true))) in
    record {
      did = passes k t s ws c.args.p x q _ (Test c.in-Test.e y z) _ nothing never (cond (eqb v 0) z y) s.cells (omega arith, omega arith, omega arith) c.requires.inside c.in-Test.is refl
          (c.step_to-in-Test.ensures ∙ ap (λ v. stepped s c.args.p (Running v)) led) (omega arith) (λ i. refl);
      ports = λ i. sym (ap (λ (v : Stmt). act_words (acted k t s ws x q v) ws i) c.in-Test.is);
    }

pub returns-in-Test-2 : goal.returns-in-Test-2
returns-in-Test-2 g c =
    let k = g.K.NumberKind.meaning in
    let t = table c.args.t.now in
    let s = c.args.self.now in
    let x = c.args.x in
    let q = c.args.point.now.place in
    let ws = g.B.Bank.words c.args.bank.now in
    let z = c.in-Test.to in
    let y = c.in-Test.field-1 in
    let v : ℕ = value k (λ i. get_or s.cells i 0) (expr c.in-Test.e) in
    let i = c.in-Test.is in
    let j = c.in-Test-2.is in
    let same : c.in-Test-2.to ≡ y = cc in
    let led = same ∙ sym (cond-false (eqb v 0) z y (ne_eqb v 0 (λ e. c.if-value-eq0.false (c.value.ensures ∙ e)))) in
    record {
      did = passes k t s ws c.args.p x q _ (Test c.in-Test.e y z) _ nothing never (cond (eqb v 0) z y) s.cells (omega arith, omega arith, omega arith) c.requires.inside c.in-Test.is refl
          (c.step_to-in-Test-2.ensures ∙ ap (λ v. stepped s c.args.p (Running v)) led) (omega arith) (λ i. refl);
      ports = λ i. sym (ap (λ (v : Stmt). act_words (acted k t s ws x q v) ws i) c.in-Test.is);
    }

pub returns-in-Par : goal.returns-in-Par
returns-in-Par g c =
    let k = g.K.NumberKind.meaning in
    let t = table c.args.t.now in
    let s = c.args.self.now in
    let shaped : Shaped s = (omega arith, omega arith, omega arith) in
    let p = c.args.p in
    let x = c.args.x in
    let q = c.args.point.now.place in
    let ws = g.B.Bank.words c.args.bank.now in
    let f : ℕ → ℕ = λ i. get_or s.cells i 0 in
    let list : List Copied = vec_items c.in-Par.list in
    let bs : List ℕ = vec_items c.in-Par.branches in
    let n = and_parts (places_in bs) (copies_in (copies list)) (subst (λ (v : Stmt). named (stm q v) ≡ true) c.in-Par.is c.requires.named) in
    let e : c.copy-in-Par.new.self ≡ with_cells s (copied s.cells list) = c.copy-in-Par.ensures ∙ ap (λ v. with_cells s (copied s.cells v)) c.as_slice-in-Par.ensures.value in
    let r : c.fork.new.self ≡ with_places (with_cells s (copied s.cells list)) (forked t.start s.places bs) =
    c.fork.ensures ∙ ap₂ (λ (v : State) (b : List ℕ). with_places v (forked t.start v.places b)) e c.as_slice-in-Par-2.ensures.value in
    record {
      did =
          subst (λ (v : Stmt). After (step_effect t p (acted k t s ws x q v)) s c.step_to-in-Par.new.self) (sym c.in-Par.is)
          (subst (After (step_effect t p (acted k t s ws x q (Par c.in-Par.branches c.in-Par.list))) s) (sym (c.step_to-in-Par.ensures ∙ ap (λ (v : State). stepped v p (Parted x)) r))
          (fork_after t p x (copying f (copies list)) bs s (copied s.cells list) shaped c.requires.inside (length_copied s.cells list ∙ shaped.1) n.0 (copied_is s.cells list shaped.1 n.1)));
      ports = λ i. sym (ap (λ (v : Stmt). act_words (acted k t s ws x q v) ws i) c.in-Par.is);
    }

pub step_to-requires-in-Par : goal.step_to-requires-in-Par
step_to-requires-in-Par g c =
    let t = table c.args.t.now in
    let q = c.args.point.now.place in
    let s = c.args.self.now in
    let shaped : Shaped s = (omega arith, omega arith, omega arith) in
    let list : List Copied = vec_items c.in-Par.list in
    let bs : List ℕ = vec_items c.in-Par.branches in
    let n = and_parts (places_in bs) (copies_in (copies list)) (subst (λ (v : Stmt). named (stm q v) ≡ true) c.in-Par.is c.requires.named) in
    let e : c.copy-in-Par.new.self ≡ with_cells s (copied s.cells list) = c.copy-in-Par.ensures ∙ ap (λ v. with_cells s (copied s.cells v)) c.as_slice-in-Par.ensures.value in
    let r : c.fork.new.self ≡ with_places (with_cells s (copied s.cells list)) (forked t.start s.places bs) =
    c.fork.ensures ∙ ap₂ (λ (v : State) (b : List ℕ). with_places v (forked t.start v.places b)) e c.as_slice-in-Par-2.ensures.value in
    record {
      inside = c.requires.inside;
      few = subst (λ (v : State). (q : ℕ) → (place v q).steps ≤ v.total) (sym r) (forked_few t.start s bs s.total shaped.0 n.0 c.requires.counts.0.0);
      under = subst (λ (v : State). v.total < limit) (sym r) c.requires.counts.1;
    }

pub returns-in-Take : goal.returns-in-Take
returns-in-Take g c =
    let k = g.K.NumberKind.meaning in
    let t = table c.args.t.now in
    let s = c.args.self.now in
    let x = c.args.x in
    let q = c.args.point.now.place in
    let ws = g.B.Bank.words c.args.bank.now in
    let i = c.in-Take.port in
    let d = c.in-Take.field-1 in
    let z = c.in-Take.to in
    let dry : ws i ≡ [] = g.B.Bank.eight c.args.bank.now i (omega arith) in
    record {
      did = passes k t s ws c.args.p x q _ (Take i d z) _ nothing never z s.cells (omega arith, omega arith, omega arith) c.requires.inside c.in-Take.is
          (ap (taking k i d (t.after x) z) dry) c.step_to-in-Take.ensures (omega arith) (λ j. refl);
      ports = λ j. sym (ap (λ (v : Stmt). act_words (acted k t s ws x q v) ws j) c.in-Take.is ∙ ap (λ (v : List ℕ). act_words (taking k i d (t.after x) z v) ws j) dry);
    }

pub returns-in-Throw : goal.returns-in-Throw
returns-in-Throw g c =
    let k = g.K.NumberKind.meaning in
    let t = table c.args.t.now in
    let s = c.args.self.now in
    let x = c.args.x in
    let q = c.args.point.now.place in
    let ws = g.B.Bank.words c.args.bank.now in
    let o = c.in-Throw.g in
    let n = c.in-Throw.field-1 in
    let y = c.in-Throw.to in
    let own : eqb o q ≡ true = eq-eqb o q (omega arith) in
    let a : Bool → Act = λ b. act k t (λ c. get_or s.cells c 0) ws x (cond b (goto y) (throw o n)) in
    record {
      did = passes k t s ws c.args.p x q _ (Throw o n y) _ nothing never y s.cells (omega arith, omega arith, omega arith) c.requires.inside c.in-Throw.is
          (ap a own) c.step_to-in-Throw.ensures (omega arith) (λ j. refl);
      ports = λ j. sym (ap (λ (v : Stmt). act_words (acted k t s ws x q v) ws j) c.in-Throw.is ∙ ap (λ b. act_words (a b) ws j) own);
    }
