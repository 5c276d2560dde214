-- What the verdict tells.
use Rattle.std.proofs.Common.{◌≡◌, ℕ, Bool, true, false, cond, T, eqb, List, [], ◌∷◌, length, sym, refl, ap, ◌∙◌, subst, inl, inr, arith}
use mathlib.Core.Option.{some}
use Rattle.rules.specs.declared.answers.Verdict.{Verdict}
use Rattle.rules.specs.declared.answers.Verdict.TheVariants.{Finished, Deadlock, Moving}
use Rattle.rules.specs.Programs.{Table}
use Rattle.rules.specs.Soundness.{Sound}
use Rattle.rules.specs.States.{State, Local, idle, running, parted, finished, poisoned, busy, is_parted, Move, step, close, meet, poison}
use Rattle.rules.specs.Permissions.{Permitted}
use Rattle.rules.specs.Invariants.{Wf}
use Rattle.rules.specs.Listings.{listing, nth, at_rest}
use Rattle.rules.specs.Answers.{is_finished}
use Rattle.rules.specs.ListingLaws.{VerdictFinished, VerdictDeadlock, VerdictMoving, FinishedRests}
use Rattle.lemmas.proofs.Tests.{differ, T_true, T_false}
use Rattle.rules.proofs.Locals.{busy_live, live_some}
use Rattle.rules.proofs.Tree.{root}
use Rattle.rules.proofs.Above.{above}
use Rattle.rules.proofs.Readiness.{ready_busy}
use Rattle.rules.proofs.Listed.{rest_tells, listing_tells_lem}

finished_out : (l : Local) → T (is_finished l) → l ≡ finished
finished_out idle h = absurd h
finished_out (running x) h = absurd h
finished_out (parted x) h = absurd h
finished_out finished h = refl
finished_out poisoned h = absurd h

finished_in : (l : Local) → l ≡ finished → T (is_finished l)
finished_in l e = subst (λ (v : Local). T (is_finished v)) (sym e) tt

abbrev code : Verdict → ℕ
code Finished = 0
code Deadlock = 1
code Moving = 2

-- the three cases of two tests
finished_case : (a b : Bool) → cond a Finished (cond b Deadlock Moving) ≡ Finished → T a
finished_case true b e = tt
finished_case false true e = absurd (let z : ◌≡◌ {A = ℕ} 1 0 = ap code e in omega arith)
finished_case false false e = absurd (let z : ◌≡◌ {A = ℕ} 2 0 = ap code e in omega arith)

deadlock_case : (a b : Bool) → cond a Finished (cond b Deadlock Moving) ≡ Deadlock → (T a → ⊥) × T b
deadlock_case true b e = absurd (let z : ◌≡◌ {A = ℕ} 0 1 = ap code e in omega arith)
deadlock_case false true e = (λ h. h, tt)
deadlock_case false false e = absurd (let z : ◌≡◌ {A = ℕ} 2 1 = ap code e in omega arith)

moving_case : (a b : Bool) → cond a Finished (cond b Deadlock Moving) ≡ Moving → (T a → ⊥) × (T b → ⊥)
moving_case true b e = absurd (let z : ◌≡◌ {A = ℕ} 0 2 = ap code e in omega arith)
moving_case false true e = absurd (let z : ◌≡◌ {A = ℕ} 1 2 = ap code e in omega arith)
moving_case false false e = (λ h. h, λ h. h)

pub verdict_finished : VerdictFinished
verdict_finished t s n = (
  λ e. finished_out (s.at 0) (finished_case (is_finished (s.at 0)) (at_rest t n s) e),
  λ e. ap (λ v. cond v Finished (cond (at_rest t n s) Deadlock Moving)) (T_true (is_finished (s.at 0)) (finished_in (s.at 0) e)),
)

unfinished : (s : State) → (s.at 0 ≡ finished → ⊥) → is_finished (s.at 0) ≡ false
unfinished s h = T_false (is_finished (s.at 0)) (λ e. h (finished_out (s.at 0) e))

pub verdict_deadlock : VerdictDeadlock
verdict_deadlock t s n sd wf hs = (
  λ e.
      let a = deadlock_case (is_finished (s.at 0)) (at_rest t n s) e in
      (λ i. a.0 (finished_in (s.at 0) i), (rest_tells t s n sd wf hs).0 a.1),
  λ a.
      ap (λ v. cond v Finished (cond (at_rest t n s) Deadlock Moving)) (unfinished s a.0)
      ∙ ap (λ v. cond v Deadlock Moving) (T_true (at_rest t n s) ((rest_tells t s n sd wf hs).1 a.1)),
)

-- a list that is not empty has a first move
pub first_of : (xs : List Move) → (T (eqb (length xs) 0) → ⊥) → (m : Move) × (nth xs 0 ≡ some m)
first_of [] h = absurd (h tt)
first_of (x ∷ xs) h = (x, refl)

pub some_permitted : (t : Table) (s : State) (n : ℕ) → Sound t → Wf t s → (T (at_rest t n s) → ⊥) → (m : Move) × Permitted t s m
some_permitted t s n sd wf h =
    let a = first_of (listing t s n) h in
    (a.0, ((listing_tells_lem t s n a.0 sd wf).0 (0, a.1)).0)

pub verdict_moving : VerdictMoving
verdict_moving t s n sd wf hs = (
  λ e.
      let a = moving_case (is_finished (s.at 0)) (at_rest t n s) e in
      (λ i. a.0 (finished_in (s.at 0) i), some_permitted t s n sd wf a.1),
  λ a.
      ap (λ v. cond v Finished (cond (at_rest t n s) Deadlock Moving)) (unfinished s a.0)
      ∙ ap (λ v. cond v Deadlock Moving)
      (T_false (at_rest t n s) (λ e. (rest_tells t s n sd wf hs).0 e a.1.0 a.1.1)),
)

-- every permitted move has a busy place
mover : (t : Table) (s : State) (m : Move) → Permitted t s m → (q : ℕ) × T (busy (s.at q))
mover t s (step p) a = (p, subst (λ (l : Local). T (busy l)) (sym a.1) tt)
mover t s (close p) a = (p, subst (λ (l : Local). T (busy l)) (sym a.1) tt)
mover t s (meet h) a = (t.declarer h, ready_busy t s h a.1)
mover t s (poison p h) a = (p, ready_busy t s h a.2)

pub finished_rests : FinishedRests
finished_rests t s sd wf e m a =
    let b = mover t s m a in
    elim (above t sd s wf 0 (root t sd b.0 b.0 (omega arith)) (live_some _ (busy_live _ b.1))) [
      | inl i ↦ subst (λ (l : Local). T (busy l)) (ap s.at i ∙ e) b.1
      | inr o ↦ differ is_parted o.1 e tt tt
    ]
