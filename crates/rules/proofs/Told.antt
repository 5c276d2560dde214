-- Whom a throw, a close, a meet and a poison change, and how.
use Rattle.std.proofs.Common.{◌≡◌, ℕ, cond, not, ◌&&◌, T, eqb, sym, refl, ap, ◌∙◌, subst, arith, eqb→eq}
use mathlib.Core.Option.{Option, some, none, get_or, map}
use lib.Dec.{eqb_refl}
use Rattle.rules.specs.Programs.{Table, awaits}
use Rattle.rules.specs.Soundness.{Sound}
use Rattle.rules.specs.States.{State, Local, idle, running, parted, finished, poisoned, is_idle, Mark, lesser, meet, poison}
use Rattle.rules.specs.Trees.{nonzero, Within, within}
use Rattle.rules.specs.Steps.{act_at, act_mark, raise}
use Rattle.rules.specs.Readiness.{Counted, counted}
use Rattle.rules.specs.Effects.{keep, lower_to, reset, changed}
use Rattle.rules.specs.Moves.{closing, observed, runs_at, parts_at, owns, owns_at, any_below}
use Rattle.rules.specs.EffectLaws.{CountedNext, MeetTells, PoisonTells, ThrowTells, CloseTells}
use Rattle.lemmas.proofs.Tests.{T_and, and_T, T_true, T_false}
use Rattle.rules.proofs.Tree.{→climbs}
use Rattle.rules.proofs.Branches.{closed_child}
use Rattle.rules.proofs.Denied.{throwing, throw_stays_inside, lesser_wins}
use Rattle.rules.proofs.Bounds.{any_in}
use Rattle.rules.proofs.Decide.{counted_tells}
use Rattle.rules.proofs.Places.{observed_inv}
use Rattle.rules.proofs.Stable.{same_at, same_cell}

-- what is observed at a counted place
observed_at : (t : Table) (s : State) (sd : Sound t) (h p q : ℕ) (l : Local) → Counted t s h p q → s.at q ≡ l → observed t s h p q ≡ some l
observed_at t s sd h p q l c e =
    ap (λ b. cond b (some (s.at q)) none) (T_true (counted t s h p q) ((counted_tells t s h p q sd).1 c)) ∙ ap some e

owns_own : (c h : ℕ) (o : Option (ℕ × ℕ)) → o ≡ some (c, h) → T (owns o c)
owns_own c h o e = subst (λ (v : Option (ℕ × ℕ)). T (owns v c)) (sym e) (eqb_refl c)

lowest : (m : Mark) → lesser m 0 ≡ some 0
lowest none = refl
lowest (some j) = ap some (omega arith)

pub throw_tells : ThrowTells
throw_tells k t s p g j sd a =
    record {
      thrower =
          ap (λ v. get_or (act_at t p v p) (s.at p)) e
          ∙ ap (λ b. get_or (cond b (some poisoned) none) (s.at p)) (T_true (eqb p p) (eqb_refl p));
      tried = lesser_wins k t s p g j a;
      between = λ q ne u v.
          ap (λ o. changed (act_mark t p o q) (s.mark q)) e
          ∙ ap (λ b. changed (cond b (lower_to j) (cond (within t g q && within t q (t.parent p)) (lower_to 0) keep)) (s.mark q))
          (T_false (eqb q g) (λ h. ne (eqb→eq q g h)))
          ∙ ap (λ b. changed (cond b (lower_to 0) keep) (s.mark q))
          (T_true (within t g q && within t q (t.parent p)) (and_T (within t g q) (within t q (t.parent p)) (tested g q u) (tested q (t.parent p) v)))
          ∙ lowest (s.mark q);
      other_places = λ q. (throw_stays_inside k t s p g j q a).0;
      other_marks = λ q. (throw_stays_inside k t s p g j q a).1;
    }
  where
    e : Rattle.rules.specs.Steps.doing k t s (s.at p) ≡ raise g j
    e = throwing k t s p g j a

    tested : (u v : ℕ) → Within t u v → T (within t u v)
    tested u v w = →climbs t.parent nonzero u sd.lower w v (omega arith)

pub close_tells : CloseTells
close_tells k t s p x sd e =
    record {
      stands =
          ap (λ b. get_or (cond b (some (closing t (s.mark p) (s.at p))) (cond (nonzero p && eqb (t.parent p) p) (some idle) none)) (s.at p))
          (T_true (eqb p p) (eqb_refl p))
          ∙ ap (closing t (s.mark p)) e;
      unmarked = ap (λ b. changed (cond b reset keep) (s.mark p)) (T_true (eqb p p) (eqb_refl p));
      children = λ c d. closed_child k t sd s p c d;
      other_places = λ q ne nc.
          ap (λ b. get_or (cond b (some (closing t (s.mark p) (s.at p))) (cond (nonzero q && eqb (t.parent q) p) (some idle) none)) (s.at q))
          (T_false (eqb q p) (λ h. ne (eqb→eq q p h)))
          ∙ ap (λ b. get_or (cond b (some idle) none) (s.at q))
          (T_false (nonzero q && eqb (t.parent q) p) (λ h.
          let c = T_and (nonzero q) (eqb (t.parent q) p) h in nc (c.0, eqb→eq (t.parent q) p c.1)));
      other_marks = λ q ne. ap (λ b. changed (cond b reset keep) (s.mark q)) (T_false (eqb q p) (λ h. ne (eqb→eq q p h)));
      cells = refl;
      ports = refl;
    }

pub meet_tells : MeetTells
meet_tells k t s h sd wf pm =
    record {
      passed = λ q x c n.
          ap (λ o. get_or (map (λ y. running (t.after y)) (runs_at o)) (s.at q)) (observed_at t s sd h (t.declarer h) q (running x) n.0 n.1);
      given = λ q x c n. ap (λ b. get_or (cond b (some (s.cell h)) none) (s.cell c)) (T_true (any_below t.places (λ q. owns_at t (runs_at (observed t s h (t.declarer h) q)) c)) (is_told q x c n));
      other_places = λ q f. same_at k t sd s wf (meet h) pm q (λ w. f w.1.0 w.1.1 (w.0, w.1.2, w.1.3));
      other_cells = λ c f. same_cell k t sd s wf (meet h) pm c (λ w. f w.0 w.1 (w.2, w.3, w.4));
      marks = refl;
      ports = refl;
    }
  where
    is_told : (q x c : ℕ) → CountedNext t s h q x c → T (any_below t.places (λ q. owns_at t (runs_at (observed t s h (t.declarer h) q)) c))
    is_told q x c n =
        any_in t.places (λ q. owns_at t (runs_at (observed t s h (t.declarer h) q)) c) q
        (wf.inside q (subst (λ (l : Local). T (not (is_idle l))) (sym n.1) tt))
        (subst (λ (o : Option Local). T (owns_at t (runs_at o) c)) (sym (observed_at t s sd h (t.declarer h) q (running x) n.0 n.1))
        (owns_own c h (awaits (t.stm x)) n.2))

-- what is not parted keeps its mark
keeps : (o : Option Local) → ((x : ℕ) → o ≡ some (parted x) → ⊥) → parts_at o ≡ keep
keeps none f = refl
keeps (some idle) f = refl
keeps (some (running x)) f = refl
keeps (some (parted x)) f = absurd (f x refl)
keeps (some finished) f = refl
keeps (some poisoned) f = refl

pub poison_tells : PoisonTells
poison_tells k t s p h sd wf pm =
    record {
      poisons = λ q c w.
          ap (λ o. get_or (map (λ y. poisoned) (runs_at o)) (s.at q)) (observed_at t s sd h p q (running w.0) c w.2);
      marked = λ q x c e. ap (λ o. changed (parts_at o) (s.mark q)) (observed_at t s sd h p q (parted x) c e) ∙ lowest (s.mark q);
      other_places = λ q f. same_at k t sd s wf (poison p h) pm q (λ w. f w.0 w.1);
      other_marks = λ q f.
          ap (λ o. changed o (s.mark q))
          (keeps (observed t s h p q) (λ x e. let v = observed_inv t s h p q (parted x) e in f x v.0 v.1));
      cells = refl;
      ports = refl;
    }
