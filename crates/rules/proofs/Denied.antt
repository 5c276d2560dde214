-- What the rules do not say is not so.
use Rattle.std.proofs.Common.{◌≡◌, ℕ, zero, suc, false, cond, ◌&&◌, eqb, ◌≢◌, sym, refl, ap, ◌∙◌, inl, inr, arith, eqb→eq}
use mathlib.Core.Option.{some, none, get_or, map-eq-some_iff}
use lib.Dec.{eqb_refl}
use Rattle.numbers.specs.Kinds.{Meaning}
use Rattle.rules.specs.Programs.{throw, Table, elem}
use Rattle.rules.specs.Trees.{nonzero, Within, within}
use Rattle.rules.specs.States.{State, idle, running, parted, finished, poisoned, Mark, Move, step, close, meet, poison}
use Rattle.rules.specs.Effects.{keep, lower_to, changed}
use Rattle.rules.specs.Steps.{Act, stay, pass, fork, raise, halt, act, act_at, act_mark, doing}
use Rattle.rules.specs.Moves.{effect, made, closing, after_close, runs_at, observed}
use Rattle.rules.specs.Permissions.{Permitted}
use Rattle.rules.specs.Denials.{Throws, PoisonedBy, ThrowStaysInside, LesserWins, PoisonedOnly}
use Rattle.lemmas.proofs.Tests.{T_and, T_true, T_false, cond_some, cond_else, some_none, look}
use Rattle.rules.proofs.Tree.{climbs→}
use Rattle.rules.proofs.Acts.{Fits}
use Rattle.rules.proofs.Places.{writes, step_fits}

-- what a throw does
pub throwing : (k : Meaning) (t : Table) (s : State) (p g j : ℕ) → Throws t s p g j → doing k t s (s.at p) ≡ raise g j
throwing k t s p g j a =
    ap (doing k t s) a.1 ∙ ap (λ v. act k t s.cell s.port a.0 v) a.2

pub throw_stays_inside : ThrowStaysInside
throw_stays_inside k t s p g j q a = (other, unmarked)
  where
    e : doing k t s (s.at p) ≡ raise g j
    e = throwing k t s p g j a

    other : q ≢ p → (made k t s (step p)).at q ≡ s.at q
    other ne =
        ap (λ v. get_or (act_at t p v q) (s.at q)) e
        ∙ ap (λ b. get_or (cond b (some poisoned) none) (s.at q)) (T_false (eqb q p) (λ h. ne (eqb→eq q p h)))

    unmarked : q ≢ g → (Within t g q × Within t q (t.parent p) → ⊥) → (made k t s (step p)).mark q ≡ s.mark q
    unmarked ne out =
        let b : (within t g q && within t q (t.parent p)) ≡ false =
        T_false (within t g q && within t q (t.parent p)) (λ h.
        let c = T_and (within t g q) (within t q (t.parent p)) h in
        out (climbs→ t.parent nonzero g q q c.0, climbs→ t.parent nonzero q (t.parent p) (t.parent p) c.1))
        in
        ap (λ v. changed (act_mark t p v q) (s.mark q)) e
        ∙ ap (λ b. changed (cond b (lower_to j) (cond (within t g q && within t q (t.parent p)) (lower_to 0) keep)) (s.mark q)) (T_false (eqb q g) (λ h. ne (eqb→eq q g h)))
        ∙ ap (λ b. changed (cond b (lower_to 0) keep) (s.mark q)) b

pub lesser_wins : LesserWins
lesser_wins k t s p g j a =
    ap (λ v. changed (act_mark t p v g) (s.mark g)) (throwing k t s p g j a)
    ∙ ap (λ b. changed (cond b (lower_to j) (cond (within t g g && within t g (t.parent p)) (lower_to 0) keep)) (s.mark g)) (T_true (eqb g g) (eqb_refl g))

-- ---- who is poisoned

running_not : {B : Type 0} (x : ℕ) → running x ≡ poisoned → B
running_not x e = absurd (let z : ◌≡◌ {A = ℕ} 0 1 = cc in omega arith)

parted_not : {B : Type 0} (x : ℕ) → parted x ≡ poisoned → B
parted_not x e = absurd (let z : ◌≡◌ {A = ℕ} 0 1 = cc in omega arith)

idle_not : {B : Type 0} → idle ≡ poisoned → B
idle_not e = absurd (let z : ◌≡◌ {A = ℕ} 0 1 = cc in omega arith)

finished_not : {B : Type 0} → finished ≡ poisoned → B
finished_not e = absurd (let z : ◌≡◌ {A = ℕ} 0 1 = cc in omega arith)

-- only a throw poisons, and only its own place
act_poisons : (t : Table) (p x q : ℕ) (a : Act) → Fits t x (t.stm x) a → act_at t p a q ≡ some poisoned
    → (q ≡ p) × ((g : ℕ) × (j : ℕ) × (t.stm x ≡ throw g j))
act_poisons t p x q stay f e = some_none poisoned none e refl
act_poisons t p x q (pass w r y) f e = running_not y (cond_some (eqb q p) (running y) poisoned e).1
act_poisons t p x q (fork w y bs) f e =
    elim (cond_else (eqb q p) (parted y) poisoned (cond (elem q bs) (some (running (t.start q))) none) e) [
      | inl o ↦ parted_not y o.1
      | inr o ↦ running_not (t.start q) (cond_some (elem q bs) (running (t.start q)) poisoned o.1).1
    ]
act_poisons t p x q (raise g j) f e = (eqb→eq q p (cond_some (eqb q p) poisoned poisoned e).0, (g, j, f))
act_poisons t p x q halt f e = finished_not (cond_some (eqb q p) finished poisoned e).1

close_poisons : (t : Table) (x : ℕ) (m : Mark) → after_close t x m ≡ poisoned → m ≡ some 0
close_poisons t x none e = running_not (t.after x) e
close_poisons t x (some zero) e = refl
close_poisons t x (some (suc j)) e = running_not _ e

pub poisoned_only : PoisonedOnly
poisoned_only k t s m q sd wf pm ne e =
    elim (look ((effect k t s m).at q)) [
      | inl n ↦ absurd (ne (sym (ap (λ o. get_or o (s.at q)) n) ∙ e))
      | inr o ↦
          let i : o.0 ≡ poisoned = sym (ap (λ v. get_or v (s.at q)) o.1) ∙ e in
          go m pm (o.1 ∙ ap some i)
    ]
  where
    go : (m : Move) → Permitted t s m → (effect k t s m).at q ≡ some poisoned → PoisonedBy t s q m
    go (step p) a f =
        let b = act_poisons t p a.0 q (doing k t s (s.at p)) (step_fits t sd s wf k p a.0 a.1) f in
        inl (ap step (sym b.0), (b.1.0, b.1.1, (a.0, ap s.at b.0 ∙ a.1, b.1.2)))
    go (close p) a f =
        elim (cond_else (eqb q p) (closing t (s.mark p) (s.at p)) poisoned (cond (nonzero q && eqb (t.parent q) p) (some idle) none) f) [
          | inl o ↦
              let i : q ≡ p = eqb→eq q p o.0 in
              inr (inl (ap close (sym i), ap s.mark i ∙ close_poisons t a.0 (s.mark p) (ap (closing t (s.mark p)) (sym a.1) ∙ o.1)))
          | inr o ↦ idle_not (cond_some (nonzero q && eqb (t.parent q) p) idle poisoned o.1).1
        ]
    go (meet h) a f =
        let b = (map-eq-some_iff (λ x. running (t.after x)) (runs_at (observed t s h (t.declarer h) q))).0 f in
        running_not (t.after b.0) b.2
    go (poison p h) a f = inr (inr (p, h, refl, (writes t sd s wf k (poison p h) q poisoned a f).1))
