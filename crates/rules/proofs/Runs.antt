-- Whole runs: the diamond carried over them.
use Rattle.std.proofs.Common.{◌≡◌, ℕ, zero, suc, ◌+◌, sym, refl, ap, ◌∙◌, subst, inl, inr, arith}
use Rattle.numbers.specs.Kinds.{Meaning}
use Rattle.rules.specs.Invariants.{Wf}
use Rattle.rules.specs.Moves.{made}
use Rattle.rules.specs.Permissions.{Permitted, Rests}
use Rattle.rules.specs.Programs.{Table}
use Rattle.rules.specs.Runs.{Run}
use Rattle.rules.specs.Soundness.{Sound}
use Rattle.rules.specs.States.{State, Move, powered}
use Rattle.rules.specs.Confluence.{OneEnd, DiamondWhenReached, OneEndWhenReached, OneEndFromPower}
use Rattle.rules.proofs.Stable.{same_move?}
use Rattle.rules.proofs.Diamonds.{diamond}
use Rattle.rules.proofs.Invariant.{kept, at_power}
use Rattle.rules.proofs.Reached.{reached_wf}

-- a permitted move takes one from a run that comes to rest
strip : (k : Meaning) (t : Table) (sd : Sound t) (n : ℕ) (s r : State) → Wf t s → Run k t s n r → Rests t r → (m : Move) → Permitted t s m
    → (j : ℕ) × (n ≡ suc j) × Run k t (made k t s m) j r
strip k t sd zero s r wf run rests m a = absurd (rests m (subst (λ (v : State). Permitted t v m) run a))
strip k t sd (suc n) s r wf run rests m a =
    elim (same_move? run.0 m) [
      | inl e ↦ (n, refl, subst (λ (v : Move). Run k t (made k t s v) n r) e run.2)
      | inr ne ↦
          let d = diamond k t s run.0 m sd wf run.1 a ne in
          let i = strip k t sd n (made k t s run.0) r (kept k t s run.0 sd wf run.1) run.2 rests m d.0 in
          (suc i.0, ap suc i.1, (run.0, d.1, subst (λ (v : State). Run k t v i.0 r) d.2 i.2))
    ]

at_rest : (k : Meaning) (t : Table) (n : ℕ) (s r : State) → Run k t s n r → Rests t s → (0 ≡ n) × (s ≡ r)
at_rest k t zero s r run rests = (refl, run)
at_rest k t (suc n) s r run rests = absurd (rests run.0 run.1)

ends : (k : Meaning) (t : Table) (sd : Sound t) (j n : ℕ) (s r u : State) → Wf t s → Run k t s n r → Rests t r → Run k t s j u
    → (i : ℕ) × (j + i ≡ n) × Run k t u i r × (Rests t u → (j ≡ n) × (u ≡ r))
ends k t sd zero n s r u wf run rests other =
    let v : Run k t u n r = subst (λ (w : State). Run k t w n r) other run in
    (n, omega arith, v, λ q. at_rest k t n u r v q)
ends k t sd (suc j) n s r u wf run rests other =
    let a = strip k t sd n s r wf run rests other.0 other.1 in
    let i = ends k t sd j a.0 (made k t s other.0) r u (kept k t s other.0 sd wf other.1) a.2 rests other.2 in
    let e = a.1 in
    let f = i.1 in
    (i.0, omega arith, i.2, λ q. let b = i.3 q in (ap suc b.0 ∙ sym e, b.1))

-- a run that has used up the moves is at the end
no_more : (k : Meaning) (t : Table) (i : ℕ) (u r : State) → i ≡ 0 → Run k t u i r → u ≡ r
no_more k t zero u r e run = run
no_more k t (suc i) u r e run = absurd (omega arith)

pub one_end : OneEnd
one_end k t s r u n j sd wf run rests other =
    let a = ends k t sd j n s r u wf run rests other in
    let e = a.1 in
    let at_n : j ≡ n → u ≡ r = λ q. no_more k t a.0 u r (omega arith) a.2 in (
      omega arith,
      (λ q. (a.3 q).0, λ q. subst (λ (v : State). Rests t v) (sym (at_n q)) rests),
      at_n,
      (a.0, a.1, a.2),
    )

pub reached_diamond : DiamondWhenReached
reached_diamond k t w s m n sd x = diamond k t s m n sd (reached_wf k t w s sd x)

pub reached_one_end : OneEndWhenReached
reached_one_end k t w s r u n j sd x = one_end k t s r u n j sd (reached_wf k t w s sd x)

pub power_one_end : OneEndFromPower
power_one_end k t w r u n j sd = one_end k t (powered t w) r u n j sd (at_power t w sd)
