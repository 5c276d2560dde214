-- What holds at power and is kept holds in every state that a board reaches.
use Rattle.std.proofs.Common.{◌≡◌, ℕ, zero, suc, ◌+◌, sym, ap, subst, arith}
use Rattle.numbers.specs.Kinds.{Meaning}
use Rattle.rules.specs.Programs.{Table}
use Rattle.rules.specs.States.{State, Move, powered}
use Rattle.rules.specs.Permissions.{Permitted}
use Rattle.rules.specs.Moves.{made}
use Rattle.rules.specs.Invariants.{Wf}
use Rattle.rules.specs.Runs.{Run}
use Rattle.rules.specs.Safety.{ReachedWellFormed, ReachedNumbers, MovesCounted}
use Rattle.rules.proofs.Invariant.{kept, at_power}
use Rattle.rules.proofs.Numbers.{numbers_at_power, numbers_kept}

-- a property that every permitted move keeps
pub along : (k : Meaning) (t : Table) (P : State → Type 0) → ((s : State) (m : Move) → P s → Permitted t s m → P (made k t s m))
    → (n : ℕ) (s r : State) → P s → Run k t s n r → P r
along k t P keeps zero s r a run = subst P run a
along k t P keeps (suc n) s r a run = along k t P keeps n (made k t s run.0) r (keeps s run.0 a run.1) run.2

pub reached_wf : ReachedWellFormed
reached_wf k t w s sd a =
    along k t (λ v. Wf t v) (λ v m wf pm. kept k t v m sd wf pm) a.0 (powered t w) s (at_power t w sd) a.1

pub reached_numbers : ReachedNumbers
reached_numbers k t w s laws lits a =
    along k t (λ v. Rattle.rules.specs.Numbers.Numbers k v) (λ v m i pm. numbers_kept k t v m laws lits i) a.0 (powered t w) s (numbers_at_power k t w laws) a.1

pub moves_counted : MovesCounted
moves_counted k t s r zero run = let e : r.total ≡ s.total = ap (λ v. v.total) (sym run) in omega arith
moves_counted k t s r (suc n) run = let i : r.total ≡ n + (1 + s.total) = moves_counted k t (made k t s run.0) r n run.2 in omega arith
