-- What every state of a board keeps.
use Rattle.std.specs.Prelude.{◌≡◌, ℕ, ◌<◌, not, T, List}
use Rattle.std.proofs.Math.Option.{some}
use Rattle.rules.specs.Programs.{Copies, par, Table}
use Rattle.rules.specs.Trees.{nonzero}
use Rattle.rules.specs.Soundness.{Catches}
use Rattle.rules.specs.States.{Local, idle, running, parted, finished, poisoned, is_idle, State}

-- A place stands at a point of its own, and parted at a par.
abbrev pub Stands : Table → ℕ → Local → Type 0
Stands t q idle = Unit {0}
Stands t q (running x) = t.place x ≡ q
Stands t q (parted x) = (t.place x ≡ q) × ((bs : List ℕ) × (cs : Copies) × (t.stm x ≡ par bs cs))
Stands t q finished = Unit {0}
Stands t q poisoned = Unit {0}

-- Only places of the board are not idle; the parent of one that is not idle is parted at the par that it is a branch of;
-- each place stands at a point of its own; only parted places have marks, and these name open tries.
pub record Wf (t : Table) (s : State) : Type 0 where
  pub inside : (q : ℕ) → T (not (is_idle (s.at q))) → q < t.places
  pub branches : (q : ℕ) → T (nonzero q) → T (not (is_idle (s.at q))) → s.at (t.parent q) ≡ parted (t.under q)
  pub points : (q : ℕ) → Stands t q (s.at q)
  pub marks : (q j : ℕ) → s.mark q ≡ some j → (x : ℕ) × (s.at q ≡ parted x) × Catches t x j
