-- What the looks at a cell and at a place tell.
use Rattle.std.specs.Prelude.{◌≡◌, ℕ, ◌<◌, ◌≤◌, Ok, Err, Result}
use Rattle.std.proofs.Math.Option.{Option, none, map}
use Rattle.rules.specs.declared.answers.Refusal.{Refusal}
use Rattle.rules.specs.declared.answers.Refusal.TheVariants.{NoSuch}
use Rattle.rules.specs.Programs.{Table, awaits}
use Rattle.rules.specs.States.{Local, idle, running, parted, finished, poisoned, State}
use Rattle.board.specs.Views.{marked}
use Rattle.calls.specs.declared.looks.CellLook.{CellLook}
use Rattle.calls.specs.declared.looks.Condition.{Condition}
use Rattle.calls.specs.declared.looks.Condition.TheVariants.{Idle, Running, Parted, Finished, Poisoned}
use Rattle.calls.specs.declared.looks.PlaceLook.{PlaceLook}

-- Which of the five a place is.
abbrev pub condition : Local → Condition
condition idle = Idle
condition (running x) = Running
condition (parted x) = Parted
condition finished = Finished
condition poisoned = Poisoned

-- The home of the next that a running place stands before.
abbrev pub waits_for : Table → Local → Option ℕ
waits_for t idle = none
waits_for t (running x) = map (λ d. d.1) (awaits (t.stm x))
waits_for t (parted x) = none
waits_for t finished = none
waits_for t poisoned = none

-- A look at a cell of a board of n cells.
abbrev pub CellTold : Table → ℕ → State → ℕ → Result CellLook Refusal → Type 0
CellTold t n s c (Ok v) = (c < n) × (v.home ≡ t.home c) × (v.value ≡ s.cell c) × (v.meets ≡ s.meets c)
CellTold t n s c (Err e) = (n ≤ c) × (e ≡ NoSuch)

-- A look at a place.
pub record PlaceShown (t : Table) (s : State) (q : ℕ) (v : PlaceLook) : Type 0 where
  pub inside : q < t.places
  pub condition_is : v.condition ≡ condition (s.at q)
  pub on_is : marked v.on ≡ waits_for t (s.at q)
  pub mark_is : marked v.mark ≡ s.mark q
  pub steps_is : v.steps ≡ s.steps q

abbrev pub PlaceTold : Table → State → ℕ → Result PlaceLook Refusal → Type 0
PlaceTold t s q (Ok v) = PlaceShown t s q v
PlaceTold t s q (Err e) = (t.places ≤ q) × (e ≡ NoSuch)
