-- The state of the rules that a state of the code stands for.
use Rattle.std.specs.Prelude.{ℕ, Bool, false, List, [], Some, None, slice_index, slice_index_or}
use Rattle.std.proofs.Math.Option.{some, none}
use Rattle.std.specs.declared.option.Option as std
use Rattle.rules.specs.States.{Local, idle, running, parted, finished, poisoned, Mark, State}
use Rattle.board.specs.declared.state.Local as enum
use Rattle.board.specs.declared.state.Local.TheVariants.{Idle, Running, Parted, Finished, Poisoned}
use Rattle.board.specs.declared.state.PlaceState.{PlaceState}
use Rattle.board.specs.declared.state.State as code

abbrev pub local : enum.Local → Local
local Idle = idle
local (Running x) = running x
local (Parted x) = parted x
local Finished = finished
local Poisoned = poisoned

abbrev pub marked : std.Option ℕ → Mark
marked None = none
marked (Some k) = some k

-- what stands past the array's end
abbrev pub idle_place : PlaceState
idle_place = record { at = Idle; mark = None; steps = 0 }

abbrev pub place : code.State → ℕ → PlaceState
place s q = slice_index_or s.places q idle_place

-- The code's state, with the words to come at the ports, which the bank holds.
abbrev pub view : code.State → (ℕ → List ℕ) → State
view s w =
    record {
      at = λ q. local (place s q).at;
      mark = λ q. marked (place s q).mark;
      cell = λ c. slice_index s.cells c;
      port = w;
      steps = λ q. (place s q).steps;
      meets = λ h. slice_index s.meets h;
      total = s.total;
    }

-- The same without words to come: no permission looks at the ports.
abbrev pub portless : code.State → State
portless s = view s (λ i. [])

-- an array of answers as a test
abbrev pub flags : List Bool → ℕ → Bool
flags xs q = slice_index_or xs q false
