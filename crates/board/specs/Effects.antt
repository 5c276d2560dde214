-- A state of the code after an effect of the rules.
use Rattle.std.specs.Prelude.{◌≡◌, ℕ, ◌+◌, ◌<◌, ◌≤◌, Bool, false, cond, List, [], ◌∷◌, length, Some, None, ◌==◌, slice_index, slice_index_or, slice_set}
use Rattle.std.proofs.Math.Option
use Rattle.std.proofs.Math.Option.{Option, some, none}
use Rattle.std.specs.declared.option.Option as std
use Rattle.numbers.specs.Kinds.{Meaning}
use Rattle.rules.specs.Answers.{limit}
use Rattle.rules.specs.Programs.{Table}
use Rattle.rules.specs.States.{Local}
use Rattle.rules.specs.Effects.{Effect, changed, later}
use Rattle.rules.specs.Steps.{Act, act, act_pop}
use Rattle.rules.specs.Moves.{owns_at, runs_at, any_below}
use Rattle.rules.specs.States as rules
use Rattle.tables.specs.declared.stmt.Copied.{Copied}
use Rattle.tables.specs.declared.stmt.Stmt.{Stmt}
use Rattle.tables.specs.Stms.{stm}
use Rattle.board.specs.declared.state.Local as enum
use Rattle.board.specs.declared.state.Local.TheVariants.{Running}
use Rattle.board.specs.declared.state.PlaceState.{PlaceState}
use Rattle.board.specs.declared.state.State.{State}
use Rattle.board.specs.Views.{local, marked, place, idle_place}

-- What an effect makes of one place.
pub record PlaceAfter (e : Effect) (q : ℕ) (x y : PlaceState) : Type 0 where
  pub at : local y.at ≡ Option.get_or (e.at q) (local x.at)
  pub mark : marked y.mark ≡ changed (e.mark q) (marked x.mark)
  pub steps : y.steps ≡ e.steps q + x.steps

-- The lengths of the arrays.
abbrev pub Shaped : State → Type 0
Shaped s = (length s.places ≡ 64) × (length s.cells ≡ 128) × (length s.meets ≡ 128)

-- No count is above the total.
abbrev pub Bounded : State → Type 0
Bounded s = ((q : ℕ) → (place s q).steps ≤ s.total) × ((h : ℕ) → slice_index s.meets h ≤ s.total)

-- A state that is below the limit of moves.
abbrev pub MayMove : State → Type 0
MayMove s = Bounded s × (s.total < limit)

-- What an effect makes of a state, but for the ports, which the bank holds.
pub record After (e : Effect) (s r : State) : Type 0 where
  pub shape : Shaped r
  pub places : (q : ℕ) → PlaceAfter e q (place s q) (place r q)
  pub cells : (c : ℕ) → slice_index r.cells c ≡ Option.get_or (e.cell c) (slice_index s.cells c)
  pub meets : (h : ℕ) → slice_index r.meets h ≡ e.meets h + slice_index s.meets h
  pub total : r.total ≡ 1 + s.total

-- Place p has made a step and stands so.
abbrev pub stepped : State → ℕ → enum.Local → State
stepped s p l =
    record {
      places = slice_set s.places p (record { at = l; mark = (place s p).mark; steps = (place s p).steps + 1 });
      cells = s.cells;
      meets = s.meets;
      total = s.total + 1;
    }

abbrev pub with_cells : State → List ℕ → State
with_cells s cs = record { places = s.places; cells = cs; meets = s.meets; total = s.total }

abbrev pub with_places : State → List PlaceState → State
with_places s ps = record { places = ps; cells = s.cells; meets = s.meets; total = s.total }

-- Cells with copies of the old ones; the first for a cell counts.
abbrev pub copied : List ℕ → List Copied → List ℕ
copied old [] = old
copied old (c ∷ cs) = slice_set (copied old cs) c.to (slice_index old c.from)

-- A place that runs from its start.
abbrev pub started : (ℕ → ℕ) → ℕ → PlaceState → PlaceState
started start q x = record { at = Running (start q); mark = x.mark; steps = x.steps }

-- Places with the branches at their starts.
abbrev pub forked : (ℕ → ℕ) → List PlaceState → List ℕ → List PlaceState
forked start ps [] = ps
forked start ps (b ∷ bs) = forked start (slice_set ps b (started start b (slice_index_or ps b idle_place))) bs

abbrev pub is_cell : std.Option ℕ → ℕ → Bool
is_cell None c = false
is_cell (Some d) c = c == d

-- A place as it is observed if it is counted.
abbrev pub observed_if : Bool → Local → ℕ → Option Local
observed_if b l q = cond b (some l) none

abbrev pub observed_by : (ℕ → Bool) → rules.State → ℕ → Option Local
observed_by r s q = cond (r q) (some (s.at q)) none

-- A cell after the counted nexts of the places below n set theirs to w.
abbrev pub met_cell : Table → rules.State → (ℕ → Bool) → ℕ → ℕ → ℕ → ℕ
met_cell t s r w n c = cond (any_below n (λ q. owns_at t (runs_at (observed_by r s q)) c)) w (s.cell c)

-- What a step before a statement of place q at the point x does.
abbrev pub acted : Meaning → Table → State → (ℕ → List ℕ) → ℕ → ℕ → Stmt → Act
acted k t s ws x q st = act k t (λ c. slice_index s.cells c) ws x (stm q st)

-- The words to come at a port after a step.
abbrev pub act_words : Act → (ℕ → List ℕ) → ℕ → List ℕ
act_words a ws i = cond (act_pop a i) (later (ws i)) (ws i)

-- The words to come at a port after an effect.
abbrev pub effect_words : Effect → (ℕ → List ℕ) → ℕ → List ℕ
effect_words e ws i = cond (e.pop i) (later (ws i)) (ws i)
