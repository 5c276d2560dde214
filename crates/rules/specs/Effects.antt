-- What a move changes, and the state after it. A move is first computed as its changes, then these are made.
use Rattle.std.specs.Prelude.{ℕ, ◌+◌, Bool, false, cond, List, [], ◌∷◌, ◌==◌}
use Rattle.std.proofs.Math.Option.{Option, some, none, get_or}
use Rattle.rules.specs.States.{Local, Mark, lesser, State}

-- A mark is kept, lowered to the lesser of itself and a number, or becomes none.
pub data MarkChange : Type 0 where
  keep : MarkChange
  lower_to : ℕ → MarkChange
  reset : MarkChange

abbrev pub changed : MarkChange → Mark → Mark
changed keep m = m
changed (lower_to k) m = lesser m k
changed reset m = none

-- New local states of places, changes of marks, new words of cells, ports that lose their first word, and what the counts gain.
pub record Effect : Type 0 where
  pub at : ℕ → Option Local
  pub mark : ℕ → MarkChange
  pub cell : ℕ → Option ℕ
  pub pop : ℕ → Bool
  pub steps : ℕ → ℕ
  pub meets : ℕ → ℕ

-- The words of a port but the first.
abbrev pub later : List ℕ → List ℕ
later [] = []
later (w ∷ ws) = ws

-- Every granted move counts one.
abbrev pub apply : Effect → State → State
apply e s =
    record {
      at = λ q. get_or (e.at q) (s.at q);
      mark = λ q. changed (e.mark q) (s.mark q);
      cell = λ c. get_or (e.cell c) (s.cell c);
      port = λ i. cond (e.pop i) (later (s.port i)) (s.port i);
      steps = λ q. e.steps q + s.steps q;
      meets = λ h. e.meets h + s.meets h;
      total = 1 + s.total;
    }

-- One number gets a value, the others nothing.
abbrev pub only : {A : Type 0} → ℕ → A → ℕ → Option A
only a v q = cond (q == a) (some v) none

abbrev pub nothing : {A : Type 0} → ℕ → Option A
nothing q = none

abbrev pub never : ℕ → Bool
never q = false

abbrev pub zeros : ℕ → ℕ
zeros q = 0

abbrev pub one_at : ℕ → ℕ → ℕ
one_at p q = cond (q == p) 1 0
