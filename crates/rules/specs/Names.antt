-- Names of moves: a kind and two numbers. Which names there are, and their order.
use Rattle.std.specs.Prelude.{◌≡◌, ℕ, ◌<◌, Bool, cond, ◌&&◌, ◌⊎◌, ◌==◌, nat_lt}
use Rattle.std.proofs.Math.Option.{Option, some, none}
use Rattle.rules.specs.Programs.{Table}
use Rattle.rules.specs.States.{Move, step, close, meet, poison}

pub record Name : Type 0 where
  pub kind : ℕ
  pub first : ℕ
  pub second : ℕ

-- Kind 0 is step, 1 close, 2 meet, 3 poison. The second number is 0 unless the kind is 3.
abbrev pub name_of : Move → Name
name_of (step p) = record { kind = 0; first = p; second = 0 }
name_of (close p) = record { kind = 1; first = p; second = 0 }
name_of (meet h) = record { kind = 2; first = h; second = 0 }
name_of (poison p h) = record { kind = 3; first = p; second = h }

-- h is a home of a board of n cells: one of its cells, and its own home.
abbrev pub is_home : Table → ℕ → ℕ → Bool
is_home t n h = nat_lt h n && t.home h == h

-- Moves exist for the places and homes of a board; n is the number of its cells.
abbrev pub Exists : Table → ℕ → Move → Type 0
Exists t n (step p) = p < t.places
Exists t n (close p) = p < t.places
Exists t n (meet h) = (h < n) × (t.home h ≡ h)
Exists t n (poison p h) = (p < t.places) × (h < n) × (t.home h ≡ h)

-- The move that a kind and two numbers name, if there is one.
abbrev pub named_move : Table → ℕ → ℕ → ℕ → ℕ → Option Move
named_move t n kind a b =
    cond (kind == 0) (cond (nat_lt a t.places && b == 0) (some (step a)) none)
    (cond (kind == 1) (cond (nat_lt a t.places && b == 0) (some (close a)) none)
    (cond (kind == 2) (cond (is_home t n a && b == 0) (some (meet a)) none)
    (cond (kind == 3) (cond (nat_lt a t.places && is_home t n b) (some (poison a b)) none) none)))

-- The order of names: by kind, then by the first number, then by the second.
abbrev pub Precedes : Name → Name → Type 0
Precedes a b =
    (a.kind < b.kind)
    ⊎ ((a.kind ≡ b.kind) × ((a.first < b.first) ⊎ ((a.first ≡ b.first) × (a.second < b.second))))
