-- The number that a literal's digits write.
use Rattle.std.specs.Prelude.{ℕ, ◌+◌, ◌-◌, ◌*◌, Bool, true, cond, ◌&&◌, List, [], ◌∷◌, length, Some, None, Option, nat_le}
use Rattle.numbers.specs.Kinds.{Meaning}

-- The number that digits write after those that wrote n: each is worth ten times less than the one before.
abbrev pub value_of : ℕ → List ℕ → ℕ
value_of n [] = n
value_of n (d ∷ ds) = value_of (n * 10 + (d - 48)) ds

-- A byte from '0' to '9'.
abbrev pub is_digit : ℕ → Bool
is_digit b = nat_le 48 b && nat_le b 57

abbrev pub all_digits : List ℕ → Bool
all_digits [] = true
all_digits (b ∷ bs) = is_digit b && all_digits bs

-- One to ten digits write a number; other bytes write none.
abbrev pub digits_value : List ℕ → Option ℕ
digits_value bs = cond ((nat_le 1 (length bs) && nat_le (length bs) 10) && all_digits bs) (Some (value_of 0 bs)) None

-- The word that a kind reads from bytes: that of the number they write, if they write one.
abbrev pub literal_reading : Meaning → List ℕ → Option ℕ
literal_reading k bs = elim (digits_value bs) [ Some n ↦ k.literal n | None ↦ None ]
