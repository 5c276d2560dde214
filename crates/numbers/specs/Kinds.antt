-- What a number kind means. Words are 32-bit words, as natural numbers.
use Rattle.std.specs.Prelude.{◌≡◌, ℕ, ◌^◌, ◌<◌, ◌≤◌, Bool, true, List, length, Some, Option}

-- Which words are numbers, and each answer, fixed by its operands alone.
-- A literal is given by the number that its decimal digits write; one outside the kind has no reading.
pub record Meaning : Type 0 where
  pub number : ℕ → Bool
  pub sum : ℕ → ℕ → ℕ
  pub difference : ℕ → ℕ → ℕ
  pub product : ℕ → ℕ → ℕ
  pub less : ℕ → ℕ → Bool
  pub literal : ℕ → Option ℕ
  pub written : ℕ → List ℕ

-- What every kind owes: numbers are words, 0 and 1 are numbers, and so is every answer.
pub record Laws (k : Meaning) : Type 0 where
  pub number_is_word : (x : ℕ) → k.number x ≡ true → x < 2 ^ 32
  pub zero_number : k.number 0 ≡ true
  pub one_number : k.number 1 ≡ true
  pub sum_number : (x y : ℕ) → k.number x ≡ true → k.number y ≡ true → k.number (k.sum x y) ≡ true
  pub difference_number : (x y : ℕ) → k.number x ≡ true → k.number y ≡ true → k.number (k.difference x y) ≡ true
  pub product_number : (x y : ℕ) → k.number x ≡ true → k.number y ≡ true → k.number (k.product x y) ≡ true
  pub literal_number : (n w : ℕ) → k.literal n ≡ Some w → k.number w ≡ true
  pub written_short : (x : ℕ) → x < 2 ^ 32 → length (k.written x) ≤ 11
