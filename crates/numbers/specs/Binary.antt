-- Binary numbers: 32-bit two's complement.
use Rattle.std.specs.Prelude.{ℕ, ◌+◌, ◌-◌, ◌*◌, ◌%◌, ◌^◌, cond, ℤ, Some, None, int_lt, nat_lt}
use Rattle.std.specs.Int.{w32}
use Rattle.std.proofs.Common.{to_z}
use Rattle.std.specs.Fmt.{signed_decimal}
use Rattle.numbers.specs.Kinds.{Meaning}

-- The integer that a word stands for: below 2^31 the word itself, from there on 2^32 less.
abbrev pub reading : ℕ → ℤ
reading x = to_z w32 x

-- Every word is a number. Sum, difference and product are taken modulo 2^32.
-- One word is less than another if its integer is, and a word is written as its integer, a minus sign before a negative one.
-- Literals go to 2,147,483,647.
abbrev pub binary : Meaning
binary = record {
  number = λ x. nat_lt x (2 ^ 32);
  sum = λ x y. (x + y) % 2 ^ 32;
  difference = λ x y. (x + (2 ^ 32 - y)) % 2 ^ 32;
  product = λ x y. (x * y) % 2 ^ 32;
  less = λ x y. int_lt (reading x) (reading y);
  literal = λ n. cond (nat_lt n (2 ^ 31)) (Some n) None;
  written = λ x. signed_decimal (reading x);
}
