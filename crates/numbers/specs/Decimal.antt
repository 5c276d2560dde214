-- Decimal numbers: eight packed digits of four bits, modulo 100,000,000.
use Rattle.std.specs.Prelude.{ℕ, zero, suc, ◌+◌, ◌-◌, ◌*◌, ◌/◌, ◌%◌, Bool, cond, ◌&&◌, Some, None, decimal, ◌==◌, nat_lt}
use Rattle.numbers.specs.Kinds.{Meaning}

-- A word is k digits of four bits, each below ten, and nothing stands above them.
abbrev pub packed : ℕ → ℕ → Bool
packed zero w = w == 0
packed (suc k) w = nat_lt (w % 16) 10 && packed k (w / 16)

-- The number that the k lowest digits of n in base b write in base c.
abbrev pub rebase : ℕ → ℕ → ℕ → ℕ → ℕ
rebase b c zero n = 0
rebase b c (suc k) n = n % b + c * rebase b c k (n / b)

-- The number that the k lowest digits of a word write.
abbrev pub unpack : ℕ → ℕ → ℕ
unpack k w = rebase 16 10 k w

-- The word of a number's k lowest decimal digits.
abbrev pub pack : ℕ → ℕ → ℕ
pack k n = rebase 10 16 k n

-- How many numbers there are.
abbrev pub size : ℕ
size = 100000000

-- A word is a number if it is eight digits. Its answers are those of the numbers that its operands write, modulo 100,000,000.
-- (A word that is no number, with a digit above nine, has answers too: it can write a number up to 166,666,665, hence twice the
-- size in the difference.) Literals go to 99,999,999.
abbrev pub packed_decimal : Meaning
packed_decimal = record {
  number = packed 8;
  sum = λ x y. pack 8 ((unpack 8 x + unpack 8 y) % size);
  difference = λ x y. pack 8 ((unpack 8 x + (2 * size - unpack 8 y)) % size);
  product = λ x y. pack 8 ((unpack 8 x * unpack 8 y) % size);
  less = λ x y. nat_lt (unpack 8 x) (unpack 8 y);
  literal = λ n. cond (nat_lt n size) (Some (pack 8 n)) None;
  written = λ x. decimal (unpack 8 x);
}
