-- Writing a number and reading it back, and the cases at the ends of the kinds.
use Rattle.std.specs.Prelude.{◌≡◌, ℕ, ◌-◌, ◌^◌, ◌<◌, ◌≤◌, true, ◌≢◌, ◌∷◌, negsuc, Some, None, decimal, slice_index}
use Rattle.numbers.specs.Binary.{binary, reading}
use Rattle.numbers.specs.Decimal.{packed_decimal, pack, packed}
use Rattle.numbers.specs.Literals.{digits_value, literal_reading}

-- A number's decimal writing is digits that write it, and begins with no zero unless the number is 0.
abbrev pub DigitsReadBack : Type 0
DigitsReadBack = (n : ℕ) → n < 10 ^ 10 → (digits_value (decimal n) ≡ Some n) × (0 < n → slice_index (decimal n) 0 ≢ 48)

-- A binary number that is not negative reads back as itself; a negative one is a minus sign and what it lacks to 2^32.
abbrev pub BinaryReadsBack : Type 0
BinaryReadsBack = (x : ℕ) → (x < 2 ^ 31 → literal_reading binary (binary.written x) ≡ Some x)
    × (2 ^ 31 ≤ x → x < 2 ^ 32 → binary.written x ≡ 45 ∷ decimal (2 ^ 32 - x))

-- Every decimal number reads back as itself.
abbrev pub DecimalReadsBack : Type 0
DecimalReadsBack = (w : ℕ) → packed 8 w ≡ true → literal_reading packed_decimal (packed_decimal.written w) ≡ Some w

-- Binary 2147483647 + 1 is -2147483648 and decimal 99999999 + 1 is 0; one more is a literal of neither.
abbrev pub EndsWrap : Type 0
EndsWrap = (reading (binary.sum 2147483647 1) ≡ negsuc 2147483647) × (packed_decimal.sum (pack 8 99999999) (pack 8 1) ≡ 0)
    × (binary.literal 2147483648 ≡ None) × (packed_decimal.literal 100000000 ≡ None)
