-- Decimal writing, read back.
use Rattle.std.proofs.Common.{◌≡◌, ℕ, ◌-◌, ◌^◌, ◌<◌, ltb, List, Some, None, decimal, refl, ap, ◌∙◌, arith, w32}
use Rattle.std.proofs.lemmas.Fmt.{digits_decimal, digits_value-decimal, decimal_nonempty, first_decimal, length-decimal-le}
use Rattle.std.proofs.lemmas.Int.{to_z_pos}
use Rattle.std.proofs.lemmas.Bool.{cond-true, lt-ltb}
use Rattle.std.specs.Fmt.{signed_decimal}
use Rattle.numbers.specs.Kinds.{Meaning}
use Rattle.numbers.specs.Binary.{binary}
use Rattle.numbers.specs.Decimal.{packed_decimal, pack, unpack, size}
use Rattle.numbers.specs.Literals.{digits_value, literal_reading}
use Rattle.numbers.specs.Writing.{DigitsReadBack, BinaryReadsBack, DecimalReadsBack}
use Rattle.numbers.proofs.Literals.{own, read_whole}
use Rattle.numbers.specs.Packs.{unpack_below, pack_unpack}
use Rattle.numbers.specs.Signs.{negative_written}

read_decimal : (n : ℕ) → n < 10 ^ 10 → digits_value (decimal n) ≡ Some n
read_decimal n h =
    let some = decimal_nonempty n (omega arith) in
    let short = length-decimal-le 10 n (omega arith) h (omega arith) in
    read_whole (decimal n) (omega arith) short (digits_decimal own n (omega arith))
    ∙ ap Some (digits_value-decimal own n (omega arith))

pub digits_read_back : DigitsReadBack
digits_read_back n h = (read_decimal n h, λ pos e. omega (arith, first_decimal n pos (omega arith), e))

literal_of : (k : Meaning) (bs : List ℕ) (n : ℕ) → digits_value bs ≡ Some n → literal_reading k bs ≡ k.literal n
literal_of k bs n e = rw (literal_reading, e) refl

pub binary_reads_back : BinaryReadsBack
binary_reads_back x = (
  λ h. ap (λ z. literal_reading binary (signed_decimal z)) (to_z_pos w32 x h)
      ∙ literal_of binary (decimal x) x (read_decimal x (omega arith))
      ∙ cond-true (ltb x (2 ^ 31)) (Some x) None (lt-ltb x (2 ^ 31) h),
  λ h lt. negative_written x (2 ^ 32 - x) h lt refl,
)

pub decimal_reads_back : DecimalReadsBack
decimal_reads_back w h =
    let n = unpack 8 w in
    let small : n < size = unpack_below 8 w h in
    literal_of packed_decimal (decimal n) n (read_decimal n (omega arith))
    ∙ cond-true (ltb n size) (Some (pack 8 n)) None (lt-ltb n size small)
    ∙ ap Some (pack_unpack 8 w h)
