-- Two's complement words as integers, and the laws of the binary kind.
use Rattle.std.specs.Prelude.{◌≡◌, ℕ, suc, ◌+◌, ◌-◌, ◌*◌, ◌%◌, ◌^◌, ◌<◌, ◌≤◌, true, cond, ◌∷◌, negsuc, Some, None, decimal, nat_lt, refl}
use Rattle.std.proofs.Common.{ap, ◌∙◌, arith}
use Rattle.std.specs.Int.Signed.{mag}
use Rattle.std.proofs.lemmas.Bool.{ltb-true, lt-ltb}
use Rattle.std.proofs.lemmas.Bool.Decides.{nat_tests}
use Rattle.std.proofs.lemmas.Fmt.{length_signed_le}
use Rattle.std.specs.Fmt.{signed_decimal}
use Rattle.numbers.specs.Kinds.{Laws}
use Rattle.numbers.specs.Binary.{binary, reading}

negative : (x : ℕ) → 2 ^ 31 ≤ x → x < 2 ^ 32 → reading x ≡ negsuc (2 ^ 32 - suc x)
negative x h lt = grind (arith, nat_tests)

mag_small : (x : ℕ) → x < 2 ^ 32 → mag (reading x) < 2 ^ 31
mag_small x h = grind (arith, nat_tests)

pub negative_written : (x n : ℕ) → 2 ^ 31 ≤ x → x < 2 ^ 32 → n ≡ 2 ^ 32 - x → signed_decimal (reading x) ≡ 45 ∷ decimal n
negative_written x n h lt e = ap signed_decimal (negative x h lt) ∙ ap (λ m. 45 ∷ decimal m) (omega arith)

pub wrapped_is_word : (n : ℕ) → nat_lt (n % 2 ^ 32) (2 ^ 32) ≡ true
wrapped_is_word n = lt-ltb (n % 2 ^ 32) (2 ^ 32) (omega arith)

literal_is_word : (n w : ℕ) → cond (nat_lt n (2 ^ 31)) (Some n) None ≡ Some w → nat_lt w (2 ^ 32) ≡ true
literal_is_word n w e = grind (arith, nat_tests)

pub binary_lawful : Laws binary
binary_lawful = record {
  number_is_word = λ x h. ltb-true x (2 ^ 32) h;
  zero_number = refl;
  one_number = refl;
  sum_number = λ x y nx ny. wrapped_is_word (x + y);
  difference_number = λ x y nx ny. wrapped_is_word (x + (2 ^ 32 - y));
  product_number = λ x y nx ny. wrapped_is_word (x * y);
  literal_number = literal_is_word;
  written_short = λ x h. let m = mag_small x h in length_signed_le 10 (reading x) (omega arith) (omega arith);
}
