-- Packed digits, one at a time, and the laws of the decimal kind.
use Rattle.std.specs.Prelude.{◌≡◌, ℕ, zero, suc, ◌+◌, ◌-◌, ◌*◌, ◌/◌, ◌%◌, ◌^◌, ◌<◌, ◌≤◌, Bool, true, false, cond, ◌&&◌, Some, None, nat_lt, refl}
use Rattle.std.proofs.Common.{arith, sub-one, pow-suc}
use Rattle.std.proofs.lemmas.Fmt.{length-decimal-le}
use Rattle.std.proofs.lemmas.Bool.Decides.{nat_tests}
use Rattle.numbers.specs.Kinds.{Laws}
use Rattle.numbers.specs.Decimal.{packed, pack, unpack, packed_decimal, size}

-- the definitions at a positive k, as the code steps
pub packed_step : (k w : ℕ) → 0 < k → packed k w ≡ (nat_lt (w % 16) 10 && packed (k - 1) (w / 16))
packed_step zero w h = absurd (omega arith)
packed_step (suc k) w h = rw sub-one refl

pub unpack_step : (k w : ℕ) → 0 < k → unpack k w ≡ w % 16 + 10 * unpack (k - 1) (w / 16)
unpack_step zero w h = absurd (omega arith)
unpack_step (suc k) w h = rw sub-one refl

pub pack_step : (k n : ℕ) → 0 < k → pack k n ≡ n % 10 + 16 * pack (k - 1) (n / 10)
pack_step zero n h = absurd (omega arith)
pack_step (suc k) n h = rw sub-one refl

pub power_step : (b k : ℕ) → 0 < k → b ^ k ≡ b ^ (k - 1) * b
power_step b zero h = absurd (omega arith)
power_step b (suc k) h = rw sub-one (pow-suc b k)

-- the lowest digit of a packed number, and the rest
low : (n p : ℕ) → (n % 10 + 16 * p) % 16 ≡ n % 10
low n p = omega arith

high : (n p : ℕ) → (n % 10 + 16 * p) / 16 ≡ p
high n p = omega arith

pub pack_packed : (k n : ℕ) → packed k (pack k n) ≡ true
pack_packed zero n = refl
pack_packed (suc k) n = rw (low n (pack k (n / 10)), high n (pack k (n / 10)), pack_packed k (n / 10)) (grind (arith, nat_tests))

pub unpack_pack : (k n : ℕ) → n < 10 ^ k → unpack k (pack k n) ≡ n
unpack_pack zero n h = omega (arith, h)
unpack_pack (suc k) n h =
    let small : n / 10 < 10 ^ k = omega (arith, pow-suc 10 k) in
    rw (low n (pack k (n / 10)), high n (pack k (n / 10)), unpack_pack k (n / 10) small) (omega arith)

pub packed_small : (k w : ℕ) → packed k w ≡ true → w < 16 ^ k
packed_small zero w h = grind (arith, nat_tests)
packed_small (suc k) w h = grind (arith, nat_tests, packed_small k (w / 16), pow-suc 16 k)

pub unpack_below : (k w : ℕ) → packed k w ≡ true → unpack k w < 10 ^ k
unpack_below zero w h = omega arith
unpack_below (suc k) w h = grind (arith, nat_tests, unpack_below k (w / 16), pow-suc 10 k)

pub pack_unpack : (k w : ℕ) → packed k w ≡ true → pack k (unpack k w) ≡ w
pack_unpack zero w h = grind (arith, nat_tests)
pack_unpack (suc k) w h =
    let digit : w % 16 < 10 = grind (arith, nat_tests) in
    let others : packed k (w / 16) ≡ true = grind (arith, nat_tests) in
    let u = unpack k (w / 16) in
    let first : (w % 16 + 10 * u) % 10 ≡ w % 16 = omega arith in
    let next : (w % 16 + 10 * u) / 10 ≡ u = omega arith in
    rw (first, next, pack_unpack k (w / 16) others) (omega arith)

-- whatever the digits
unpack_small : (k w : ℕ) → 3 * unpack k w + 5 ≤ 5 * 10 ^ k
unpack_small zero w = omega arith
unpack_small (suc k) w = omega (arith, unpack_small k (w / 16), pow-suc 10 k)

literal_packed : (b : Bool) (n w : ℕ) → cond b (Some (pack 8 n)) None ≡ Some w → packed 8 w ≡ true
literal_packed true n w e = let whole = pack_packed 8 n in cc
literal_packed false n w e = cc

pub decimal_lawful : Laws packed_decimal
decimal_lawful = record {
  number_is_word = λ x h. packed_small 8 x h;
  zero_number = refl;
  one_number = refl;
  sum_number = λ x y nx ny. pack_packed 8 ((unpack 8 x + unpack 8 y) % size);
  difference_number = λ x y nx ny. pack_packed 8 ((unpack 8 x + (2 * size - unpack 8 y)) % size);
  product_number = λ x y nx ny. pack_packed 8 ((unpack 8 x * unpack 8 y) % size);
  literal_number = λ n w e. literal_packed (nat_lt n size) n w e;
  written_short = λ x h. let u = unpack_small 8 x in length-decimal-le 11 (unpack 8 x) (omega arith) (omega arith) (omega arith);
}
