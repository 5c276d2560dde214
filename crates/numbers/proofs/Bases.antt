-- Digits of one base, read in another.
use Rattle.std.proofs.Common.{◌≡◌, ℕ, zero, suc, ◌+◌, ◌-◌, ◌*◌, ◌/◌, ◌%◌, ◌^◌, ◌<◌, ◌≤◌, refl, arith, sub-one, pow-suc}
use Rattle.std.proofs.Math.Nat.{mul-le-mul_left, lt_of_mul-lt-mul_left, pow-zero}
use native.Mathlib.Nat.{pow-le-pow_right}
use Rattle.numbers.specs.Decimal.{rebase}

-- the lowest digit, and the rest
pub rebase_more : (b c k n r : ℕ) → 0 < k → r ≡ rebase b c (k - 1) (n / b) → n % b + c * r ≡ rebase b c k n
rebase_more b c zero n r h e = absurd (omega arith)
rebase_more b c (suc k) n r h e = rw (e, sub-one) refl

-- one digit more, each at most b
more : (b c r n p : ℕ) → r ≤ b → c * n + b ≤ b * p → c * (r + (c + 1) * n) + b ≤ b * (p * (c + 1))
more b c r n p digit rest = omega (arith, mul-le-mul_left c digit, mul-le-mul_left (c + 1) rest)

bound : (b c k n : ℕ) → c * rebase (b + 1) (c + 1) k n + b ≤ b * (c + 1) ^ k
bound b c zero n = grind (arith, pow-zero)
bound b c (suc k) n = rw pow-suc (more b c (n % (b + 1)) (rebase (b + 1) (c + 1) k (n / (b + 1))) ((c + 1) ^ k) (omega arith) (bound b c k (n / (b + 1))))

pub rebase_fits : (b c k n m : ℕ) → 2 ≤ b → 2 ≤ c → (b - 1) * c ^ k ≤ (c - 1) * m → rebase b c k n < m
rebase_fits b c k n m hb hc h =
    let eb : b - 1 + 1 ≡ b = omega arith in
    let ec : c - 1 + 1 ≡ c = omega arith in
    let small : (c - 1) * rebase b c k n + (b - 1) ≤ (b - 1) * c ^ k = rw (eb, ec) at (bound (b - 1) (c - 1) k n) in
    lt_of_mul-lt-mul_left (c - 1) (omega (arith, h))

pub fewer_fit : (b c k m : ℕ) → 2 ≤ c → (b - 1) * c ^ k ≤ (c - 1) * m → (b - 1) * c ^ (k - 1) ≤ (c - 1) * m
fewer_fit b c k m hc h =
    let fewer = mul-le-mul_left (b - 1) (pow-le-pow_right {n = c} (omega arith) {i = k - 1} {j = k} (omega arith)) in
    omega (arith, fewer, h)
