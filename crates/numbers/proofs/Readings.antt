-- Binary answers as the integers' modulo 2^32.
use Rattle.std.proofs.Common.{◌≡◌, ℕ, ◌+◌, ◌-◌, ◌*◌, ◌%◌, ◌^◌, ◌<◌, ℤ, pos, negsuc, ◌+ℤ◌, ◌-ℤ◌, ◌*ℤ◌, ◌≤ℤ◌, sym, refl, ap, ◌∙◌, arith, leb→le, w32, of_z}
use lib.Signed.{mag}
use Rattle.std.specs.Int.{int_wrap}
use Rattle.std.proofs.lemmas.Int.{of_z-to_z, int_wrap_fits, wrapping_add-bits, wrapping_sub-bits, wrapping_mul-bits}
use Rattle.numbers.specs.Binary.{reading}
use Rattle.numbers.specs.Readings.{word_of, SumsWrap, DifferencesWrap, ProductsWrap, ExactInRange}

word_of_small : (z : ℤ) → word_of z < 2 ^ 32
word_of_small (pos n) = omega arith
word_of_small (negsuc n) = omega arith

wrapped_is : (z : ℤ) → int_wrap w32 z ≡ reading (word_of z)
unfolding int_wrap
wrapped_is z = refl

-- two words with one reading are one
same_word : (m n : ℕ) → m < 2 ^ 32 → n < 2 ^ 32 → reading m ≡ reading n → m ≡ n
same_word m n hm hn e = sym (of_z-to_z w32 m hm) ∙ ap (of_z w32) e ∙ of_z-to_z w32 n hn

pub sums_wrap : SumsWrap
sums_wrap x y hx hy =
    let z = reading x +ℤ reading y in
    same_word ((x + y) % 2 ^ 32) (word_of z) (omega arith) (word_of_small z) (wrapping_add-bits w32 x y hx hy ∙ wrapped_is z)

pub differences_wrap : DifferencesWrap
differences_wrap x y hx hy =
    let z = reading x -ℤ reading y in
    same_word ((x + (2 ^ 32 - y)) % 2 ^ 32) (word_of z) (omega arith) (word_of_small z) (wrapping_sub-bits w32 x y hx hy ∙ wrapped_is z)

pub products_wrap : ProductsWrap
products_wrap x y hx hy =
    let z = reading x *ℤ reading y in
    same_word ((x * y) % 2 ^ 32) (word_of z) (omega arith) (word_of_small z) (wrapping_mul-bits w32 x y hx hy ∙ wrapped_is z)

in_range : (z : ℤ) → negsuc (2 ^ 31 - 1) ≤ℤ z → z ≤ℤ pos (2 ^ 31 - 1) → mag z < 2 ^ 31
in_range (pos n) low high = omega (arith, leb→le n (2 ^ 31 - 1) high.le)
in_range (negsuc n) low high = omega (arith, leb→le n (2 ^ 31 - 1) low.le)

pub exact_in_range : ExactInRange
exact_in_range z low high = sym (wrapped_is z) ∙ int_wrap_fits w32 z (record { sfits = in_range z low high })
