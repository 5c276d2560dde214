-- The kinds' answers, in terms of the integers.
use Rattle.std.specs.Prelude.{◌≡◌, ℕ, ◌-◌, ◌^◌, ◌<◌, true, ℤ, pos, negsuc, ◌+ℤ◌, ◌-ℤ◌, ◌*ℤ◌, ◌≤ℤ◌, unsigned_abs}
use Rattle.std.specs.Int.{int_rem_euclid}
use Rattle.numbers.specs.Binary.{binary, reading}
use Rattle.numbers.specs.Decimal.{pack, unpack, packed}

-- The word that stands for an integer modulo 2^32.
abbrev pub word_of : ℤ → ℕ
word_of z = unsigned_abs (int_rem_euclid z (pos (2 ^ 32)))

-- Binary answers are those of the integers that the words stand for, modulo 2^32.
abbrev pub SumsWrap : Type 0
SumsWrap = (x y : ℕ) → x < 2 ^ 32 → y < 2 ^ 32 → binary.sum x y ≡ word_of (reading x +ℤ reading y)

abbrev pub DifferencesWrap : Type 0
DifferencesWrap = (x y : ℕ) → x < 2 ^ 32 → y < 2 ^ 32 → binary.difference x y ≡ word_of (reading x -ℤ reading y)

abbrev pub ProductsWrap : Type 0
ProductsWrap = (x y : ℕ) → x < 2 ^ 32 → y < 2 ^ 32 → binary.product x y ≡ word_of (reading x *ℤ reading y)

-- The word of an integer from -2^31 to 2^31 - 1 stands for it, so an answer in that range is exact.
abbrev pub ExactInRange : Type 0
ExactInRange = (z : ℤ) → negsuc (2 ^ 31 - 1) ≤ℤ z → z ≤ℤ pos (2 ^ 31 - 1) → reading (word_of z) ≡ z

-- Each number below 100,000,000 is packed into a word that is a decimal number and writes it.
abbrev pub PacksEveryNumber : Type 0
PacksEveryNumber = (n : ℕ) → n < 100000000 → (packed 8 (pack 8 n) ≡ true) × (unpack 8 (pack 8 n) ≡ n)

-- Each word that is a decimal number writes a number below 100,000,000, and is the word that packs it.
abbrev pub UnpacksEveryWord : Type 0
UnpacksEveryWord = (w : ℕ) → packed 8 w ≡ true → (unpack 8 w < 100000000) × (pack 8 (unpack 8 w) ≡ w)
