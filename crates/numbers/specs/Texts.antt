-- The written form of a number, by its bytes.
use Rattle.std.specs.Prelude.{ℕ, List, drop}
use Rattle.numbers.specs.declared.digits.Digits.{Digits}

-- the bytes that stand in the array, from the first written one on
abbrev pub shown : Digits → List ℕ
shown d = drop d.from d.bytes
