-- What follows for takes from a bank.
use Rattle.std.specs.Prelude.{◌≡◌, ℕ, zero, suc, ◌+◌, ◌*◌, ◌%◌, ◌^◌, ◌<◌, ◌≤◌, ◌≢◌, List, length, drop, slice_index}
use Rattle.banks.specs.Banks.{Words, front, without, stretch, counted}

-- The words to come after n takes from a port.
abbrev pub after_takes : Words → ℕ → ℕ → Words
after_takes ws port zero = ws
after_takes ws port (suc n) = after_takes (without ws port) port n

-- Takes from two different ports give the same words and leave the same words, whichever comes first.
abbrev pub TakesCommute : Type 0
TakesCommute = (ws : Words) (a b : ℕ) → a ≢ b
    → (front (without ws a b) ≡ front (ws b)) × (front (without ws b a) ≡ front (ws a)) × ((p : ℕ) → without (without ws a) b p ≡ without (without ws b) a p)

-- After n takes from a port the first n words are gone there, and no other port lost any.
abbrev pub ManyTakes : Type 0
ManyTakes = (ws : Words) (port n : ℕ)
    → (after_takes ws port n port ≡ drop n (ws port)) × ((p : ℕ) → p ≢ port → after_takes ws port n p ≡ ws p)

-- A stretch that lies inside the memory has its length, and its words are the memory's from the first index on.
abbrev pub StretchReads : Type 0
StretchReads = (mem : List ℕ) (first len : ℕ) → first + len ≤ length mem
    → (length (stretch mem first len) ≡ len) × ((k : ℕ) → k < len → slice_index (stretch mem first len) k ≡ slice_index mem (first + k))

-- A count has so many words, and the k-th after the start is k strides above it, modulo 2^32.
abbrev pub CountedAdds : Type 0
CountedAdds = (n start stride : ℕ) → start < 2 ^ 32
    → (length (counted n start stride) ≡ n) × ((k : ℕ) → k < n → slice_index (counted n start stride) k ≡ (start + k * stride) % 2 ^ 32)
