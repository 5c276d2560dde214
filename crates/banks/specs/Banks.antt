-- What a bank of input ports means.
use Rattle.std.specs.Prelude.{◌≡◌, ℕ, zero, suc, ◌+◌, ◌%◌, ◌^◌, ◌≤◌, cond, List, [], ◌∷◌, length, take, drop, Some, None, Option, ◌==◌, nat_le, nat_lt, slice_index}
use Rattle.std.proofs.lemmas.Bool.{cond-false, le-ltb}

-- The words still to come at each port.
abbrev pub Words : Type 0
Words = ℕ → List ℕ

-- The first word of a list; none where it is empty.
abbrev pub front : List ℕ → Option ℕ
front [] = None
front (x ∷ xs) = Some x

-- A list without its first word; an empty one is left as it is.
abbrev pub rest : List ℕ → List ℕ
rest [] = []
rest (x ∷ xs) = xs

-- The words to come after a take from a port: only its list loses its first word.
abbrev pub without : Words → ℕ → Words
without ws port p = cond (p == port) (rest (ws p)) (ws p)

-- The words of memory from a first index for a length; a stretch that does not lie wholly inside the memory is empty.
abbrev pub stretch : List ℕ → ℕ → ℕ → List ℕ
stretch mem first len = cond (nat_le (first + len) (length mem)) (take len (drop first mem)) []

-- A count of words: a start, and then each a stride above the one before, modulo 2^32.
abbrev pub counted : ℕ → ℕ → ℕ → List ℕ
counted zero start stride = []
counted (suc n) start stride = start ∷ counted n ((start + stride) % 2 ^ 32) stride

-- There are ports 0 to 7; no word comes at another.
abbrev pub eight_ports : Words → Words
eight_ports ws p = cond (nat_lt p 8) (ws p) []

-- The words of a tape: at each port the stretch of memory from its first index for its length.
abbrev pub tape_words : List ℕ → List ℕ → List ℕ → Words
tape_words mem first len = eight_ports (λ p. stretch mem (slice_index first p) (slice_index len p))

-- The words of a counter: at each port its count of words from its start by its stride.
abbrev pub counter_words : List ℕ → List ℕ → List ℕ → Words
counter_words start stride count = eight_ports (λ p. counted (slice_index count p) (slice_index start p) (slice_index stride p))

pub above_seven : (p : ℕ) (ws : List ℕ) → 8 ≤ p → cond (nat_lt p 8) ws [] ≡ []
above_seven p ws h = cond-false (nat_lt p 8) ws [] (le-ltb p 8 h)
