-- What the two banks hold for each port.
use Rattle.std.specs.Prelude.{ℕ, List, [], slice_index_or}
use Rattle.banks.specs.Banks.{Words, counted, eight_ports}
use Rattle.banks.specs.declared.counter.Count.{Count}

-- The words to come at each port, where a list of them is held for each.
abbrev pub listed : List (List ℕ) → Words
listed ls = eight_ports (λ p. slice_index_or ls p [])

-- The count at a port that is not there: no word.
abbrev pub no_count : Count
no_count = record { next = 0; stride = 0; left = 0 }

-- The words to come at each port, where a count of them is held for each: as many as are left, from the next one on.
abbrev pub words_left : List Count → Words
words_left cs = eight_ports (λ p. let c = slice_index_or cs p no_count in counted c.left c.next c.stride)
