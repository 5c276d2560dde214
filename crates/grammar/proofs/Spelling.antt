-- Two names are the same where their bytes are.
use Rattle.std.proofs.Common.{◌≡◌, ℕ, Bool, true, false, List, Decides, sym, refl}
use Rattle.std.proofs.lemmas.Slice.Eq.{compares_Decides}
use Rattle.reader.specs.Tokens.{same}

pub same_decides : (a b : List ℕ) → Decides (same a b) (a ≡ b)
same_decides = compares_Decides same (record { empty = refl; shorter = λ y ys. refl; longer = λ x xs. refl; heads = λ x y xs ys. refl })

-- two tests of one fact agree
pub decided : {P : Type 0} (a b : Bool) → Decides a P → Decides b P → a ≡ b
decided true true h k = refl
decided true false h k = sym (k.1 (h.0 refl))
decided false true h k = h.1 (k.0 refl)
decided false false h k = refl
