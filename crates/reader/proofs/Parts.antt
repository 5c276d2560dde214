-- A part of a text, cut at the text's end.
use Rattle.std.proofs.Common.{◌≡◌, ℕ, ◌+◌, ◌-◌, min, List, length, take, drop, sym, ap, ◌∙◌, inl, inr, arith, length-drop}
use lib.Seq.{take-nil}
use Rattle.std.proofs.lemmas.List.{take_all, drop_all}
use Rattle.std.proofs.lemmas.Bool.{cases_lt}
use Rattle.reader.specs.Views.{part}

take_min : (n k : ℕ) (xs : List ℕ) → k ≡ min n (length xs) → take k xs ≡ take n xs
take_min n k xs e = elim (cases_lt (length xs) n) [ inl h ↦ take_all k xs (omega arith) ∙ sym (take_all n xs (omega arith)) | inr h ↦ ap (λ (m : ℕ). take m xs) (let q : k ≡ n = omega arith in q) ]

pub part_is : (xs : List ℕ) (at len m k : ℕ) → m ≡ min at (length xs) → k ≡ min len (length xs - m) → take ((m + k) - m) (drop m xs) ≡ part xs at len
part_is xs at len m k p q =
    elim (cases_lt (length xs) at) [
      | inl h ↦ ap (take ((m + k) - m)) (drop_all m xs (omega arith)) ∙ take-nil ((m + k) - m) ∙ sym (ap (take len) (drop_all at xs (omega arith)) ∙ take-nil len)
      | inr h ↦ take_min len ((m + k) - m) (drop m xs) (let l = length-drop m xs in omega arith) ∙ ap (λ (n : ℕ). take len (drop n xs)) (let q : m ≡ at = omega arith in q)
    ]
