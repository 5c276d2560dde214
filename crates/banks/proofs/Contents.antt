-- The words of a stretch and of a count, each by its index.
use Rattle.std.proofs.Common.{◌≡◌, ℕ, zero, suc, ◌+◌, ◌*◌, ◌%◌, ◌^◌, ◌<◌, ◌≤◌, leb, List, [], length, get_or, take, drop, sym, refl, ap, ◌∙◌, suc-mul, zero-mul, arith, length-drop}
use Rattle.std.proofs.lemmas.List.{length-take-le, get_or-take, get_or-drop}
use Rattle.std.proofs.lemmas.Bool.{cond-true, le-leb}
use Rattle.banks.specs.Banks.{stretch, counted}
use Rattle.banks.specs.Laws.{StretchReads, CountedAdds}

inside : (mem : List ℕ) (first len : ℕ) → first + len ≤ length mem → stretch mem first len ≡ take len (drop first mem)
inside mem first len h = cond-true (leb (first + len) (length mem)) (take len (drop first mem)) [] (le-leb (first + len) (length mem) h)

pub stretch_reads : StretchReads
stretch_reads mem first len h = (
  ap length (inside mem first len h) ∙ length-take-le len (drop first mem) (omega (arith, length-drop first mem)),
  λ k lt. ap (λ xs. get_or xs k 0) (inside mem first len h) ∙ get_or-take len (drop first mem) k 0 lt ∙ get_or-drop first mem k 0,
)

-- one stride more, wrapped or not
stride_more : (start stride t : ℕ) → ((start + stride) % 2 ^ 32 + t) % 2 ^ 32 ≡ (start + (t + stride)) % 2 ^ 32
stride_more start stride t = omega arith

pub counted_length : (n start stride : ℕ) → length (counted n start stride) ≡ n
counted_length zero start stride = refl
counted_length (suc n) start stride = ap suc (counted_length n ((start + stride) % 2 ^ 32) stride)

pub counted_word : (n start stride : ℕ) → start < 2 ^ 32 → (k : ℕ) → k < n → get_or (counted n start stride) k 0 ≡ (start + k * stride) % 2 ^ 32
counted_word zero start stride h k lt = absurd (omega arith)
counted_word (suc n) start stride h zero lt = rw (zero-mul stride) (omega arith)
counted_word (suc n) start stride h (suc k) lt =
    counted_word n ((start + stride) % 2 ^ 32) stride (omega arith) k (omega arith)
    ∙ stride_more start stride (k * stride)
    ∙ ap (λ t. (start + t) % 2 ^ 32) (sym (suc-mul k stride))

pub counted_adds : CountedAdds
counted_adds n start stride h = (counted_length n start stride, counted_word n start stride h)
