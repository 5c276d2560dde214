-- Runs of bytes: one byte more, where one stops, and that it is the beginning of what it was taken from.
use Rattle.std.proofs.Common.{◌≡◌, ℕ, ◌+◌, ◌<◌, ◌≤◌, Bool, true, false, List, [], ◌∷◌, ◌++◌, length, get_or, take, drop, refl, ap, one-add, cond, arith}
use Rattle.std.specs.List.{AllByRecursion as All, prefix_len}
use Rattle.reader.specs.Tokens.{run}

module _ (f : ℕ → Bool) where
  pub run_on : (b : ℕ) (bs : List ℕ) → f b ≡ true → run f (b ∷ bs) ≡ b ∷ run f bs
  run_on b bs e = ap (λ (t : Bool). elim t [ true ↦ b ∷ run f bs | false ↦ [] ]) e

  pub run_off : (b : ℕ) (bs : List ℕ) → f b ≡ false → run f (b ∷ bs) ≡ []
  run_off b bs e = ap (λ (t : Bool). elim t [ true ↦ b ∷ run f bs | false ↦ [] ]) e

  -- what holds of a list and its run, byte by byte
  module _ (P : List ℕ → List ℕ → Type 0) (none : P [] []) (more : (b : ℕ) (bs : List ℕ) → f b ≡ true → P bs (run f bs) → P (b ∷ bs) (b ∷ run f bs)) (stop : (b : ℕ) (bs : List ℕ) → f b ≡ false → P (b ∷ bs) []) where
    one_byte : (b : ℕ) (bs : List ℕ) (t : Bool) → f b ≡ t → P bs (run f bs) → P (b ∷ bs) (elim t [ true ↦ b ∷ run f bs | false ↦ [] ])
    one_byte b bs true e p = more b bs e p
    one_byte b bs false e p = stop b bs e

    pub by_run : (s : List ℕ) → P s (run f s)
    by_run [] = none
    by_run (b ∷ bs) = one_byte b bs (f b) refl (by_run bs)

  -- a run and what stands after it
  pub run_split : (s : List ℕ) → s ≡ run f s ++ drop (length (run f s)) s
  run_split = by_run (λ s r. s ≡ r ++ drop (length r) s) refl (λ b bs e p. ap (λ (l : List ℕ). b ∷ l) p) (λ b bs e. refl)

  pub run_take : (s : List ℕ) → take (length (run f s)) s ≡ run f s
  run_take = by_run (λ s r. take (length r) s ≡ r) refl (λ b bs e p. ap (λ (l : List ℕ). b ∷ l) p) (λ b bs e. refl)

  pub run_short : (s : List ℕ) → length (run f s) ≤ length s
  run_short = by_run (λ s r. length r ≤ length s) (omega arith) (λ b bs e p. omega arith) (λ b bs e. omega arith)

  -- the byte after a run does not go on
  pub run_stop : (s : List ℕ) → length (run f s) < length s → f (get_or s (length (run f s)) 0) ≡ false
  run_stop = by_run (λ s r. length r < length s → f (get_or s (length r) 0) ≡ false) (λ h. absurd (omega arith)) (λ b bs e p h. p (omega arith)) (λ b bs e h. e)

  pub run_all : (s : List ℕ) → All (λ b. f b ≡ true) (run f s)
  run_all = by_run (λ s r. All (λ b. f b ≡ true) r) tt (λ b bs e p. (e, p)) (λ b bs e. tt)

  -- the run, as the library's iterators take it
  pub run_taken : (s : List ℕ) → take (prefix_len f s) s ≡ run f s
  run_taken [] = refl
  run_taken (b ∷ bs) = one (f b) (run_taken bs)
    where
      one : (t : Bool) → take (prefix_len f bs) bs ≡ run f bs → take (cond t (1 + prefix_len f bs) 0) (b ∷ bs) ≡ elim t [ true ↦ b ∷ run f bs | false ↦ [] ]
      one true e = rw one-add (ap (λ (l : List ℕ). b ∷ l) e)
      one false e = refl
