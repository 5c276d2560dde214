-- A scan, one move at a time.
use Rattle.std.proofs.Common.{◌≡◌, ℕ, zero, suc, ◌+◌, ◌≤◌, List, [], ◌∷◌, ◌++◌, length, true, None, Some, sym, refl, ap, ◌∙◌, subst, append_assoc, add-one, arith}
use mathlib.Core.Option.{some, none}
use Rattle.std.specs.declared.option.Option as std
use Rattle.std.specs.Option.{is_some}
use Rattle.std.proofs.lemmas.Bool.{false≢true}
use Rattle.std.proofs.lemmas.List.{length_push}
use Rattle.tables.specs.declared.moves.Move as name
use Rattle.tables.specs.Views.{move}
use Rattle.rules.specs.States.{Move}
use Rattle.rules.specs.Listings.{nth, each}
use Rattle.board.specs.declared.scan.Scan.{Scan}
use Rattle.board.specs.Scans.{Scanned, listed}

pub nth_past : (xs : List Move) (i : ℕ) → length xs ≤ i → nth xs i ≡ none
nth_past [] i h = refl
nth_past (x ∷ xs) zero h = absurd (omega arith)
nth_past (x ∷ xs) (suc i) h = nth_past xs i (omega arith)

pub nth_last : (xs : List Move) (m : Move) (i : ℕ) → i ≡ length xs → nth (xs ++ (m ∷ [])) i ≡ some m
nth_last [] m zero h = refl
nth_last [] m (suc i) h = absurd (omega arith)
nth_last (x ∷ xs) m zero h = absurd (omega arith)
nth_last (x ∷ xs) m (suc i) h = nth_last xs m i (omega arith)

pub nth_other : (xs : List Move) (m : Move) (i : ℕ) → (i ≡ length xs → ⊥) → nth (xs ++ (m ∷ [])) i ≡ nth xs i
nth_other [] m zero h = absurd (h refl)
nth_other [] m (suc i) h = refl
nth_other (x ∷ xs) m zero h = refl
nth_other (x ∷ xs) m (suc i) h = nth_other xs m i (λ e. h (omega arith))

-- one more of a loop
pub each_more : (f : ℕ → List Move) (i : ℕ) (w : ℕ) (xs ys : List Move) (s : Scan) → ys ≡ f i → Scanned w ((xs ++ each f i) ++ ys) s → Scanned w (xs ++ each f (i + 1)) s
each_more f i w xs ys s e h =
    subst (λ (v : List Move). Scanned w v s)
    (append_assoc xs (each f i) ys ∙ ap (λ v. xs ++ v) (ap (λ v. each f i ++ v) e ∙ sym (ap (each f) (add-one i)))) h

module _ (s : Scan) (w : ℕ) (xs : List Move) (h : Scanned w xs s) where
  took : (m : name.Move) → s.count ≡ s.want → Scanned w (xs ++ (move m ∷ [])) (record { want = s.want; count = s.count + 1; found = Some m })
  took m e =
      let a = h.0 in
      let b = h.1 in
      (h.0, simp length_push (omega arith), sym (nth_last xs (move m) w (omega arith)))

  went : (m : name.Move) → (s.count ≡ s.want → ⊥) → Scanned w (xs ++ (move m ∷ [])) (record { want = s.want; count = s.count + 1; found = s.found })
  went m ne =
      let a = h.0 in
      let b = h.1 in
      (h.0, simp length_push (omega arith), h.2 ∙ sym (nth_other xs (move m) w (λ e. ne (omega arith))))

  pub offer_took : (o : std.Option name.Move) → is_some o ≡ true → s.count ≡ s.want → Scanned w (xs ++ listed o) (record { want = s.want; count = s.count + 1; found = o })
  offer_took None t e = absurd (false≢true t)
  offer_took (Some m) t e = took m e

  pub offer_went : (o : std.Option name.Move) → is_some o ≡ true → (s.count ≡ s.want → ⊥) → Scanned w (xs ++ listed o) (record { want = s.want; count = s.count + 1; found = s.found })
  offer_went None t ne = absurd (false≢true t)
  offer_went (Some m) t ne = went m ne
