-- Counted places, from the first to the last: a place is counted through its parent, which stands before it.
use Rattle.std.proofs.Common.{◌≡◌, ℕ, ◌+◌, ◌<◌, Bool, true, false, ◌&&◌, ◌||◌, eqb, List, length, get_or, set, sym, refl, ap, ◌∙◌, subst}
use Rattle.std.proofs.lemmas.List.Edits.{fill_by_more}
use Rattle.std.proofs.lemmas.Bool.{and_parts}
use Rattle.rules.specs.Programs.{Table}
use Rattle.rules.specs.Trees.{nonzero}
use Rattle.rules.specs.States.{State}
use Rattle.rules.specs.Readiness.{counts_child, counted}
use Rattle.tables.proofs.Ways.{climbs_one, nonzero_low}
use Rattle.board.specs.Loops.{counted_one}

module _ (t : Table) (lower : (q : ℕ) → 0 < q → t.parent q < q) (s : State) (h : ℕ) where
  counts_child_low : (q : ℕ) → counts_child t s h q ≡ true → t.parent q < q
  counts_child_low q e = nonzero_low t lower q (and_parts (nonzero q) _ e).0

  -- one turn of the loop that writes the answers
  pub counted_more : (p : ℕ) (out : List Bool) (q : ℕ) (v : Bool) → q < length out
      → ((k : ℕ) → k < q → get_or out k false ≡ counted t s h p k) → v ≡ counted_one t s h p (λ c. get_or out c false) q
      → (k : ℕ) → k < q + 1 → get_or (set out q v) k false ≡ counted t s h p k
  counted_more p out q v l inv is k m =
      subst (λ (b : Bool). get_or (set out q b) k false ≡ counted t s h p k) (sym here)
      (fill_by_more (counted t s h p) out q false l inv k m)
    where
      same : (a b c : Bool) → (a ≡ true → b ≡ c) → (a && b) ≡ (a && c)
      same true b c e = e refl
      same false b c e = refl

      here : v ≡ counted t s h p q
      here =
          is
          ∙ ap (λ b. eqb q p || b) (same (counts_child t s h q) _ _ (λ e. inv (t.parent q) (counts_child_low q e)))
          ∙ sym (climbs_one t.parent (counts_child t s h) counts_child_low p q)
