-- Searches over the places after the main block, which is no child.
use Rattle.std.proofs.Common.{◌≡◌, ℕ, suc, ◌-◌, ◌<◌, Bool, true, false, ◌&&◌, ◌||◌, List, get_or, sym, ap, ◌∙◌, ap₂, arith}
use Rattle.std.specs.List.{list_any, list_all, range_with_len}
use Rattle.std.proofs.lemmas.List.FromFn.{length-range_with_len, get_or-range_with_len}
use Rattle.rules.specs.Moves.{any_below}
use Rattle.rules.specs.Tests.{all_below}
use Rattle.tables.proofs.Counts.{any_first, any_listed, any_same, all_first, all_listed, all_same}

-- m is the code's count of the places
module _ (f : ℕ → Bool) (m n : ℕ) (positive : 0 < m) (same : m ≡ n) (r : Bool) where
  abbrev rest : List ℕ
  rest = range_with_len 1 (m - 1)

  all_but_one : suc (m - 1) ≡ n
  all_but_one = omega arith

  at_rest : (i : ℕ) → i < m - 1 → f (get_or rest i 0) ≡ f (suc i)
  at_rest i l = ap f (get_or-range_with_len 1 (m - 1) i 0 l ∙ omega arith)

  pub any_child : f 0 ≡ false → r ≡ list_any f (range_with_len 1 (m - 1)) → r ≡ any_below n f
  any_child none e =
      e ∙ any_listed f rest 0 ∙ ap (λ k. any_below k (λ i. f (get_or rest i 0))) (length-range_with_len 1 (m - 1))
      ∙ any_same (m - 1) _ _ at_rest
      ∙ sym (any_first (m - 1) f ∙ ap (λ b. b || any_below (m - 1) (λ i. f (suc i))) none)
      ∙ ap (λ k. any_below k f) all_but_one

  pub all_children : f 0 ≡ true → r ≡ list_all f (range_with_len 1 (m - 1)) → r ≡ all_below n f
  all_children none e =
      e ∙ all_listed f rest 0 ∙ ap (λ k. all_below k (λ i. f (get_or rest i 0))) (length-range_with_len 1 (m - 1))
      ∙ all_same (m - 1) _ _ at_rest
      ∙ sym (all_first (m - 1) f ∙ ap (λ b. b && all_below (m - 1) (λ i. f (suc i))) none)
      ∙ ap (λ k. all_below k f) all_but_one

pub and_3 : (a b d e x : Bool) → a ≡ true → b ≡ true → d ≡ true → x ≡ e → x ≡ (a && (b && (d && e)))
and_3 a b d e x i j k h = h ∙ sym (ap₂ ◌&&◌ i (ap₂ ◌&&◌ j (ap (λ v. v && e) k)))
