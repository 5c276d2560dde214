-- The ends of places from one on.
use Rattle.std.proofs.Common.{◌≡◌, ℕ, suc, ◌+◌, ◌-◌, ◌<◌, List, [], ◌∷◌, ◌++◌, sym, ap, ◌∙◌, append_assoc, add-one, arith}
use Rattle.rules.specs.Programs.{end}
use Rattle.program.specs.Layout.{Point, ends}
use Rattle.layout.specs.Rows.{standing}

-- the end of the place q is put
pub end_more : (e q n : ℕ) (was now : List Point) → q < n → now ≡ was ++ (standing q end (e + q) [] 0 ∷ [])
    → now ++ ends e (q + 1) (n - (q + 1)) ≡ was ++ ends e q (n - q)
end_more e q n was now h i =
    let m : n - q ≡ suc (n - (q + 1)) = omega arith in
    ap (λ (l : List Point). l ++ ends e (q + 1) (n - (q + 1))) i
    ∙ append_assoc was (standing q end (e + q) [] 0 ∷ []) (ends e (q + 1) (n - (q + 1)))
    ∙ ap (λ (j : ℕ). was ++ (standing q end (e + q) [] 0 ∷ ends e j (n - (q + 1)))) (add-one q)
    ∙ ap (λ (j : ℕ). was ++ ends e q j) (sym m)
