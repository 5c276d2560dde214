-- Takes in a row.
use Rattle.std.proofs.Common.{◌≡◌, ℕ, zero, suc, Bool, true, false, cond, eqb, ◌≢◌, List, [], ◌∷◌, drop, sym, refl, ap, ◌∙◌}
use Rattle.std.proofs.lemmas.Bool.{cond-true, cond-false, eq-eqb, ne_eqb}
use Rattle.banks.specs.Banks.{Words, front, rest, without}
use Rattle.banks.specs.Laws.{after_takes, TakesCommute, ManyTakes}

without_same : (ws : Words) (a : ℕ) → without ws a a ≡ rest (ws a)
without_same ws a = cond-true (eqb a a) (rest (ws a)) (ws a) (eq-eqb a a refl)

without_other : (ws : Words) (a p : ℕ) → p ≢ a → without ws a p ≡ ws p
without_other ws a p ne = cond-false (eqb p a) (rest (ws p)) (ws p) (ne_eqb p a ne)

-- a take from a port, and one from another, in either order
swapped : (x y : Bool) (xs : List ℕ) → cond x (rest (cond y (rest xs) xs)) (cond y (rest xs) xs) ≡ cond y (rest (cond x (rest xs) xs)) (cond x (rest xs) xs)
swapped true true xs = refl
swapped true false xs = refl
swapped false true xs = refl
swapped false false xs = refl

pub takes_commute : TakesCommute
takes_commute ws a b ne =
    (ap front (without_other ws a b (λ e. ne (sym e))), ap front (without_other ws b a ne), λ p. swapped (eqb p b) (eqb p a) (ws p))

drop_rest : (n : ℕ) (xs : List ℕ) → drop n (rest xs) ≡ drop (suc n) xs
drop_rest zero [] = refl
drop_rest (suc n) [] = refl
drop_rest n (x ∷ xs) = refl

gone : (ws : Words) (port n : ℕ) → after_takes ws port n port ≡ drop n (ws port)
gone ws port zero = refl
gone ws port (suc n) = gone (without ws port) port n ∙ ap (drop n) (without_same ws port) ∙ drop_rest n (ws port)

kept : (ws : Words) (port n p : ℕ) → p ≢ port → after_takes ws port n p ≡ ws p
kept ws port zero p ne = refl
kept ws port (suc n) p ne = kept (without ws port) port n p ne ∙ without_other ws port p ne

pub many_takes : ManyTakes
many_takes ws port n = (gone ws port n, kept ws port n)
