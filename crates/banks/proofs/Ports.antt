-- Lists that ports hold.
use Rattle.std.proofs.Common.{◌≡◌, ℕ, zero, suc, ◌<◌, List, [], ◌∷◌, map, length, get_or, set, sym, ap, refl, ◌∙◌, arith, Bool, true, false, cond, nat_lt}
use Rattle.std.proofs.lemmas.Bool.Decides.{nat_tests}
use Rattle.std.proofs.lemmas.Bool.{cases_eq, ltb-true}
use Rattle.std.proofs.lemmas.List.{get_or-set_same, get_or-set_other, get_or-map, map-set, length-map}
use Rattle.banks.specs.Banks.{without, eight_ports}
use Rattle.banks.specs.Held.{listed}

-- a word is taken from the list at a port, and what is left is put there
pub taken : (ls : List (List ℕ)) (port w : ℕ) (xs : List ℕ) → port < length ls → get_or ls port [] ≡ w ∷ xs → (p : ℕ) → listed (set ls port xs) p ≡ without (listed ls) port p
taken ls port w xs h e p = grind (arith, nat_tests, get_or-set_same, get_or-set_other, cases_eq p port)

-- the same, where the lists stand behind references
pub taken_behind : {A : Type 0} (now : A → List ℕ) (rs : List A) (port w : ℕ) (r xs : A) → port < length rs → r ≡ get_or rs port r → now r ≡ w ∷ now xs
    → (p : ℕ) → listed (map now (set rs port xs)) p ≡ without (listed (map now rs)) port p
taken_behind now rs port w r xs h e f =
    rw map-set (taken (map now rs) port w (now xs) (simp length-map h) (get_or-map now rs port r [] h ∙ ap now (sym e) ∙ f))

-- what holds at each of the eight ports
pub at_each : (P : ℕ → Type 0) → P 0 → P 1 → P 2 → P 3 → P 4 → P 5 → P 6 → P 7 → (p : ℕ) → p < 8 → P p
at_each P a b c d e f g h zero lt = a
at_each P a b c d e f g h (suc zero) lt = b
at_each P a b c d e f g h (suc (suc zero)) lt = c
at_each P a b c d e f g h (suc (suc (suc zero))) lt = d
at_each P a b c d e f g h (suc (suc (suc (suc zero)))) lt = e
at_each P a b c d e f g h (suc (suc (suc (suc (suc zero))))) lt = f
at_each P a b c d e f g h (suc (suc (suc (suc (suc (suc zero)))))) lt = g
at_each P a b c d e f g h (suc (suc (suc (suc (suc (suc (suc zero))))))) lt = h
at_each P a b c d e f g h (suc (suc (suc (suc (suc (suc (suc (suc p)))))))) lt = absurd (omega arith)

-- lists that stand behind references, each known
pub listed_behind : {A : Type 0} (now : A → List ℕ) (rs : List A) (f : ℕ → List ℕ) (d : A) → length rs ≡ 8
    → ((p : ℕ) → p < 8 → now (get_or rs p d) ≡ f p) → (p : ℕ) → listed (map now rs) p ≡ eight_ports f p
listed_behind now rs f d long each p = by_test (nat_lt p 8) refl
  where
    by_test : (b : Bool) → nat_lt p 8 ≡ b → cond b (get_or (map now rs) p []) [] ≡ cond b (f p) []
    by_test true t = let lt = ltb-true p 8 t in get_or-map now rs p d [] (omega arith) ∙ each p lt
    by_test false t = refl
