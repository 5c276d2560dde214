-- What a place got is found in the rows of what the places got, numbered from the first.
use Rattle.std.proofs.Common.{◌≡◌, ℕ, zero, suc, ◌+◌, ◌<◌, Bool, false, ◌&&◌, ◌||◌, eqb, List, [], ◌∷◌, ◌++◌, length, get_or, sym, refl, ap, ◌∙◌, inl, inr, zero-add, arith}
use Rattle.std.proofs.lemmas.Bool.{eq-eqb, ne_eqb, cases_eq}
use Rattle.std.proofs.Math.Bool.{or_assoc, or_comm, or-false, and-false, and-or_distrib_left}
use Rattle.rules.specs.Programs.{elem}
use Rattle.rules.specs.Moves.{any_below}
use Rattle.tables.specs.declared.rows.Got as row
use Rattle.tables.specs.Stms.{no_got, got_is, has_got}
use Rattle.unfold.specs.Unfolded.{Got}
use Rattle.unfold.specs.Sharing.{homes}
use Rattle.program.specs.Layout.{Place, no_place}
use Rattle.layout.specs.Given.{given, given_from}

or_swap : (a b c : Bool) → (a || (b || c)) ≡ (b || (a || c))
or_swap a b c = sym (or_assoc a b c) ∙ ap (λ (d : Bool). d || c) (or_comm a b) ∙ or_assoc b a c

-- the first number apart from the others
first_apart : (n : ℕ) (f : ℕ → Bool) → any_below (suc n) f ≡ (f 0 || any_below n (λ i. f (suc i)))
first_apart zero f = refl
first_apart (suc n) f = ap (λ (b : Bool). f (suc n) || b) (first_apart n f) ∙ or_swap (f (suc n)) (f 0) (any_below n (λ i. f (suc i)))

got_first : (g : row.Got) (gs : List row.Got) (q h : ℕ) → has_got (g ∷ gs) q h ≡ (got_is g q h || has_got gs q h)
got_first g gs q h = first_apart (length gs) (λ i. got_is (get_or (g ∷ gs) i no_got) q h)

got_append : (xs ys : List row.Got) (q h : ℕ) → has_got (xs ++ ys) q h ≡ (has_got xs q h || has_got ys q h)
got_append [] ys q h = refl
got_append (x ∷ xs) ys q h =
    got_first x (xs ++ ys) q h
    ∙ ap (λ (b : Bool). got_is x q h || b) (got_append xs ys q h)
    ∙ sym (or_assoc (got_is x q h) (has_got xs q h) (has_got ys q h))
    ∙ ap (λ (b : Bool). b || has_got ys q h) (sym (got_first x xs q h))

eqb_swap : (m n : ℕ) → eqb m n ≡ eqb n m
eqb_swap m n =
    elim (cases_eq m n) [
      | inl e ↦ eq-eqb m n e ∙ sym (eq-eqb n m (sym e))
      | inr ne ↦ ne_eqb m n ne ∙ sym (ne_eqb n m (λ e. ne (sym e)))
    ]

-- the rows of the place r
given_got : (r : ℕ) (gs : List Got) (q h : ℕ) → has_got (given r gs) q h ≡ (eqb r q && elem h (homes gs))
given_got r [] q h = sym (and-false (eqb r q))
given_got r (g ∷ gs) q h =
    got_first (record { place = r; home = g.home }) (given r gs) q h
    ∙ ap (λ (b : Bool). (eqb r q && eqb g.home h) || b) (given_got r gs q h)
    ∙ sym (and-or_distrib_left (eqb r q) (eqb g.home h) (elem h (homes gs)))
    ∙ ap (λ (b : Bool). eqb r q && (b || elem h (homes gs))) (eqb_swap g.home h)

-- no row of the places from r on is of a place before them
before : (r : ℕ) (ps : List Place) (q h : ℕ) → q < r → has_got (given_from r ps) q h ≡ false
before r [] q h l = refl
before r (p ∷ ps) q h l =
    got_append (given r p.got) (given_from (suc r) ps) q h
    ∙ ap (λ (b : Bool). has_got (given r p.got) q h || b) (before (suc r) ps q h (omega arith))
    ∙ ap (λ (b : Bool). b || false) (given_got r p.got q h)
    ∙ ap (λ (b : Bool). (b && elem h (homes p.got)) || false) (ne_eqb r q (λ e. omega arith))

from_got : (r : ℕ) (ps : List Place) (k h : ℕ) → has_got (given_from r ps) (r + k) h ≡ elem h (homes (get_or ps k no_place).got)
from_got r [] k h = refl
from_got r (p ∷ ps) zero h =
    let here = elem h (homes p.got) in
    got_append (given r p.got) (given_from (suc r) ps) (r + 0) h
    ∙ ap (λ (b : Bool). has_got (given r p.got) (r + 0) h || b) (before (suc r) ps (r + 0) h (omega arith))
    ∙ ap (λ (b : Bool). b || false) (given_got r p.got (r + 0) h)
    ∙ ap (λ (b : Bool). (b && here) || false) (eq-eqb r (r + 0) (omega arith))
    ∙ or-false here
from_got r (p ∷ ps) (suc k) h =
    got_append (given r p.got) (given_from (suc r) ps) (r + suc k) h
    ∙ ap (λ (b : Bool). b || has_got (given_from (suc r) ps) (r + suc k) h) (given_got r p.got (r + suc k) h)
    ∙ ap (λ (b : Bool). (b && elem h (homes p.got)) || has_got (given_from (suc r) ps) (r + suc k) h) (ne_eqb r (r + suc k) (λ e. omega arith))
    ∙ ap (λ (m : ℕ). has_got (given_from (suc r) ps) m h) (omega arith)
    ∙ from_got (suc r) ps k h

pub knows_got : (ps : List Place) (q h : ℕ) → has_got (given_from 0 ps) q h ≡ elem h (homes (get_or ps q no_place).got)
knows_got ps q h = ap (λ (m : ℕ). has_got (given_from 0 ps) m h) (sym (zero-add q)) ∙ from_got 0 ps q h
