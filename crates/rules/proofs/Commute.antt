-- Effects with footprints apart commute.
use Rattle.std.proofs.Common.{◌≡◌, ℕ, ◌+◌, Bool, true, false, cond, ◌⊎◌, List, refl, ap, inl, inr, arith}
use mathlib.Core.Path.{fun_ext}
use mathlib.Core.Option.{Option, some, none, get_or}
use Rattle.rules.specs.Effects.{MarkChange, keep, lower_to, reset, changed, later, Effect, apply}
use Rattle.rules.specs.States.{Mark, lesser, State}

abbrev pub Compatible : MarkChange → MarkChange → Type 0
Compatible keep b = Unit {0}
Compatible (lower_to j) keep = Unit {0}
Compatible (lower_to j) (lower_to k) = Unit {0}
Compatible (lower_to j) reset = ⊥
Compatible reset keep = Unit {0}
Compatible reset (lower_to k) = ⊥
Compatible reset reset = ⊥

pub record Apart (e f : Effect) : Type 0 where
  pub ats : (q : ℕ) → (e.at q ≡ none) ⊎ (f.at q ≡ none)
  pub marks : (q : ℕ) → Compatible (e.mark q) (f.mark q)
  pub cells : (c : ℕ) → (e.cell c ≡ none) ⊎ (f.cell c ≡ none)
  pub pops : (i : ℕ) → (e.pop i ≡ false) ⊎ (f.pop i ≡ false)

some_is_none : {B : Type 0} {A : Type 0} (a : A) → some a ≡ none → B
some_is_none a e = absurd (let z : ◌≡◌ {A = ℕ} 0 1 = cc in omega arith)

getD_swap : {A : Type 0} (x y : Option A) (z : A) → (x ≡ none) ⊎ (y ≡ none)
    → get_or x (get_or y z) ≡ get_or y (get_or x z)
getD_swap none y z h = refl
getD_swap (some a) none z h = refl
getD_swap (some a) (some b) z (inl e) = some_is_none a e
getD_swap (some a) (some b) z (inr e) = some_is_none b e

lesser_swap : (m : Mark) (j k : ℕ) → lesser (lesser m k) j ≡ lesser (lesser m j) k
lesser_swap none j k = ap some (omega arith)
lesser_swap (some i) j k = ap some (omega arith)

mark_swap : (a b : MarkChange) (m : Mark) → Compatible a b → changed a (changed b m) ≡ changed b (changed a m)
mark_swap keep b m h = refl
mark_swap (lower_to j) keep m h = refl
mark_swap (lower_to j) (lower_to k) m h = lesser_swap m j k
mark_swap (lower_to j) reset m h = absurd h
mark_swap reset keep m h = refl
mark_swap reset (lower_to k) m h = absurd h
mark_swap reset reset m h = absurd h

true_false : {B : Type 0} → true ≡ false → B
true_false e = absurd (let z : ◌≡◌ {A = ℕ} 0 1 = cc in omega arith)

port_swap : (a b : Bool) (l : List ℕ) → (a ≡ false) ⊎ (b ≡ false)
    → cond a (later (cond b (later l) l)) (cond b (later l) l) ≡ cond b (later (cond a (later l) l)) (cond a (later l) l)
port_swap false b l h = refl
port_swap true false l h = refl
port_swap true true l (inl e) = true_false e
port_swap true true l (inr e) = true_false e

pub commute : (e f : Effect) (s : State) → Apart e f → apply e (apply f s) ≡ apply f (apply e s)
commute e f s h =
    λ i. record {
      at = fun_ext (λ q. getD_swap (e.at q) (f.at q) (s.at q) (h.ats q)) i;
      mark = fun_ext (λ q. mark_swap (e.mark q) (f.mark q) (s.mark q) (h.marks q)) i;
      cell = fun_ext (λ c. getD_swap (e.cell c) (f.cell c) (s.cell c) (h.cells c)) i;
      port = fun_ext (λ p. port_swap (e.pop p) (f.pop p) (s.port p) (h.pops p)) i;
      steps = fun_ext (λ q. plus_swap (e.steps q) (f.steps q) (s.steps q)) i;
      meets = fun_ext (λ q. plus_swap (e.meets q) (f.meets q) (s.meets q)) i;
      total = 1 + (1 + s.total);
    }
  where
    plus_swap : (a b c : ℕ) → a + (b + c) ≡ b + (a + c)
    plus_swap a b c = omega arith
