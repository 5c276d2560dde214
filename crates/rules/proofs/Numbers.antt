-- Every cell holds a number of the kind.
use Rattle.std.proofs.Common.{◌≡◌, ℕ, Bool, true, false, cond, eqb, List, [], ◌∷◌, refl}
use mathlib.Core.Option.{Option, some, none, get_or, map}
use Rattle.numbers.specs.Kinds.{Meaning, Laws}
use Rattle.rules.specs.Programs.{Expr, own, word, plus, minus, times, below, same, Stm, end, var, set, know, next, call, test, try, take, par, goto, throw, Table, pick}
use Rattle.rules.specs.Values.{value}
use Rattle.rules.specs.States.{State, Local, idle, running, parted, finished, poisoned, Move, step, close, meet, poison}
use Rattle.rules.specs.Effects.{only, nothing}
use Rattle.rules.specs.Steps.{pass, act, act_cell, taking, doing}
use Rattle.rules.specs.Moves.{effect, any_below, owns_at, runs_at, observed}
use Rattle.rules.specs.Numbers.{LiteralsIn, LiteralsOf, Literals, Numbers}
use Rattle.rules.specs.Safety.{NumbersAtPower, NumbersKept}

module _ (k : Meaning) (laws : Laws k) where
  abbrev Number : ℕ → Type 0
  Number v = k.number v ≡ true

  bit : (b : Bool) → Number (cond b 1 0)
  bit true = laws.one_number
  bit false = laws.zero_number

  value_number : (f : ℕ → ℕ) → ((c : ℕ) → Number (f c)) → (e : Expr) → LiteralsIn k e → Number (value k f e)
  value_number f h (own c) l = h c
  value_number f h (word w) l = l
  value_number f h (plus a b) l = laws.sum_number _ _ (value_number f h a l.0) (value_number f h b l.1)
  value_number f h (minus a b) l = laws.difference_number _ _ (value_number f h a l.0) (value_number f h b l.1)
  value_number f h (times a b) l = laws.product_number _ _ (value_number f h a l.0) (value_number f h b l.1)
  value_number f h (below a b) l = bit (k.less (value k f a) (value k f b))
  value_number f h (same a b) l = bit (eqb (value k f a) (value k f b))

  -- what is written, if anything, is a number
  abbrev NumberIf : Option ℕ → Type 0
  NumberIf none = Unit {0}
  NumberIf (some v) = Number v

  if_cond : (b : Bool) (v : ℕ) → Number v → NumberIf (cond b (some v) none)
  if_cond true v h = h
  if_cond false v h = tt

  if_copied : (f : ℕ → ℕ) → ((c : ℕ) → Number (f c)) → (o : Option ℕ) → NumberIf (map f o)
  if_copied f h none = tt
  if_copied f h (some c) = h c

  if_taken : (i c y z d : ℕ) (ws : List ℕ) → NumberIf (act_cell (taking k i c y z ws) d)
  if_taken i c y z d [] = tt
  if_taken i c y z d (w ∷ ws) = go (k.number w) refl
    where
      go : (b : Bool) → k.number w ≡ b → NumberIf (act_cell (cond b (pass (only c w) (eqb i) y) (pass nothing (eqb i) z)) d)
      go true e = if_cond (eqb d c) w e
      go false e = tt

  act_number : (t : Table) (f : ℕ → ℕ) → ((c : ℕ) → Number (f c)) → (r : ℕ → List ℕ) (x : ℕ) (st : Stm) → LiteralsOf k st
      → (c : ℕ) → NumberIf (act_cell (act k t f r x st) c)
  act_number t f h r x end l c = tt
  act_number t f h r x (var d) l c = if_cond (eqb c d) 0 laws.zero_number
  act_number t f h r x (set d e) l c = if_cond (eqb c d) (value k f e) (value_number f h e l)
  act_number t f h r x know l c = tt
  act_number t f h r x (next d a) l c = tt
  act_number t f h r x (call cs y) l c = if_copied f h (pick cs c)
  act_number t f h r x (test e y z) l c = tt
  act_number t f h r x (try y) l c = tt
  act_number t f h r x (take i d z) l c = if_taken i d (t.after x) z c (r i)
  act_number t f h r x (par bs cs) l c = if_copied f h (pick cs c)
  act_number t f h r x (goto y) l c = tt
  act_number t f h r x (throw g j) l c = tt

  doing_number : (t : Table) (s : State) → Literals k t → Numbers k s → (l : Local) (c : ℕ) → NumberIf (act_cell (doing k t s l) c)
  doing_number t s lits h idle c = tt
  doing_number t s lits h (running x) c = act_number t s.cell h s.port x (t.stm x) (lits x) c
  doing_number t s lits h (parted x) c = tt
  doing_number t s lits h finished c = tt
  doing_number t s lits h poisoned c = tt

  effect_number : (t : Table) (s : State) → Literals k t → Numbers k s → (m : Move) (c : ℕ) → NumberIf ((effect k t s m).cell c)
  effect_number t s lits h (step p) c = doing_number t s lits h (s.at p) c
  effect_number t s lits h (close p) c = tt
  effect_number t s lits h (meet g) c =
      if_cond (any_below t.places (λ q. owns_at t (runs_at (observed t s g (t.declarer g) q)) c)) (s.cell g) (h g)
  effect_number t s lits h (poison p g) c = tt

  written : (o : Option ℕ) (v : ℕ) → NumberIf o → Number v → Number (get_or o v)
  written none v a b = b
  written (some w) v a b = a

pub numbers_at_power : NumbersAtPower
numbers_at_power k t w laws c = laws.zero_number

pub numbers_kept : NumbersKept
numbers_kept k t s m laws lits h c = written k laws ((effect k t s m).cell c) (s.cell c) (effect_number k laws t s lits h m c) (h c)
