-- What a step of a place does.
use Rattle.std.specs.Prelude.{ℕ, Bool, false, cond, ◌&&◌, List, [], ◌∷◌, ◌==◌, nat_eq}
use Rattle.std.proofs.Math.Option.{Option, some, none, map}
use Rattle.numbers.specs.Kinds.{Meaning}
use Rattle.rules.specs.Programs.{
  Copies,
  Stm,
  end,
  var,
  set,
  know,
  next,
  call,
  test,
  try,
  take,
  par,
  goto,
  throw,
  Table,
  pick,
  elem,
}
use Rattle.rules.specs.Trees.{within}
use Rattle.rules.specs.Values.{value}
use Rattle.rules.specs.States.{Local, idle, running, parted, finished, poisoned, State}
use Rattle.rules.specs.Effects.{MarkChange, keep, lower_to, Effect, only, nothing, never, zeros, one_at}

-- A step does nothing; writes cells, takes from ports and goes on to a point; parts at a point into branches;
-- throws to a try of another place; or finishes.
pub data Act : Type 0 where
  stay : Act
  pass : (ℕ → Option ℕ) → (ℕ → Bool) → ℕ → Act
  fork : (ℕ → Option ℕ) → ℕ → List ℕ → Act
  raise : ℕ → ℕ → Act
  halt : Act

-- `take` sets the own cell to the first word and skips the else block (y). A dry port, or a taken word that is no
-- number of the kind, leads into the else block (z); the port loses that word, and the cell keeps its own.
abbrev pub taking : Meaning → ℕ → ℕ → ℕ → ℕ → List ℕ → Act
taking k i c y z [] = pass nothing never z
taking k i c y z (w ∷ ws) = cond (k.number w) (pass (only c w) (nat_eq i) y) (pass nothing (nat_eq i) z)

-- New cells get the values of the cells that they copy.
abbrev pub copying : (ℕ → ℕ) → Copies → ℕ → Option ℕ
copying f cs c = map f (pick cs c)

-- The act of the statement at x, with the cells f and the words to come r.
-- At its end the place is finished. `var` sets its cell to word 0, `=` sets the own cell, `know` does nothing,
-- `try` enters its block. `if` and `while` test for a word other than 0. A call copies its by-value arguments from
-- own cells and enters the block. `par` parts the place; its new cells get the parent's own values. `throw` to a try
-- in its own place goes to the catch block. Before a next no step is made.
abbrev pub act : Meaning → Table → (ℕ → ℕ) → (ℕ → List ℕ) → ℕ → Stm → Act
act k t f r x end = halt
act k t f r x (var c) = pass (only c 0) never (t.after x)
act k t f r x (set c e) = pass (only c (value k f e)) never (t.after x)
act k t f r x know = pass nothing never (t.after x)
act k t f r x (next c h) = stay
act k t f r x (call cs y) = pass (copying f cs) never y
act k t f r x (test e y z) = pass nothing never (cond (value k f e == 0) z y)
act k t f r x (try y) = pass nothing never y
act k t f r x (take i c z) = taking k i c (t.after x) z (r i)
act k t f r x (par bs cs) = fork (copying f cs) x bs
act k t f r x (goto y) = pass nothing never y
act k t f r x (throw g j) = raise g j

-- Only a running place acts.
abbrev pub doing : Meaning → Table → State → Local → Act
doing k t s idle = stay
doing k t s (running x) = act k t s.cell s.port x (t.stm x)
doing k t s (parted x) = stay
doing k t s finished = stay
doing k t s poisoned = stay

-- Where the places stand after an act of p: a par runs each branch from its start, a throw to another place poisons p,
-- and p only.
abbrev pub act_at : Table → ℕ → Act → ℕ → Option Local
act_at t p stay q = none
act_at t p (pass w r y) q = only p (running y) q
act_at t p (fork w x bs) q = cond (q == p) (some (parted x)) (cond (elem q bs) (some (running (t.start q))) none)
act_at t p (raise g j) q = only p poisoned q
act_at t p halt q = only p finished q

-- The marks: a throw to the try j of place g lowers g's mark to j, and those of the places between g and p to 0.
abbrev pub act_mark : Table → ℕ → Act → ℕ → MarkChange
act_mark t p stay q = keep
act_mark t p (pass w r y) q = keep
act_mark t p (fork w x bs) q = keep
act_mark t p (raise g j) q =
    cond (q == g) (lower_to j) (cond (within t g q && within t q (t.parent p)) (lower_to 0) keep)
act_mark t p halt q = keep

abbrev pub act_cell : Act → ℕ → Option ℕ
act_cell stay c = none
act_cell (pass w r y) c = w c
act_cell (fork w x bs) c = w c
act_cell (raise g j) c = none
act_cell halt c = none

abbrev pub act_pop : Act → ℕ → Bool
act_pop stay i = false
act_pop (pass w r y) i = r i
act_pop (fork w x bs) i = false
act_pop (raise g j) i = false
act_pop halt i = false

-- A step counts one for its place.
abbrev pub step_effect : Table → ℕ → Act → Effect
step_effect t p a =
    record {
      at = act_at t p a;
      mark = act_mark t p a;
      cell = act_cell a;
      pop = act_pop a;
      steps = one_at p;
      meets = zeros;
    }
