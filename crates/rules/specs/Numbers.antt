-- Every cell holds a number of the kind.
use Rattle.std.specs.Prelude.{◌≡◌, ℕ, true}
use Rattle.numbers.specs.Kinds.{Meaning}
use Rattle.rules.specs.Programs.{
  Expr,
  own,
  word,
  plus,
  minus,
  times,
  below,
  same,
  Stm,
  end,
  var,
  set,
  know,
  next,
  call,
  test,
  try,
  take,
  par,
  goto,
  throw,
  Table,
}
use Rattle.rules.specs.States.{State}

-- The words that an expression names are numbers of the kind.
abbrev pub LiteralsIn : Meaning → Expr → Type 0
LiteralsIn k (own c) = Unit {0}
LiteralsIn k (word w) = k.number w ≡ true
LiteralsIn k (plus a b) = LiteralsIn k a × LiteralsIn k b
LiteralsIn k (minus a b) = LiteralsIn k a × LiteralsIn k b
LiteralsIn k (times a b) = LiteralsIn k a × LiteralsIn k b
LiteralsIn k (below a b) = LiteralsIn k a × LiteralsIn k b
LiteralsIn k (same a b) = LiteralsIn k a × LiteralsIn k b

abbrev pub LiteralsOf : Meaning → Stm → Type 0
LiteralsOf k end = Unit {0}
LiteralsOf k (var c) = Unit {0}
LiteralsOf k (set c e) = LiteralsIn k e
LiteralsOf k know = Unit {0}
LiteralsOf k (next c h) = Unit {0}
LiteralsOf k (call cs y) = Unit {0}
LiteralsOf k (test e y z) = LiteralsIn k e
LiteralsOf k (try y) = Unit {0}
LiteralsOf k (take i c z) = Unit {0}
LiteralsOf k (par bs cs) = Unit {0}
LiteralsOf k (goto y) = Unit {0}
LiteralsOf k (throw g j) = Unit {0}

-- The words of a program's literals are numbers of the kind: clearing refuses any other.
abbrev pub Literals : Meaning → Table → Type 0
Literals k t = (x : ℕ) → LiteralsOf k (t.stm x)

abbrev pub Numbers : Meaning → State → Type 0
Numbers k s = (c : ℕ) → k.number (s.cell c) ≡ true
