-- What a name stands for: an own cell and a home cell.
use Rattle.std.specs.Prelude.{ℕ, true, false, List, [], ◌∷◌, Some, None, Ok, Option}
use Rattle.reader.specs.declared.fault.Cause.{Cause}
use Rattle.reader.specs.declared.fault.Cause.TheVariants.{NotVisible, OutOfRange}
use Rattle.reader.specs.Faults.{Answer, refuse, ◌>>=◌}
use Rattle.reader.specs.Tokens.{same}
use Rattle.grammar.specs.Trees.{Name, Op, Same, Less, Plus, Minus, Times, Exp, Use, Number, Negated, Both}
use Rattle.names.specs.Naming.{Reading}
use Rattle.rules.specs.Programs as rules
use Rattle.rules.specs.Programs.{Expr, own, word, plus, minus, times, below}

pub record Binding : Type 0 where
  pub name : List ℕ
  pub own : ℕ
  pub home : ℕ

-- the variables of a place, the last declared in front
abbrev pub Env : Type 0
Env = List Binding

abbrev pub lookup : Env → List ℕ → Option Binding
lookup [] n = None
lookup (b ∷ bs) n = elim (same n b.name) [ true ↦ Some b | false ↦ lookup bs n ]

-- The stage of names has seen that each name is visible and each literal has a reading: after it these refusals do not come.
abbrev pub found : {A : Type 0} → Cause → ℕ → Option A → Answer A
found k at None = refuse k at
found k at (Some b) = Ok b

abbrev pub stands : Env → Name → Answer Binding
stands v n = found NotVisible n.at (lookup v n.text)

abbrev pub joined : Op → Expr → Expr → Expr
joined Same a b = rules.same a b
joined Less a b = below a b
joined Plus a b = plus a b
joined Minus a b = minus a b
joined Times a b = times a b

-- an expression over own cells and words; `-e` is 0 minus e
abbrev pub resolved : Reading → Env → Exp → Answer Expr
resolved l v (Use n) = stands v n >>= (λ b. Ok (own b.own))
resolved l v (Number n) = found OutOfRange n.at (l n.text) >>= (λ w. Ok (word w))
resolved l v (Negated e) = resolved l v e >>= (λ a. Ok (minus (word 0) a))
resolved l v (Both o e f) = resolved l v e >>= (λ a. resolved l v f >>= (λ b. Ok (joined o a b)))
