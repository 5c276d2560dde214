-- What the code's tables of visible names stand for.
use Rattle.std.specs.Prelude.{◌≡◌, ℕ, true, false, List, [], ◌∷◌, ◌++◌, length, Some, None, Ok, Err, Option, Result}
use Rattle.reader.specs.declared.fault.Error.{Error}
use Rattle.reader.specs.declared.fault.Error.TheVariants.{OutOfMemory}
use Rattle.reader.specs.Tokens.{same}
use Rattle.grammar.specs.declared.tree.Name as code-name
use Rattle.grammar.specs.declared.tree.Simple.TheVariants as simples
use Rattle.grammar.specs.declared.tree.Stmt as code-stmt
use Rattle.grammar.specs.declared.tree.Block.TheVariants as stmts
use Rattle.grammar.specs.declared.tree.Proc as code-proc
use Rattle.grammar.specs.Trees.{Proc}
use Rattle.grammar.specs.Views.{name, proc}
use Rattle.names.specs.Naming.{Scope}

-- the variables of a table, the last in front, in front of others
abbrev pub stacked : List ℕ → Scope → List code-name.Name → Scope
stacked text v [] = v
stacked text v (n ∷ ns) = stacked text ((name text n).text ∷ v) ns

abbrev pub scope : List ℕ → List code-name.Name → Scope
scope text ns = stacked text [] ns

-- the procedures of a table, the last in front, in front of others
abbrev pub after : List ℕ → List Proc → List code-proc.Proc → List Proc
after text ps [] = ps
after text ps (q ∷ qs) = after text (proc text q ∷ ps) qs

abbrev pub ended : List ℕ → List code-proc.Proc → List Proc
ended text qs = after text [] qs

-- where the visible procedure of a name stands in a table, if there is one
abbrev pub place : List ℕ → List Proc → Option ℕ
place w [] = None
place w (p ∷ ps) = elim (same w p.name.text) [ true ↦ Some (length ps) | false ↦ place w ps ]

-- how many parameters a procedure has
abbrev pub arity : Option Proc → Option ℕ
arity None = None
arity (Some p) = Some (length p.params)

-- the variable that a statement declares
abbrev pub declares : code-stmt.Stmt → List code-name.Name
declares (stmts.One at (simples.Var n)) = n ∷ []
declares (stmts.One at (simples.Set n e)) = []
declares (stmts.One at (simples.Call n as')) = []
declares (stmts.One at (simples.Next n)) = []
declares (stmts.One at (simples.Know n)) = []
declares (stmts.One at (simples.Throw n)) = []
declares (stmts.Two' at h p a q b) = []
declares (stmts.Par' at p bs) = []

-- a table before and after a declaration, which fails only for want of memory
abbrev pub Declared : List code-name.Name → code-stmt.Stmt → Result (Unit {0}) Error → List code-name.Name → Type 0
Declared ns s (Ok u) ms = ms ≡ ns ++ declares s
Declared ns s (Err e) ms = e ≡ OutOfMemory
