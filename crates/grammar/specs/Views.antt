-- What the code's tree stands for, given the text that its names are parts of.
use Rattle.std.specs.Prelude.{ℕ, List, [], ◌∷◌, vec_items, Vec}
use Rattle.std.specs.declared.alloc.Global.{Global}
use Rattle.reader.specs.Views.{part}
use Rattle.grammar.specs.declared.tree.Name as code-name
use Rattle.grammar.specs.declared.tree.Operator as code-operator
use Rattle.grammar.specs.declared.tree.Operator.TheVariants as operators
use Rattle.grammar.specs.declared.tree.Expr as code-expr
use Rattle.grammar.specs.declared.tree.Expr.TheVariants as exprs
use Rattle.grammar.specs.declared.tree.Simple as code-simple
use Rattle.grammar.specs.declared.tree.Simple.TheVariants as simples
use Rattle.grammar.specs.declared.tree.Head as code-head
use Rattle.grammar.specs.declared.tree.Head.TheVariants as heads
use Rattle.grammar.specs.declared.tree.Stmt as code-stmt
use Rattle.grammar.specs.declared.tree.Block as code-block
use Rattle.grammar.specs.declared.tree.Blocks as code-blocks
use Rattle.grammar.specs.declared.tree.Block.TheVariants as stmts
use Rattle.grammar.specs.declared.tree.Param as code-param
use Rattle.grammar.specs.declared.tree.Proc as code-proc
use Rattle.grammar.specs.declared.tree.Tree as code-tree
use Rattle.grammar.specs.Trees.{
  Name,
  Op,
  Same,
  Less,
  Plus,
  Minus,
  Times,
  Exp,
  Use,
  Number,
  Negated,
  Both,
  Simple,
  Var,
  Set,
  Call,
  Next,
  Know,
  Throw,
  Head,
  Plain,
  If,
  While,
  Try,
  Take,
  Stm,
  One,
  Two,
  Par,
  Block,
  Nil,
  Seq,
  Blocks,
  Last,
  Also,
  Param,
  Proc,
  Tree,
}

abbrev pub name : List ℕ → code-name.Name → Name
name text n = record { text = part text n.at n.len; at = n.at }

abbrev pub names : List ℕ → List code-name.Name → List Name
names text [] = []
names text (n ∷ ns) = name text n ∷ names text ns

-- the names in a vector
abbrev pub view_names : List ℕ → Vec code-name.Name Global → List Name
view_names text v = names text (vec_items v)

abbrev pub operator : code-operator.Operator → Op
operator operators.Same = Same
operator operators.Less = Less
operator operators.Plus = Plus
operator operators.Minus = Minus
operator operators.Times = Times

abbrev pub exp : List ℕ → code-expr.Expr → Exp
exp text (exprs.Use n) = Use (name text n)
exp text (exprs.Number n) = Number (name text n)
exp text (exprs.Negated' p a) = Negated (exp text a)
exp text (exprs.Both' o p a q b) = Both (operator o) (exp text a) (exp text b)

abbrev pub simple : List ℕ → code-simple.Simple → Simple
simple text (simples.Var n) = Var (name text n)
simple text (simples.Set n e) = Set (name text n) (exp text e)
simple text (simples.Call n as') = Call (name text n) (names text (vec_items as'))
simple text (simples.Next n) = Next (name text n)
simple text (simples.Know n) = Know (name text n)
simple text (simples.Throw n) = Throw (name text n)

abbrev pub head : List ℕ → code-head.Head → Head
head text heads.Plain = Plain
head text (heads.If e) = If (exp text e)
head text (heads.While e) = While (exp text e)
head text (heads.Try n) = Try (name text n)
head text (heads.Take i n) = Take (name text i) (name text n)

abbrev mutual
  pub stm : List ℕ → code-stmt.Stmt → Stm
  stm text (stmts.One at s) = One at (simple text s)
  stm text (stmts.Two' at h p a q b) = Two at (head text h) (block text a) (block text b)
  stm text (stmts.Par' at p bs) = Par at (blocks text bs)

  pub block : List ℕ → code-block.Block → Block
  block text stmts.Nil = Nil
  block text (stmts.Seq' p s q b) = Seq (stm text s) (block text b)

  pub blocks : List ℕ → code-blocks.Blocks → Blocks
  blocks text stmts.Last = Last
  blocks text (stmts.Also' p b q bs) = Also (block text b) (blocks text bs)

abbrev pub param : List ℕ → code-param.Param → Param
param text p = record { reference = p.reference; name = name text p.name }

abbrev pub params : List ℕ → List code-param.Param → List Param
params text [] = []
params text (p ∷ ps) = param text p ∷ params text ps

abbrev pub view_params : List ℕ → Vec code-param.Param Global → List Param
view_params text v = params text (vec_items v)

abbrev pub proc : List ℕ → code-proc.Proc → Proc
proc text p = record { name = name text p.name; params = params text (vec_items p.params); body = block text p.body }

abbrev pub procs : List ℕ → List code-proc.Proc → List Proc
procs text [] = []
procs text (p ∷ ps) = proc text p ∷ procs text ps

abbrev pub view_procs : List ℕ → Vec code-proc.Proc Global → List Proc
view_procs text v = procs text (vec_items v)

abbrev pub tree : List ℕ → code-tree.Tree → Tree
tree text t = record { procs = procs text (vec_items t.procs); main = block text t.main }
