-- The third stage of clearing: names, arguments, literals and ports.
-- It looks at the whole tree, procedures that nobody calls included, and answers the first fault in the order of the text.
use Rattle.std.specs.Prelude.{ℕ, Bool, true, false, not, List, [], ◌∷◌, length, is_some, Some, None, Ok, Option, ◌==◌, nat_le}
use Rattle.numbers.specs.Literals.{digits_value}
use Rattle.reader.specs.declared.fault.Cause.TheVariants.{NotVisible, Redeclared, ArgumentCount, OutOfRange}
use Rattle.reader.specs.Faults.{Answer, refuse, must, ◌>>=◌}
use Rattle.reader.specs.Tokens.{same, among}
use Rattle.grammar.specs.Trees.{
  Name,
  Exp,
  Use,
  Number,
  Negated,
  Both,
  Simple,
  Var,
  Set,
  Call,
  Next,
  Know,
  Throw,
  Head,
  Plain,
  If,
  While,
  Try,
  Take,
  Stm,
  One,
  Two,
  Par,
  Block,
  Nil,
  Seq,
  Blocks,
  Last,
  Also,
  Param,
  Proc,
  Tree,
}

-- the reading of a literal, given by its digits; one outside the number kind has none
abbrev pub Reading : Type 0
Reading = List ℕ → Option ℕ

-- ports are numbered 0 to 7
abbrev pub is_port : List ℕ → Bool
is_port ds = elim (digits_value ds) [ Some p ↦ nat_le p 7 | None ↦ false ]

-- the names of the visible variables, the newest in front
abbrev pub Scope : Type 0
Scope = List (List ℕ)

-- a visible variable
abbrev pub visible : Scope → Name → Answer (Unit {0})
visible v n = must (among n.text v) NotVisible n.at

abbrev pub all_visible : Scope → List Name → Answer (Unit {0})
all_visible v [] = Ok tt
all_visible v (n ∷ ns) = visible v n >>= (λ u. all_visible v ns)

-- a variable may be declared where none of its name is visible
abbrev pub undeclared : Scope → Name → Answer (Unit {0})
undeclared v n = must (not (among n.text v)) Redeclared n.at

-- the visible procedure of a name
abbrev pub find_proc : List Proc → List ℕ → Option Proc
find_proc [] n = None
find_proc (p ∷ ps) n = elim (same n p.name.text) [ true ↦ Some p | false ↦ find_proc ps n ]

abbrev pub names_exp : Reading → Scope → Exp → Answer (Unit {0})
names_exp l v (Use n) = visible v n
names_exp l v (Number n) = must (is_some (l n.text)) OutOfRange n.at
names_exp l v (Negated e) = names_exp l v e
names_exp l v (Both o e f) = names_exp l v e >>= (λ u. names_exp l v f)

-- a call of what its name stands for: at the name, not visible comes before a wrong number of arguments
abbrev pub names_call : Scope → Option Proc → Name → List Name → Answer (Unit {0})
names_call v None n as' = refuse NotVisible n.at
names_call v (Some p) n as' = must (length p.params == length as') ArgumentCount n.at >>= (λ u. all_visible v as')

-- the name of an exception is never at fault
abbrev pub names_simple : Reading → List Proc → Scope → Simple → Answer (Unit {0})
names_simple l ps v (Var n) = undeclared v n
names_simple l ps v (Set n e) = visible v n >>= (λ u. names_exp l v e)
names_simple l ps v (Call n as') = names_call v (find_proc ps n.text) n as'
names_simple l ps v (Next n) = visible v n
names_simple l ps v (Know n) = visible v n
names_simple l ps v (Throw n) = Ok tt

-- a take names its port first
abbrev pub names_head : Reading → Scope → Head → Answer (Unit {0})
names_head l v Plain = Ok tt
names_head l v (If e) = names_exp l v e
names_head l v (While e) = names_exp l v e
names_head l v (Try n) = Ok tt
names_head l v (Take i n) = must (is_port i.text) OutOfRange i.at >>= (λ u. visible v n)

-- what is visible after a statement, up to the end of its block
abbrev pub declared : Scope → Stm → Scope
declared v (One at (Var n)) = n.text ∷ v
declared v (One at (Set n e)) = v
declared v (One at (Call n as')) = v
declared v (One at (Next n)) = v
declared v (One at (Know n)) = v
declared v (One at (Throw n)) = v
declared v (Two at h a b) = v
declared v (Par at bs) = v

abbrev mutual
  pub names_stm : Reading → List Proc → Scope → Stm → Answer (Unit {0})
  names_stm l ps v (One at s) = names_simple l ps v s
  names_stm l ps v (Two at h a b) = names_head l v h >>= (λ u. names_block l ps v a >>= (λ w. names_block l ps v b))
  names_stm l ps v (Par at bs) = names_blocks l ps v bs

  pub names_block : Reading → List Proc → Scope → Block → Answer (Unit {0})
  names_block l ps v Nil = Ok tt
  names_block l ps v (Seq s b) = names_stm l ps v s >>= (λ u. names_block l ps (declared v s) b)

  pub names_blocks : Reading → List Proc → Scope → Blocks → Answer (Unit {0})
  names_blocks l ps v Last = Ok tt
  names_blocks l ps v (Also a bs) = names_block l ps v a >>= (λ u. names_blocks l ps v bs)

-- the parameters are the first variables of a procedure's block
abbrev pub names_params : Scope → List Param → Answer Scope
names_params v [] = Ok v
names_params v (p ∷ ps) = undeclared v p.name >>= (λ u. names_params (p.name.text ∷ v) ps)

-- A procedure, where some have ended before it. It sees these and its own variables, so neither itself nor a later one.
abbrev pub names_proc : Reading → List Proc → Proc → Answer (Unit {0})
names_proc l ended p =
    must (not (is_some (find_proc ended p.name.text))) Redeclared p.name.at >>= (λ u. names_params [] p.params >>= (λ v. names_block l ended v p.body))

-- The procedures, where some have ended before them; answers all, the last in front.
abbrev pub names_procs : Reading → List Proc → List Proc → Answer (List Proc)
names_procs l ended [] = Ok ended
names_procs l ended (p ∷ ps) = names_proc l ended p >>= (λ u. names_procs l (p ∷ ended) ps)

-- The whole stage; answers the procedures, the last in front. The main block sees all of them.
abbrev pub named : Reading → Tree → Answer (List Proc)
named l t = names_procs l [] t.procs >>= (λ ps. names_block l ps [] t.main >>= (λ u. Ok ps))
