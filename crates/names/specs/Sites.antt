-- The places of a text that the rules of names speak of, in the order of the text, each with what is visible there;
-- what the rules ask of each; and what it is for a text to be in order, or to have its first fault somewhere.
use Rattle.std.specs.Prelude.{◌≡◌, ℕ, ◌≤◌, ◌⊎◌, List, [], ◌∷◌, ◌++◌, length, Some, Ok, Err, Result, ◌≢◌}
use Rattle.reader.specs.declared.fault.Fault.{Fault}
use Rattle.reader.specs.declared.fault.Cause.TheVariants.{NotVisible, Redeclared, ArgumentCount, OutOfRange}
use Rattle.reader.specs.declared.fault.Error.{Error}
use Rattle.reader.specs.declared.fault.Error.TheVariants.{Refused, OutOfMemory}
use Rattle.numbers.specs.Literals.{digits_value}
use Rattle.grammar.specs.Trees.{
  Name,
  Exp,
  Use,
  Number,
  Negated,
  Both,
  Simple,
  Var,
  Set,
  Call,
  Next,
  Know,
  Throw,
  Head,
  Plain,
  If,
  While,
  Try,
  Take,
  Stm,
  One,
  Two,
  Par,
  Block,
  Nil,
  Seq,
  Blocks,
  Last,
  Also,
  Param,
  Proc,
  Tree,
}
use Rattle.names.specs.Naming.{Reading, Scope, find_proc, declared}

pub data Site : Type 0 where
  -- a variable is used, or declared, where these variables are visible
  uses : Scope → Name → Site
  declares : Scope → Name → Site
  -- a procedure is called, is given so many arguments, or is defined, where these procedures are visible
  calls : List Proc → Name → Site
  gives : List Proc → Name → ℕ → Site
  defines : List Proc → Name → Site
  -- a literal and a port are written
  writes : Name → Site
  takes : Name → Site

-- ---- the sites of a text

abbrev pub sites_exp : Scope → Exp → List Site
sites_exp v (Use n) = uses v n ∷ []
sites_exp v (Number n) = writes n ∷ []
sites_exp v (Negated e) = sites_exp v e
sites_exp v (Both o e f) = sites_exp v e ++ sites_exp v f

abbrev pub sites_arguments : Scope → List Name → List Site
sites_arguments v [] = []
sites_arguments v (n ∷ ns) = uses v n ∷ sites_arguments v ns

-- exceptions have no sites
abbrev pub sites_simple : List Proc → Scope → Simple → List Site
sites_simple ps v (Var n) = declares v n ∷ []
sites_simple ps v (Set n e) = uses v n ∷ sites_exp v e
sites_simple ps v (Call n as') = calls ps n ∷ gives ps n (length as') ∷ sites_arguments v as'
sites_simple ps v (Next n) = uses v n ∷ []
sites_simple ps v (Know n) = uses v n ∷ []
sites_simple ps v (Throw n) = []

abbrev pub sites_head : Scope → Head → List Site
sites_head v Plain = []
sites_head v (If e) = sites_exp v e
sites_head v (While e) = sites_exp v e
sites_head v (Try n) = []
sites_head v (Take i n) = takes i ∷ uses v n ∷ []

-- a block's variables are visible from their declarations to its end, in the blocks inside it too
abbrev mutual
  pub sites_stm : List Proc → Scope → Stm → List Site
  sites_stm ps v (One at s) = sites_simple ps v s
  sites_stm ps v (Two at h a b) = sites_head v h ++ (sites_block ps v a ++ sites_block ps v b)
  sites_stm ps v (Par at bs) = sites_blocks ps v bs

  pub sites_block : List Proc → Scope → Block → List Site
  sites_block ps v Nil = []
  sites_block ps v (Seq s b) = sites_stm ps v s ++ sites_block ps (declared v s) b

  pub sites_blocks : List Proc → Scope → Blocks → List Site
  sites_blocks ps v Last = []
  sites_blocks ps v (Also a bs) = sites_block ps v a ++ sites_blocks ps v bs

abbrev pub sites_params : Scope → List Param → List Site
sites_params v [] = []
sites_params v (p ∷ ps) = declares v p.name ∷ sites_params (p.name.text ∷ v) ps

-- the variables and procedures that are visible after these
abbrev pub with_params : Scope → List Param → Scope
with_params v [] = v
with_params v (p ∷ ps) = with_params (p.name.text ∷ v) ps

abbrev pub with_procs : List Proc → List Proc → List Proc
with_procs ended [] = ended
with_procs ended (p ∷ ps) = with_procs (p ∷ ended) ps

-- a procedure sees its parameters and the procedures that ended before it
abbrev pub sites_proc : List Proc → Proc → List Site
sites_proc ended p = defines ended p.name ∷ (sites_params [] p.params ++ sites_block ended (with_params [] p.params) p.body)

abbrev pub sites_procs : List Proc → List Proc → List Site
sites_procs ended [] = []
sites_procs ended (p ∷ ps) = sites_proc ended p ++ sites_procs (p ∷ ended) ps

abbrev pub sites : Tree → List Site
sites t = sites_procs [] t.procs ++ sites_block (with_procs [] t.procs) [] t.main

-- ---- what the rules ask

-- one of the names
abbrev pub Among : List ℕ → Scope → Type 0
Among w [] = ⊥
Among w (x ∷ v) = (w ≡ x) ⊎ Among w v

abbrev pub Right : Reading → Site → Type 0
Right l (uses v n) = Among n.text v
Right l (declares v n) = Among n.text v → ⊥
Right l (calls ps n) = (p : Proc) × (find_proc ps n.text ≡ Some p)
Right l (gives ps n k) = (p : Proc) → find_proc ps n.text ≡ Some p → length p.params ≡ k
Right l (defines ps n) = (p : Proc) → find_proc ps n.text ≢ Some p
Right l (writes n) = (w : ℕ) × (l n.text ≡ Some w)
Right l (takes n) = (k : ℕ) × (digits_value n.text ≡ Some k) × (k ≤ 7)

-- why a text is refused where a site is wrong, at its name or number
abbrev pub fault_at : Site → Fault
fault_at (uses v n) = record { cause = NotVisible; offset = n.at }
fault_at (declares v n) = record { cause = Redeclared; offset = n.at }
fault_at (calls ps n) = record { cause = NotVisible; offset = n.at }
fault_at (gives ps n k) = record { cause = ArgumentCount; offset = n.at }
fault_at (defines ps n) = record { cause = Redeclared; offset = n.at }
fault_at (writes n) = record { cause = OutOfRange; offset = n.at }
fault_at (takes n) = record { cause = OutOfRange; offset = n.at }

-- every site is right
abbrev pub AllRight : Reading → List Site → Type 0
AllRight l [] = Unit {0}
AllRight l (s ∷ ss) = Right l s × AllRight l ss

-- the first site that is wrong has this fault
abbrev pub FirstWrong : Reading → List Site → Fault → Type 0
FirstWrong l [] f = ⊥
FirstWrong l (s ∷ ss) f = ((Right l s → ⊥) × (f ≡ fault_at s)) ⊎ (Right l s × FirstWrong l ss f)

-- What an answer of the stage says of a text: it passes where every site is right, and is refused at the first that is wrong.
abbrev pub Judged : Reading → List Site → Result (Unit {0}) Error → Type 0
Judged l ss (Ok u) = AllRight l ss
Judged l ss (Err (Refused f)) = FirstWrong l ss f
Judged l ss (Err OutOfMemory) = Unit {0}
