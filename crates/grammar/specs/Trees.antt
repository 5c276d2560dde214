-- The tree of a text, without the memory that holds it. A statement is simple, or has a head and one or two blocks, or is a par.
use Rattle.std.specs.Prelude.{ℕ, Bool, List}

-- a name or a number, with its offset
pub record Name : Type 0 where
  pub text : List ℕ
  pub at : ℕ

pub data Op : Type 0 where
  Same : Op
  Less : Op
  Plus : Op
  Minus : Op
  Times : Op

pub data Exp : Type 0 where
  Use : Name → Exp
  Number : Name → Exp
  Negated : Exp → Exp
  Both : Op → Exp → Exp → Exp

pub data Simple : Type 0 where
  Var : Name → Simple
  Set : Name → Exp → Simple
  Call : Name → List Name → Simple
  Next : Name → Simple
  Know : Name → Simple
  Throw : Name → Simple

-- the second block is the else block of an if and the catch block of a try, and otherwise empty
pub data Head : Type 0 where
  Plain : Head
  If : Exp → Head
  While : Exp → Head
  Try : Name → Head
  Take : Name → Name → Head

mutual
  pub data Stm : Type 0 where
    One : ℕ → Simple → Stm
    Two : ℕ → Head → Block → Block → Stm
    Par : ℕ → Blocks → Stm

  pub data Block : Type 0 where
    Nil : Block
    Seq : Stm → Block → Block

  pub data Blocks : Type 0 where
    Last : Blocks
    Also : Block → Blocks → Blocks

pub record Param : Type 0 where
  pub reference : Bool
  pub name : Name

pub record Proc : Type 0 where
  pub name : Name
  pub params : List Param
  pub body : Block

pub record Tree : Type 0 where
  pub procs : List Proc
  pub main : Block
