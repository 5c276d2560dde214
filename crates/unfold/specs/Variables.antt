-- The variables that a branch of a par gets.
use Rattle.std.specs.Prelude.{ℕ, suc, ◌+◌, Bool, true, false, ◌&&◌, ◌||◌, List, [], ◌∷◌, ◌++◌, length, Some, None}
use Rattle.reader.specs.Tokens.{same, among}
use Rattle.grammar.specs.Trees.{
  Name,
  Exp,
  Use,
  Number,
  Negated,
  Both,
  Simple,
  Var,
  Set,
  Call,
  Next,
  Know,
  Throw,
  Head,
  Plain,
  If,
  While,
  Try,
  Take,
  Stm,
  One,
  Two,
  Par,
  Block,
  Nil,
  Seq,
  Blocks,
  Last,
  Also,
  Param,
}
use Rattle.rules.specs.Programs as rules
use Rattle.unfold.specs.Unfolded.{New, Got}
use Rattle.unfold.specs.Scopes.{Env, lookup}

-- ---- what occurs in a branch

-- The variables that stand in a branch, in order, and whether each is written there: left of `=`, as the target of take,
-- or as a by-reference argument. Any other occurrence reads it.
abbrev pub Uses : Type 0
Uses = List (Name × Bool)

-- the parameters of a procedure, by its name
abbrev pub ParamsOf : Type 0
ParamsOf = List ℕ → List Param

abbrev pub uses_exp : Exp → Uses
uses_exp (Use n) = (n, false) ∷ []
uses_exp (Number n) = []
uses_exp (Negated e) = uses_exp e
uses_exp (Both o e f) = uses_exp e ++ uses_exp f

abbrev pub uses_args : List Param → List Name → Uses
uses_args [] as' = []
uses_args (p ∷ ps) [] = []
uses_args (p ∷ ps) (a ∷ as') = (a, p.reference) ∷ uses_args ps as'

abbrev pub uses_simple : ParamsOf → Simple → Uses
uses_simple f (Var n) = []
uses_simple f (Set n e) = (n, true) ∷ uses_exp e
uses_simple f (Call n as') = uses_args (f n.text) as'
uses_simple f (Next n) = (n, false) ∷ []
uses_simple f (Know n) = (n, false) ∷ []
uses_simple f (Throw n) = []

abbrev pub uses_head : Head → Uses
uses_head Plain = []
uses_head (If e) = uses_exp e
uses_head (While e) = uses_exp e
uses_head (Try n) = []
uses_head (Take i n) = (n, true) ∷ []

abbrev mutual
  pub uses_stm : ParamsOf → Stm → Uses
  uses_stm f (One at s) = uses_simple f s
  uses_stm f (Two at h a b) = uses_head h ++ (uses_block f a ++ uses_block f b)
  uses_stm f (Par at bs) = uses_blocks f bs

  pub uses_block : ParamsOf → Block → Uses
  uses_block f Nil = []
  uses_block f (Seq s b) = uses_stm f s ++ uses_block f b

  pub uses_blocks : ParamsOf → Blocks → Uses
  uses_blocks f Last = []
  uses_blocks f (Also a bs) = uses_block f a ++ uses_blocks f bs

abbrev pub written : Uses → List ℕ → Bool
written [] n = false
written (u ∷ us) n = (u.1 && same n u.0.text) || written us n

-- ---- what a branch gets

-- Each variable of the parent that occurs in the branch, at its first occurrence. One that is written there has both cells of
-- the parent; one that is read has a new own cell and the parent's home. New cells are numbered from c.
-- A name that the parent has not is the branch's own.
abbrev pub gets : Env → Uses → Uses → List (List ℕ) → ℕ → List Got
gets v all [] had c = []
gets v all (u ∷ us) had c =
    elim (among u.0.text had) [
      | true ↦ gets v all us had c
      | false ↦
          elim (lookup v u.0.text) [
            | None ↦ gets v all us had c
            | Some b ↦
                elim (written all u.0.text) [
                  | true ↦
                      record { name = u.0; own = b.own; home = b.home; from = None } ∷ gets v all us (u.0.text ∷ had) c
                  | false ↦
                      record { name = u.0; own = c; home = b.home; from = Some b.own } ∷ gets v all us (u.0.text ∷ had) (suc c)
                ]
          ]
    ]

-- the cells that it brings, the copies into them when the par is stepped, and what its names stand for
abbrev pub got_new : List Got → List New
got_new [] = []
got_new (g ∷ gs) = elim g.from [ None ↦ got_new gs | Some a ↦ record { home = g.home; name = g.name } ∷ got_new gs ]

abbrev pub got_copies : List Got → rules.Copies
got_copies [] = []
got_copies (g ∷ gs) = elim g.from [ None ↦ got_copies gs | Some a ↦ (g.own, a) ∷ got_copies gs ]

abbrev pub got_env : List Got → Env
got_env [] = []
got_env (g ∷ gs) = record { name = g.name.text; own = g.own; home = g.home } ∷ got_env gs

-- what each branch of a par gets, with the cells numbered by branch and first occurrence
abbrev pub all_get : ParamsOf → Env → Blocks → ℕ → List (List Got)
all_get f v Last c = []
all_get f v (Also a bs) c =
    let us = uses_block f a in
    let g = gets v us us [] c in
    g ∷ all_get f v bs (c + length (got_new g))

abbrev pub all_new : List (List Got) → List New
all_new [] = []
all_new (g ∷ gs) = got_new g ++ all_new gs
