-- The fourth stage of clearing: the text is unfolded, within the limits.
use Rattle.std.specs.Prelude.{ℕ, suc, ◌+◌, true, false, cond, ◌&&◌, List, [], ◌∷◌, length, Some, None, Ok, Option, nat_le}
use Rattle.reader.specs.declared.fault.Cause.TheVariants.{NotVisible, OutOfRange, OverLimit}
use Rattle.reader.specs.Faults.{Answer, must, ◌>>=◌}
use Rattle.reader.specs.Tokens.{same}
use Rattle.grammar.specs.Trees.{
  Name,
  Simple,
  Var,
  Set,
  Call,
  Next,
  Know,
  Throw,
  Head,
  Plain,
  If,
  While,
  Try,
  Take,
  Stm,
  One,
  Two,
  Par,
  Block,
  Nil,
  Seq,
  Blocks,
  Last,
  Also,
  Param,
  Proc,
}
use Rattle.numbers.specs.Literals.{digits_value}
use Rattle.names.specs.Naming.{Reading}
use Rattle.rules.specs.Programs as rules
use Rattle.unfold.specs.Unfolded.{New, Got, Part, plain, calls, tests, loops, tries, takes, Node, one, throws, two, par, Nodes, nil, seq, Branches, last, also}
use Rattle.unfold.specs.Scopes.{Binding, Env, found, stands, resolved}
use Rattle.unfold.specs.Variables.{got_env, all_get, all_new}

-- ---- a call's arguments

-- What the parameters stand for, the copies of a call, the cells that it brings, and the names of its by-reference arguments.
pub record Passed : Type 0 where
  pub env : Env
  pub copies : rules.Copies
  pub news : List New
  pub refs : List (List ℕ)

-- a by-reference parameter has both cells of its argument
abbrev pub by_reference : Param → Name → Binding → Passed → Passed
by_reference p a b r =
    record {
      env = record { name = p.name.text; own = b.own; home = b.home } ∷ r.env;
      copies = r.copies;
      news = r.news;
      refs = a.text ∷ r.refs;
    }

-- a by-value parameter brings a new own cell, named as in the parameter list, and has its argument's home
abbrev pub by_value : Param → Binding → ℕ → Passed → Passed
by_value p b c r =
    record {
      env = record { name = p.name.text; own = c; home = b.home } ∷ r.env;
      copies = (c, b.own) ∷ r.copies;
      news = record { home = b.home; name = p.name } ∷ r.news;
      refs = r.refs;
    }

-- the cells that a call brings are numbered by parameter, from c
abbrev pub passes : Env → List Param → List Name → ℕ → Answer Passed
passes v [] as' c = Ok (record { env = []; copies = []; news = []; refs = [] })
passes v (p ∷ ps) [] c = Ok (record { env = []; copies = []; news = []; refs = [] })
passes v (p ∷ ps) (a ∷ as') c =
    stands v a >>= (λ b.
    elim p.reference [
      | true ↦ passes v ps as' c >>= (λ r. Ok (by_reference p a b r))
      | false ↦ passes v ps as' (suc c) >>= (λ r. Ok (by_value p b c r))
    ])

-- ---- the limits

-- how many statements, places and cells there are so far
pub record Count : Type 0 where
  pub statements : ℕ
  pub places : ℕ
  pub cells : ℕ

-- A statement brings itself, its branches as places, and its cells. The first with which the text so far passes
-- 1,024 statements, 64 places or 128 cells is refused.
abbrev pub brings : Count → ℕ → ℕ → ℕ → Answer Count
brings n places cells at =
    let s = suc n.statements in
    let p = n.places + places in
    let c = n.cells + cells in
    must (nat_le s 1024 && (nat_le p 64 && nat_le c 128)) OverLimit at >>= (λ u. Ok (record { statements = s; places = p; cells = c }))

-- ---- unfolding

abbrev pub Unfolding : Type 0
Unfolding = Env → Count → Answer (Nodes × Count)

-- a visible procedure: its parameters, and the unfolding of its block
pub record Callee : Type 0 where
  pub params : List Param
  pub body : Unfolding

abbrev pub Callees : Type 0
Callees = List ℕ → Option Callee

abbrev pub params_of : Option Callee → List Param
params_of None = []
params_of (Some c) = c.params

-- ports are numbered 0 to 7
abbrev pub port_of : List ℕ → Option ℕ
port_of ds = elim (digits_value ds) [ Some p ↦ cond (nat_le p 7) (Some p) None | None ↦ None ]

abbrev pub head_part : Reading → Env → Head → Answer Part
head_part l v Plain = Ok plain
head_part l v (If e) = resolved l v e >>= (λ a. Ok (tests a))
head_part l v (While e) = resolved l v e >>= (λ a. Ok (loops a))
head_part l v (Try n) = Ok (tries n.text)
head_part l v (Take i n) =
    found OutOfRange i.at (port_of i.text) >>= (λ p. stands v n >>= (λ b. Ok (takes p b.own)))

abbrev pub branch_count : Blocks → ℕ
branch_count Last = 0
branch_count (Also a bs) = suc (branch_count bs)

-- A simple statement. `var` brings one cell that is both own and home. A call brings the cells of its by-value parameters
-- and is followed by its procedure's block, which sees the parameters only.
abbrev pub unfold_simple : Reading → Callees → Env → Count → ℕ → Simple → Answer (Node × Count)
unfold_simple l f v n at (Var x) =
    brings n 0 1 at >>= (λ m. Ok (one at (record { home = n.cells; name = x } ∷ []) (rules.var n.cells), m))
unfold_simple l f v n at (Set x e) =
    brings n 0 0 at >>= (λ m. stands v x >>= (λ b. resolved l v e >>= (λ a. Ok (one at [] (rules.set b.own a), m))))
unfold_simple l f v n at (Next x) =
    brings n 0 0 at >>= (λ m. stands v x >>= (λ b. Ok (one at [] (rules.next b.own b.home), m)))
unfold_simple l f v n at (Know x) = brings n 0 0 at >>= (λ m. stands v x >>= (λ b. Ok (one at [] rules.know, m)))
unfold_simple l f v n at (Throw x) = brings n 0 0 at >>= (λ m. Ok (throws at x.text, m))
unfold_simple l f v n at (Call x as') =
    found NotVisible at (f x.text) >>= (λ c.
    passes v c.params as' n.cells >>= (λ p.
    brings n 0 (length p.news) at >>= (λ m.
    c.body p.env m >>= (λ r. Ok (two at p.news (calls p.copies p.refs) r.0 nil, r.1)))))

-- what names stand for after a statement: a `var` declares one more, to the end of its block
abbrev pub env_after : Env → Count → Stm → Env
env_after v n (One at (Var x)) = record { name = x.text; own = n.cells; home = n.cells } ∷ v
env_after v n (One at (Set x e)) = v
env_after v n (One at (Call x as')) = v
env_after v n (One at (Next x)) = v
env_after v n (One at (Know x)) = v
env_after v n (One at (Throw x)) = v
env_after v n (Two at h a b) = v
env_after v n (Par at bs) = v

-- A par brings its branches, and the new cells of all of them, before the statements inside bring theirs.
abbrev mutual
  pub unfold_stm : Reading → Callees → Env → Count → Stm → Answer (Node × Count)
  unfold_stm l f v n (One at s) = unfold_simple l f v n at s
  unfold_stm l f v n (Two at h a b) =
      brings n 0 0 at >>= (λ m. head_part l v h >>= (λ p. unfold_block l f a v m >>= (λ r. unfold_block l f b v r.1 >>= (λ s.
      Ok (two at [] p r.0 s.0, s.1)))))
  unfold_stm l f v n (Par at bs) =
      let gs = all_get (λ x. params_of (f x)) v bs n.cells in
      brings n (branch_count bs) (length (all_new gs)) at >>= (λ m. unfold_blocks l f bs gs m >>= (λ r.
      Ok (par at (all_new gs) r.0, r.1)))

  pub unfold_block : Reading → Callees → Block → Env → Count → Answer (Nodes × Count)
  unfold_block l f Nil v n = Ok (nil, n)
  unfold_block l f (Seq s b) v n =
      unfold_stm l f v n s >>= (λ r. unfold_block l f b (env_after v n s) r.1 >>= (λ t. Ok (seq r.0 t.0, t.1)))

  pub unfold_blocks : Reading → Callees → Blocks → List (List Got) → Count → Answer (Branches × Count)
  unfold_blocks l f Last gs n = Ok (last, n)
  unfold_blocks l f (Also a bs) [] n = Ok (last, n)
  unfold_blocks l f (Also a bs) (g ∷ gs) n =
      unfold_block l f a (got_env g) n >>= (λ r. unfold_blocks l f bs gs r.1 >>= (λ t. Ok (also g r.0 t.0, t.1)))

-- a procedure sees those before it: the list has the last one in front
abbrev pub callees : Reading → List Proc → Callees
callees l [] x = None
callees l (p ∷ ps) x =
    elim (same x p.name.text) [
      | true ↦ Some (record { params = p.params; body = λ v n. unfold_block l (λ y. callees l ps y) p.body v n })
      | false ↦ callees l ps x
    ]

-- the main block is place 0
abbrev pub unfolded : Reading → List Proc → Block → Answer Nodes
unfolded l ps b =
    unfold_block l (callees l ps) b [] (record { statements = 0; places = 1; cells = 0 }) >>= (λ r. Ok r.0)
