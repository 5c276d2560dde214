-- The second stage of clearing: tokens to the tree, by recursive descent.
use Rattle.std.specs.Prelude.{ℕ, zero, suc, Bool, true, false, cond, List, [], ◌∷◌, length, Ok, codes}
use Rattle.std.proofs.Math.Option.{Option, some, none}
use Rattle.reader.specs.Faults.{Answer, ◌>>=◌, refuse}
use Rattle.reader.specs.declared.fault.Cause.TheVariants.{TooDeep}
use Rattle.grammar.specs.Trees.{Name, Op, Same, Less, Plus, Minus, Times, Exp, Use, Number, Negated, Both, Simple, Var, Set, Call, Next, Know, Throw, Plain, If, While, Try, Take, Stm, One, Two, Par, Block, Nil, Seq, Blocks, Last, Also, Param, Proc, Tree}
use Rattle.grammar.specs.Parsers.{if_so, Parser, Tokens, a_name, a_number, as_name, bad, eat, here, is, is_finish, is_name, is_number, opening, rest}

-- ---- expressions

abbrev pub Signs : Type 0
Signs = List (List ℕ × Op)

abbrev pub op_here : Signs → Tokens → Option Op
op_here [] ts = none
op_here (o ∷ os) ts = cond (is o.0 ts) (some o.1) (op_here os ts)

-- all operators group to the left; n is more than the number of tokens left
abbrev pub chain : Signs → Parser Exp → ℕ → Exp → Parser Exp
chain os p zero a ts = bad ts
chain os p (suc n) a ts =
    elim (op_here os ts) [ none ↦ Ok (a, ts) | some o ↦ p (rest ts) >>= (λ r. chain os p n (Both o a r.0) r.1) ]

abbrev pub level : Signs → Parser Exp → Parser Exp
level os p ts = p ts >>= (λ r. chain os p (suc (length r.1)) r.0 r.1)

abbrev pub equals : Signs
equals = (codes "==", Same) ∷ []

abbrev pub lesses : Signs
lesses = (codes "<", Less) ∷ []

abbrev pub sums : Signs
sums = (codes "+", Plus) ∷ (codes "-", Minus) ∷ []

abbrev pub products : Signs
products = (codes "*", Times) ∷ []

-- loosest first
abbrev pub expression : Parser Exp → Parser Exp
expression p = level equals (level lesses (level sums (level products p)))

abbrev pub negated : Parser Exp → Parser Exp
negated p ts = if_so (is (codes "-") ts) (λ u. p (rest ts) >>= (λ r. Ok (Negated r.0, r.1))) (λ u. p ts)

-- what stands in parentheses, and the closing one
abbrev pub closed : {A : Type 0} → Parser A → Parser A
closed p ts = p ts >>= (λ r. eat (codes ")") r.1 >>= (λ t. Ok (r.0, t)))

abbrev pub in_parens : {A : Type 0} → ℕ → (ℕ → Parser A) → Parser A
in_parens room p ts = opening room (codes "(") ts (λ n t. closed (p n) t)

abbrev pub simple_atom : (Tokens → Answer (Exp × Tokens)) → Parser Exp
simple_atom p ts =
    if_so (is_name (here ts).class) (λ u. Ok (Use (as_name (here ts)), rest ts)) (λ u.
    if_so (is_number (here ts).class) (λ w. Ok (Number (as_name (here ts)), rest ts)) (λ w. p ts))

abbrev pub atom : ℕ → Parser Exp
atom zero ts = simple_atom (λ u. eat (codes "(") u >>= (λ r. refuse TooDeep (here u).at)) ts
atom (suc room) ts = simple_atom (λ u. eat (codes "(") u >>= (λ r. closed (expression (negated (λ w. atom room w))) r)) ts

abbrev pub an_expression : ℕ → Parser Exp
an_expression room = expression (negated (λ w. atom room w))

-- ---- statements

abbrev pub more_names : ℕ → Parser (List Name)
more_names zero ts = bad ts
more_names (suc n) ts =
    if_so (is (codes ",") ts) (λ u. a_name (rest ts) >>= (λ r. more_names n r.1 >>= (λ s. Ok (r.0 ∷ s.0, s.1)))) (λ u. Ok ([], ts))

abbrev pub arguments : Parser (List Name)
arguments ts =
    if_so (is (codes ")") ts) (λ u. Ok ([], ts))
    (λ u. a_name ts >>= (λ r. more_names (suc (length r.1)) r.1 >>= (λ s. Ok (r.0 ∷ s.0, s.1))))

abbrev pub of_name : ℕ → (Name → Simple) → Parser Stm
of_name at f ts = a_name ts >>= (λ r. eat (codes ";") r.1 >>= (λ t. Ok (One at (f r.0), t)))

abbrev pub more_blocks : Parser Block → ℕ → Parser Blocks
more_blocks p zero ts = Ok (Last, ts)
more_blocks p (suc n) ts =
    if_so (is (codes "{") ts) (λ u. p ts >>= (λ r. more_blocks p n r.1 >>= (λ s. Ok (Also r.0 s.0, s.1)))) (λ u. Ok (Last, ts))

abbrev pub a_set : ℕ → Name → Parser Stm
a_set room v ts = an_expression room ts >>= (λ e. eat (codes ";") e.1 >>= (λ t. Ok (One v.at (Set v e.0), t)))

abbrev pub a_call : ℕ → Name → Parser Stm
a_call room v ts = in_parens room (λ n. arguments) ts >>= (λ a. eat (codes ";") a.1 >>= (λ t. Ok (One v.at (Call v a.0), t)))

abbrev pub named : ℕ → Name → Parser Stm
named room v ts = if_so (is (codes "=") ts) (λ u. a_set room v (rest ts)) (λ u. a_call room v ts)

abbrev pub a_par : Parser Block → ℕ → Parser Stm
a_par p at ts =
    p ts >>= (λ a. p a.1 >>= (λ b. more_blocks p 6 b.1 >>= (λ m.
    eat (codes ";") m.1 >>= (λ t. Ok (Par at (Also a.0 (Also b.0 m.0)), t)))))

abbrev pub an_if : Parser Block → ℕ → ℕ → Parser Stm
an_if p room at ts =
    in_parens room (λ n. an_expression n) ts >>= (λ e. p e.1 >>= (λ a. eat (codes "else") a.1 >>= (λ t.
    p t >>= (λ b. Ok (Two at (If e.0) a.0 b.0, b.1)))))

abbrev pub a_while : Parser Block → ℕ → ℕ → Parser Stm
a_while p room at ts =
    in_parens room (λ n. an_expression n) ts >>= (λ e. p e.1 >>= (λ a. Ok (Two at (While e.0) a.0 Nil, a.1)))

abbrev pub a_try : Parser Block → ℕ → ℕ → Parser Stm
a_try p room at ts =
    p ts >>= (λ a. eat (codes "catch") a.1 >>= (λ t. in_parens room (λ n. a_name) t >>= (λ x.
    p x.1 >>= (λ b. Ok (Two at (Try x.0) a.0 b.0, b.1)))))

abbrev pub a_take : Parser Block → ℕ → Parser Stm
a_take p at ts =
    a_number ts >>= (λ i. a_name i.1 >>= (λ v. eat (codes "else") v.1 >>= (λ t.
    p t >>= (λ b. Ok (Two at (Take i.0 v.0) b.0 Nil, b.1)))))

abbrev pub a_block : Parser Block → ℕ → Parser Stm
a_block p at ts = p ts >>= (λ b. Ok (Two at Plain b.0 Nil, b.1))

-- a way to go on, if its test passes
abbrev pub Way : Type 0 → Type 0
Way A = Bool × (Unit {0} → Answer A)

abbrev pub first_of : {A : Type 0} → List (Way A) → Answer A → Answer A
first_of [] d = d
first_of (w ∷ ws) d = if_so w.0 w.1 (λ u. first_of ws d)

-- the statements, by their first tokens; blocks are read by p
abbrev pub ways : Parser Block → ℕ → Tokens → List (Way (Stm × Tokens))
ways p room ts =
    let at = (here ts).at in
    let r = rest ts in
    (is_name (here ts).class, λ u. named room (as_name (here ts)) r)
    ∷ (is (codes "{") ts, λ u. a_block p at ts)
    ∷ (is (codes "var") ts, λ u. of_name at Var r)
    ∷ (is (codes "next") ts, λ u. of_name at Next r)
    ∷ (is (codes "know") ts, λ u. of_name at Know r)
    ∷ (is (codes "throw") ts, λ u. of_name at Throw r)
    ∷ (is (codes "if") ts, λ u. an_if p room at r)
    ∷ (is (codes "while") ts, λ u. a_while p room at r)
    ∷ (is (codes "try") ts, λ u. a_try p room at r)
    ∷ (is (codes "take") ts, λ u. a_take p at r)
    ∷ (is (codes "par") ts, λ u. a_par p at r)
    ∷ []

abbrev pub statement : Parser Block → ℕ → Parser Stm
statement p room ts = first_of (ways p room ts) (bad ts)

abbrev pub statements : Parser Stm → ℕ → Parser Block
statements p zero ts = bad ts
statements p (suc n) ts =
    if_so (is (codes "}") ts) (λ u. Ok (Nil, ts)) (λ u. p ts >>= (λ s. statements p n s.1 >>= (λ b. Ok (Seq s.0 b.0, b.1))))

abbrev pub block : ℕ → Parser Block
block zero ts = eat (codes "{") ts >>= (λ r. refuse TooDeep (here ts).at)
block (suc room) ts =
    eat (codes "{") ts >>= (λ t.
    statements (statement (λ u. block room u) room) (suc (length t)) t >>= (λ b.
    eat (codes "}") b.1 >>= (λ u. Ok (b.0, u))))

-- ---- programs

abbrev pub a_param : Parser Param
a_param ts =
    if_so (is (codes "&") ts) (λ u. a_name (rest ts) >>= (λ r. Ok (record { reference = true; name = r.0 }, r.1)))
    (λ u. a_name ts >>= (λ r. Ok (record { reference = false; name = r.0 }, r.1)))

abbrev pub more_params : ℕ → Parser (List Param)
more_params zero ts = Ok ([], ts)
more_params (suc n) ts =
    if_so (is (codes ",") ts) (λ u. a_param (rest ts) >>= (λ r. more_params n r.1 >>= (λ s. Ok (r.0 ∷ s.0, s.1)))) (λ u. Ok ([], ts))

abbrev pub parameters : Parser (List Param)
parameters ts =
    if_so (is (codes ")") ts) (λ u. Ok ([], ts)) (λ u. a_param ts >>= (λ r. more_params 7 r.1 >>= (λ s. Ok (r.0 ∷ s.0, s.1))))

abbrev pub a_proc : Parser Proc
a_proc ts =
    a_name ts >>= (λ v. in_parens 16 (λ n. parameters) v.1 >>= (λ ps. block 16 ps.1 >>= (λ b.
    Ok (record { name = v.0; params = ps.0; body = b.0 }, b.1))))

abbrev pub procedures : ℕ → Parser (List Proc)
procedures zero ts = bad ts
procedures (suc n) ts =
    if_so (is (codes "proc") ts) (λ u. a_proc (rest ts) >>= (λ p. procedures n p.1 >>= (λ ps. Ok (p.0 ∷ ps.0, ps.1)))) (λ u. Ok ([], ts))

abbrev pub finished : Tokens → List Proc → Block → Answer Tree
finished ts ps b = if_so (is_finish (here ts).class) (λ u. Ok (record { procs = ps; main = b })) (λ u. bad ts)

abbrev pub parsed : Tokens → Answer Tree
parsed ts =
    procedures (suc (length ts)) ts >>= (λ ps. eat (codes "main") ps.1 >>= (λ t. block 16 t >>= (λ b. finished b.1 ps.0 b.0)))
