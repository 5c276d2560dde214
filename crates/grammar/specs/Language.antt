-- The grammar as a relation: a tree, the tokens that begin with it, and the tokens left.
-- `room` is how many brackets may still be opened; a relation over no room has no bracket in it.
use Rattle.std.specs.Prelude.{◌≡◌, ℕ, zero, suc, true, false, ◌↔◌, List, [], ◌∷◌, ◌++◌, Ok, Err, codes}
use Rattle.reader.specs.declared.fault.Fault.{Fault}
use Rattle.reader.specs.Tokens.{Lexeme, name, number, fixed, finish}
use Rattle.grammar.specs.Trees.{Name, Op, Same, Less, Plus, Minus, Times, Exp, Use, Number, Negated, Both, Var, Set, Call, Next, Know, Throw, Plain, If, While, Try, Take, Stm, One, Two, Par, Block, Nil, Seq, Blocks, Last, Also, Param, Proc, Tree}
use Rattle.grammar.specs.Parsers.{Tokens, here}
use Rattle.grammar.specs.Parsing.{parsed}

abbrev pub sign : List ℕ → ℕ → Lexeme
sign s at = record { class = fixed; text = s; at = at }

abbrev pub name_token : Name → Lexeme
name_token n = record { class = name; text = n.text; at = n.at }

abbrev pub number_token : Name → Lexeme
number_token n = record { class = number; text = n.text; at = n.at }

-- ---- expressions

pub data EqualSign : List ℕ → Op → Type 0 where
  same_sign : EqualSign (codes "==") Same

pub data LessSign : List ℕ → Op → Type 0 where
  less_sign : LessSign (codes "<") Less

pub data SumSign : List ℕ → Op → Type 0 where
  plus_sign : SumSign (codes "+") Plus
  minus_sign : SumSign (codes "-") Minus

pub data ProductSign : List ℕ → Op → Type 0 where
  times_sign : ProductSign (codes "*") Times

-- all operators group to the left
pub data Grouped (S : List ℕ → Op → Type 0) (R : Exp → Tokens → Tokens → Type 0) : Exp → Tokens → Tokens → Type 0 where
  alone : {e : Exp} {ts r : Tokens} → R e ts r → Grouped S R e ts r
  joins : {e f : Exp} {o : Op} {s : List ℕ} {at : ℕ} {ts a r : Tokens} → Grouped S R e ts (sign s at ∷ a) → S s o → R f a r → Grouped S R (Both o e f) ts r

-- a name, a number or a parenthesised expression
pub data Atomic (E : Exp → Tokens → Tokens → Type 0) : Exp → Tokens → Tokens → Type 0 where
  a_use : (n : Name) {r : Tokens} → Atomic E (Use n) (name_token n ∷ r) r
  a_literal : (n : Name) {r : Tokens} → Atomic E (Number n) (number_token n ∷ r) r
  bracketed : (o c : ℕ) {e : Exp} {ts r : Tokens} → E e ts (sign (codes ")") c ∷ r) → Atomic E e (sign (codes "(") o ∷ ts) r

-- with at most one - before it
pub data Operand (A : Exp → Tokens → Tokens → Type 0) : Exp → Tokens → Tokens → Type 0 where
  bare : {e : Exp} {ts r : Tokens} → A e ts r → Operand A e ts r
  minus : (at : ℕ) {e : Exp} {ts r : Tokens} → A e ts r → Operand A (Negated e) (sign (codes "-") at ∷ ts) r

-- ==, then <, then + and -, then *
abbrev pub ExpressionOver : (Exp → Tokens → Tokens → Type 0) → Exp → Tokens → Tokens → Type 0
ExpressionOver E = Grouped EqualSign (Grouped LessSign (Grouped SumSign (Grouped ProductSign (Operand (Atomic E)))))

abbrev pub Expression : ℕ → Exp → Tokens → Tokens → Type 0
Expression zero = ExpressionOver (λ e ts r. ⊥)
Expression (suc room) = ExpressionOver (Expression room)

-- ---- statements

pub data Parens (X : Tokens → Tokens → Type 0) : Tokens → Tokens → Type 0 where
  parens : (o c : ℕ) {ts r : Tokens} → X ts (sign (codes ")") c ∷ r) → Parens X (sign (codes "(") o ∷ ts) r

abbrev pub InRoom : ℕ → (ℕ → Tokens → Tokens → Type 0) → Tokens → Tokens → Type 0
InRoom zero X ts r = ⊥
InRoom (suc room) X ts r = Parens (X room) ts r

pub data NameIs (n : Name) : Tokens → Tokens → Type 0 where
  name_is : {r : Tokens} → NameIs n (name_token n ∷ r) r

pub data MoreNames : List Name → Tokens → Tokens → Type 0 where
  no_more : {r : Tokens} → MoreNames [] r r
  comma : (at : ℕ) (n : Name) {ns : List Name} {ts r : Tokens} → MoreNames ns ts r → MoreNames (n ∷ ns) (sign (codes ",") at ∷ name_token n ∷ ts) r

pub data Arguments : List Name → Tokens → Tokens → Type 0 where
  no_argument : {r : Tokens} → Arguments [] r r
  an_argument : (n : Name) {ns : List Name} {ts r : Tokens} → MoreNames ns ts r → Arguments (n ∷ ns) (name_token n ∷ ts) r

-- up to so many blocks
pub data UpTo (B : Block → Tokens → Tokens → Type 0) : ℕ → Blocks → Tokens → Tokens → Type 0 where
  enough : (n : ℕ) {r : Tokens} → UpTo B n Last r r
  another : (n : ℕ) {b : Block} {bs : Blocks} {ts a r : Tokens} → B b ts a → UpTo B n bs a r → UpTo B (suc n) (Also b bs) ts r

pub data Statement (B : Block → Tokens → Tokens → Type 0) (room : ℕ) : Stm → Tokens → Tokens → Type 0 where
  -- var v;
  s_var : (at c : ℕ) (v : Name) {r : Tokens} → Statement B room (One at (Var v)) (sign (codes "var") at ∷ name_token v ∷ sign (codes ";") c ∷ r) r
  -- v = e;
  s_set : (b c : ℕ) (v : Name) {e : Exp} {ts r : Tokens} → Expression room e ts (sign (codes ";") c ∷ r)
      → Statement B room (One v.at (Set v e)) (name_token v ∷ sign (codes "=") b ∷ ts) r
  -- p(a, b);
  s_call : (c : ℕ) (p : Name) {as' : List Name} {ts r : Tokens} → InRoom room (λ n. Arguments as') ts (sign (codes ";") c ∷ r)
      → Statement B room (One p.at (Call p as')) (name_token p ∷ ts) r
  -- next v; know v; throw E;
  s_next : (at c : ℕ) (v : Name) {r : Tokens} → Statement B room (One at (Next v)) (sign (codes "next") at ∷ name_token v ∷ sign (codes ";") c ∷ r) r
  s_know : (at c : ℕ) (v : Name) {r : Tokens} → Statement B room (One at (Know v)) (sign (codes "know") at ∷ name_token v ∷ sign (codes ";") c ∷ r) r
  s_throw : (at c : ℕ) (v : Name) {r : Tokens} → Statement B room (One at (Throw v)) (sign (codes "throw") at ∷ name_token v ∷ sign (codes ";") c ∷ r) r
  -- a plain block
  s_block : (at : ℕ) {b : Block} {ts r : Tokens} → B b (sign (codes "{") at ∷ ts) r → Statement B room (Two at Plain b Nil) (sign (codes "{") at ∷ ts) r
  -- if (e) block else block
  s_if : (at c : ℕ) {e : Exp} {a b : Block} {ts t u r : Tokens} → InRoom room (λ n. Expression n e) ts t → B a t (sign (codes "else") c ∷ u) → B b u r
      → Statement B room (Two at (If e) a b) (sign (codes "if") at ∷ ts) r
  -- while (e) block
  s_while : (at : ℕ) {e : Exp} {a : Block} {ts t r : Tokens} → InRoom room (λ n. Expression n e) ts t → B a t r
      → Statement B room (Two at (While e) a Nil) (sign (codes "while") at ∷ ts) r
  -- try block catch (E) block
  s_try : (at c : ℕ) (x : Name) {a b : Block} {ts t u r : Tokens} → B a ts (sign (codes "catch") c ∷ t) → InRoom room (λ n. NameIs x) t u → B b u r
      → Statement B room (Two at (Try x) a b) (sign (codes "try") at ∷ ts) r
  -- take n v else block
  s_take : (at c : ℕ) (i v : Name) {b : Block} {ts r : Tokens} → B b ts r
      → Statement B room (Two at (Take i v) b Nil) (sign (codes "take") at ∷ number_token i ∷ name_token v ∷ sign (codes "else") c ∷ ts) r
  -- par with two to eight blocks and ;
  s_par : (at c : ℕ) {a b : Block} {bs : Blocks} {ts t u r : Tokens} → B a ts t → B b t u → UpTo B 6 bs u (sign (codes ";") c ∷ r)
      → Statement B room (Par at (Also a (Also b bs))) (sign (codes "par") at ∷ ts) r

pub data Statements (S : Stm → Tokens → Tokens → Type 0) : Block → Tokens → Tokens → Type 0 where
  none_left : {r : Tokens} → Statements S Nil r r
  one_more : {s : Stm} {b : Block} {ts a r : Tokens} → S s ts a → Statements S b a r → Statements S (Seq s b) ts r

pub data Braces (L : Block → Tokens → Tokens → Type 0) : Block → Tokens → Tokens → Type 0 where
  braces : (o c : ℕ) {b : Block} {ts r : Tokens} → L b ts (sign (codes "}") c ∷ r) → Braces L b (sign (codes "{") o ∷ ts) r

abbrev pub BlockIs : ℕ → Block → Tokens → Tokens → Type 0
BlockIs zero b ts r = ⊥
BlockIs (suc room) b ts r = Braces (Statements (Statement (BlockIs room) room)) b ts r

-- ---- programs

pub data ParamIs : Param → Tokens → Tokens → Type 0 where
  p_value : (n : Name) {r : Tokens} → ParamIs (record { reference = false; name = n }) (name_token n ∷ r) r
  p_reference : (at : ℕ) (n : Name) {r : Tokens} → ParamIs (record { reference = true; name = n }) (sign (codes "&") at ∷ name_token n ∷ r) r

pub data MoreParams : ℕ → List Param → Tokens → Tokens → Type 0 where
  last_param : (n : ℕ) {r : Tokens} → MoreParams n [] r r
  next_param : (n at : ℕ) {p : Param} {ps : List Param} {ts a r : Tokens} → ParamIs p ts a → MoreParams n ps a r → MoreParams (suc n) (p ∷ ps) (sign (codes ",") at ∷ ts) r

-- up to eight
pub data Parameters : List Param → Tokens → Tokens → Type 0 where
  no_param : {r : Tokens} → Parameters [] r r
  a_param : {p : Param} {ps : List Param} {ts a r : Tokens} → ParamIs p ts a → MoreParams 7 ps a r → Parameters (p ∷ ps) ts r

-- parameters in parentheses, where so many brackets may be open
abbrev pub Listed : ℕ → List Param → Tokens → Tokens → Type 0
Listed room ps ts r = InRoom room (λ m. Parameters ps) ts r

pub data Procs (P : List Param → Tokens → Tokens → Type 0) (B : Block → Tokens → Tokens → Type 0) : List Proc → Tokens → Tokens → Type 0 where
  no_proc : {r : Tokens} → Procs P B [] r r
  a_proc : (at : ℕ) (n : Name) {ps : List Param} {b : Block} {qs : List Proc} {ts t u r : Tokens} → P ps ts t → B b t u → Procs P B qs u r
      → Procs P B (record { name = n; params = ps; body = b } ∷ qs) (sign (codes "proc") at ∷ name_token n ∷ ts) r

pub data Ends : Tokens → Type 0 where
  all_read : Ends []
  at_end : (w : List ℕ) (at : ℕ) (r : Tokens) → Ends (record { class = finish; text = w; at = at } ∷ r)

pub data ProgramOver (P : List Param → Tokens → Tokens → Type 0) (B : Block → Tokens → Tokens → Type 0) : Tree → Tokens → Type 0 where
  program : (at : ℕ) {ps : List Proc} {b : Block} {ts t r : Tokens} → Procs P B ps ts (sign (codes "main") at ∷ t) → B b t r → Ends r
      → ProgramOver P B (record { procs = ps; main = b }) ts

abbrev pub ProcsWithin : ℕ → List Proc → Tokens → Tokens → Type 0
ProcsWithin room = Procs (Listed room) (BlockIs room)

-- a text with at most so many brackets open at once
abbrev pub ProgramWithin : ℕ → Tree → Tokens → Type 0
ProgramWithin room = ProgramOver (Listed room) (BlockIs room)

-- a text of the language
abbrev pub ProgramIs : Tree → Tokens → Type 0
ProgramIs = ProgramWithin 16

-- ---- the theorem: a text is parsed to a tree exactly if the grammar gives it that tree, with at most 16 brackets open

abbrev pub ParsedExactly : Type 0
ParsedExactly = (ts : Tokens) (t : Tree) → (parsed ts ≡ Ok t) ↔ ProgramIs t ts

-- the refused token is the first that goes wrong: no derivable text begins as the text does up to it and with it
abbrev pub RefusedEarly : Type 0
RefusedEarly =
    (ts : Tokens) (x : Fault) → parsed ts ≡ Err x
    → (pre : Tokens) × (s : Tokens) × (ts ≡ pre ++ s) × ((here s).at ≡ x.offset) × ((s' : Tokens) (t : Tree) → here s' ≡ here s → ProgramIs t (pre ++ s') → ⊥)

-- The tokens before the refused one begin a text of the grammar, in which one bracket more may be open:
-- where 16 are open and the grammar wants a bracket next, as after `if`, there is no shorter way.
abbrev pub RefusedBegun : Type 0
RefusedBegun =
    (ts : Tokens) (x : Fault) → parsed ts ≡ Err x
    → (pre : Tokens) × (s : Tokens) × (ts ≡ pre ++ s) × ((here s).at ≡ x.offset) × ((r : Tokens) × (t : Tree) × ProgramWithin 17 t (pre ++ r))
