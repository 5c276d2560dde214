-- What the parsers of statements do depends only on the tokens up to the next one.
use Rattle.std.proofs.Common.{◌≡◌, ℕ, zero, suc, ◌<◌, Bool, true, false, not, List, [], ◌∷◌, length, Ok, codes, refl, ap, arith}
use Rattle.reader.specs.Faults.{◌>>=◌}
use Rattle.grammar.specs.Parsers.{if_so}
use Rattle.grammar.specs.Trees.{Name, Simple, Var, Set, Call, Next, Know, Throw, Plain, If, While, Try, Take, Stm, One, Two, Par, Block, Nil, Seq, Last, Also}
use Rattle.grammar.specs.Parsing as G
use Rattle.grammar.specs.Parsers.{Tokens, Parser, here, rest, is_name, is, bad, eat, as_name, a_name, a_number}
use Rattle.grammar.specs.Parsing.{in_parens, an_expression, more_names, arguments, of_name, more_blocks, statement, statements, block}
use Rattle.grammar.specs.Language.{BlockIs}
use Rattle.grammar.proofs.Levels.{if_true, if_false, a_name_is}
use Rattle.grammar.proofs.StatementGrammar.{statement_sound, statement_shrinks}
use Rattle.grammar.proofs.BlockGrammar.{blocks_sound, block_shrinks, block_less}
use Rattle.grammar.proofs.Locality.{Out, Local, bind_local, ok_local, bad_local, push, peek_local, take_local, tests, eat_local, FLocal, fuel_local, loop_local, end_token}
use Rattle.grammar.proofs.LocalExpressions.{name_local, number_local, no_room, parens_local, an_expression_local}

-- ---- names

pub not_true : (b : Bool) → not b ≡ true → b ≡ false
not_true true e = absurd (let z : ◌≡◌ {A = ℕ} 0 1 = cc in omega arith)
not_true false e = refl

pub not_false : (b : Bool) → not b ≡ false → b ≡ true
not_false true e = refl
not_false false e = absurd (let z : ◌≡◌ {A = ℕ} 0 1 = cc in omega arith)

pub name_less : (ts : Tokens) (x : Name × Tokens) → a_name (rest ts) ≡ Ok x → length x.1 < length ts
name_less [] x e = let i = ap (λ w. length w) (a_name_is [] x e) in absurd (omega arith)
name_less (t ∷ u) x e = let i = ap (λ w. length w) (a_name_is u x e) in omega arith

-- a parser after a token that is there
pub rest_out : {A : Type 0} (w : List ℕ) (p : Parser A) → Local p → (ts : Tokens) → not (tests w (here ts)) ≡ false → Out (λ ts. p (rest ts)) ts (p (rest ts))
rest_out w p lp [] e = absurd (let z : ◌≡◌ {A = ℕ} 0 1 = cc in omega arith)
rest_out w p lp (t ∷ u) e = push (λ ts. p (rest ts)) p t u (p u) (λ v. refl) (lp u)

more_names_local : FLocal more_names
more_names_local =
    loop_local more_names (λ t. not (tests (codes ",") t)) (λ ts. a_name (rest ts)) [] (λ x y. x ∷ y)
    (λ n ts e. if_false (is (codes ",") ts) (λ u. a_name (rest ts) >>= (λ r. more_names n r.1 >>= (λ s. Ok (r.0 ∷ s.0, s.1)))) (λ u. Ok ([], ts)) (not_true (is (codes ",") ts) e))
    (λ n ts e. if_true (is (codes ",") ts) (λ u. a_name (rest ts) >>= (λ r. more_names n r.1 >>= (λ s. Ok (r.0 ∷ s.0, s.1)))) (λ u. Ok ([], ts)) (not_false (is (codes ",") ts) e))
    (rest_out (codes ",") a_name name_local) name_less

arguments_local : Local arguments
arguments_local =
    peek_local (tests (codes ")")) (λ t ts. Ok ([], ts)) (λ ts. a_name ts >>= (λ r. more_names (suc (length r.1)) r.1 >>= (λ s. Ok (r.0 ∷ s.0, s.1)))) (λ t. ok_local [])
    (bind_local a_name (λ v ts. more_names (suc (length ts)) ts >>= (λ s. Ok (v ∷ s.0, s.1))) name_local (λ v.
    bind_local (λ ts. more_names (suc (length ts)) ts) (λ vs ts. Ok (v ∷ vs, ts)) (fuel_local more_names more_names_local) (λ vs. ok_local (v ∷ vs))))

-- ---- statements

module _ (p : Parser Block) (lp : Local p) (room : ℕ) where
  of_name_local : (at : ℕ) (f : Name → Simple) → Local (of_name at f)
  of_name_local at f = bind_local a_name (λ v ts. eat (codes ";") ts >>= (λ t. Ok (One at (f v), t))) name_local (λ v. eat_local (codes ";") (λ t. Ok (One at (f v), t)) (ok_local (One at (f v))))

  more_blocks_local : (n : ℕ) → Local (more_blocks p n)
  more_blocks_local zero = ok_local Last
  more_blocks_local (suc n) =
      peek_local (tests (codes "{")) (λ t ts. p ts >>= (λ r. more_blocks p n r.1 >>= (λ s. Ok (Also r.0 s.0, s.1)))) (λ ts. Ok (Last, ts))
      (λ t. bind_local p (λ b ts. more_blocks p n ts >>= (λ s. Ok (Also b s.0, s.1))) lp (λ b. bind_local (more_blocks p n) (λ bs ts. Ok (Also b bs, ts)) (more_blocks_local n) (λ bs. ok_local (Also b bs)))) (ok_local Last)

  named_local : (v : Name) → Local (G.named room v)
  named_local v =
      take_local (tests (codes "=")) (λ t. G.a_set room v) (G.a_call room v) refl
      (λ t. bind_local (an_expression room) (λ e ts. eat (codes ";") ts >>= (λ t. Ok (One v.at (Set v e), t))) (an_expression_local room) (λ e. eat_local (codes ";") (λ t. Ok (One v.at (Set v e), t)) (ok_local (One v.at (Set v e)))))
      (bind_local (in_parens room (λ n. arguments)) (λ a ts. eat (codes ";") ts >>= (λ t. Ok (One v.at (Call v a), t))) (parens_local room (λ n. arguments) (λ n. arguments_local)) (λ a.
      eat_local (codes ";") (λ t. Ok (One v.at (Call v a), t)) (ok_local (One v.at (Call v a)))))

  par_local : (at : ℕ) → Local (G.a_par p at)
  par_local at =
      bind_local p (λ a ts. p ts >>= (λ b. more_blocks p 6 b.1 >>= (λ m. eat (codes ";") m.1 >>= (λ t. Ok (Par at (Also a (Also b.0 m.0)), t))))) lp (λ a.
      bind_local p (λ b ts. more_blocks p 6 ts >>= (λ m. eat (codes ";") m.1 >>= (λ t. Ok (Par at (Also a (Also b m.0)), t)))) lp (λ b.
      bind_local (more_blocks p 6) (λ m ts. eat (codes ";") ts >>= (λ t. Ok (Par at (Also a (Also b m)), t))) (more_blocks_local 6) (λ m.
      eat_local (codes ";") (λ t. Ok (Par at (Also a (Also b m)), t)) (ok_local (Par at (Also a (Also b m)))))))

  if_local : (at : ℕ) → Local (G.an_if p room at)
  if_local at =
      bind_local (in_parens room (λ n. an_expression n)) (λ e ts. p ts >>= (λ a. eat (codes "else") a.1 >>= (λ t. p t >>= (λ b. Ok (Two at (If e) a.0 b.0, b.1))))) (parens_local room (λ n. an_expression n) an_expression_local) (λ e.
      bind_local p (λ a ts. eat (codes "else") ts >>= (λ t. p t >>= (λ b. Ok (Two at (If e) a b.0, b.1)))) lp (λ a.
      eat_local (codes "else") (λ t. p t >>= (λ b. Ok (Two at (If e) a b.0, b.1))) (bind_local p (λ b ts. Ok (Two at (If e) a b, ts)) lp (λ b. ok_local (Two at (If e) a b)))))

  while_local : (at : ℕ) → Local (G.a_while p room at)
  while_local at =
      bind_local (in_parens room (λ n. an_expression n)) (λ e ts. p ts >>= (λ a. Ok (Two at (While e) a.0 Nil, a.1))) (parens_local room (λ n. an_expression n) an_expression_local) (λ e.
      bind_local p (λ a ts. Ok (Two at (While e) a Nil, ts)) lp (λ a. ok_local (Two at (While e) a Nil)))

  try_local : (at : ℕ) → Local (G.a_try p room at)
  try_local at =
      bind_local p (λ a ts. eat (codes "catch") ts >>= (λ t. in_parens room (λ n. a_name) t >>= (λ x. p x.1 >>= (λ b. Ok (Two at (Try x.0) a b.0, b.1))))) lp (λ a.
      eat_local (codes "catch") (λ t. in_parens room (λ n. a_name) t >>= (λ x. p x.1 >>= (λ b. Ok (Two at (Try x.0) a b.0, b.1))))
      (bind_local (in_parens room (λ n. a_name)) (λ x ts. p ts >>= (λ b. Ok (Two at (Try x) a b.0, b.1))) (parens_local room (λ n. a_name) (λ n. name_local)) (λ x.
      bind_local p (λ b ts. Ok (Two at (Try x) a b, ts)) lp (λ b. ok_local (Two at (Try x) a b)))))

  take_stm_local : (at : ℕ) → Local (G.a_take p at)
  take_stm_local at =
      bind_local a_number (λ i ts. a_name ts >>= (λ v. eat (codes "else") v.1 >>= (λ t. p t >>= (λ b. Ok (Two at (Take i v.0) b.0 Nil, b.1))))) number_local (λ i.
      bind_local a_name (λ v ts. eat (codes "else") ts >>= (λ t. p t >>= (λ b. Ok (Two at (Take i v) b.0 Nil, b.1)))) name_local (λ v.
      eat_local (codes "else") (λ t. p t >>= (λ b. Ok (Two at (Take i v) b.0 Nil, b.1))) (bind_local p (λ b ts. Ok (Two at (Take i v) b Nil, ts)) lp (λ b. ok_local (Two at (Take i v) b Nil)))))

  block_stm_local : (at : ℕ) → Local (G.a_block p at)
  block_stm_local at = bind_local p (λ b ts. Ok (Two at Plain b Nil, ts)) lp (λ b. ok_local (Two at Plain b Nil))

  way : (w : List ℕ) (f : ℕ → Parser Stm) (q : Parser Stm) → tests w end_token ≡ false → ((at : ℕ) → Local (f at)) → Local q → Local (λ ts. if_so (is w ts) (λ u. f (here ts).at (rest ts)) (λ u. q ts))
  way w f q e lf lq = take_local (tests w) (λ t. f t.at) q e (λ t. lf t.at) lq

  pub statement_local : Local (statement p room)
  statement_local =
      take_local (λ t. is_name t.class) (λ t. G.named room (as_name t)) _ refl (λ t. named_local (as_name t))
      (peek_local (tests (codes "{")) (λ t ts. G.a_block p t.at ts) _ (λ t. block_stm_local t.at)
      (way (codes "var") (λ at. of_name at Var) _ refl (λ at. of_name_local at Var)
      (way (codes "next") (λ at. of_name at Next) _ refl (λ at. of_name_local at Next)
      (way (codes "know") (λ at. of_name at Know) _ refl (λ at. of_name_local at Know)
      (way (codes "throw") (λ at. of_name at Throw) _ refl (λ at. of_name_local at Throw)
      (way (codes "if") (λ at. G.an_if p room at) _ refl if_local
      (way (codes "while") (λ at. G.a_while p room at) _ refl while_local
      (way (codes "try") (λ at. G.a_try p room at) _ refl try_local
      (way (codes "take") (λ at. G.a_take p at) _ refl take_stm_local
      (way (codes "par") (λ at. G.a_par p at) (λ ts. bad ts) refl par_local bad_local))))))))))

statements_local : (room : ℕ) → Local (λ u. block room u) → FLocal (λ n. statements (statement (λ u. block room u) room) n)
statements_local room lb =
    let q = statement (λ u. block room u) room in
    loop_local (λ n. statements q n) (tests (codes "}")) q Nil (λ s b. Seq s b)
    (λ n ts e. if_true (is (codes "}") ts) (λ u. Ok (Nil, ts)) (λ u. q ts >>= (λ s. statements q n s.1 >>= (λ b. Ok (Seq s.0 b.0, b.1)))) e)
    (λ n ts e. if_false (is (codes "}") ts) (λ u. Ok (Nil, ts)) (λ u. q ts >>= (λ s. statements q n s.1 >>= (λ b. Ok (Seq s.0 b.0, b.1)))) e)
    (λ ts e. statement_local (λ u. block room u) lb room ts)
    (λ ts x e. (statement_shrinks (BlockIs room) (λ u. block room u) room (block_shrinks room) (block_less room) x.0 ts x.1
    (statement_sound (BlockIs room) (λ u. block room u) room (blocks_sound room) ts x e)).1)

pub block_local : (room : ℕ) → Local (λ u. block room u)
block_local zero = no_room Block (codes "{")
block_local (suc room) =
    let q = statement (λ u. block room u) room in
    eat_local (codes "{") (λ t. statements q (suc (length t)) t >>= (λ b. eat (codes "}") b.1 >>= (λ u. Ok (b.0, u))))
    (bind_local (λ t. statements q (suc (length t)) t) (λ b ts. eat (codes "}") ts >>= (λ u. Ok (b, u))) (fuel_local (λ n. statements q n) (statements_local room (block_local room))) (λ b.
    eat_local (codes "}") (λ u. Ok (b, u)) (ok_local b)))
