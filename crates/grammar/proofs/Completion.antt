-- Statements, blocks and texts can be completed where they are refused.
use Rattle.std.proofs.Common.{◌≡◌, ℕ, zero, suc, ◌<◌, Bool, true, false, T, ◌⊎◌, List, [], ◌∷◌, length, Ok, Err, codes, sym, refl, ap, subst, inl, inr, arith}
use Rattle.lemmas.proofs.Tests.{T_at, T_true}
use Rattle.reader.specs.declared.fault.Cause.TheVariants.{NotAllowed, TooDeep}
use Rattle.reader.specs.Faults.{Answer, ◌>>=◌, refuse}
use Rattle.grammar.specs.Trees.{Name, Simple, Var, Set, Call, Next, Know, Throw, Plain, If, While, Try, Take, Stm, One, Two, Par, Block, Nil, Seq, Blocks, Last, Also}
use Rattle.grammar.specs.Parsers.{Tokens, Parser, here, rest, if_so, is, is_name, bad, eat, as_name, a_name, a_number}
use Rattle.grammar.specs.Parsing as G
use Rattle.grammar.specs.Parsing.{in_parens, an_expression, arguments, of_name, more_blocks, statement, statements, block}
use Rattle.grammar.specs.Language.{sign, name_token, Expression, NameIs, name_is, Arguments, UpTo, enough, another, Statement, s_var, s_set, s_call, s_next, s_know, s_throw, s_block, s_if, s_while, s_try, s_take, s_par, Statements, none_left, one_more, braces, BlockIs}
use Rattle.grammar.proofs.Levels.{sign_is, name_here}
use Rattle.grammar.proofs.StatementGrammar.{statement_shrinks}
use Rattle.grammar.proofs.BlockGrammar.{block_shrinks, block_less}
use Rattle.grammar.proofs.Fine.{Reading, Fine, Good, Some, after, weaken, stop_fine, ok_fine, eat_fine, deep_fine, Then, then_is, Sign, sign_then, Mapped, mapped, Done, done, then_some, sign_some, mapped_some, then_fine, sign_fine, mapped_fine, last_some, last_fine, any_name, NumberIs, number_is, name_some, name_fine, number_fine}
use Rattle.grammar.proofs.Begun.{Within, parens_some, expression_some, expression_fine, test_fine, caught_fine, called_fine}

-- a choice among ways
abbrev AllFine : Reading Stm → Tokens → List (G.Way (Stm × Tokens)) → Type 0
AllFine R ts [] = Unit {0}
AllFine R ts (w ∷ ws) = (T w.0 → Fine R ts (w.1 tt)) × AllFine R ts ws

first_fine : (R : Reading Stm) (ts : Tokens) (ws : List (G.Way (Stm × Tokens))) (d : Answer (Stm × Tokens)) → AllFine R ts ws → Fine R ts d → Fine R ts (G.first_of ws d)
first_fine R ts [] d h o = o
first_fine R ts (w ∷ ws) d h o = go w.0 refl (first_fine R ts ws d h.1 o)
  where
    go : (b : Bool) → w.0 ≡ b → Fine R ts (G.first_of ws d) → Fine R ts (if_so b w.1 (λ u. G.first_of ws d))
    go true e f = h.0 (T_at (sym e) tt)
    go false e f = f

-- a block after its brace, or no room for the brace
abbrev Opened : Parser Block → Reading Block → Tokens → Type 0
Opened p B ts = Fine (λ b t v. B b (sign (codes "{") (here ts).at ∷ t) v) (rest ts) (p ts) ⊎ (p ts ≡ refuse TooDeep (here ts).at)

module _ (room : ℕ) (p : Parser Block) (B : Reading Block) (g : Good p B) (opens : (ts : Tokens) → T (is (codes "{") ts) → Opened p B ts) (bs : Some B) where
  abbrev S : Reading Stm
  S s t v = Statement B (suc room) s t v

  statement_some : Some S
  statement_some = (sign (codes "var") 0 ∷ name_token any_name ∷ sign (codes ";") 0 ∷ [], One 0 (Var any_name), λ k. s_var 0 0 any_name)

  -- a statement that begins with a word
  word_fine : (w : List ℕ) (Q : Reading Stm) (body : Parser Stm) → Good body Q → (ts : Tokens) → T (is w ts) → ((s : Stm) (t v : Tokens) → Q s t v → S s (sign w (here ts).at ∷ t) v) → Fine S ts (body (rest ts))
  word_fine w Q body f ts h j = after Q S ts (sign w (here ts).at ∷ []) (rest ts) (body (rest ts)) (sign_is w ts h) j (f (rest ts))

  -- a name and ;
  abbrev Ended : ℕ → (Name → Simple) → Reading Stm
  Ended at f = Then NameIs (λ n. Sign (codes ";") (Done (One at (f n))))

  ended_fine : (at : ℕ) (f : Name → Simple) → Good (of_name at f) (Ended at f)
  ended_fine at f ts =
      then_fine NameIs (λ n. Sign (codes ";") (Done (One at (f n)))) (a_name ts) (λ n u. eat (codes ";") u >>= (λ t. Ok (One at (f n), t))) ts (λ n. last_some (codes ";") (One at (f n))) (name_fine ts)
      (λ x e. last_fine (codes ";") (One at (f x.0)) x.1)

  var_is : (at : ℕ) (s : Stm) (t v : Tokens) → Ended at Var s t v → S s (sign (codes "var") at ∷ t) v
  var_is at s t v (then_is {a = n} name_is (sign_then c done)) = s_var at c n

  next_is : (at : ℕ) (s : Stm) (t v : Tokens) → Ended at Next s t v → S s (sign (codes "next") at ∷ t) v
  next_is at s t v (then_is {a = n} name_is (sign_then c done)) = s_next at c n

  know_is : (at : ℕ) (s : Stm) (t v : Tokens) → Ended at Know s t v → S s (sign (codes "know") at ∷ t) v
  know_is at s t v (then_is {a = n} name_is (sign_then c done)) = s_know at c n

  throw_is : (at : ℕ) (s : Stm) (t v : Tokens) → Ended at Throw s t v → S s (sign (codes "throw") at ∷ t) v
  throw_is at s t v (then_is {a = n} name_is (sign_then c done)) = s_throw at c n

  -- ---- a name first

  abbrev Sets : Name → Reading Stm
  Sets n = Then (Expression (suc room)) (λ e. Sign (codes ";") (Done (One n.at (Set n e))))

  set_fine : (n : Name) → Good (G.a_set room n) (Sets n)
  set_fine n ts =
      then_fine (Expression (suc room)) (λ e. Sign (codes ";") (Done (One n.at (Set n e)))) (an_expression room ts) (λ e u. eat (codes ";") u >>= (λ t. Ok (One n.at (Set n e), t))) ts
      (λ e. last_some (codes ";") (One n.at (Set n e))) (expression_fine room ts) (λ x q. last_fine (codes ";") (One n.at (Set n x.0)) x.1)

  set_some : (n : Name) → Some (Sets n)
  set_some n = then_some (Expression (suc room)) (λ e. Sign (codes ";") (Done (One n.at (Set n e)))) (expression_some (suc room)) (λ e. last_some (codes ";") (One n.at (Set n e)))

  abbrev Calls : Name → Reading Stm
  Calls n = Then (Within room (λ k ns. Arguments ns)) (λ ns. Sign (codes ";") (Done (One n.at (Call n ns))))

  call_fine : (n : Name) → Good (G.a_call room n) (Calls n)
  call_fine n ts =
      then_fine (Within room (λ k ns. Arguments ns)) (λ ns. Sign (codes ";") (Done (One n.at (Call n ns)))) (in_parens room (λ k. arguments) ts) (λ ns u. eat (codes ";") u >>= (λ t. Ok (One n.at (Call n ns), t))) ts
      (λ ns. last_some (codes ";") (One n.at (Call n ns))) (called_fine room ts) (λ x q. last_fine (codes ";") (One n.at (Call n x.0)) x.1)

  set_is : (n : Name) (at : ℕ) (s : Stm) (t v : Tokens) → Sets n s t v → S s (name_token n ∷ sign (codes "=") at ∷ t) v
  set_is n at s t v (then_is h (sign_then c done)) = s_set at c n h

  call_is : (n : Name) (s : Stm) (t v : Tokens) → Calls n s t v → S s (name_token n ∷ t) v
  call_is n s t v (then_is h (sign_then c done)) = s_call c n h

  named_fine : (n : Name) → Good (G.named room n) (λ s t v. S s (name_token n ∷ t) v)
  named_fine n ts = go (is (codes "=") ts) refl
    where
      go : (b : Bool) → is (codes "=") ts ≡ b → Fine (λ s t v. S s (name_token n ∷ t) v) ts (if_so b (λ u. G.a_set room n (rest ts)) (λ u. G.a_call room n ts))
      go true e =
          after (Sets n) (λ s t v. S s (name_token n ∷ t) v) ts (sign (codes "=") (here ts).at ∷ []) (rest ts) (G.a_set room n (rest ts)) (sign_is (codes "=") ts (T_at (sym e) tt))
          (λ s t v q. set_is n (here ts).at s t v q) (set_fine n (rest ts))
      go false e = weaken (Calls n) (λ s t v. S s (name_token n ∷ t) v) ts (G.a_call room n ts) (call_is n) (call_fine n ts)

  name_first : (ts : Tokens) → T (is_name (here ts).class) → Fine S ts (G.named room (as_name (here ts)) (rest ts))
  name_first ts h =
      after (λ s t v. S s (name_token (as_name (here ts)) ∷ t) v) S ts (name_token (as_name (here ts)) ∷ []) (rest ts) (G.named room (as_name (here ts)) (rest ts)) (name_here ts h) (λ s t v q. q)
      (named_fine (as_name (here ts)) (rest ts))

  -- ---- statements with blocks

  plain_is : (at : ℕ) (s : Stm) (t v : Tokens) → Mapped (λ b. Two at Plain b Nil) (λ b t v. B b (sign (codes "{") at ∷ t) v) s t v → S s (sign (codes "{") at ∷ t) v
  plain_is at s t v (mapped h) = s_block at h

  block_first : (ts : Tokens) → T (is (codes "{") ts) → Fine S ts (G.a_block p (here ts).at ts)
  block_first ts h =
      elim (opens ts h) [
        | inl o ↦
            after (Mapped (λ b. Two (here ts).at Plain b Nil) (λ b t v. B b (sign (codes "{") (here ts).at ∷ t) v)) S ts (sign (codes "{") (here ts).at ∷ []) (rest ts) (G.a_block p (here ts).at ts)
            (sign_is (codes "{") ts h) (λ s t v q. plain_is (here ts).at s t v q) (mapped_fine (λ b t v. B b (sign (codes "{") (here ts).at ∷ t) v) (λ b. Two (here ts).at Plain b Nil) (p ts) (rest ts) o)
        | inr e ↦ subst (λ (m : Answer (Block × Tokens)). Fine S ts (m >>= (λ b. Ok (Two (here ts).at Plain b.0 Nil, b.1)))) (sym e) (stop_fine TooDeep S ts statement_some)
      ]

  abbrev Ifs : ℕ → Reading Stm
  Ifs at = Then (Within room Expression) (λ e. Then B (λ a. Sign (codes "else") (Mapped (Two at (If e) a) B)))

  if_fine : (at : ℕ) → Good (G.an_if p room at) (Ifs at)
  if_fine at ts =
      then_fine (Within room Expression) (λ e. Then B (λ a. Sign (codes "else") (Mapped (Two at (If e) a) B))) (in_parens room (λ n. an_expression n) ts)
      (λ e u. p u >>= (λ a. eat (codes "else") a.1 >>= (λ t. p t >>= (λ b. Ok (Two at (If e) a.0 b.0, b.1))))) ts
      (λ e. then_some B (λ a. Sign (codes "else") (Mapped (Two at (If e) a) B)) bs (λ a. sign_some (codes "else") (Mapped (Two at (If e) a) B) (mapped_some (Two at (If e) a) B bs))) (test_fine room ts)
      (λ x q.
      then_fine B (λ a. Sign (codes "else") (Mapped (Two at (If x.0) a) B)) (p x.1) (λ a u. eat (codes "else") u >>= (λ t. p t >>= (λ b. Ok (Two at (If x.0) a b.0, b.1)))) x.1
      (λ a. sign_some (codes "else") (Mapped (Two at (If x.0) a) B) (mapped_some (Two at (If x.0) a) B bs)) (g x.1)
      (λ y r.
      sign_fine (codes "else") (λ t. p t >>= (λ b. Ok (Two at (If x.0) y.0 b.0, b.1))) (Mapped (Two at (If x.0) y.0) B) (mapped_some (Two at (If x.0) y.0) B bs)
      (λ t. mapped_fine B (Two at (If x.0) y.0) (p t) t (g t)) y.1))

  if_is : (at : ℕ) (s : Stm) (t v : Tokens) → Ifs at s t v → S s (sign (codes "if") at ∷ t) v
  if_is at s t v (then_is h (then_is i (sign_then c (mapped j)))) = s_if at c h i j

  abbrev Whiles : ℕ → Reading Stm
  Whiles at = Then (Within room Expression) (λ e. Mapped (λ a. Two at (While e) a Nil) B)

  while_fine : (at : ℕ) → Good (G.a_while p room at) (Whiles at)
  while_fine at ts =
      then_fine (Within room Expression) (λ e. Mapped (λ a. Two at (While e) a Nil) B) (in_parens room (λ n. an_expression n) ts) (λ e u. p u >>= (λ a. Ok (Two at (While e) a.0 Nil, a.1))) ts
      (λ e. mapped_some (λ a. Two at (While e) a Nil) B bs) (test_fine room ts) (λ x q. mapped_fine B (λ a. Two at (While x.0) a Nil) (p x.1) x.1 (g x.1))

  while_is : (at : ℕ) (s : Stm) (t v : Tokens) → Whiles at s t v → S s (sign (codes "while") at ∷ t) v
  while_is at s t v (then_is h (mapped i)) = s_while at h i

  abbrev Caught : ℕ → Block → Reading Stm
  Caught at a = Then (Within room (λ n. NameIs)) (λ n. Mapped (Two at (Try n) a) B)

  caught_some : (at : ℕ) (a : Block) → Some (Caught at a)
  caught_some at a = then_some (Within room (λ n. NameIs)) (λ n. Mapped (Two at (Try n) a) B) (parens_some room (λ n. NameIs) (λ n. name_some)) (λ n. mapped_some (Two at (Try n) a) B bs)

  abbrev Tries : ℕ → Reading Stm
  Tries at = Then B (λ a. Sign (codes "catch") (Caught at a))

  try_fine : (at : ℕ) → Good (G.a_try p room at) (Tries at)
  try_fine at ts =
      then_fine B (λ a. Sign (codes "catch") (Caught at a)) (p ts)
      (λ a u. eat (codes "catch") u >>= (λ t. in_parens room (λ n. a_name) t >>= (λ x. p x.1 >>= (λ b. Ok (Two at (Try x.0) a b.0, b.1))))) ts (λ a. sign_some (codes "catch") (Caught at a) (caught_some at a)) (g ts)
      (λ y r.
      sign_fine (codes "catch") (λ t. in_parens room (λ n. a_name) t >>= (λ x. p x.1 >>= (λ b. Ok (Two at (Try x.0) y.0 b.0, b.1)))) (Caught at y.0) (caught_some at y.0)
      (λ t.
      then_fine (Within room (λ n. NameIs)) (λ n. Mapped (Two at (Try n) y.0) B) (in_parens room (λ n. a_name) t) (λ n u. p u >>= (λ b. Ok (Two at (Try n) y.0 b.0, b.1))) t
      (λ n. mapped_some (Two at (Try n) y.0) B bs) (caught_fine room t) (λ x q. mapped_fine B (Two at (Try x.0) y.0) (p x.1) x.1 (g x.1)))
      y.1)

  try_is : (at : ℕ) (s : Stm) (t v : Tokens) → Tries at s t v → S s (sign (codes "try") at ∷ t) v
  try_is at s t v (then_is h (sign_then c (then_is {a = n} i (mapped j)))) = s_try at c n h i j

  abbrev Else : ℕ → Name → Name → Reading Stm
  Else at i n = Sign (codes "else") (Mapped (λ b. Two at (Take i n) b Nil) B)

  else_some : (at : ℕ) (i n : Name) → Some (Else at i n)
  else_some at i n = sign_some (codes "else") (Mapped (λ b. Two at (Take i n) b Nil) B) (mapped_some (λ b. Two at (Take i n) b Nil) B bs)

  abbrev Takes : ℕ → Reading Stm
  Takes at = Then NumberIs (λ i. Then NameIs (λ n. Else at i n))

  take_fine : (at : ℕ) → Good (G.a_take p at) (Takes at)
  take_fine at ts =
      then_fine NumberIs (λ i. Then NameIs (λ n. Else at i n)) (a_number ts)
      (λ i u. a_name u >>= (λ n. eat (codes "else") n.1 >>= (λ t. p t >>= (λ b. Ok (Two at (Take i n.0) b.0 Nil, b.1))))) ts (λ i. then_some NameIs (λ n. Else at i n) name_some (λ n. else_some at i n)) (number_fine ts)
      (λ x q.
      then_fine NameIs (λ n. Else at x.0 n) (a_name x.1) (λ n u. eat (codes "else") u >>= (λ t. p t >>= (λ b. Ok (Two at (Take x.0 n) b.0 Nil, b.1)))) x.1 (λ n. else_some at x.0 n) (name_fine x.1)
      (λ y r.
      sign_fine (codes "else") (λ t. p t >>= (λ b. Ok (Two at (Take x.0 y.0) b.0 Nil, b.1))) (Mapped (λ b. Two at (Take x.0 y.0) b Nil) B) (mapped_some (λ b. Two at (Take x.0 y.0) b Nil) B bs)
      (λ t. mapped_fine B (λ b. Two at (Take x.0 y.0) b Nil) (p t) t (g t)) y.1))

  take_is : (at : ℕ) (s : Stm) (t v : Tokens) → Takes at s t v → S s (sign (codes "take") at ∷ t) v
  take_is at s t v (then_is {a = i} number_is (then_is {a = n} name_is (sign_then c (mapped h)))) = s_take at c i n h

  branches_fine : (n : ℕ) → Good (more_blocks p n) (UpTo B n)
  branches_fine zero ts = ok_fine Last (UpTo B zero) ts (λ k. enough zero)
  branches_fine (suc n) ts = go (is (codes "{") ts) (branches_fine n)
    where
      shut : (b : Blocks) (t v : Tokens) → Then B (λ a. Mapped (Also a) (UpTo B n)) b t v → UpTo B (suc n) b t v
      shut b t v (then_is h (mapped i)) = another n h i

      go : (b : Bool) → Good (more_blocks p n) (UpTo B n)
          → Fine (UpTo B (suc n)) ts (if_so b (λ u. p ts >>= (λ r. more_blocks p n r.1 >>= (λ s. Ok (Also r.0 s.0, s.1)))) (λ u. Ok (Last, ts)))
      go true rec =
          weaken (Then B (λ a. Mapped (Also a) (UpTo B n))) (UpTo B (suc n)) ts (p ts >>= (λ r. more_blocks p n r.1 >>= (λ s. Ok (Also r.0 s.0, s.1)))) shut
          (then_fine B (λ a. Mapped (Also a) (UpTo B n)) (p ts) (λ a u. more_blocks p n u >>= (λ s. Ok (Also a s.0, s.1))) ts (λ a. mapped_some (Also a) (UpTo B n) ([], Last, λ k. enough n)) (g ts)
          (λ x q. mapped_fine (UpTo B n) (Also x.0) (more_blocks p n x.1) x.1 (rec x.1)))
      go false rec = ok_fine Last (UpTo B (suc n)) ts (λ k. enough (suc n))

  abbrev Tail : ℕ → Block → Block → Reading Stm
  Tail at a b = Then (UpTo B 6) (λ m. Sign (codes ";") (Done (Par at (Also a (Also b m)))))

  tail_some : (at : ℕ) (a b : Block) → Some (Tail at a b)
  tail_some at a b = then_some (UpTo B 6) (λ m. Sign (codes ";") (Done (Par at (Also a (Also b m))))) ([], Last, λ k. enough 6) (λ m. last_some (codes ";") (Par at (Also a (Also b m))))

  abbrev Pars : ℕ → Reading Stm
  Pars at = Then B (λ a. Then B (λ b. Tail at a b))

  par_fine : (at : ℕ) → Good (G.a_par p at) (Pars at)
  par_fine at ts =
      then_fine B (λ a. Then B (λ b. Tail at a b)) (p ts)
      (λ a u. p u >>= (λ b. more_blocks p 6 b.1 >>= (λ m. eat (codes ";") m.1 >>= (λ t. Ok (Par at (Also a (Also b.0 m.0)), t))))) ts (λ a. then_some B (λ b. Tail at a b) bs (λ b. tail_some at a b)) (g ts)
      (λ x q.
      then_fine B (λ b. Tail at x.0 b) (p x.1) (λ b u. more_blocks p 6 u >>= (λ m. eat (codes ";") m.1 >>= (λ t. Ok (Par at (Also x.0 (Also b m.0)), t)))) x.1 (λ b. tail_some at x.0 b) (g x.1)
      (λ y r.
      then_fine (UpTo B 6) (λ m. Sign (codes ";") (Done (Par at (Also x.0 (Also y.0 m))))) (more_blocks p 6 y.1) (λ m u. eat (codes ";") u >>= (λ t. Ok (Par at (Also x.0 (Also y.0 m)), t))) y.1
      (λ m. last_some (codes ";") (Par at (Also x.0 (Also y.0 m)))) (branches_fine 6 y.1) (λ z w. last_fine (codes ";") (Par at (Also x.0 (Also y.0 z.0))) z.1)))

  par_is : (at : ℕ) (s : Stm) (t v : Tokens) → Pars at s t v → S s (sign (codes "par") at ∷ t) v
  par_is at s t v (then_is h (then_is i (then_is j (sign_then c done)))) = s_par at c h i j

  statement_fine : Good (statement p room) S
  statement_fine ts =
      let at = (here ts).at in
      first_fine S ts (G.ways p room ts) (bad ts)
      (name_first ts, (block_first ts, (λ h. word_fine (codes "var") (Ended at Var) (of_name at Var) (ended_fine at Var) ts h (var_is at), (λ h. word_fine (codes "next") (Ended at Next) (of_name at Next) (ended_fine at Next) ts h (next_is at), (λ h. word_fine (codes "know") (Ended at Know) (of_name at Know) (ended_fine at Know) ts h (know_is at), (λ h. word_fine (codes "throw") (Ended at Throw) (of_name at Throw) (ended_fine at Throw) ts h (throw_is at), (λ h. word_fine (codes "if") (Ifs at) (G.an_if p room at) (if_fine at) ts h (if_is at), (λ h. word_fine (codes "while") (Whiles at) (G.a_while p room at) (while_fine at) ts h (while_is at), (λ h. word_fine (codes "try") (Tries at) (G.a_try p room at) (try_fine at) ts h (try_is at), (λ h. word_fine (codes "take") (Takes at) (G.a_take p at) (take_fine at) ts h (take_is at), (λ h. word_fine (codes "par") (Pars at) (G.a_par p at) (par_fine at) ts h (par_is at), tt)))))))))))
      (stop_fine NotAllowed S ts statement_some)

  statements_fine : ((s : Stm) (t v : Tokens) → S s t v → length v < length t) → (n : ℕ) (ts : Tokens) → length ts < n → Fine (Statements S) ts (statements (statement p room) n ts)
  statements_fine less zero ts l = absurd (omega arith)
  statements_fine less (suc n) ts l = go (is (codes "}") ts) (statements_fine less n)
    where
      shut : (b : Block) (t v : Tokens) → Then S (λ s. Mapped (Seq s) (Statements S)) b t v → Statements S b t v
      shut b t v (then_is h (mapped i)) = one_more h i

      shorter : (m : Answer (Stm × Tokens)) → Fine S ts m → (x : Stm × Tokens) → m ≡ Ok x → length x.1 < length ts
      shorter (Ok y) o x e =
          let q : x ≡ y = cc in
          let k = less y.0 ts y.1 (subst (λ (z : Tokens). S y.0 z y.1) (sym o.1) (o.2 y.1)) in
          subst (λ (z : Stm × Tokens). length z.1 < length ts) (sym q) k
      shorter (Err y) o x e = absurd (let z : ◌≡◌ {A = ℕ} 0 1 = cc in omega arith)

      go : (b : Bool) → ((u : Tokens) → length u < n → Fine (Statements S) u (statements (statement p room) n u))
          → Fine (Statements S) ts (if_so b (λ u. Ok (Nil, ts)) (λ u. statement p room ts >>= (λ s. statements (statement p room) n s.1 >>= (λ b. Ok (Seq s.0 b.0, b.1)))))
      go true rec = ok_fine Nil (Statements S) ts (λ k. none_left)
      go false rec =
          weaken (Then S (λ s. Mapped (Seq s) (Statements S))) (Statements S) ts (statement p room ts >>= (λ s. statements (statement p room) n s.1 >>= (λ b. Ok (Seq s.0 b.0, b.1)))) shut
          (then_fine S (λ s. Mapped (Seq s) (Statements S)) (statement p room ts) (λ s u. statements (statement p room) n u >>= (λ b. Ok (Seq s b.0, b.1))) ts
          (λ s. mapped_some (Seq s) (Statements S) ([], Nil, λ k. none_left)) (statement_fine ts)
          (λ x e.
          let k = shorter (statement p room ts) (statement_fine ts) x e in
          mapped_fine (Statements S) (Seq x.0) (statements (statement p room) n x.1) x.1 (rec x.1 (omega arith))))

-- ---- blocks

pub block_some : (room : ℕ) → Some (BlockIs (suc room))
block_some room = (sign (codes "{") 0 ∷ sign (codes "}") 0 ∷ [], Nil, λ k. braces 0 0 none_left)

abbrev Body : ℕ → Parser Block
Body room t = statements (statement (λ u. block room u) room) (suc (length t)) t >>= (λ b. eat (codes "}") b.1 >>= (λ u. Ok (b.0, u)))

abbrev Inside : ℕ → Reading Block
Inside room = Then (Statements (Statement (BlockIs (suc room)) (suc room))) (λ b. Sign (codes "}") (Done b))

inside_is : (room at : ℕ) (b : Block) (t v : Tokens) → Inside room b t v → BlockIs (suc (suc room)) b (sign (codes "{") at ∷ t) v
inside_is room at b t v (then_is h (sign_then c done)) = braces at c h

body_fine : (room : ℕ) → Good (λ u. block room u) (BlockIs (suc room)) → ((ts : Tokens) → T (is (codes "{") ts) → Opened (λ u. block room u) (BlockIs (suc room)) ts) → Good (Body room) (Inside room)
body_fine room g o ts =
    then_fine (Statements (Statement (BlockIs (suc room)) (suc room))) (λ b. Sign (codes "}") (Done b)) (statements (statement (λ u. block room u) room) (suc (length ts)) ts)
    (λ b u. eat (codes "}") u >>= (λ w. Ok (b, w))) ts (λ b. last_some (codes "}") b)
    (statements_fine room (λ u. block room u) (BlockIs (suc room)) g o (block_some room)
    (λ s t v h. (statement_shrinks (BlockIs (suc room)) (λ u. block room u) (suc room) (block_shrinks (suc room)) (block_less (suc room)) s t v h).1) (suc (length ts)) ts (omega arith))
    (λ x e. last_fine (codes "}") x.0 x.1)

opened_none : (ts : Tokens) → T (is (codes "{") ts) → Opened (λ u. block zero u) (BlockIs 1) ts
opened_none ts h = inr (ap (λ b. if_so b (λ u. Ok (rest ts)) (λ u. bad ts) >>= (λ r. refuse TooDeep (here ts).at)) (T_true (is (codes "{") ts) h))

opened_some : (room : ℕ) → Good (Body room) (Inside room) → (ts : Tokens) → T (is (codes "{") ts) → Opened (λ u. block (suc room) u) (BlockIs (suc (suc room))) ts
opened_some room f ts h =
    inl
    (subst (λ (m : Answer (Block × Tokens)). Fine (λ b t v. BlockIs (suc (suc room)) b (sign (codes "{") (here ts).at ∷ t) v) (rest ts) m)
    (sym (ap (λ b. if_so b (λ u. Ok (rest ts)) (λ u. bad ts) >>= (λ t. Body room t)) (T_true (is (codes "{") ts) h)))
    (weaken (Inside room) (λ b t v. BlockIs (suc (suc room)) b (sign (codes "{") (here ts).at ∷ t) v) (rest ts) (Body room (rest ts)) (inside_is room (here ts).at) (f (rest ts))))

pub blocks_fine : (room : ℕ) → Good (λ u. block room u) (BlockIs (suc room)) × ((ts : Tokens) → T (is (codes "{") ts) → Opened (λ u. block room u) (BlockIs (suc room)) ts)
blocks_fine zero = (λ ts. deep_fine (codes "{") (BlockIs 1) (block_some zero) ts, opened_none)
blocks_fine (suc room) =
    let i = blocks_fine room in
    let f = body_fine room i.0 i.1 in (
      λ ts. eat_fine (codes "{") (Body room) (Inside room) (BlockIs (suc (suc room))) (λ at b t v q. inside_is room at b t v q)
          (then_some (Statements (Statement (BlockIs (suc room)) (suc room))) (λ b. Sign (codes "}") (Done b)) ([], Nil, λ k. none_left) (λ b. last_some (codes "}") b)) f ts,
      opened_some room f,
    )
