-- What the parsers of expressions do depends only on the tokens up to the next one.
use Rattle.std.proofs.Common.{◌≡◌, ℕ, zero, suc, ◌<◌, ◌≤◌, Bool, true, false, cond, List, [], ◌∷◌, ◌++◌, length, Ok, Err, codes, sym, refl, ap, ◌∙◌, subst, append_assoc, arith, length-append}
use mathlib.Core.Option.{Option, some, none}
use Rattle.reader.specs.Faults.{Answer, ◌>>=◌, refuse}
use Rattle.reader.specs.declared.fault.Fault.{Fault}
use Rattle.reader.specs.declared.fault.Cause.TheVariants.{NotAllowed, TooDeep}
use Rattle.grammar.specs.Parsers.{if_so}
use Rattle.reader.specs.Tokens.{Lexeme}
use Rattle.grammar.specs.Trees.{Op, Exp, Use, Number, Negated, Both}
use Rattle.grammar.specs.Parsers.{Tokens, Parser, here, rest, is_name, is_number, is, bad, eat, as_name, a_name, a_number}
use Rattle.grammar.specs.Parsing.{Signs, op_here, chain, level, equals, lesses, sums, products, expression, negated, closed, in_parens, simple_atom, atom, an_expression}
use Rattle.grammar.proofs.Levels.{if_true, if_false}
use Rattle.grammar.proofs.Locality.{Out, Local, here_app, bind_local, ok_local, bad_local, take_local, tests, eat_local, FOut, fuel_local, end_token}

pub shrinks : {A : Type 0} (p : Parser A) → Local p → (ts : Tokens) (x : A × Tokens) → p ts ≡ Ok x → length x.1 ≤ length ts
shrinks {A} p lp ts x e =
    let o : Out p ts (Ok x) = subst (λ (m : Answer (A × Tokens)). Out p ts m) e (lp ts) in
    let i = ap (λ w. length w) o.1 in
    let j = length-append o.0 x.1 in
    omega arith

-- ---- operators

abbrev op_tok : Signs → Lexeme → Option Op
op_tok [] t = none
op_tok (o ∷ os) t = cond (tests o.0 t) (some o.1) (op_tok os t)

op_is : (os : Signs) (ts : Tokens) → op_here os ts ≡ op_tok os (here ts)
op_is [] ts = refl
op_is (o ∷ os) ts = ap (λ z. cond (is o.0 ts) (some o.1) z) (op_is os ts)

op_end : (os : Signs) → op_tok os end_token ≡ none
op_end [] = refl
op_end (o ∷ os) = op_end os

module _ (os : Signs) (p : Parser Exp) (lp : Local p) where
  chain_stop : (n : ℕ) (a : Exp) (ts : Tokens) → op_here os ts ≡ none → chain os p (suc n) a ts ≡ Ok (a, ts)
  chain_stop n a ts e =
      ap (λ (z : Option Op). elim z [ none ↦ Ok (a, ts) | some o ↦ p (rest ts) >>= (λ r. chain os p n (Both o a r.0) r.1) ]) e

  chain_go : (n : ℕ) (a : Exp) (ts : Tokens) (o : Op) → op_here os ts ≡ some o → chain os p (suc n) a ts ≡ (p (rest ts) >>= (λ r. chain os p n (Both o a r.0) r.1))
  chain_go n a ts o e =
      ap (λ (z : Option Op). elim z [ none ↦ Ok (a, ts) | some o ↦ p (rest ts) >>= (λ r. chain os p n (Both o a r.0) r.1) ]) e

  chain_local : (n : ℕ) (a : Exp) (ts : Tokens) → length ts < n → FOut (λ n. chain os p n a) ts (chain os p n a ts)
  chain_local zero a ts l = absurd (omega arith)
  chain_local (suc n) a ts l = go ts (op_here os ts) refl l (λ b u k. chain_local n b u k)
    where
      Rec : Type 0
      Rec = (b : Exp) (u : Tokens) → length u < n → FOut (λ n. chain os p n b) u (chain os p n b u)

      stop : (r : Tokens) (m : ℕ) → length r < m → op_here os r ≡ none → chain os p m a r ≡ Ok (a, r)
      stop r zero k e = absurd (omega arith)
      stop r (suc m) k e = chain_stop m a r e

      fail : (t : Lexeme) (o : Op) → op_tok os t ≡ some o → (u : Tokens) (x : Fault) (m : ℕ) → length (t ∷ u) < m → p u ≡ Err x → chain os p m a (t ∷ u) ≡ Err x
      fail t o e u x zero k i = absurd (omega arith)
      fail t o e u x (suc m) k i = chain_go m a (t ∷ u) o (op_is os (t ∷ u) ∙ e) ∙ ap (λ z. z >>= (λ r. chain os p m (Both o a r.0) r.1)) i

      turn : (t : Lexeme) (o : Op) → op_tok os t ≡ some o → (c : Exp) (pre u : Tokens) (v : Answer (Exp × Tokens)) → p (pre ++ u) ≡ Ok (c, u)
          → ((m : ℕ) → length u < m → chain os p m (Both o a c) u ≡ v) → (m : ℕ) → length (t ∷ (pre ++ u)) < m → chain os p m a (t ∷ (pre ++ u)) ≡ v
      turn t o e c pre u v i f zero k = absurd (omega arith)
      turn t o e c pre u v i f (suc m) k =
          let j = length-append pre u in
          chain_go m a (t ∷ (pre ++ u)) o (op_is os (t ∷ (pre ++ u)) ∙ e) ∙ ap (λ z. z >>= (λ r. chain os p m (Both o a r.0) r.1)) i ∙ f m (omega arith)

      more : (t : Lexeme) (u : Tokens) (o : Op) → op_tok os t ≡ some o → length (t ∷ u) < suc n → Rec → (m : Answer (Exp × Tokens)) → p u ≡ m → Out p u m
          → FOut (λ n. chain os p n a) (t ∷ u) (m >>= (λ r. chain os p n (Both o a r.0) r.1))
      more t u o e k rec (Err x) i w =
          (t ∷ w.0, w.1, ap (λ z. t ∷ z) w.2, w.3, λ r h m q. fail t o e (w.0 ++ r) x m q (w.4 r h))
      more t u o e k rec (Ok x) i w =
          let sh = shrinks p lp u x i in
          two_steps (chain os p n (Both o a x.0) x.1) (rec (Both o a x.0) x.1 (omega arith))
        where
          two_steps : (m : Answer (Exp × Tokens)) → FOut (λ n. chain os p n (Both o a x.0)) x.1 m → FOut (λ n. chain os p n a) (t ∷ u) m
          two_steps (Ok y) z = (
            t ∷ (w.0 ++ z.0),
            ap (λ v. t ∷ v) (w.1 ∙ ap (λ v. w.0 ++ v) z.1 ∙ sym (append_assoc w.0 z.0 y.1)),
            λ r h m q.
                let as' = append_assoc w.0 z.0 r in
                let la = ap (λ v. length v) as' in
                ap (λ v. chain os p m a (t ∷ v)) as'
                ∙ turn t o e x.0 w.0 (z.0 ++ r) (Ok (y.0, r)) (w.2 (z.0 ++ r) (here_app z.0 r y.1 h ∙ ap here (sym z.1))) (λ m q. z.2 r h m q) m (omega arith),
          )
          two_steps (Err y) z = (
            t ∷ (w.0 ++ z.0),
            z.1,
            ap (λ v. t ∷ v) (w.1 ∙ ap (λ v. w.0 ++ v) z.2 ∙ sym (append_assoc w.0 z.0 z.1)),
            z.3,
            λ r h m q.
                let as' = append_assoc w.0 z.0 r in
                let la = ap (λ v. length v) as' in
                ap (λ v. chain os p m a (t ∷ v)) as'
                ∙ turn t o e x.0 w.0 (z.0 ++ r) (Err y) (w.2 (z.0 ++ r) (here_app z.0 r z.1 h ∙ ap here (sym z.2))) (λ m q. z.4 r h m q) m (omega arith),
          )

      go : (ts : Tokens) (o : Option Op) → op_here os ts ≡ o → length ts < suc n → Rec → FOut (λ n. chain os p n a) ts (chain os p (suc n) a ts)
      go ts none e k rec =
          subst (λ (m : Answer (Exp × Tokens)). FOut (λ n. chain os p n a) ts m) (sym (chain_stop n a ts e))
          ([], refl, λ r h m q. stop r m q (op_is os r ∙ ap (λ t. op_tok os t) h ∙ sym (op_is os ts) ∙ e))
      go [] (some o) e k rec = absurd (let z : ◌≡◌ {A = Option Op} none (some o) = sym (op_end os) ∙ sym (op_is os []) ∙ e in let y : ◌≡◌ {A = ℕ} 0 1 = cc in omega arith)
      go (t ∷ u) (some o) e k rec =
          subst (λ (m : Answer (Exp × Tokens)). FOut (λ n. chain os p n a) (t ∷ u) m) (sym (chain_go n a (t ∷ u) o e)) (more t u o (sym (op_is os (t ∷ u)) ∙ e) k rec (p u) refl (lp u))

level_local : (os : Signs) (p : Parser Exp) → Local p → Local (level os p)
level_local os p lp = bind_local p (λ a ts. chain os p (suc (length ts)) a ts) lp (λ a. fuel_local (λ n. chain os p n a) (λ n ts l. chain_local os p lp n a ts l))

-- ---- expressions

pub name_local : Local a_name
name_local = take_local (λ t. is_name t.class) (λ t ts. Ok (as_name t, ts)) (λ ts. bad ts) refl (λ t. ok_local (as_name t)) bad_local

pub number_local : Local a_number
number_local = take_local (λ t. is_number t.class) (λ t ts. Ok (as_name t, ts)) (λ ts. bad ts) refl (λ t. ok_local (as_name t)) bad_local

expression_local : (p : Parser Exp) → Local p → Local (expression p)
expression_local p lp =
    level_local equals (level lesses (level sums (level products p))) (level_local lesses (level sums (level products p)) (level_local sums (level products p) (level_local products p lp)))

negated_local : (p : Parser Exp) → Local p → Local (negated p)
negated_local p lp =
    take_local (tests (codes "-")) (λ t ts. p ts >>= (λ r. Ok (Negated r.0, r.1))) p refl (λ t. bind_local p (λ e ts. Ok (Negated e, ts)) lp (λ e. ok_local (Negated e))) lp

closed_local : {A : Type 0} (p : Parser A) → Local p → Local (closed p)
closed_local p lp = bind_local p (λ a ts. eat (codes ")") ts >>= (λ t. Ok (a, t))) lp (λ a. eat_local (codes ")") (λ t. Ok (a, t)) (ok_local a))

-- an opening bracket without room
pub no_room : (A : Type 0) (w : List ℕ) → Local {A = A} (λ ts. eat w ts >>= (λ r. refuse TooDeep (here ts).at))
no_room A w ts = go (is w ts) refl
  where
    go : (b : Bool) → is w ts ≡ b → Out {A = A} (λ ts. eat w ts >>= (λ r. refuse TooDeep (here ts).at)) ts (if_so b (λ u. Ok (rest ts)) (λ u. bad ts) >>= (λ r. refuse TooDeep (here ts).at))
    go true e = (
      [],
      ts,
      refl,
      refl,
      λ r h.
          ap (λ m. m >>= (λ z. refuse TooDeep (here r).at)) (if_true (is w r) (λ u. Ok (rest r)) (λ u. bad r) (ap (tests w) h ∙ e)) ∙ ap (λ t. refuse {A = A × Tokens} TooDeep t.at) h,
    )
    go false e = (
      [],
      ts,
      refl,
      refl,
      λ r h.
          ap (λ m. m >>= (λ z. refuse TooDeep (here r).at)) (if_false (is w r) (λ u. Ok (rest r)) (λ u. bad r) (ap (tests w) h ∙ e)) ∙ ap (λ t. refuse {A = A × Tokens} NotAllowed t.at) h,
    )

pub parens_local : {A : Type 0} (room : ℕ) (p : ℕ → Parser A) → ((n : ℕ) → Local (p n)) → Local (in_parens room p)
parens_local {A} zero p lp = no_room A (codes "(")
parens_local {A} (suc n) p lp = eat_local (codes "(") (closed (p n)) (closed_local (p n) (lp n))

simple_local : (p : Parser Exp) → Local p → Local (simple_atom p)
simple_local p lp =
    take_local (λ t. is_name t.class) (λ t ts. Ok (Use (as_name t), ts)) (λ ts. if_so (is_number (here ts).class) (λ w. Ok (Number (as_name (here ts)), rest ts)) (λ w. p ts)) refl (λ t. ok_local (Use (as_name t)))
    (take_local (λ t. is_number t.class) (λ t ts. Ok (Number (as_name t), ts)) p refl (λ t. ok_local (Number (as_name t))) lp)

atom_local : (room : ℕ) → Local (λ w. atom room w)
atom_local zero = simple_local (λ u. eat (codes "(") u >>= (λ r. refuse TooDeep (here u).at)) (no_room Exp (codes "("))
atom_local (suc room) =
    simple_local (λ u. eat (codes "(") u >>= (λ r. closed (expression (negated (λ w. atom room w))) r))
    (eat_local (codes "(") (closed (an_expression room)) (closed_local (an_expression room) (expression_local (negated (λ w. atom room w)) (negated_local (λ w. atom room w) (atom_local room)))))

pub an_expression_local : (room : ℕ) → Local (an_expression room)
an_expression_local room = expression_local (negated (λ w. atom room w)) (negated_local (λ w. atom room w) (atom_local room))
