-- The parsers of expressions, a step at a time.
use Rattle.std.proofs.Common.{◌≡◌, ℕ, zero, suc, ◌-◌, ◌<◌, Bool, true, false, eqb, List, [], ◌∷◌, length, Ok, Err, codes, sym, refl, ap, ◌∙◌, arith}
use mathlib.Core.Option.{Option, some, none}
use Rattle.reader.specs.declared.fault.Cause.TheVariants.{TooDeep}
use Rattle.reader.specs.declared.token.Token.{Token}
use Rattle.reader.specs.declared.token.Tag.TheVariants as tags
use Rattle.reader.specs.Faults.{Answer, ◌>>=◌, refuse}
use Rattle.reader.specs.Views.{lexemes}
use Rattle.grammar.specs.Trees.{Name, Op, Exp, Use, Number, Negated, Both}
use Rattle.grammar.specs.Parsers.{Tokens, Parser, here, rest, if_so, is, is_name, is_number, as_name, bad, eat, a_name, a_number}
use Rattle.grammar.specs.Parsing.{Signs, op_here, chain}
use Rattle.grammar.specs.Readers.{opened, signs_of, atom_at, level_at, grouped_at}
use Rattle.grammar.specs.Reading.{next_token, after_next}
use Rattle.grammar.proofs.Tags.{code, test, seen, unseen, rest_from, is_from, name_from, number_from}

pub grouped_step : (room : ℕ) (ts : Tokens)
    → grouped_at room ts ≡ (opened room (codes "(") ts >>= (λ t. level_at (room - 1) 4 t >>= (λ r. eat (codes ")") r.1 >>= (λ u. Ok (r.0, u)))))
unfolding grouped_at opened level_at
grouped_step zero ts = go (eat (codes "(") ts) (λ t. level_at (0 - 1) 4 t >>= (λ r. eat (codes ")") r.1 >>= (λ u. Ok (r.0, u))))
  where
    go : (m : Answer Tokens) (k : Tokens → Answer (Exp × Tokens)) → (m >>= (λ r. refuse {A = Exp × Tokens} TooDeep (here ts).at)) ≡ ((m >>= (λ r. refuse TooDeep (here ts).at)) >>= k)
    go (Ok x) k = refl
    go (Err x) k = refl
grouped_step (suc room) ts =
    let e : room ≡ suc room - 1 = omega arith in
    ap (λ n. eat (codes "(") ts >>= (λ t. level_at n 4 t >>= (λ r. eat (codes ")") r.1 >>= (λ u. Ok (r.0, u))))) e

pub level_zero : (room : ℕ) (ts : Tokens)
    → level_at room 0 ts ≡ if_so (is (codes "-") ts) (λ u. atom_at room (rest ts) >>= (λ r. Ok (Negated r.0, r.1))) (λ u. atom_at room ts)
unfolding level_at atom_at
level_zero room ts = refl

level_suc : (room rank : ℕ) (ts : Tokens) → level_at room (suc rank) ts ≡ (level_at room rank ts >>= (λ r. chain (signs_of (suc rank)) (level_at room rank) (suc (length r.1)) r.0 r.1))
unfolding level_at
level_suc room rank ts = refl

pub level_more : (room rank : ℕ) (ts : Tokens) → (rank ≡ 0 → ⊥)
    → level_at room rank ts ≡ (level_at room (rank - 1) ts >>= (λ r. chain (signs_of rank) (level_at room (rank - 1)) (suc (length r.1)) r.0 r.1))
level_more room zero ts n = absurd (n refl)
level_more room (suc rank) ts n =
    let e : rank ≡ suc rank - 1 = omega arith in
    level_suc room rank ts ∙ ap (λ m. level_at room m ts >>= (λ r. chain (signs_of (suc rank)) (level_at room m) (suc (length r.1)) r.0 r.1)) e

atom_step : (room : ℕ) (ts : Tokens)
    → atom_at room ts ≡ if_so (is_name (here ts).class) (λ u. Ok (Use (as_name (here ts)), rest ts)) (λ u. if_so (is_number (here ts).class) (λ w. Ok (Number (as_name (here ts)), rest ts)) (λ w. grouped_at room ts))
unfolding atom_at grouped_at
atom_step zero ts = refl
atom_step (suc room) ts = refl

-- ---- chains of operators

module _ (os : Signs) (p : Parser Exp) (a : Exp) (ts : Tokens) where
  pub chain_more : (k : ℕ) (o : Op) → 0 < k → op_here os ts ≡ some o → chain os p k a ts ≡ (p (rest ts) >>= (λ r. chain os p (k - 1) (Both o a r.0) r.1))
  chain_more zero o l e = absurd (omega arith)
  chain_more (suc k) o l e =
      let i : k ≡ suc k - 1 = omega arith in
      ap (λ (z : Option Op). elim z [ none ↦ Ok (a, ts) | some o ↦ p (rest ts) >>= (λ r. chain os p k (Both o a r.0) r.1) ]) e
      ∙ ap (λ n. p (rest ts) >>= (λ r. chain os p n (Both o a r.0) r.1)) i

  pub chain_stop : (k : ℕ) → 0 < k → op_here os ts ≡ none → chain os p k a ts ≡ Ok (a, ts)
  chain_stop zero l e = absurd (omega arith)
  chain_stop (suc k) l e = ap (λ (z : Option Op). elim z [ none ↦ Ok (a, ts) | some o ↦ p (rest ts) >>= (λ r. chain os p k (Both o a r.0) r.1) ]) e

op_end : (os : Signs) → op_here os [] ≡ none
op_end [] = refl
op_end (o ∷ os) = op_end os

-- ---- by the next token

module _ (text : List ℕ) (ts : List Token) where
  pub op_left : (os : Signs) (o : Op) → op_here os (lexemes text ts) ≡ some o → length (after_next ts) < length ts
  op_left os o e = go ts e
    where
      go : (us : List Token) → op_here os (lexemes text us) ≡ some o → length (after_next us) < length us
      go [] e = let z : ◌≡◌ {A = Option Op} none (some o) = sym (op_end os) ∙ e in absurd (let y : ◌≡◌ {A = ℕ} 0 1 = cc in omega arith)
      go (u ∷ us) e = omega arith

  pub chain_from : (us : List Token) (os : Signs) (p : Parser Exp) (a : Exp) (k : ℕ) (o : Op) → 0 < k → op_here os (lexemes text ts) ≡ some o → us ≡ after_next ts
      → chain os p k a (lexemes text ts) ≡ (p (lexemes text us) >>= (λ r. chain os p (k - 1) (Both o a r.0) r.1))
  chain_from us os p a k o l e h =
      chain_more os p a (lexemes text ts) k o l e
      ∙ ap (λ u. p u >>= (λ r. chain os p (k - 1) (Both o a r.0) r.1)) (rest_from text ts ∙ ap (lexemes text) (sym h))

  module _ (room : ℕ) where
    abbrev by_sign : Bool → Answer (Exp × Tokens)
    by_sign b = if_so b (λ u. atom_at room (rest (lexemes text ts)) >>= (λ r. Ok (Negated r.0, r.1))) (λ u. atom_at room (lexemes text ts))

    pub operand_minus : (next_token ts).tag ≡ tags.Minus → level_at room 0 (lexemes text ts) ≡ (atom_at room (lexemes text (after_next ts)) >>= (λ r. Ok (Negated r.0, r.1)))
    operand_minus h =
        level_zero room (lexemes text ts) ∙ ap by_sign (is_from text tags.Minus refl ts ∙ seen ts tags.Minus h)
        ∙ ap (λ u. atom_at room u >>= (λ r. Ok (Negated r.0, r.1))) (rest_from text ts)

    pub operand_plain : ((next_token ts).tag ≡ tags.Minus → ⊥) → level_at room 0 (lexemes text ts) ≡ atom_at room (lexemes text ts)
    operand_plain n = level_zero room (lexemes text ts) ∙ ap by_sign (is_from text tags.Minus refl ts ∙ unseen ts tags.Minus n)

    abbrev by_class : Bool → Bool → Answer (Exp × Tokens)
    by_class a b =
        let u = lexemes text ts in if_so a (λ w. Ok (Use (as_name (here u)), rest u)) (λ w. if_so b (λ w. Ok (Number (as_name (here u)), rest u)) (λ w. grouped_at room u))

    atom_class : (a b : Bool) → test ts tags.Name ≡ a → test ts tags.Number ≡ b → atom_at room (lexemes text ts) ≡ by_class a b
    atom_class a b h k =
        atom_step room (lexemes text ts) ∙ ap (λ x. by_class x (is_number (here (lexemes text ts)).class)) (name_from text ts ∙ h) ∙ ap (λ x. by_class a x) (number_from text ts ∙ k)

    abbrev Worded : (Name → Exp) → Bool → Answer (Exp × Tokens)
    Worded f b =
        let m : Answer (Name × Tokens) = if_so b (λ w. Ok (as_name (here (lexemes text ts)), rest (lexemes text ts))) (λ w. bad (lexemes text ts)) in
        m >>= (λ r. Ok (f r.0, r.1))

    pub atom_name : (next_token ts).tag ≡ tags.Name → atom_at room (lexemes text ts) ≡ (a_name (lexemes text ts) >>= (λ r. Ok (Use r.0, r.1)))
    atom_name h =
        atom_class true (test ts tags.Number) (seen ts tags.Name h) refl ∙ sym (ap (Worded Use) (name_from text ts ∙ seen ts tags.Name h))

    pub atom_number : (next_token ts).tag ≡ tags.Number → atom_at room (lexemes text ts) ≡ (a_number (lexemes text ts) >>= (λ r. Ok (Number r.0, r.1)))
    atom_number h =
        atom_class false true (ap (λ t. eqb (code t) 0) h) (seen ts tags.Number h) ∙ sym (ap (Worded Number) (number_from text ts ∙ seen ts tags.Number h))

    pub atom_grouped : ((next_token ts).tag ≡ tags.Name → ⊥) → ((next_token ts).tag ≡ tags.Number → ⊥) → atom_at room (lexemes text ts) ≡ grouped_at room (lexemes text ts)
    atom_grouped n m = atom_class false false (unseen ts tags.Name n) (unseen ts tags.Number m)
