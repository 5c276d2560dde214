-- The parsers of brackets and of statements without blocks, a step at a time.
use Rattle.std.proofs.Common.{◌≡◌, ℕ, zero, suc, ◌-◌, ◌<◌, Bool, List, [], ◌∷◌, ◌++◌, length, Ok, Err, codes, sym, refl, ap, ◌∙◌, append_assoc, arith}
use Rattle.reader.specs.declared.fault.Cause.TheVariants.{TooDeep}
use Rattle.reader.specs.declared.token.Token.{Token}
use Rattle.reader.specs.declared.token.Tag.TheVariants as tags
use Rattle.reader.specs.Faults.{Answer, ◌>>=◌, refuse}
use Rattle.grammar.specs.declared.tree.Name as code-name
use Rattle.grammar.specs.Trees.{Name, Simple, Set, Call, Stm, One}
use Rattle.grammar.specs.Views as view
use Rattle.grammar.specs.Parsers.{Tokens, Parser, here, rest, if_so, eat, a_name}
use Rattle.grammar.specs.Parsing.{in_parens, more_names, of_name}
use Rattle.grammar.specs.Readers.{opened, ended_name, level_at, arguments_at, caught_at, called_at, set_at, call_at, named_at}
use Rattle.reader.specs.Views.{lexemes}
use Rattle.grammar.specs.Reading.{next_token, Taken, NotTaken, in_front}
use Rattle.grammar.proofs.Tags.{seen, unseen, rest_from, is_from}

-- what stands in parentheses
pub parens_step : {A : Type 0} (room : ℕ) (p : ℕ → Parser A) (ts : Tokens)
    → in_parens room p ts ≡ (opened room (codes "(") ts >>= (λ t. p (room - 1) t >>= (λ r. eat (codes ")") r.1 >>= (λ u. Ok (r.0, u)))))
unfolding opened
parens_step {A} zero p ts = go (eat (codes "(") ts) (λ t. p (0 - 1) t >>= (λ r. eat (codes ")") r.1 >>= (λ u. Ok (r.0, u))))
  where
    go : (m : Answer Tokens) (k : Tokens → Answer (A × Tokens)) → (m >>= (λ r. refuse {A = A × Tokens} TooDeep (here ts).at)) ≡ ((m >>= (λ r. refuse TooDeep (here ts).at)) >>= k)
    go (Ok x) k = refl
    go (Err x) k = refl
parens_step (suc room) p ts =
    let e : room ≡ suc room - 1 = omega arith in ap (λ n. eat (codes "(") ts >>= (λ t. p n t >>= (λ r. eat (codes ")") r.1 >>= (λ u. Ok (r.0, u))))) e

pub caught_step : (room : ℕ) (ts : Tokens) → caught_at room ts ≡ (opened room (codes "(") ts >>= (λ t. a_name t >>= (λ r. eat (codes ")") r.1 >>= (λ u. Ok (r.0, u)))))
unfolding caught_at
caught_step room ts = parens_step room (λ n. a_name) ts

pub called_step : (room : ℕ) (ts : Tokens) → called_at room ts ≡ (opened room (codes "(") ts >>= (λ t. arguments_at t >>= (λ r. eat (codes ")") r.1 >>= (λ u. Ok (r.0, u)))))
unfolding called_at arguments_at
called_step room ts = parens_step room (λ n. arguments_at) ts

pub set_step : (room : ℕ) (v : Name) (ts : Tokens) → set_at room v ts ≡ (level_at room 4 ts >>= (λ e. eat (codes ";") e.1 >>= (λ t. Ok (One v.at (Set v e.0), t))))
unfolding set_at level_at
set_step room v ts = refl

pub call_step : (room : ℕ) (v : Name) (ts : Tokens) → call_at room v ts ≡ (called_at room ts >>= (λ a. eat (codes ";") a.1 >>= (λ t. Ok (One v.at (Call v a.0), t))))
unfolding call_at called_at
call_step room v ts = refl

-- a statement that is a word, a name and `;`
pub short_step : (at : ℕ) (f : Name → Simple) (ts : Tokens) → of_name at f ts ≡ (ended_name ts >>= (λ r. Ok (One at (f r.0), r.1)))
unfolding ended_name
short_step at f ts = go (a_name ts)
  where
    ends : (n : Name) (m : Answer Tokens) → ◌≡◌ {A = Answer (Stm × Tokens)} (m >>= (λ t. Ok (One at (f n), t))) (◌>>=◌ {B = Name × Tokens} m (λ t. Ok (n, t)) >>= (λ r. Ok (One at (f r.0), r.1)))
    ends n (Ok x) = refl
    ends n (Err x) = refl

    go : (m : Answer (Name × Tokens))
        → ◌≡◌ {A = Answer (Stm × Tokens)} (m >>= (λ r. eat (codes ";") r.1 >>= (λ t. Ok (One at (f r.0), t))))
        (◌>>=◌ {B = Name × Tokens} m (λ r. eat (codes ";") r.1 >>= (λ t. Ok (r.0, t))) >>= (λ r. Ok (One at (f r.0), r.1)))
    go (Ok r) = ends r.0 (eat (codes ";") r.1)
    go (Err x) = refl

-- ---- lists

pub append_nil : {X : Type 0} (xs : List X) → xs ++ [] ≡ xs
append_nil [] = refl
append_nil (x ∷ xs) = ap (λ ys. x ∷ ys) (append_nil xs)

-- what was gathered so far, and one more
pub gather : {X : Type 0} (m m' : Answer (List X × Tokens)) (as' bs : List X) (x : X) → m ≡ in_front (x ∷ []) m' → bs ≡ as' ++ x ∷ [] → in_front as' m ≡ in_front bs m'
gather {X} m m' as' bs x e f = ap (in_front as') e ∙ go m' ∙ ap (λ (ys : List X). in_front ys m') (sym f)
  where
    go : (n : Answer (List X × Tokens)) → in_front as' (in_front (x ∷ []) n) ≡ in_front (as' ++ x ∷ []) n
    go (Ok s) = ap (λ (ys : List X). Ok (ys, s.1)) (sym (append_assoc as' (x ∷ []) s.0))
    go (Err y) = refl

pub names_push : (text : List ℕ) (xs : List code-name.Name) (n : code-name.Name) → view.names text (xs ++ n ∷ []) ≡ view.names text xs ++ view.name text n ∷ []
names_push text [] n = refl
names_push text (x ∷ xs) n = ap (λ ys. view.name text x ∷ ys) (names_push text xs n)

-- ---- by the next token

module _ (text : List ℕ) (ts : List Token) where
  abbrev Start : Bool → Answer (List Name × Tokens)
  Start b = let u = lexemes text ts in if_so b (λ w. Ok ([], u)) (λ w. a_name u >>= (λ r. more_names (suc (length r.1)) r.1 >>= (λ s. Ok (r.0 ∷ s.0, s.1))))

  pub arguments_none : (next_token ts).tag ≡ tags.CloseParen → arguments_at (lexemes text ts) ≡ Ok ([], lexemes text ts)
  unfolding arguments_at
  arguments_none h = ap Start (is_from text tags.CloseParen refl ts ∙ seen ts tags.CloseParen h)

  pub arguments_some : ((next_token ts).tag ≡ tags.CloseParen → ⊥) → arguments_at (lexemes text ts) ≡ (a_name (lexemes text ts) >>= (λ r. more_names (suc (length r.1)) r.1 >>= (λ s. Ok (r.0 ∷ s.0, s.1))))
  unfolding arguments_at
  arguments_some n = ap Start (is_from text tags.CloseParen refl ts ∙ unseen ts tags.CloseParen n)

  abbrev More : ℕ → Bool → Answer (List Name × Tokens)
  More k b = let u = lexemes text ts in if_so b (λ w. a_name (rest u) >>= (λ r. more_names k r.1 >>= (λ s. Ok (r.0 ∷ s.0, s.1)))) (λ w. Ok ([], u))

  pub more_names_go : (us : List Token) (k : ℕ) → 0 < k → Taken tags.Comma ts us → more_names k (lexemes text ts) ≡ (a_name (lexemes text us) >>= (λ r. more_names (k - 1) r.1 >>= (λ s. Ok (r.0 ∷ s.0, s.1))))
  more_names_go us zero l h = absurd (omega arith)
  more_names_go us (suc k) l h =
      let e : k ≡ suc k - 1 = omega arith in
      ap (More k) (is_from text tags.Comma refl ts ∙ seen ts tags.Comma h.0)
      ∙ ap (λ v. a_name v >>= (λ r. more_names k r.1 >>= (λ s. Ok (r.0 ∷ s.0, s.1)))) (rest_from text ts ∙ ap (lexemes text) (sym h.1))
      ∙ ap (λ n. a_name (lexemes text us) >>= (λ r. more_names n r.1 >>= (λ s. Ok (r.0 ∷ s.0, s.1)))) e

  pub more_names_stop : (k : ℕ) → 0 < k → ((next_token ts).tag ≡ tags.Comma → ⊥) → more_names k (lexemes text ts) ≡ Ok ([], lexemes text ts)
  more_names_stop zero l n = absurd (omega arith)
  more_names_stop (suc k) l n = ap (More k) (is_from text tags.Comma refl ts ∙ unseen ts tags.Comma n)

  abbrev Target : ℕ → Name → Bool → Answer (Stm × Tokens)
  Target room v b = if_so b (λ w. set_at room v (rest (lexemes text ts))) (λ w. call_at room v (lexemes text ts))

  pub named_set : (us : List Token) (room : ℕ) (v : Name) → Taken tags.Assign ts us
      → named_at room v (lexemes text ts) ≡ (level_at room 4 (lexemes text us) >>= (λ e. eat (codes ";") e.1 >>= (λ t. Ok (One v.at (Set v e.0), t))))
  unfolding named_at set_at call_at
  named_set us room v h =
      ap (Target room v) (is_from text tags.Assign refl ts ∙ seen ts tags.Assign h.0)
      ∙ ap (set_at room v) (rest_from text ts ∙ ap (lexemes text) (sym h.1))
      ∙ set_step room v (lexemes text us)

  pub named_call : (us : List Token) (room : ℕ) (v : Name) → NotTaken tags.Assign ts us
      → named_at room v (lexemes text ts) ≡ (called_at room (lexemes text us) >>= (λ a. eat (codes ";") a.1 >>= (λ t. Ok (One v.at (Call v a.0), t))))
  unfolding named_at set_at call_at
  named_call us room v h =
      ap (Target room v) (is_from text tags.Assign refl ts ∙ unseen ts tags.Assign h.0)
      ∙ ap (λ u. call_at room v (lexemes text u)) (sym h.1)
      ∙ call_step room v (lexemes text us)
