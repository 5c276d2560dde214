-- The parsers of statements and blocks, a step at a time.
use Rattle.std.proofs.Common.{◌≡◌, ℕ, zero, suc, ◌-◌, ◌<◌, Bool, false, eqb, List, [], ◌∷◌, length, Ok, Err, codes, sym, refl, ap, ◌∙◌, arith}
use Rattle.std.proofs.lemmas.Bool.{both_ways, eq-eqb}
use Rattle.reader.specs.declared.fault.Cause.TheVariants.{NotAllowed, TooDeep}
use Rattle.reader.specs.declared.token.Token.{Token}
use Rattle.reader.specs.declared.token.Tag.{Tag}
use Rattle.reader.specs.declared.token.Tag.TheVariants as tags
use Rattle.reader.specs.Tokens.{Lexeme}
use Rattle.reader.specs.Faults.{Answer, ◌>>=◌, refuse}
use Rattle.reader.specs.Views.{class_of, spelled, part, lexemes}
use Rattle.grammar.specs.Trees.{If, While, Try, Take, Plain, Var, Next, Know, Throw, Simple, Name, Stm, One, Two, Par, Block, Nil, Seq, Blocks, Last, Also}
use Rattle.grammar.specs.Parsers.{Tokens, Parser, here, if_so, is, eat, a_name, a_number}
use Rattle.grammar.specs.Readers.{
  opened,
  grouped_at,
  caught_at,
  named_at,
  ended_name,
  block_at,
  statement_at,
  statements_at,
  plain_at,
  if_at,
  while_at,
  try_at,
  take_at,
  par_at,
  branches_at,
}
use Rattle.grammar.specs.Reading.{next_token, after_next}
use Rattle.grammar.proofs.Tags.{code, seen, unseen, is_from}
use Rattle.grammar.proofs.SimpleSteps.{short_step}

block_suc : (room : ℕ) (ts : Tokens) → block_at (suc room) ts ≡ (eat (codes "{") ts >>= (λ t. statements_at room (suc (length t)) t >>= (λ b. eat (codes "}") b.1 >>= (λ u. Ok (b.0, u)))))
unfolding block_at statements_at
block_suc room ts = refl

block_none : (ts : Tokens) → block_at zero ts ≡ (eat (codes "{") ts >>= (λ r. refuse TooDeep (here ts).at))
unfolding block_at
block_none ts = refl

pub block_step : (room : ℕ) (ts : Tokens)
    → block_at room ts ≡ (opened room (codes "{") ts >>= (λ t. statements_at (room - 1) (suc (length t)) t >>= (λ b. eat (codes "}") b.1 >>= (λ u. Ok (b.0, u)))))
unfolding opened
block_step zero ts = block_none ts ∙ go (eat (codes "{") ts) (λ t. statements_at (0 - 1) (suc (length t)) t >>= (λ b. eat (codes "}") b.1 >>= (λ u. Ok (b.0, u))))
  where
    go : (m : Answer Tokens) (k : Tokens → Answer (Block × Tokens)) → (m >>= (λ r. refuse {A = Block × Tokens} TooDeep (here ts).at)) ≡ ((m >>= (λ r. refuse TooDeep (here ts).at)) >>= k)
    go (Ok x) k = refl
    go (Err x) k = refl
block_step (suc room) ts =
    let e : room ≡ suc room - 1 = omega arith in
    block_suc room ts ∙ ap (λ n. eat (codes "{") ts >>= (λ t. statements_at n (suc (length t)) t >>= (λ b. eat (codes "}") b.1 >>= (λ u. Ok (b.0, u))))) e

statements_suc : (room n : ℕ) (ts : Tokens)
    → statements_at room (suc n) ts ≡ if_so (is (codes "}") ts) (λ u. Ok (Nil, ts)) (λ u. statement_at room ts >>= (λ s. statements_at room n s.1 >>= (λ b. Ok (Seq s.0 b.0, b.1))))
unfolding statements_at statement_at
statements_suc room n ts = refl

pub plain_step : (room at : ℕ) (ts : Tokens) → plain_at room at ts ≡ (block_at room ts >>= (λ b. Ok (Two at Plain b.0 Nil, b.1)))
unfolding plain_at block_at
plain_step room at ts = refl

pub if_step : (room at : ℕ) (ts : Tokens)
    → if_at room at ts ≡ (grouped_at room ts >>= (λ e. block_at room e.1 >>= (λ a. eat (codes "else") a.1 >>= (λ t. block_at room t >>= (λ b. Ok (Two at (If e.0) a.0 b.0, b.1))))))
unfolding if_at grouped_at block_at
if_step room at ts = refl

pub while_step : (room at : ℕ) (ts : Tokens) → while_at room at ts ≡ (grouped_at room ts >>= (λ e. block_at room e.1 >>= (λ a. Ok (Two at (While e.0) a.0 Nil, a.1))))
unfolding while_at grouped_at block_at
while_step room at ts = refl

pub try_step : (room at : ℕ) (ts : Tokens)
    → try_at room at ts ≡ (block_at room ts >>= (λ a. eat (codes "catch") a.1 >>= (λ t. caught_at room t >>= (λ x. block_at room x.1 >>= (λ b. Ok (Two at (Try x.0) a.0 b.0, b.1))))))
unfolding try_at caught_at block_at
try_step room at ts = refl

pub take_step : (room at : ℕ) (ts : Tokens)
    → take_at room at ts ≡ (a_number ts >>= (λ i. a_name i.1 >>= (λ v. eat (codes "else") v.1 >>= (λ t. block_at room t >>= (λ b. Ok (Two at (Take i.0 v.0) b.0 Nil, b.1))))))
unfolding take_at block_at
take_step room at ts = refl

pub par_step : (room at : ℕ) (ts : Tokens)
    → par_at room at ts ≡ (block_at room ts >>= (λ a. block_at room a.1 >>= (λ b. branches_at room 6 b.1 >>= (λ m. eat (codes ";") m.1 >>= (λ t. Ok (Par at (Also a.0 (Also b.0 m.0)), t))))))
unfolding par_at branches_at block_at
par_step room at ts = refl

pub branches_none : (room n : ℕ) (ts : Tokens) → n ≡ 0 → branches_at room n ts ≡ Ok (Last, ts)
unfolding branches_at
branches_none room zero ts e = refl
branches_none room (suc n) ts e = absurd (omega arith)

branches_suc : (room n : ℕ) (ts : Tokens)
    → branches_at room (suc n) ts ≡ if_so (is (codes "{") ts) (λ u. block_at room ts >>= (λ r. branches_at room n r.1 >>= (λ s. Ok (Also r.0 s.0, s.1)))) (λ u. Ok (Last, ts))
unfolding branches_at block_at
branches_suc room n ts = refl

-- ---- by the next token

module _ (text : List ℕ) (ts : List Token) (room : ℕ) where
  abbrev Choice : ℕ → Bool → Answer (Block × Tokens)
  Choice n b = let u = lexemes text ts in if_so b (λ w. Ok (Nil, u)) (λ w. statement_at room u >>= (λ s. statements_at room n s.1 >>= (λ b. Ok (Seq s.0 b.0, b.1))))

  pub statements_none : (n : ℕ) → 0 < n → (next_token ts).tag ≡ tags.CloseBrace → statements_at room n (lexemes text ts) ≡ Ok (Nil, lexemes text ts)
  statements_none zero l h = absurd (omega arith)
  statements_none (suc n) l h = statements_suc room n (lexemes text ts) ∙ ap (λ b. Choice n b) (is_from text tags.CloseBrace refl ts ∙ seen ts tags.CloseBrace h)

  pub statements_more : (n : ℕ) → 0 < n → ((next_token ts).tag ≡ tags.CloseBrace → ⊥)
      → statements_at room n (lexemes text ts) ≡ (statement_at room (lexemes text ts) >>= (λ s. statements_at room (n - 1) s.1 >>= (λ b. Ok (Seq s.0 b.0, b.1))))
  statements_more zero l h = absurd (omega arith)
  statements_more (suc n) l h =
      let e : n ≡ suc n - 1 = omega arith in
      statements_suc room n (lexemes text ts) ∙ ap (λ b. Choice n b) (is_from text tags.CloseBrace refl ts ∙ unseen ts tags.CloseBrace h)
      ∙ ap (λ m. statement_at room (lexemes text ts) >>= (λ s. statements_at room m s.1 >>= (λ b. Ok (Seq s.0 b.0, b.1)))) e

  abbrev Branch : ℕ → Bool → Answer (Blocks × Tokens)
  Branch n b = let u = lexemes text ts in if_so b (λ w. block_at room u >>= (λ r. branches_at room n r.1 >>= (λ s. Ok (Also r.0 s.0, s.1)))) (λ w. Ok (Last, u))

  pub branches_stop : (n : ℕ) → ((next_token ts).tag ≡ tags.OpenBrace → ⊥) → branches_at room n (lexemes text ts) ≡ Ok (Last, lexemes text ts)
  branches_stop zero h = branches_none room zero (lexemes text ts) refl
  branches_stop (suc n) h = branches_suc room n (lexemes text ts) ∙ ap (λ b. Branch n b) (is_from text tags.OpenBrace refl ts ∙ unseen ts tags.OpenBrace h)

  pub branches_more : (n : ℕ) → (n ≡ 0 → ⊥) → (next_token ts).tag ≡ tags.OpenBrace
      → branches_at room n (lexemes text ts) ≡ (block_at room (lexemes text ts) >>= (λ r. branches_at room (n - 1) r.1 >>= (λ s. Ok (Also r.0 s.0, s.1))))
  branches_more zero l h = absurd (l refl)
  branches_more (suc n) l h =
      let e : n ≡ suc n - 1 = omega arith in
      branches_suc room n (lexemes text ts) ∙ ap (λ b. Branch n b) (is_from text tags.OpenBrace refl ts ∙ seen ts tags.OpenBrace h)
      ∙ ap (λ m. block_at room (lexemes text ts) >>= (λ r. branches_at room m r.1 >>= (λ s. Ok (Also r.0 s.0, s.1)))) e

-- ---- statements, by their first tokens

abbrev lexeme : Token → List ℕ → Tag → Lexeme
lexeme w text t = record { class = class_of t; text = spelled (part text w.at w.len) t; at = w.at }

no_token : {B : Type 0} (t : Tag) → tags.End ≡ t → eqb 28 (code t) ≡ false → B
no_token t h n = absurd (both_ways (eqb 28 (code t)) n (eq-eqb 28 (code t) (ap code h)))

-- the next token, of a known tag, and those after it
module _ (text : List ℕ) (room : ℕ) where
  first_is : (ts : List Token) (t : Tag) → (next_token ts).tag ≡ t → eqb 28 (code t) ≡ false → lexemes text ts ≡ lexeme (next_token ts) text t ∷ lexemes text (after_next ts)
  first_is [] t h n = no_token t h n
  first_is (w ∷ ts) t h n = ap (λ (g : Tag). lexeme w text g ∷ lexemes text ts) h

module _ (text : List ℕ) (ts : List Token) (room : ℕ) where
  abbrev Begins : Tag → Parser Stm → Type 0
  Begins t p = (next_token ts).tag ≡ t → statement_at room (lexemes text ts) ≡ p (lexemes text (after_next ts))

  begun : (t : Tag) → eqb 28 (code t) ≡ false → (next_token ts).tag ≡ t → statement_at room (lexemes text ts) ≡ statement_at room (lexeme (next_token ts) text t ∷ lexemes text (after_next ts))
  begun t n h = ap (λ u. statement_at room u) (first_is text room ts t h n)

  -- a name and `;`
  abbrev Short : (Name → Simple) → Parser Stm
  Short f u = ended_name u >>= (λ r. Ok (One (next_token ts).at (f r.0), r.1))

  pub begins_Name : Begins tags.Name (named_at room (record { text = part text (next_token ts).at (next_token ts).len; at = (next_token ts).at }))
  unfolding statement_at named_at
  begins_Name h = begun tags.Name refl h

  pub begins_Var : Begins tags.Var (Short Var)
  unfolding statement_at
  begins_Var h = begun tags.Var refl h ∙ short_step (next_token ts).at Var (lexemes text (after_next ts))

  pub begins_Next : Begins tags.Next (Short Next)
  unfolding statement_at
  begins_Next h = begun tags.Next refl h ∙ short_step (next_token ts).at Next (lexemes text (after_next ts))

  pub begins_Know : Begins tags.Know (Short Know)
  unfolding statement_at
  begins_Know h = begun tags.Know refl h ∙ short_step (next_token ts).at Know (lexemes text (after_next ts))

  pub begins_Throw : Begins tags.Throw (Short Throw)
  unfolding statement_at
  begins_Throw h = begun tags.Throw refl h ∙ short_step (next_token ts).at Throw (lexemes text (after_next ts))

  pub begins_If : Begins tags.If (if_at room (next_token ts).at)
  unfolding statement_at if_at
  begins_If h = begun tags.If refl h

  pub begins_While : Begins tags.While (while_at room (next_token ts).at)
  unfolding statement_at while_at
  begins_While h = begun tags.While refl h

  pub begins_Try : Begins tags.Try (try_at room (next_token ts).at)
  unfolding statement_at try_at
  begins_Try h = begun tags.Try refl h

  pub begins_Take : Begins tags.Take (take_at room (next_token ts).at)
  unfolding statement_at take_at
  begins_Take h = begun tags.Take refl h

  pub begins_Par : Begins tags.Par (par_at room (next_token ts).at)
  unfolding statement_at par_at
  begins_Par h = begun tags.Par refl h

  pub begins_OpenBrace : (next_token ts).tag ≡ tags.OpenBrace → statement_at room (lexemes text ts) ≡ plain_at room (next_token ts).at (lexemes text ts)
  unfolding statement_at plain_at
  begins_OpenBrace h = let i = first_is text room ts tags.OpenBrace h refl in ap (λ u. statement_at room u) i ∙ ap (λ u. plain_at room (next_token ts).at u) (sym i)

-- a tag that no statement begins with
module _ (room : ℕ) (w : List ℕ) (o : ℕ) (r : Tokens) where
  other : (t : Tag) → (t ≡ tags.Name → ⊥) → (t ≡ tags.OpenBrace → ⊥) → (t ≡ tags.Var → ⊥) → (t ≡ tags.Next → ⊥) → (t ≡ tags.Know → ⊥) → (t ≡ tags.Throw → ⊥) → (t ≡ tags.If → ⊥) → (t ≡ tags.While → ⊥) → (t ≡ tags.Try → ⊥) → (t ≡ tags.Take → ⊥) → (t ≡ tags.Par → ⊥)
      → statement_at room (record { class = class_of t; text = spelled w t; at = o } ∷ r) ≡ refuse NotAllowed o
  unfolding statement_at
  other tags.Name nName nOpenBrace nVar nNext nKnow nThrow nIf nWhile nTry nTake nPar = absurd (nName refl)
  other tags.Number nName nOpenBrace nVar nNext nKnow nThrow nIf nWhile nTry nTake nPar = refl
  other tags.OpenParen nName nOpenBrace nVar nNext nKnow nThrow nIf nWhile nTry nTake nPar = refl
  other tags.CloseParen nName nOpenBrace nVar nNext nKnow nThrow nIf nWhile nTry nTake nPar = refl
  other tags.OpenBrace nName nOpenBrace nVar nNext nKnow nThrow nIf nWhile nTry nTake nPar = absurd (nOpenBrace refl)
  other tags.CloseBrace nName nOpenBrace nVar nNext nKnow nThrow nIf nWhile nTry nTake nPar = refl
  other tags.Comma nName nOpenBrace nVar nNext nKnow nThrow nIf nWhile nTry nTake nPar = refl
  other tags.Semicolon nName nOpenBrace nVar nNext nKnow nThrow nIf nWhile nTry nTake nPar = refl
  other tags.Ampersand nName nOpenBrace nVar nNext nKnow nThrow nIf nWhile nTry nTake nPar = refl
  other tags.Assign nName nOpenBrace nVar nNext nKnow nThrow nIf nWhile nTry nTake nPar = refl
  other tags.Plus nName nOpenBrace nVar nNext nKnow nThrow nIf nWhile nTry nTake nPar = refl
  other tags.Minus nName nOpenBrace nVar nNext nKnow nThrow nIf nWhile nTry nTake nPar = refl
  other tags.Star nName nOpenBrace nVar nNext nKnow nThrow nIf nWhile nTry nTake nPar = refl
  other tags.Less nName nOpenBrace nVar nNext nKnow nThrow nIf nWhile nTry nTake nPar = refl
  other tags.Equals nName nOpenBrace nVar nNext nKnow nThrow nIf nWhile nTry nTake nPar = refl
  other tags.Var nName nOpenBrace nVar nNext nKnow nThrow nIf nWhile nTry nTake nPar = absurd (nVar refl)
  other tags.Next nName nOpenBrace nVar nNext nKnow nThrow nIf nWhile nTry nTake nPar = absurd (nNext refl)
  other tags.Know nName nOpenBrace nVar nNext nKnow nThrow nIf nWhile nTry nTake nPar = absurd (nKnow refl)
  other tags.Take nName nOpenBrace nVar nNext nKnow nThrow nIf nWhile nTry nTake nPar = absurd (nTake refl)
  other tags.If nName nOpenBrace nVar nNext nKnow nThrow nIf nWhile nTry nTake nPar = absurd (nIf refl)
  other tags.Else nName nOpenBrace nVar nNext nKnow nThrow nIf nWhile nTry nTake nPar = refl
  other tags.While nName nOpenBrace nVar nNext nKnow nThrow nIf nWhile nTry nTake nPar = absurd (nWhile refl)
  other tags.Par nName nOpenBrace nVar nNext nKnow nThrow nIf nWhile nTry nTake nPar = absurd (nPar refl)
  other tags.Try nName nOpenBrace nVar nNext nKnow nThrow nIf nWhile nTry nTake nPar = absurd (nTry refl)
  other tags.Catch nName nOpenBrace nVar nNext nKnow nThrow nIf nWhile nTry nTake nPar = refl
  other tags.Throw nName nOpenBrace nVar nNext nKnow nThrow nIf nWhile nTry nTake nPar = absurd (nThrow refl)
  other tags.Proc nName nOpenBrace nVar nNext nKnow nThrow nIf nWhile nTry nTake nPar = refl
  other tags.Main nName nOpenBrace nVar nNext nKnow nThrow nIf nWhile nTry nTake nPar = refl
  other tags.End nName nOpenBrace nVar nNext nKnow nThrow nIf nWhile nTry nTake nPar = refl

nothing : (room : ℕ) → statement_at room [] ≡ refuse NotAllowed 0
unfolding statement_at
nothing room = refl

pub begins_none : (text : List ℕ) (ts : List Token) (room : ℕ) → ((next_token ts).tag ≡ tags.Name → ⊥) → ((next_token ts).tag ≡ tags.OpenBrace → ⊥) → ((next_token ts).tag ≡ tags.Var → ⊥) → ((next_token ts).tag ≡ tags.Next → ⊥) → ((next_token ts).tag ≡ tags.Know → ⊥) → ((next_token ts).tag ≡ tags.Throw → ⊥) → ((next_token ts).tag ≡ tags.If → ⊥) → ((next_token ts).tag ≡ tags.While → ⊥) → ((next_token ts).tag ≡ tags.Try → ⊥) → ((next_token ts).tag ≡ tags.Take → ⊥) → ((next_token ts).tag ≡ tags.Par → ⊥)
    → statement_at room (lexemes text ts) ≡ refuse NotAllowed (next_token ts).at
begins_none text [] room nName nOpenBrace nVar nNext nKnow nThrow nIf nWhile nTry nTake nPar = nothing room
begins_none text (w ∷ ts) room nName nOpenBrace nVar nNext nKnow nThrow nIf nWhile nTry nTake nPar = other room (part text w.at w.len) w.at (lexemes text ts) w.tag nName nOpenBrace nVar nNext nKnow nThrow nIf nWhile nTry nTake nPar
