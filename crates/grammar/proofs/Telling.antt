-- Steps of code that answers what a parser does.
use Rattle.std.proofs.Common.{◌≡◌, ℕ, zero, suc, Bool, true, false, ◌⊎◌, List, [], Ok, Err, Result, sym, refl, ap, ◌∙◌, subst, inl, inr, arith}
use Rattle.std.specs.Result.{IsErrAnd}
use Rattle.std.proofs.lemmas.Result.{err_from_is_err_and}
use Rattle.reader.specs.declared.fault.Fault.{Fault}
use Rattle.reader.specs.declared.fault.Error.{Error}
use Rattle.reader.specs.declared.fault.Error.TheVariants.{Refused, OutOfMemory}
use Rattle.reader.specs.declared.fault.Cause.{Cause}
use Rattle.reader.specs.declared.fault.Cause.TheVariants.{NotAllowed, TooDeep}
use Rattle.reader.specs.declared.token.Token.{Token}
use Rattle.reader.specs.declared.token.Tag.{Tag}
use Rattle.reader.specs.declared.token.Tag.TheVariants as tags
use Rattle.reader.specs.Tokens.{Lexeme, fixed}
use Rattle.reader.specs.Faults.{Answer, ◌>>=◌, refuse, must, Meets}
use Rattle.reader.specs.Views.{class_of, spelled, part, lexemes}
use Rattle.grammar.specs.Parsers.{Tokens, here, rest, if_so, bad, eat, as_name}
use Rattle.grammar.specs.Trees.{Name}
use Rattle.grammar.specs.Readers.{opened, word_at}
use Rattle.grammar.specs.Reading.{next_token, after_next, Tells, value, fault, no_memory}
use Rattle.grammar.proofs.Tags.{test, seen, unseen, here_from, rest_from, is_from, name_from, number_from}

-- what was told with a value
pub told : {V A : Type 0} {f : V → A} {v : V} {a : Answer A} → Tells f (Ok v) a → a ≡ Ok (f v)
told (value v) = refl

pub via : {V A : Type 0} {f : V → A} {r : Result V Error} {x y : Answer A} → x ≡ y → Tells f r y → Tells f r x
via {f = f} {r = r} e h = subst (λ z. Tells f r z) (sym e) h

-- a value that stands for what the parser answers
pub valued : {V A : Type 0} {f : V → A} (v : V) {a : Answer A} → a ≡ Ok (f v) → Tells f (Ok v) a
valued v e = via e (value v)

-- a fault that the parser finds
pub refuses : {V A : Type 0} {f : V → A} {e : Error} {g : Fault} {a : Answer A} → e ≡ Refused g → a ≡ Err g → Tells f (Err e) a
refuses {f = f} {g = g} p q = via q (subst (λ e. Tells f (Err e) (Err g)) (sym p) (fault g))

-- what cannot be refused fails only for want of memory
pub memory : {V A : Type 0} {f : V → A} {e : Error} {x : A} → Tells f (Err e) (Ok x) → e ≡ OutOfMemory
memory (no_memory a) = refl

pub made_is : {V A : Type 0} {f : V → A} {v : V} {x : A} → Tells f (Ok v) (Ok x) → x ≡ f v
made_is (value v) = refl

-- what was made, with the tokens that are left
pub with_rest : {V A : Type 0} {f : V → A} {r : Result V Error} {x : A} (u : Tokens) → Tells f r (Ok x) → Tells {A = A × Tokens} (λ (v : V). (f v, u)) r (Ok (x, u))
with_rest u (value v) = value v
with_rest u (no_memory a) = no_memory (Ok (_, u))

-- an error goes on
pub broken : {V A W B : Type 0} {f : V → A} {g : W → B} {e : Error} {a : Answer A} (k : A → Answer B) → Tells f (Err e) a → Tells g (Err e) (a >>= k)
broken k (fault x) = fault x
broken k (no_memory a) = no_memory (a >>= k)

-- the exit of a `?`
pub stopped : {V A W B : Type 0} {f : V → A} {g : W → B} {e : Error} {a : Answer A} (r : Result W Error) (k : A → Answer B) → IsErrAnd r (λ y. y ≡ e) → Tells f (Err e) a → Tells g r (a >>= k)
stopped {g = g} {a = a} r k q h = let p = err_from_is_err_and r q in subst (λ r. Tells g r (a >>= k)) (sym (p.1 ∙ ap Err p.2)) (broken k h)

pub starved : {W B : Type 0} {g : W → B} {e : Error} (r : Result W Error) (a : Answer B) → IsErrAnd r (λ y. y ≡ e) → e ≡ OutOfMemory → Tells g r a
starved {g = g} r a q h = let p = err_from_is_err_and r q in subst (λ r. Tells g r a) (sym (p.1 ∙ ap Err (p.2 ∙ h))) (no_memory a)

-- the exit after what could not be made
pub unmade : {V A W B : Type 0} {f : V → A} {g : W → B} {e : Error} {x : A} (r : Result W Error) (a : Answer B) → IsErrAnd r (λ y. y ≡ e) → Tells f (Err e) (Ok x) → Tells g r a
unmade r a q h = starved r a q (memory h)

-- what must hold, and did not or did
pub must_failed : (b : Bool) (c : Cause) (at : ℕ) {f : Fault} → must b c at ≡ Err f → (b ≡ false) × (record { cause = c; offset = at } ≡ f)
must_failed true c at e = absurd (let z : ◌≡◌ {A = ℕ} 0 1 = cc in omega arith)
must_failed false c at e = (refl, cc)

pub must_held : (b : Bool) (c : Cause) (at : ℕ) {v : Unit {0}} → must b c at ≡ Ok v → b ≡ true
must_held true c at e = refl
must_held false c at e = absurd (let z : ◌≡◌ {A = ℕ} 0 1 = cc in omega arith)

-- the public form
pub meets : {V A : Type 0} {f : V → A} {r : Result V Error} {a : Answer A} → Tells f r a → Meets (λ v x. f v ≡ x) r a
meets (value v) = refl
meets (fault g) = refl
meets (no_memory a) = tt

-- the exit of a `?`, after which nothing more is read
pub passed : {V A : Type 0} {f : V → A} {e : Error} {a : Answer A} (r : Result V Error) → IsErrAnd r (λ y. y ≡ e) → Tells f (Err e) a → Tells f r a
passed {f = f} {a = a} r q h = let p = err_from_is_err_and r q in subst (λ r. Tells f r a) (sym (p.1 ∙ ap Err p.2)) h

-- ---- signs, words and names

module _ (text : List ℕ) (ts : List Token) where
  pub bad_from : {A : Type 0} → bad {A = A} (lexemes text ts) ≡ refuse NotAllowed (next_token ts).at
  bad_from {A} = ap (λ (l : Lexeme). refuse {A = A} NotAllowed l.at) (here_from text ts)

  pub deep_from : {A : Type 0} → refuse {A = A} TooDeep (here (lexemes text ts)).at ≡ refuse TooDeep (next_token ts).at
  deep_from {A} = ap (λ (l : Lexeme). refuse {A = A} TooDeep l.at) (here_from text ts)

  eat_if : (t : Tag) → class_of t ≡ fixed → (b : Bool) → test ts t ≡ b → eat (spelled [] t) (lexemes text ts) ≡ if_so b (λ u. Ok (rest (lexemes text ts))) (λ u. bad (lexemes text ts))
  eat_if t f b h = ap (λ b. if_so b (λ u. Ok (rest (lexemes text ts))) (λ u. bad (lexemes text ts))) (is_from text t f ts ∙ h)

  pub eat_yes : (t : Tag) → class_of t ≡ fixed → (next_token ts).tag ≡ t → eat (spelled [] t) (lexemes text ts) ≡ Ok (lexemes text (after_next ts))
  eat_yes t f h = eat_if t f true (seen ts t h) ∙ ap Ok (rest_from text ts)

  pub eat_no : (t : Tag) → class_of t ≡ fixed → ((next_token ts).tag ≡ t → ⊥) → eat (spelled [] t) (lexemes text ts) ≡ refuse NotAllowed (next_token ts).at
  eat_no t f n = eat_if t f false (unseen ts t n) ∙ bad_from

  abbrev pub word : Token → Name
  word t = record { text = part text t.at t.len; at = t.at }

  abbrev Worded : Bool → Answer (Name × Tokens)
  Worded b = if_so b (λ u. Ok (as_name (here (lexemes text ts)), rest (lexemes text ts))) (λ u. bad (lexemes text ts))

  -- a name and a number are spelled by their part of the text
  word_here : (t : Tag) → ((w : List ℕ) → spelled w t ≡ w) → (next_token ts).tag ≡ t → Worded true ≡ Ok (word (next_token ts), lexemes text (after_next ts))
  word_here t s h =
      let w = next_token ts in
      let e : spelled (part text w.at w.len) w.tag ≡ part text w.at w.len = ap (spelled (part text w.at w.len)) h ∙ s (part text w.at w.len) in
      ap (λ (l : Lexeme). Ok (as_name l, rest (lexemes text ts))) (here_from text ts)
      ∙ ap (λ (x : List ℕ). Ok (record { text = x; at = w.at }, rest (lexemes text ts))) e
      ∙ ap (λ (r : Tokens). Ok (word w, r)) (rest_from text ts)

  pub word_yes : (t : Tag) → (t ≡ tags.Name) ⊎ (t ≡ tags.Number) → (next_token ts).tag ≡ t → word_at t (lexemes text ts) ≡ Ok (word (next_token ts), lexemes text (after_next ts))
  word_yes t (inl e) h =
      ap (λ (u : Tag). word_at u (lexemes text ts)) e ∙ ap Worded (name_from text ts ∙ seen ts tags.Name (h ∙ e)) ∙ word_here tags.Name (λ w. refl) (h ∙ e)
  word_yes t (inr e) h =
      ap (λ (u : Tag). word_at u (lexemes text ts)) e ∙ ap Worded (number_from text ts ∙ seen ts tags.Number (h ∙ e)) ∙ word_here tags.Number (λ w. refl) (h ∙ e)

  pub word_no : (t : Tag) → (t ≡ tags.Name) ⊎ (t ≡ tags.Number) → ((next_token ts).tag ≡ t → ⊥) → word_at t (lexemes text ts) ≡ refuse NotAllowed (next_token ts).at
  word_no t (inl e) n =
      ap (λ (u : Tag). word_at u (lexemes text ts)) e ∙ ap Worded (name_from text ts ∙ unseen ts tags.Name (λ q. n (q ∙ sym e))) ∙ bad_from
  word_no t (inr e) n =
      ap (λ (u : Tag). word_at u (lexemes text ts)) e ∙ ap Worded (number_from text ts ∙ unseen ts tags.Number (λ q. n (q ∙ sym e))) ∙ bad_from

-- ---- opening brackets

module _ (s : List ℕ) (ts : Tokens) where
  pub opened_stop : (room : ℕ) {V : Type 0} {f : V → Tokens} {e : Error} (r : Result V Error) → IsErrAnd r (λ y. y ≡ e) → Tells f (Err e) (eat s ts) → Tells f r (opened room s ts)
  unfolding opened
  opened_stop zero r q h = stopped r _ q h
  opened_stop (suc room) r q h = passed r q h

  pub opened_deep : (room : ℕ) {u : Tokens} → room ≡ 0 → eat s ts ≡ Ok u → opened room s ts ≡ refuse TooDeep (here ts).at
  unfolding opened
  opened_deep zero e h = rw h
  opened_deep (suc room) e h = absurd (omega arith)

  pub opened_yes : (room : ℕ) {u : Tokens} → (room ≡ 0 → ⊥) → eat s ts ≡ Ok u → opened room s ts ≡ Ok u
  unfolding opened
  opened_yes zero n h = absurd (n refl)
  opened_yes (suc room) n h = h
