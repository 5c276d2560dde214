-- The parsers of parameters, procedures and whole texts, a step at a time.
use Rattle.std.proofs.Common.{◌≡◌, ℕ, zero, suc, ◌-◌, ◌<◌, Bool, true, false, List, [], ◌∷◌, ◌++◌, length, Ok, Err, codes, sym, refl, ap, ◌∙◌, arith}
use Rattle.reader.specs.declared.fault.Cause.TheVariants.{NotAllowed}
use Rattle.reader.specs.declared.token.Token.{Token}
use Rattle.reader.specs.declared.token.Tag.TheVariants as tags
use Rattle.reader.specs.Faults.{Answer, ◌>>=◌, refuse}
use Rattle.grammar.specs.declared.tree.Param as code-param
use Rattle.grammar.specs.declared.tree.Proc as code-proc
use Rattle.grammar.specs.Trees.{Name, Block, Param, Proc, Tree}
use Rattle.grammar.specs.Views as view
use Rattle.grammar.specs.Parsers.{Tokens, rest, if_so, is, bad, eat, a_name}
use Rattle.grammar.specs.Parsing.{parameters, finished, parsed}
use Rattle.grammar.specs.Readers.{opened, block_at, param_at, parameters_at, more_params_at, listed_at, proc_at, procedures_at}
use Rattle.reader.specs.Views.{lexemes}
use Rattle.grammar.specs.Reading.{next_token, Taken, NotTaken, in_front}
use Rattle.grammar.proofs.Tags.{seen, unseen, rest_from, is_from, finish_from}
use Rattle.grammar.proofs.Telling.{bad_from}
use Rattle.grammar.proofs.SimpleSteps.{parens_step}

abbrev by_value : Name → Param
by_value n = record { reference = false; name = n }

abbrev by_reference : Name → Param
by_reference n = record { reference = true; name = n }

param_step : (ts : Tokens)
    → param_at ts ≡ if_so (is (codes "&") ts) (λ u. a_name (rest ts) >>= (λ r. Ok (by_reference r.0, r.1))) (λ u. a_name ts >>= (λ r. Ok (by_value r.0, r.1)))
unfolding param_at
param_step ts = refl

parameters_step : (ts : Tokens)
    → parameters_at ts ≡ if_so (is (codes ")") ts) (λ u. Ok ([], ts)) (λ u. param_at ts >>= (λ r. more_params_at 7 r.1 >>= (λ s. Ok (r.0 ∷ s.0, s.1))))
unfolding parameters_at param_at more_params_at
parameters_step ts = refl

pub more_params_none : (k : ℕ) (ts : Tokens) → k ≡ 0 → more_params_at k ts ≡ Ok ([], ts)
unfolding more_params_at
more_params_none zero ts e = refl
more_params_none (suc k) ts e = absurd (omega arith)

more_params_suc : (k : ℕ) (ts : Tokens)
    → more_params_at (suc k) ts ≡ if_so (is (codes ",") ts) (λ u. param_at (rest ts) >>= (λ r. more_params_at k r.1 >>= (λ s. Ok (r.0 ∷ s.0, s.1)))) (λ u. Ok ([], ts))
unfolding more_params_at param_at
more_params_suc k ts = refl

pub listed_step : (ts : Tokens) → listed_at ts ≡ (opened 16 (codes "(") ts >>= (λ t. parameters_at t >>= (λ r. eat (codes ")") r.1 >>= (λ u. Ok (r.0, u)))))
unfolding listed_at parameters_at
listed_step ts = parens_step 16 (λ n. parameters) ts

pub proc_step : (ts : Tokens)
    → proc_at ts ≡ (a_name ts >>= (λ v. listed_at v.1 >>= (λ ps. block_at 16 ps.1 >>= (λ b. Ok (record { name = v.0; params = ps.0; body = b.0 }, b.1)))))
unfolding proc_at listed_at block_at
proc_step ts = refl

procedures_suc : (k : ℕ) (ts : Tokens)
    → procedures_at (suc k) ts ≡ if_so (is (codes "proc") ts) (λ u. proc_at (rest ts) >>= (λ p. procedures_at k p.1 >>= (λ ps. Ok (p.0 ∷ ps.0, ps.1)))) (λ u. Ok ([], ts))
unfolding procedures_at proc_at
procedures_suc k ts = refl

pub parsed_step : (ts : Tokens)
    → parsed ts ≡ (procedures_at (suc (length ts)) ts >>= (λ ps. eat (codes "main") ps.1 >>= (λ t. block_at 16 t >>= (λ b. finished b.1 ps.0 b.0))))
unfolding procedures_at block_at
parsed_step ts = refl

pub params_push : (text : List ℕ) (xs : List code-param.Param) (n : code-param.Param) → view.params text (xs ++ n ∷ []) ≡ view.params text xs ++ view.param text n ∷ []
params_push text [] n = refl
params_push text (x ∷ xs) n = ap (λ ys. view.param text x ∷ ys) (params_push text xs n)

pub procs_push : (text : List ℕ) (xs : List code-proc.Proc) (n : code-proc.Proc) → view.procs text (xs ++ n ∷ []) ≡ view.procs text xs ++ view.proc text n ∷ []
procs_push text [] n = refl
procs_push text (x ∷ xs) n = ap (λ ys. view.proc text x ∷ ys) (procs_push text xs n)

pub in_front_none : {X : Type 0} (m : Answer (List X × Tokens)) → m ≡ in_front [] m
in_front_none (Ok s) = refl
in_front_none (Err e) = refl

-- ---- by the next token

module _ (text : List ℕ) (ts : List Token) where
  abbrev ByReference : Bool → Answer (Param × Tokens)
  ByReference b = if_so b (λ w. a_name (rest (lexemes text ts)) >>= (λ r. Ok (by_reference r.0, r.1))) (λ w. a_name (lexemes text ts) >>= (λ r. Ok (by_value r.0, r.1)))

  -- whether `&` was taken is whether the parameter is by reference
  pub param_taken : (us : List Token) (b : Bool) → (b ≡ true → Taken tags.Ampersand ts us) → (b ≡ false → NotTaken tags.Ampersand ts us)
      → param_at (lexemes text ts) ≡ (a_name (lexemes text us) >>= (λ r. Ok (record { reference = b; name = r.0 }, r.1)))
  param_taken us true h k =
      param_step (lexemes text ts) ∙ ap ByReference (is_from text tags.Ampersand refl ts ∙ seen ts tags.Ampersand (h refl).0)
      ∙ ap (λ v. a_name v >>= (λ r. Ok (by_reference r.0, r.1))) (rest_from text ts ∙ ap (lexemes text) (sym (h refl).1))
  param_taken us false h k =
      param_step (lexemes text ts) ∙ ap ByReference (is_from text tags.Ampersand refl ts ∙ unseen ts tags.Ampersand (k refl).0)
      ∙ ap (λ v. a_name v >>= (λ r. Ok (by_value r.0, r.1))) (ap (lexemes text) (sym (k refl).1))

  abbrev Start : Bool → Answer (List Param × Tokens)
  Start b = let u = lexemes text ts in if_so b (λ w. Ok ([], u)) (λ w. param_at u >>= (λ r. more_params_at 7 r.1 >>= (λ s. Ok (r.0 ∷ s.0, s.1))))

  pub parameters_none : (next_token ts).tag ≡ tags.CloseParen → parameters_at (lexemes text ts) ≡ Ok ([], lexemes text ts)
  parameters_none h = parameters_step (lexemes text ts) ∙ ap Start (is_from text tags.CloseParen refl ts ∙ seen ts tags.CloseParen h)

  pub parameters_some : ((next_token ts).tag ≡ tags.CloseParen → ⊥) → parameters_at (lexemes text ts) ≡ (param_at (lexemes text ts) >>= (λ r. more_params_at 7 r.1 >>= (λ s. Ok (r.0 ∷ s.0, s.1))))
  parameters_some n = parameters_step (lexemes text ts) ∙ ap Start (is_from text tags.CloseParen refl ts ∙ unseen ts tags.CloseParen n)

  abbrev param_or : ℕ → Bool → Answer (List Param × Tokens)
  param_or k b = let u = lexemes text ts in if_so b (λ w. param_at (rest u) >>= (λ r. more_params_at k r.1 >>= (λ s. Ok (r.0 ∷ s.0, s.1)))) (λ w. Ok ([], u))

  pub more_params_go : (us : List Token) (k : ℕ) → 0 < k → Taken tags.Comma ts us
      → more_params_at k (lexemes text ts) ≡ (param_at (lexemes text us) >>= (λ r. more_params_at (k - 1) r.1 >>= (λ s. Ok (r.0 ∷ s.0, s.1))))
  more_params_go us zero l h = absurd (omega arith)
  more_params_go us (suc k) l h =
      let e : k ≡ suc k - 1 = omega arith in
      more_params_suc k (lexemes text ts) ∙ ap (λ b. param_or k b) (is_from text tags.Comma refl ts ∙ seen ts tags.Comma h.0)
      ∙ ap (λ v. param_at v >>= (λ r. more_params_at k r.1 >>= (λ s. Ok (r.0 ∷ s.0, s.1)))) (rest_from text ts ∙ ap (lexemes text) (sym h.1))
      ∙ ap (λ n. param_at (lexemes text us) >>= (λ r. more_params_at n r.1 >>= (λ s. Ok (r.0 ∷ s.0, s.1)))) e

  pub more_params_stop : (k : ℕ) → ((next_token ts).tag ≡ tags.Comma → ⊥) → more_params_at k (lexemes text ts) ≡ Ok ([], lexemes text ts)
  more_params_stop zero n = more_params_none 0 (lexemes text ts) refl
  more_params_stop (suc k) n = more_params_suc k (lexemes text ts) ∙ ap (λ b. param_or k b) (is_from text tags.Comma refl ts ∙ unseen ts tags.Comma n)

  abbrev proc_or : ℕ → Bool → Answer (List Proc × Tokens)
  proc_or k b = let u = lexemes text ts in if_so b (λ w. proc_at (rest u) >>= (λ p. procedures_at k p.1 >>= (λ ps. Ok (p.0 ∷ ps.0, ps.1)))) (λ w. Ok ([], u))

  pub procedures_go : (us : List Token) (k : ℕ) → 0 < k → Taken tags.Proc ts us
      → procedures_at k (lexemes text ts) ≡ (proc_at (lexemes text us) >>= (λ p. procedures_at (k - 1) p.1 >>= (λ ps. Ok (p.0 ∷ ps.0, ps.1))))
  procedures_go us zero l h = absurd (omega arith)
  procedures_go us (suc k) l h =
      let e : k ≡ suc k - 1 = omega arith in
      procedures_suc k (lexemes text ts) ∙ ap (λ b. proc_or k b) (is_from text tags.Proc refl ts ∙ seen ts tags.Proc h.0)
      ∙ ap (λ v. proc_at v >>= (λ p. procedures_at k p.1 >>= (λ ps. Ok (p.0 ∷ ps.0, ps.1)))) (rest_from text ts ∙ ap (lexemes text) (sym h.1))
      ∙ ap (λ n. proc_at (lexemes text us) >>= (λ p. procedures_at n p.1 >>= (λ ps. Ok (p.0 ∷ ps.0, ps.1)))) e

  pub procedures_stop : (k : ℕ) → 0 < k → ((next_token ts).tag ≡ tags.Proc → ⊥) → procedures_at k (lexemes text ts) ≡ Ok ([], lexemes text ts)
  procedures_stop zero l n = absurd (omega arith)
  procedures_stop (suc k) l n = procedures_suc k (lexemes text ts) ∙ ap (λ b. proc_or k b) (is_from text tags.Proc refl ts ∙ unseen ts tags.Proc n)

  abbrev Finish : List Proc → Block → Bool → Answer Tree
  Finish ps b x = if_so x (λ u. Ok (record { procs = ps; main = b })) (λ u. bad (lexemes text ts))

  pub finished_yes : (ps : List Proc) (b : Block) → (next_token ts).tag ≡ tags.End → finished (lexemes text ts) ps b ≡ Ok (record { procs = ps; main = b })
  finished_yes ps b h = ap (λ x. Finish ps b x) (finish_from text ts ∙ seen ts tags.End h)

  pub finished_no : (ps : List Proc) (b : Block) → ((next_token ts).tag ≡ tags.End → ⊥) → finished (lexemes text ts) ps b ≡ refuse NotAllowed (next_token ts).at
  finished_no ps b n = ap (λ x. Finish ps b x) (finish_from text ts ∙ unseen ts tags.End n) ∙ bad_from text ts
