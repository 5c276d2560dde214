-- A text that is read is laid out as its tokens say, and one that is refused has its cause.
use Rattle.std.proofs.Common.{◌≡◌, ℕ, zero, suc, ◌+◌, ◌<◌, ◌≤◌, Bool, true, false, leb, ◌⊎◌, List, [], ◌∷◌, ◌++◌, length, drop, Ok, Err, sym, refl, ap, ◌∙◌, subst, inl, inr, append-nil, arith, length-append}
use Rattle.std.specs.List.{AllByRecursion as All}
use Rattle.std.proofs.ByRecursion.{All-weaker}
use Rattle.std.proofs.lemmas.Bool.{leb-true, leb-false, both_ways}
use Rattle.reader.specs.declared.fault.Fault.{Fault}
use Rattle.reader.specs.declared.fault.Cause.TheVariants.{TextTooLong, NoToken}
use Rattle.reader.specs.Faults.{Answer, refuse}
use Rattle.reader.specs.Tokens.{Lexeme, First, space, nothing, lexeme, Class, finish, blank, run, first, tokens}
use Rattle.reader.specs.Language.{Separates, IsToken, Longest, Laid, at_end, token, Unreadable, Stuck, here, after, TokensAreLongest, RefusalsHaveCauses}
use Rattle.reader.proofs.Runs.{by_run, run_split, run_all}
use Rattle.reader.proofs.Nexts.{first_prefix}
use Rattle.reader.proofs.Steps.{solid, cons, tokens_skip, tokens_none, tokens_more}
use Rattle.reader.proofs.Forms.{separates, is_blank}
use Rattle.reader.proofs.Takes.{taken, unreadable, only_blank}

-- the byte after a run does not go on
run_next : (f : ℕ → Bool) (b : ℕ) (bs xs : List ℕ) → drop (length (run f xs)) xs ≡ b ∷ bs → f b ≡ false
run_next f b bs =
    by_run f (λ s r. drop (length r) s ≡ b ∷ bs → f b ≡ false)
    (λ e. absurd (let z : ◌≡◌ {A = ℕ} 0 1 = cc in omega arith))
    (λ c cs h p. p)
    (λ c cs h e. subst (λ (x : ℕ). f x ≡ false) (let q : c ≡ b = cc in q) h)

-- one step of reading, in the language's words
pub data Step (o : ℕ) (xs : List ℕ) : Type 0 where
  ends : All Separates xs → tokens 0 o xs ≡ Ok (record { class = finish; text = []; at = o + length xs } ∷ []) → Step o xs
  stops : (gap : List ℕ) (b : ℕ) (rest : List ℕ) → xs ≡ gap ++ (b ∷ rest) → All Separates gap → (Separates b → ⊥) → Unreadable (b ∷ rest)
      → tokens 0 o xs ≡ refuse NoToken (o + length gap) → Step o xs
  takes : (gap w rest : List ℕ) (c : Class) → xs ≡ gap ++ (w ++ rest) → All Separates gap → IsToken c w → Longest w rest → length rest < length xs
      → tokens 0 o xs ≡ cons (record { class = c; text = w; at = o + length gap }) (tokens 0 (o + length gap + length w) rest) → Step o xs

module _ (o : ℕ) (xs : List ℕ) where
  gap_of : List ℕ
  gap_of = run blank xs

  seps : All Separates (run blank xs)
  seps = All-weaker (λ b. blank b ≡ true) Separates separates (run blank xs) (run_all blank xs)

  skips : (ys : List ℕ) → drop (length (run blank xs)) xs ≡ ys → tokens 0 o xs ≡ tokens 0 (o + length (run blank xs)) ys
  skips ys e = tokens_skip xs o ∙ ap (tokens 0 (o + length (run blank xs))) e

  splits : (ys : List ℕ) → drop (length (run blank xs)) xs ≡ ys → xs ≡ run blank xs ++ ys
  splits ys e = run_split blank xs ∙ ap (λ (l : List ℕ). run blank xs ++ l) e

  by_first : (b : ℕ) (bs : List ℕ) → drop (length (run blank xs)) xs ≡ b ∷ bs → (f : First) → first b bs ≡ f → Step o xs
  by_first b bs e space h = absurd (both_ways (blank b) (run_next blank b bs xs e) (only_blank b bs h))
  by_first b bs e nothing h =
      stops (run blank xs) b bs (splits (b ∷ bs) e) seps (λ s. both_ways (blank b) (run_next blank b bs xs e) (is_blank b s)) (unreadable b bs h)
      (skips (b ∷ bs) e ∙ tokens_none (o + length (run blank xs)) b bs h)
  by_first b bs e (lexeme c w) h =
      let p = first_prefix (b ∷ bs) c w h in
      let k = taken b bs c w p.0 h p.1 in
      let d = solid b bs c w h in
      let s : xs ≡ run blank xs ++ (w ++ p.0) = splits (b ∷ bs) e ∙ ap (λ (l : List ℕ). run blank xs ++ l) p.1 in
      let n : length xs ≡ length (run blank xs) + (length w + length p.0) = ap length s ∙ length-append (run blank xs) (w ++ p.0) ∙ ap (λ (i : ℕ). length (run blank xs) + i) (length-append w p.0) in
      let m : length w ≡ suc (length d.more) = ap length d.starts in
      takes (run blank xs) w p.0 c s seps k.0 k.1 (omega arith)
      (skips (b ∷ bs) e ∙ tokens_more (o + length (run blank xs)) b bs c w p.0 h p.1)

  by_rest : (ys : List ℕ) → drop (length (run blank xs)) xs ≡ ys → Step o xs
  by_rest [] e =
      let s : xs ≡ run blank xs = splits [] e ∙ append-nil (run blank xs) in
      ends (subst (All Separates) (sym s) seps)
      (skips [] e ∙ ap (λ (l : List ℕ). Ok (record { class = finish; text = []; at = o + length l } ∷ [])) (sym s))
  by_rest (b ∷ bs) e = by_first b bs e (first b bs) refl

  pub step : Step o xs
  step = by_rest (drop (length (run blank xs)) xs) refl

cons_ok : (l : Lexeme) (r : Answer (List Lexeme)) (ls : List Lexeme) → cons l r ≡ Ok ls → (ms : List Lexeme) × (r ≡ Ok ms) × (ls ≡ l ∷ ms)
cons_ok l (Ok ms) ls e = (ms, refl, (let q : ls ≡ l ∷ ms = cc in q))
cons_ok l (Err f) ls e = absurd (let z : ◌≡◌ {A = ℕ} 0 1 = cc in omega arith)

cons_err : (l : Lexeme) (r : Answer (List Lexeme)) (f : Fault) → cons l r ≡ Err f → r ≡ Err f
cons_err l (Ok ms) f e = absurd (let z : ◌≡◌ {A = ℕ} 0 1 = cc in omega arith)
cons_err l (Err g) f e = (let q : Err g ≡ Err f = cc in q)

-- ---- read

laid_by : (o : ℕ) (xs : List ℕ) (ls : List Lexeme) → ((o' : ℕ) (rest : List ℕ) (ms : List Lexeme) → length rest < length xs → tokens 0 o' rest ≡ Ok ms → Laid o' rest ms) → Step o xs → tokens 0 o xs ≡ Ok ls → Laid o xs ls
laid_by o xs ls more (ends a q) e = subst (Laid o xs) (let r : record { class = finish; text = []; at = o + length xs } ∷ [] ≡ ls = cc in r) (at_end o xs a)
laid_by o xs ls more (stops gap b rest s a n u q) e = absurd (let z : ◌≡◌ {A = ℕ} 0 1 = cc in omega arith)
laid_by o xs ls more (takes gap w rest c s a t l n q) e =
    let k = cons_ok (record { class = c; text = w; at = o + length gap }) (tokens 0 (o + length gap + length w) rest) ls (sym q ∙ e) in
    subst (Laid o xs) (sym k.2) (token o xs gap w rest c k.0 s a t l (more (o + length gap + length w) rest k.0 n k.1))

laid : (n o : ℕ) (xs : List ℕ) (ls : List Lexeme) → length xs ≤ n → tokens 0 o xs ≡ Ok ls → Laid o xs ls
laid zero o xs ls h e = laid_by o xs ls (λ p rest ms l q. absurd (omega arith)) (step o xs) e
laid (suc n) o xs ls h e = laid_by o xs ls (λ p rest ms l q. laid n p rest ms (omega arith) q) (step o xs) e

-- ---- refused

stuck_by : (o : ℕ) (xs : List ℕ) (f : Fault) → ((o' : ℕ) (rest : List ℕ) → length rest < length xs → tokens 0 o' rest ≡ Err f → (f.cause ≡ NoToken) × Stuck o' rest f.offset) → Step o xs → tokens 0 o xs ≡ Err f → (f.cause ≡ NoToken) × Stuck o xs f.offset
stuck_by o xs f more (ends a q) e = absurd (let z : ◌≡◌ {A = ℕ} 0 1 = cc in omega arith)
stuck_by o xs f more (stops gap b rest s a n u q) e =
    let r : record { cause = NoToken; offset = o + length gap } ≡ f = cc in
    (sym (ap (λ (g : Fault). g.cause) r), subst (Stuck o xs) (ap (λ (g : Fault). g.offset) r) (here o xs gap b rest s a n u))
stuck_by o xs f more (takes gap w rest c s a t l n q) e =
    let k = cons_err (record { class = c; text = w; at = o + length gap }) (tokens 0 (o + length gap + length w) rest) f (sym q ∙ e) in
    let m = more (o + length gap + length w) rest n k in
    (m.0, after o xs gap w rest c f.offset s a t l m.1)

stuck : (n o : ℕ) (xs : List ℕ) (f : Fault) → length xs ≤ n → tokens 0 o xs ≡ Err f → (f.cause ≡ NoToken) × Stuck o xs f.offset
stuck zero o xs f h e = stuck_by o xs f (λ p rest l q. absurd (omega arith)) (step o xs) e
stuck (suc n) o xs f h e = stuck_by o xs f (λ p rest l q. stuck n p rest f (omega arith) q) (step o xs) e

-- ---- whole texts

abbrev whole : List ℕ → Bool → Answer (List Lexeme)
whole text t = elim t [ true ↦ tokens 0 0 text | false ↦ refuse {A = List Lexeme} TextTooLong 16384 ]

pub tokens_are_longest_lem : TokensAreLongest
tokens_are_longest_lem text ls = go (leb (length text) 16384) refl
  where
    go : (t : Bool) → leb (length text) 16384 ≡ t → whole text t ≡ Ok ls → (length text ≤ 16384) × Laid 0 text ls
    go true h e = (leb-true (length text) 16384 h, laid (length text) 0 text ls (omega arith) e)
    go false h e = absurd (let z : ◌≡◌ {A = ℕ} 0 1 = cc in omega arith)

pub refusals_have_causes_lem : RefusalsHaveCauses
refusals_have_causes_lem text f = go (leb (length text) 16384) refl
  where
    go : (t : Bool) → leb (length text) 16384 ≡ t → whole text t ≡ Err f
        → ((16384 < length text) × (f ≡ record { cause = TextTooLong; offset = 16384 })) ⊎ ((length text ≤ 16384) × (f.cause ≡ NoToken) × Stuck 0 text f.offset)
    go true h e = let k = stuck (length text) 0 text f (omega arith) e in inr (leb-true (length text) 16384 h, k.0, k.1)
    go false h e = inl (leb-false (length text) 16384 h, (let q : f ≡ record { cause = TextTooLong; offset = 16384 } = cc in q))
