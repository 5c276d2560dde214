-- The reader's loop: the tokens found so far and those of what is left are the text's.
use Rattle.std.proofs.Common.{◌≡◌, ℕ, ◌+◌, ◌<◌, ◌≤◌, Bool, true, false, List, [], ◌∷◌, ◌++◌, length, drop, Ok, Err, vec_items, Result, Vec, sym, refl, ap, ◌∙◌, subst, append_assoc, append-nil, arith}
use Rattle.std.specs.List.{AllByRecursion as All}
use Rattle.std.proofs.lemmas.Bool.{le-leb}
use Rattle.std.proofs.ByRecursion.{All-push}
use Rattle.std.proofs.lemmas.List.{drop-drop, drop_at, length_push}
use Rattle.std.specs.declared.alloc.Global.{Global}
use Rattle.reader.specs.declared.fault.Error.{Error}
use Rattle.reader.specs.declared.fault.Error.TheVariants.{Refused}
use Rattle.reader.specs.declared.fault.Fault.{Fault}
use Rattle.reader.specs.declared.fault.Cause.TheVariants.{TextTooLong}
use Rattle.reader.specs.declared.token.Token.{Token}
use Rattle.reader.specs.declared.token.Tag.{Tag}
use Rattle.reader.specs.declared.token.Tag.TheVariants as tags
use Rattle.reader.specs.Faults.{Answer, refuse, Meets}
use Rattle.reader.specs.Tokens.{Lexeme, First, space, nothing, lexeme, finish, blank, run, first, tokens, tokenized}
use Rattle.reader.specs.Views.{lexeme_of, lexemes, class_of}
use Rattle.reader.specs.Reads.{next_at, first_of, Shows}
use Rattle.reader.specs.Lists.{Within, Ended}
use Rattle.reader.proofs.Firsts.{lexeme_eq}
use Rattle.reader.proofs.Nexts.{lexeme_parts, told, next_within, token_within}
use Rattle.reader.proofs.Steps.{not_finish, solid, cons, tokens_skip, tokens_none, tokens_more}

-- ---- the reader's loop

abbrev pub prepend : List Lexeme → Answer (List Lexeme) → Answer (List Lexeme)
prepend ls (Ok ts) = Ok (ls ++ ts)
prepend ls (Err f) = Err f

prepend_cons : (ls : List Lexeme) (l : Lexeme) (r : Answer (List Lexeme)) → prepend ls (cons l r) ≡ prepend (ls ++ (l ∷ [])) r
prepend_cons ls l (Ok ts) = ap (λ (k : List Lexeme). Ok k) (sym (append_assoc ls (l ∷ []) ts))
prepend_cons ls l (Err f) = refl

lexemes_push : (text : List ℕ) (ts : List Token) (t : Token) → lexemes text (ts ++ (t ∷ [])) ≡ lexemes text ts ++ (lexeme_of text t ∷ [])
lexemes_push text [] t = refl
lexemes_push text (u ∷ ts) t = ap (λ (k : List Lexeme). lexeme_of text u ∷ k) (lexemes_push text ts t)

-- the tokens found so far, before those of what is left, are those of the text
pub record Going (text : List ℕ) (at : ℕ) (ts : List Token) : Type 0 where
  pub so_far : prepend (lexemes text ts) (tokens 0 at (drop at text)) ≡ tokens 0 0 text
  pub within : All (Within text) ts
  pub few : length ts ≤ at

class_end : (t : Tag) → class_of t ≡ finish → t ≡ tags.End
class_end tags.Name e = absurd (let z : ◌≡◌ {A = ℕ} 0 1 = cc in omega arith)
class_end tags.Number e = absurd (let z : ◌≡◌ {A = ℕ} 0 1 = cc in omega arith)
class_end tags.OpenParen e = absurd (let z : ◌≡◌ {A = ℕ} 0 1 = cc in omega arith)
class_end tags.CloseParen e = absurd (let z : ◌≡◌ {A = ℕ} 0 1 = cc in omega arith)
class_end tags.OpenBrace e = absurd (let z : ◌≡◌ {A = ℕ} 0 1 = cc in omega arith)
class_end tags.CloseBrace e = absurd (let z : ◌≡◌ {A = ℕ} 0 1 = cc in omega arith)
class_end tags.Comma e = absurd (let z : ◌≡◌ {A = ℕ} 0 1 = cc in omega arith)
class_end tags.Semicolon e = absurd (let z : ◌≡◌ {A = ℕ} 0 1 = cc in omega arith)
class_end tags.Ampersand e = absurd (let z : ◌≡◌ {A = ℕ} 0 1 = cc in omega arith)
class_end tags.Assign e = absurd (let z : ◌≡◌ {A = ℕ} 0 1 = cc in omega arith)
class_end tags.Plus e = absurd (let z : ◌≡◌ {A = ℕ} 0 1 = cc in omega arith)
class_end tags.Minus e = absurd (let z : ◌≡◌ {A = ℕ} 0 1 = cc in omega arith)
class_end tags.Star e = absurd (let z : ◌≡◌ {A = ℕ} 0 1 = cc in omega arith)
class_end tags.Less e = absurd (let z : ◌≡◌ {A = ℕ} 0 1 = cc in omega arith)
class_end tags.Equals e = absurd (let z : ◌≡◌ {A = ℕ} 0 1 = cc in omega arith)
class_end tags.Var e = absurd (let z : ◌≡◌ {A = ℕ} 0 1 = cc in omega arith)
class_end tags.Next e = absurd (let z : ◌≡◌ {A = ℕ} 0 1 = cc in omega arith)
class_end tags.Know e = absurd (let z : ◌≡◌ {A = ℕ} 0 1 = cc in omega arith)
class_end tags.Take e = absurd (let z : ◌≡◌ {A = ℕ} 0 1 = cc in omega arith)
class_end tags.If e = absurd (let z : ◌≡◌ {A = ℕ} 0 1 = cc in omega arith)
class_end tags.Else e = absurd (let z : ◌≡◌ {A = ℕ} 0 1 = cc in omega arith)
class_end tags.While e = absurd (let z : ◌≡◌ {A = ℕ} 0 1 = cc in omega arith)
class_end tags.Par e = absurd (let z : ◌≡◌ {A = ℕ} 0 1 = cc in omega arith)
class_end tags.Try e = absurd (let z : ◌≡◌ {A = ℕ} 0 1 = cc in omega arith)
class_end tags.Catch e = absurd (let z : ◌≡◌ {A = ℕ} 0 1 = cc in omega arith)
class_end tags.Throw e = absurd (let z : ◌≡◌ {A = ℕ} 0 1 = cc in omega arith)
class_end tags.Proc e = absurd (let z : ◌≡◌ {A = ℕ} 0 1 = cc in omega arith)
class_end tags.Main e = absurd (let z : ◌≡◌ {A = ℕ} 0 1 = cc in omega arith)
class_end tags.End e = refl

prepend_ok : (ls : List Lexeme) → prepend ls (Ok []) ≡ Ok ls
prepend_ok ls = ap (λ (k : List Lexeme). Ok k) (append-nil ls)

module _ (text : List ℕ) (at : ℕ) (ts : List Token) (h : at ≤ length text) (g : Going text at ts) where
  skipped : tokens 0 at (drop at text) ≡ tokens 0 (next_at text at) (drop (next_at text at) text)
  skipped = tokens_skip (drop at text) at ∙ ap (tokens 0 (next_at text at)) (drop-drop (length (run blank (drop at text))) at text)

  to_here : prepend (lexemes text ts) (tokens 0 (next_at text at) (drop (next_at text at) text)) ≡ tokens 0 0 text
  to_here = ap (prepend (lexemes text ts)) (sym skipped) ∙ g.so_far

  module _ (t : Token) (s : Shows text (next_at text at) (first_of (drop (next_at text at) text)) (Ok t)) where
    lies : Within text t
    lies =
        let p = told text (next_at text at) (drop (next_at text at) text) t s in
        let w = token_within text (next_at text at) t (next_within text at h) s in
        let e : t.at ≡ next_at text at = ap (λ (l : Lexeme). l.at) p.shows in
        omega arith

    all_in : All (Within text) (ts ++ (t ∷ []))
    all_in = All-push (Within text) ts t g.within lies

    -- what a token leads to, by what is left of the text
    pub Leads : List ℕ → Type 0
    Leads [] = (t.tag ≡ tags.End) × (tokens 0 0 text ≡ Ok (lexemes text (ts ++ (t ∷ []))))
    Leads (b ∷ bs) = (t.tag ≡ tags.End → ⊥) × (0 < t.len) × (prepend (lexemes text (ts ++ (t ∷ []))) (tokens 0 (next_at text at + t.len) (drop (next_at text at + t.len) text)) ≡ tokens 0 0 text)

    leads : (xs : List ℕ) → drop (next_at text at) text ≡ xs → Leads xs
    unfolding Leads
    leads [] e =
        let p = told text (next_at text at) [] t (subst (λ (l : List ℕ). Shows text (next_at text at) (first_of l) (Ok t)) e s) in
        let q = lexeme_parts p.is in
        let l : lexeme_of text t ≡ record { class = finish; text = []; at = next_at text at } = p.shows ∙ lexeme_eq (sym q.0) (sym q.1) in (
          class_end t.tag (ap (λ (l : Lexeme). l.class) l),
          sym (to_here) ∙ ap (λ (xs : List ℕ). prepend (lexemes text ts) (tokens 0 (next_at text at) xs)) e
              ∙ ap (λ (k : Lexeme). Ok (lexemes text ts ++ (k ∷ []))) (sym l) ∙ ap (λ (k : List Lexeme). Ok k) (sym (lexemes_push text ts t)),
        )
    leads (b ∷ bs) e =
        let o = next_at text at in
        let p = told text o (b ∷ bs) t (subst (λ (l : List ℕ). Shows text o (first_of l) (Ok t)) e s) in
        let d = solid b bs p.class p.bytes p.is in
        let n = p.long in
        let m = ap length d.starts in
        let rest : drop (o + t.len) text ≡ p.rest = sym (drop-drop t.len o text) ∙ ap (drop t.len) (e ∙ p.split) ∙ drop_at p.bytes p.rest t.len (sym n) in
        let tail : tokens 0 (o + length p.bytes) p.rest ≡ tokens 0 (o + t.len) (drop (o + t.len) text) = ap (λ (k : ℕ). tokens 0 (o + k) p.rest) (sym n) ∙ ap (tokens 0 (o + t.len)) (sym rest) in (
          λ z. not_finish p.class d.class (sym (ap (λ (l : Lexeme). l.class) p.shows) ∙ ap class_of z),
          omega arith,
          ap (λ (k : List Lexeme). prepend k (tokens 0 (o + t.len) (drop (o + t.len) text))) (lexemes_push text ts t)
              ∙ ap (λ (r : Answer (List Lexeme)). prepend (lexemes text ts ++ (lexeme_of text t ∷ [])) r) (sym tail)
              ∙ sym (prepend_cons (lexemes text ts) (lexeme_of text t) (tokens 0 (o + length p.bytes) p.rest))
              ∙ ap (λ (l : Lexeme). prepend (lexemes text ts) (cons l (tokens 0 (o + length p.bytes) p.rest))) p.shows
              ∙ ap (prepend (lexemes text ts)) (sym (tokens_more o b bs p.class p.bytes p.rest p.is p.split))
              ∙ ap (λ (xs : List ℕ). prepend (lexemes text ts) (tokens 0 o xs)) (sym e)
              ∙ to_here,
        )

    look : (xs : List ℕ) → Leads xs → (t.tag ≡ tags.End → ⊥) → (0 < t.len) × (prepend (lexemes text (ts ++ (t ∷ []))) (tokens 0 (next_at text at + t.len) (drop (next_at text at + t.len) text)) ≡ tokens 0 0 text)
    unfolding Leads
    look [] l ne = absurd (ne l.0)
    look (b ∷ bs) l ne = (l.1, l.2)

    look_end : (xs : List ℕ) → Leads xs → t.tag ≡ tags.End → tokens 0 0 text ≡ Ok (lexemes text (ts ++ (t ∷ [])))
    unfolding Leads
    look_end [] l e = l.1
    look_end (b ∷ bs) l e = absurd (l.0 e)

    pub goes : (t.tag ≡ tags.End → ⊥) → (0 < t.len) × Going text (next_at text at + t.len) (ts ++ (t ∷ []))
    goes ne =
        let k = look (drop (next_at text at) text) (leads (drop (next_at text at) text) refl) ne in
        let n = k.0 in
        let f = g.few in
        let l = length_push ts t in
        (n, record { so_far = k.1; within = all_in; few = omega arith })

    pub all_read : t.tag ≡ tags.End → tokens 0 0 text ≡ Ok (lexemes text (ts ++ (t ∷ [])))
    all_read e = look_end (drop (next_at text at) text) (leads (drop (next_at text at) text) refl) e

    pub ended : length text ≤ 16384 → t.tag ≡ tags.End → Ended text (ts ++ (t ∷ []))
    ended k e =
        let f = g.few in
        let l = length_push ts t in
        record { before = ts; last = t; split = refl; ends = e; within = all_in; few = omega arith; short = k }

  -- a fault of the reader is the text's
  pub faulty : (f : Fault) → Shows text (next_at text at) (first_of (drop (next_at text at) text)) (Err f) → tokens 0 0 text ≡ Err f
  faulty f s = sym to_here ∙ ap (prepend (lexemes text ts)) (go (drop (next_at text at) text) s)
    where
      go : (xs : List ℕ) → Shows text (next_at text at) (first_of xs) (Err f) → tokens 0 (next_at text at) xs ≡ Err f
      go [] s = absurd s
      go (b ∷ bs) s = by (first b bs) refl s
        where
          by : (g : First) → first b bs ≡ g → Shows text (next_at text at) g (Err f) → tokens 0 (next_at text at) (b ∷ bs) ≡ Err f
          by space e s = absurd s
          by nothing e s = tokens_none (next_at text at) b bs e ∙ ap (λ (k : Fault). Err k) (sym s)
          by (lexeme c w) e s = absurd s

pub start : (text : List ℕ) → Going text 0 []
start text = record { so_far = begin (tokens 0 0 text); within = tt; few = omega arith }
  where
    begin : (r : Answer (List Lexeme)) → prepend [] r ≡ r
    begin (Ok ts) = refl
    begin (Err f) = refl

-- ---- what the whole text comes to

pub tokenized_is : (text : List ℕ) → length text ≤ 16384 → tokenized text ≡ tokens 0 0 text
tokenized_is text h = ap (λ (t : Bool). elim t [ true ↦ tokens 0 0 text | false ↦ refuse {A = List Lexeme} TextTooLong 16384 ]) (le-leb (length text) 16384 h)

abbrev pub Exact : List ℕ → Result (Vec Token Global) Error → Type 0
Exact text r = Meets (λ v ls. lexemes text (vec_items v) ≡ ls) r (tokenized text)

abbrev Listed : List ℕ → Vec Token Global → List Lexeme → Type 0
Listed text v ls = lexemes text (vec_items v) ≡ ls

pub exact_ok : (text : List ℕ) (v : Vec Token Global) (us : List Token) → length text ≤ 16384 → vec_items v ≡ us → tokens 0 0 text ≡ Ok (lexemes text us) → Exact text (Ok v)
exact_ok text v us h q e = subst (λ (a : Answer (List Lexeme)). Meets (Listed text) (Ok v) a) (sym (tokenized_is text h ∙ e)) (ap (lexemes text) q)

pub exact_err : (text : List ℕ) (f : Fault) → length text ≤ 16384 → tokens 0 0 text ≡ Err f → Exact text (Err (Refused f))
exact_err text f h e = subst (λ (a : Answer (List Lexeme)). Meets (Listed text) (Err (Refused f)) a) (sym (tokenized_is text h ∙ e)) refl

pub of_same : (was text : List ℕ) (at : ℕ) (r : Result Token Fault) → was ≡ text → Shows was (next_at was at) (first_of (drop (next_at was at) was)) r → Shows text (next_at text at) (first_of (drop (next_at text at) text)) r
of_same was text at r e s = subst (λ (l : List ℕ). Shows l (next_at l at) (first_of (drop (next_at l at) l)) r) e s

-- a turn of the loop, where the reader's own text is the one given
pub record Turn (text : List ℕ) (at : ℕ) (ts : List Token) (t : Token) : Type 0 where
  pub inside : at ≤ length text
  pub going : Going text at ts
  pub shows : Shows text (next_at text at) (first_of (drop (next_at text at) text)) (Ok t)

pub turn : (was text : List ℕ) (at : ℕ) (ts : List Token) (t : Token) → was ≡ text → at ≤ length was → Going text at ts → Shows was (next_at was at) (first_of (drop (next_at was at) was)) (Ok t) → Turn text at ts t
turn was text at ts t e h g s = record { inside = subst (λ (l : List ℕ). at ≤ length l) e h; going = g; shows = of_same was text at (Ok t) e s }

pub again : (was text : List ℕ) (at to : ℕ) (ts us : List Token) (t : Token) → Turn text at ts t → (t.tag ≡ tags.End → ⊥) → was ≡ text → to ≡ next_at was at + t.len → us ≡ ts ++ (t ∷ []) → (at < to) × Going text to us
again was text at to ts us t n ne e q p =
    let k = goes text at ts n.inside n.going t n.shows ne in
    let l = k.0 in
    let r : to ≡ next_at text at + t.len = q ∙ ap (λ (x : List ℕ). next_at x at + t.len) e in
    (omega arith, subst (λ (i : ℕ). Going text i us) (sym r) (subst (Going text (next_at text at + t.len)) (sym p) k.1))
