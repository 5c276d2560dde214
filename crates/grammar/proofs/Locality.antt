-- What a parser does depends only on the tokens up to the next one.
use Rattle.std.proofs.Common.{◌≡◌, ℕ, zero, suc, ◌<◌, Bool, true, false, ◌&&◌, List, [], ◌∷◌, ◌++◌, length, Ok, Err, sym, refl, ap, ◌∙◌, subst, append_assoc, arith}
use Rattle.reader.specs.Faults.{Answer, ◌>>=◌, refuse}
use Rattle.reader.specs.declared.fault.Fault.{Fault}
use Rattle.reader.specs.declared.fault.Cause.TheVariants.{NotAllowed}
use Rattle.reader.specs.Tokens.{same}
use Rattle.grammar.specs.Parsers.{if_so}
use Rattle.reader.specs.Tokens.{Lexeme, finish}
use Rattle.grammar.specs.Parsers.{Tokens, Parser, here, rest, is_fixed, is, bad, eat}
use Rattle.grammar.proofs.Levels.{if_true, if_false}

abbrev pub Out : {A : Type 0} → Parser A → Tokens → Answer (A × Tokens) → Type 0
Out p ts (Ok x) = (pre : Tokens) × (ts ≡ pre ++ x.1) × ((r : Tokens) → here r ≡ here x.1 → p (pre ++ r) ≡ Ok (x.0, r))
Out p ts (Err x) =
    (pre : Tokens) × (s : Tokens) × (ts ≡ pre ++ s) × ((here s).at ≡ x.offset) × ((r : Tokens) → here r ≡ here s → p (pre ++ r) ≡ Err x)

abbrev pub Local : {A : Type 0} → Parser A → Type 0
Local p = (ts : Tokens) → Out p ts (p ts)

pub here_app : (pre r s : Tokens) → here r ≡ here s → here (pre ++ r) ≡ here (pre ++ s)
here_app [] r s h = h
here_app (t ∷ pre) r s h = refl

pub is_cong : (w : List ℕ) (r s : Tokens) → here r ≡ here s → is w r ≡ is w s
is_cong w r s h = ap (λ t. is_fixed t.class && same w t.text) h

-- two steps, the second from where the first ends
after_ok : {B : Type 0} (q : Parser B) (f : Parser B) (ts pre u : Tokens) (m : Answer (B × Tokens)) → ts ≡ pre ++ u
    → ((r : Tokens) → here r ≡ here u → q (pre ++ r) ≡ f r) → Out f u m → Out q ts m
after_ok {B} q f ts pre u (Ok z) e k o = (
  pre ++ o.0,
  e ∙ ap (λ v. pre ++ v) o.1 ∙ sym (append_assoc pre o.0 z.1),
  λ r h. ap q (append_assoc pre o.0 r) ∙ k (o.0 ++ r) (here_app o.0 r z.1 h ∙ ap here (sym o.1)) ∙ o.2 r h,
)
after_ok {B} q f ts pre u (Err y) e k o = (
  pre ++ o.0,
  o.1,
  e ∙ ap (λ v. pre ++ v) o.2 ∙ sym (append_assoc pre o.0 o.1),
  o.3,
  λ r h. ap q (append_assoc pre o.0 r) ∙ k (o.0 ++ r) (here_app o.0 r o.1 h ∙ ap here (sym o.2)) ∙ o.4 r h,
)

pub bind_at : {A B : Type 0} (p : Parser A) (f : A → Parser B) (ts : Tokens) → Out p ts (p ts) → ((a : A) → Local (f a)) → Out (λ ts. p ts >>= (λ r. f r.0 r.1)) ts (p ts >>= (λ r. f r.0 r.1))
bind_at {A} {B} p f ts lp lf = go (p ts) lp
  where
    q : Parser B
    q ts = p ts >>= (λ r. f r.0 r.1)

    go : (m : Answer (A × Tokens)) → Out p ts m → Out (λ ts. p ts >>= (λ r. f r.0 r.1)) ts (m >>= (λ r. f r.0 r.1))
    go (Err x) o = (o.0, o.1, o.2, o.3, λ r h. ap (λ z. z >>= (λ r. f r.0 r.1)) (o.4 r h))
    go (Ok x) o =
        after_ok (λ ts. p ts >>= (λ r. f r.0 r.1)) (f x.0) ts o.0 x.1 (f x.0 x.1) o.1
        (λ r h. ap (λ z. z >>= (λ r. f r.0 r.1)) (o.2 r h)) (lf x.0 x.1)

pub bind_local : {A B : Type 0} (p : Parser A) (f : A → Parser B) → Local p → ((a : A) → Local (f a)) → Local (λ ts. p ts >>= (λ r. f r.0 r.1))
bind_local p f lp lf ts = bind_at p f ts (lp ts) lf

pub ok_local : {A : Type 0} (a : A) → Local (λ ts. Ok (a, ts))
ok_local a ts = ([], refl, λ r h. refl)

pub bad_local : {A : Type 0} → Local {A = A} (λ ts. bad ts)
bad_local {A} ts = ([], ts, refl, refl, λ r h. ap (λ t. refuse {A = A × Tokens} NotAllowed t.at) h)

-- a token in front
pub push : {A : Type 0} (q f : Parser A) (t : Lexeme) (u : Tokens) (m : Answer (A × Tokens)) → ((v : Tokens) → q (t ∷ v) ≡ f v) → Out f u m → Out q (t ∷ u) m
push {A} q f t u m k o = after_ok q f (t ∷ u) (t ∷ []) u m refl (λ r h. k r) o

-- two parsers that are the same wherever this token is next
pub alike : {A : Type 0} (q f : Parser A) (ts : Tokens) (m : Answer (A × Tokens)) → ((v : Tokens) → here v ≡ here ts → q v ≡ f v) → Out f ts m → Out q ts m
alike {A} q f ts m k o = after_ok q f ts [] ts m refl k o

abbrev pub end_token : Lexeme
end_token = record { class = finish; text = []; at = 0 }

-- a choice by the next token
pub peek_local : {A : Type 0} (b : Lexeme → Bool) (p : Lexeme → Parser A) (q : Parser A) → ((t : Lexeme) → Local (p t)) → Local q
    → Local (λ ts. if_so (b (here ts)) (λ u. p (here ts) ts) (λ u. q ts))
peek_local {A} b p q lp lq ts = go (b (here ts)) refl
  where
    go : (v : Bool) → b (here ts) ≡ v → Out (λ ts. if_so (b (here ts)) (λ u. p (here ts) ts) (λ u. q ts)) ts (if_so v (λ u. p (here ts) ts) (λ u. q ts))
    go true e =
        alike (λ ts. if_so (b (here ts)) (λ u. p (here ts) ts) (λ u. q ts)) (p (here ts)) ts (p (here ts) ts)
        (λ v h. if_true (b (here v)) (λ u. p (here v) v) (λ u. q v) (ap b h ∙ e) ∙ ap (λ t. p t v) h) (lp (here ts) ts)
    go false e =
        alike (λ ts. if_so (b (here ts)) (λ u. p (here ts) ts) (λ u. q ts)) q ts (q ts) (λ v h. if_false (b (here v)) (λ u. p (here v) v) (λ u. q v) (ap b h ∙ e)) (lq ts)

-- a choice by the next token, which is then passed
pub take_local : {A : Type 0} (b : Lexeme → Bool) (p : Lexeme → Parser A) (q : Parser A) → b end_token ≡ false → ((t : Lexeme) → Local (p t)) → Local q
    → Local (λ ts. if_so (b (here ts)) (λ u. p (here ts) (rest ts)) (λ u. q ts))
take_local {A} b p q be lp lq ts = go ts (b (here ts)) refl
  where
    go : (ts : Tokens) (v : Bool) → b (here ts) ≡ v → Out (λ ts. if_so (b (here ts)) (λ u. p (here ts) (rest ts)) (λ u. q ts)) ts (if_so v (λ u. p (here ts) (rest ts)) (λ u. q ts))
    go [] true e = absurd (let z : ◌≡◌ {A = Bool} true false = sym e ∙ be in let y : ◌≡◌ {A = ℕ} 0 1 = cc in omega arith)
    go (t ∷ u) true e =
        push (λ ts. if_so (b (here ts)) (λ u. p (here ts) (rest ts)) (λ u. q ts)) (p t) t u (p t u) (λ v. if_true (b t) (λ u. p t v) (λ u. q (t ∷ v)) e) (lp t u)
    go ts false e =
        alike (λ ts. if_so (b (here ts)) (λ u. p (here ts) (rest ts)) (λ u. q ts)) q ts (q ts) (λ v h. if_false (b (here v)) (λ u. p (here v) (rest v)) (λ u. q v) (ap b h ∙ e)) (lq ts)

abbrev pub tests : List ℕ → Lexeme → Bool
tests w t = is_fixed t.class && same w t.text

-- a sign, and then
pub eat_local : {B : Type 0} (w : List ℕ) (f : Parser B) → Local f → Local (λ ts. eat w ts >>= (λ t. f t))
eat_local {B} w f lf ts =
    alike (λ ts. eat w ts >>= (λ t. f t)) (λ ts. if_so (tests w (here ts)) (λ u. f (rest ts)) (λ u. bad ts)) ts (eat w ts >>= (λ t. f t)) (λ v h. same_way (is w v) v)
    (subst (λ (m : Answer (B × Tokens)). Out (λ ts. if_so (tests w (here ts)) (λ u. f (rest ts)) (λ u. bad ts)) ts m) (sym (same_way (is w ts) ts))
    (take_local (tests w) (λ t. f) (λ ts. bad ts) refl (λ t. lf) bad_local ts))
  where
    same_way : (b : Bool) (v : Tokens) → (if_so b (λ u. Ok (rest v)) (λ u. bad v) >>= (λ t. f t)) ≡ if_so b (λ u. f (rest v)) (λ u. bad v)
    same_way true v = refl
    same_way false v = refl

-- ---- loops with fuel

abbrev pub FOut : {A : Type 0} → (ℕ → Parser A) → Tokens → Answer (A × Tokens) → Type 0
FOut p ts (Ok x) = (pre : Tokens) × (ts ≡ pre ++ x.1) × ((r : Tokens) → here r ≡ here x.1 → (n : ℕ) → length (pre ++ r) < n → p n (pre ++ r) ≡ Ok (x.0, r))
FOut p ts (Err x) =
    (pre : Tokens) × (s : Tokens) × (ts ≡ pre ++ s) × ((here s).at ≡ x.offset) × ((r : Tokens) → here r ≡ here s → (n : ℕ) → length (pre ++ r) < n → p n (pre ++ r) ≡ Err x)

abbrev pub FLocal : {A : Type 0} → (ℕ → Parser A) → Type 0
FLocal p = (n : ℕ) (ts : Tokens) → length ts < n → FOut p ts (p n ts)

pub fuel_local : {A : Type 0} (p : ℕ → Parser A) → FLocal p → Local (λ ts. p (suc (length ts)) ts)
fuel_local {A} p lp ts = go (p (suc (length ts)) ts) (lp (suc (length ts)) ts (omega arith))
  where
    go : (m : Answer (A × Tokens)) → FOut p ts m → Out (λ ts. p (suc (length ts)) ts) ts m
    go (Ok x) o = (o.0, o.1, λ r h. o.2 r h (suc (length (o.0 ++ r))) (omega arith))
    go (Err x) o = (o.0, o.1, o.2, o.3, λ r h. o.4 r h (suc (length (o.0 ++ r))) (omega arith))

-- a loop that stops at a token, and else reads something and goes on
module _
    {X Y : Type 0} (W : ℕ → Parser Y) (b : Lexeme → Bool) (q : Parser X) (z : Y) (g : X → Y → Y)
    (W_stop : (n : ℕ) (ts : Tokens) → b (here ts) ≡ true → W (suc n) ts ≡ Ok (z, ts))
    (W_go : (n : ℕ) (ts : Tokens) → b (here ts) ≡ false → W (suc n) ts ≡ (q ts >>= (λ x. W n x.1 >>= (λ y. Ok (g x.0 y.0, y.1)))))
    (lq : (ts : Tokens) → b (here ts) ≡ false → Out q ts (q ts))
    (less : (ts : Tokens) (x : X × Tokens) → q ts ≡ Ok x → length x.1 < length ts)
  where
    abbrev K : ℕ → X × Tokens → Answer (Y × Tokens)
    K n x = W n x.1 >>= (λ y. Ok (g x.0 y.0, y.1))

    mapped : (n : ℕ) (a : X) (u : Tokens) (m : Answer (Y × Tokens)) → FOut W u m → FOut (λ n ts. W n ts >>= (λ y. Ok (g a y.0, y.1))) u (m >>= (λ y. Ok (g a y.0, y.1)))
    mapped n a u (Ok y) o = (o.0, o.1, λ r h n l. ap (λ m. m >>= (λ y. Ok (g a y.0, y.1))) (o.2 r h n l))
    mapped n a u (Err y) o = (o.0, o.1, o.2, o.3, λ r h n l. ap (λ m. m >>= (λ y. Ok (g a y.0, y.1))) (o.4 r h n l))

    went : (ts : Tokens) → b (here ts) ≡ false → (x : X × Tokens) → (pre : Tokens) → ts ≡ pre ++ x.1 → ((r : Tokens) → here r ≡ here x.1 → q (pre ++ r) ≡ Ok (x.0, r))
        → (m : Answer (Y × Tokens)) → FOut (λ n ts. W n ts >>= (λ y. Ok (g x.0 y.0, y.1))) x.1 m → FOut W ts m
    went ts bf x pre e k m o = go m o
      where
        turn : (pre2 r s : Tokens) → here r ≡ here s → x.1 ≡ pre2 ++ s → (n : ℕ) → length ((pre ++ pre2) ++ r) < n
            → (v : Answer (Y × Tokens)) → ((n : ℕ) → length (pre2 ++ r) < n → (W n (pre2 ++ r) >>= (λ y. Ok (g x.0 y.0, y.1))) ≡ v) → W n ((pre ++ pre2) ++ r) ≡ v
        turn pre2 r s h i zero l v f = absurd (omega arith)
        turn pre2 r s h i (suc n) l v f =
            let a : (pre ++ pre2) ++ r ≡ pre ++ (pre2 ++ r) = append_assoc pre pre2 r in
            let next : here (pre2 ++ r) ≡ here x.1 = here_app pre2 r s h ∙ ap here (sym i) in
            let same_b : b (here (pre ++ (pre2 ++ r))) ≡ false = ap b (here_app pre (pre2 ++ r) x.1 next ∙ ap here (sym e)) ∙ bf in
            let read : q (pre ++ (pre2 ++ r)) ≡ Ok (x.0, pre2 ++ r) = k (pre2 ++ r) next in
            let sh = less (pre ++ (pre2 ++ r)) (x.0, pre2 ++ r) read in
            let la = ap (λ w. length w) a in
            ap (W (suc n)) a ∙ W_go n (pre ++ (pre2 ++ r)) same_b ∙ ap (λ m. m >>= K n) read ∙ f n (omega arith)

        go : (m : Answer (Y × Tokens)) → FOut (λ n ts. W n ts >>= (λ y. Ok (g x.0 y.0, y.1))) x.1 m → FOut W ts m
        go (Ok y) o =
            (pre ++ o.0, e ∙ ap (λ v. pre ++ v) o.1 ∙ sym (append_assoc pre o.0 y.1), λ r h n l. turn o.0 r y.1 h o.1 n l (Ok (y.0, r)) (λ n l. o.2 r h n l))
        go (Err y) o =
            (pre ++ o.0, o.1, e ∙ ap (λ v. pre ++ v) o.2 ∙ sym (append_assoc pre o.0 o.1), o.3, λ r h n l. turn o.0 r o.1 h o.2 n l (Err y) (λ n l. o.4 r h n l))

    pub loop_local : FLocal W
    loop_local zero ts l = absurd (omega arith)
    loop_local (suc n) ts l = go (b (here ts)) refl (λ u k. loop_local n u k)
      where
        stop : (r : Tokens) (n : ℕ) → length r < n → b (here r) ≡ true → W n r ≡ Ok (z, r)
        stop r zero l e = absurd (omega arith)
        stop r (suc n) l e = W_stop n r e

        fail : (pre r : Tokens) (x : Fault) (n : ℕ) → length (pre ++ r) < n → b (here (pre ++ r)) ≡ false → q (pre ++ r) ≡ Err x → W n (pre ++ r) ≡ Err x
        fail pre r x zero l e i = absurd (omega arith)
        fail pre r x (suc n) l e i = W_go n (pre ++ r) e ∙ ap (λ m. m >>= K n) i

        step : b (here ts) ≡ false → ((u : Tokens) → length u < n → FOut W u (W n u)) → (m : Answer (X × Tokens)) → q ts ≡ m → Out q ts m → FOut W ts (m >>= K n)
        step bf rec (Err x) i o =
            (o.0, o.1, o.2, o.3, λ r h n l. fail o.0 r x n l (ap b (here_app o.0 r o.1 h ∙ ap here (sym o.2)) ∙ bf) (o.4 r h))
        step bf rec (Ok x) i o =
            let sh = less ts x i in
            went ts bf x o.0 o.1 o.2 (K n x) (mapped n x.0 x.1 (W n x.1) (rec x.1 (omega arith)))

        go : (v : Bool) → b (here ts) ≡ v → ((u : Tokens) → length u < n → FOut W u (W n u)) → FOut W ts (W (suc n) ts)
        go true e rec = subst (λ (m : Answer (Y × Tokens)). FOut W ts m) (sym (W_stop n ts e)) ([], refl, λ r h n l. stop r n l (ap b h ∙ e))
        go false e rec = subst (λ (m : Answer (Y × Tokens)). FOut W ts m) (sym (W_go n ts e)) (step e rec (q ts) refl (lq ts e))
