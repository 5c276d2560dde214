-- A parser that goes on, or stops at a token before which what was read can be completed.
use Rattle.std.proofs.Common.{◌≡◌, ℕ, zero, suc, ◌<◌, Bool, true, false, List, [], ◌∷◌, ◌++◌, length, Ok, Err, codes, sym, refl, ap, ◌∙◌, subst, append_assoc, arith, length-append}
use mathlib.Core.Option.{Option, some, none}
use Rattle.lemmas.proofs.Tests.{T_at}
use Rattle.reader.specs.declared.fault.Cause.{Cause}
use Rattle.reader.specs.declared.fault.Cause.TheVariants.{NotAllowed, TooDeep}
use Rattle.reader.specs.Faults.{Answer, ◌>>=◌, refuse}
use Rattle.grammar.specs.Trees.{Name, Op, Exp, Both}
use Rattle.grammar.specs.Parsers.{Tokens, Parser, here, rest, if_so, is, is_name, is_number, bad, eat, as_name, a_name, a_number}
use Rattle.grammar.specs.Parsing.{Signs, op_here, chain, level}
use Rattle.grammar.specs.Language.{sign, name_token, number_token, NameIs, name_is, Grouped, alone, joins}
use Rattle.grammar.proofs.Levels.{sign_is, name_here, number_here}

abbrev pub Reading : Type 0 → Type 1
Reading A = A → Tokens → Tokens → Type 0

-- What was read stands for a, whatever follows. Or it stops before s, and what was read goes on with r to something.
abbrev pub Fine : {A : Type 0} → Reading A → Tokens → Answer (A × Tokens) → Type 0
Fine {A} R ts (Ok x) = (pre : Tokens) × (ts ≡ pre ++ x.1) × ((k : Tokens) → R x.0 (pre ++ k) k)
Fine {A} R ts (Err x) =
    (pre : Tokens) × (s : Tokens) × (ts ≡ pre ++ s) × ((here s).at ≡ x.offset) × ((r : Tokens) × (a : A) × ((k : Tokens) → R a (pre ++ (r ++ k)) k))

abbrev pub Good : {A : Type 0} → Parser A → Reading A → Type 0
Good p R = (ts : Tokens) → Fine R ts (p ts)

-- something can be read
abbrev pub Some : {A : Type 0} → Reading A → Type 0
Some {A} R = (r : Tokens) × (a : A) × ((k : Tokens) → R a (r ++ k) k)

-- after a beginning
pub after : {B : Type 0} (Q R : Reading B) (ts pre u : Tokens) (m : Answer (B × Tokens)) → ts ≡ pre ++ u → ((b : B) (t v : Tokens) → Q b t v → R b (pre ++ t) v) → Fine Q u m → Fine R ts m
after Q R ts pre u (Ok z) e j o = (
  pre ++ o.0,
  e ∙ ap (λ v. pre ++ v) o.1 ∙ sym (append_assoc pre o.0 z.1),
  λ k. subst (λ (w : Tokens). R z.0 w k) (sym (append_assoc pre o.0 k)) (j z.0 (o.0 ++ k) k (o.2 k)),
)
after Q R ts pre u (Err y) e j o = (
  pre ++ o.0,
  o.1,
  e ∙ ap (λ v. pre ++ v) o.2 ∙ sym (append_assoc pre o.0 o.1),
  o.3,
  (o.4.0, o.4.1, λ k. subst (λ (w : Tokens). R o.4.1 w k) (sym (append_assoc pre o.0 (o.4.0 ++ k))) (j o.4.1 (o.0 ++ (o.4.0 ++ k)) k (o.4.2 k))),
)

pub weaken : {B : Type 0} (Q R : Reading B) (ts : Tokens) (m : Answer (B × Tokens)) → ((b : B) (t v : Tokens) → Q b t v → R b t v) → Fine Q ts m → Fine R ts m
weaken Q R ts (Ok z) j o = (o.0, o.1, λ k. j z.0 (o.0 ++ k) k (o.2 k))
weaken Q R ts (Err y) j o = (o.0, o.1, o.2, o.3, (o.4.0, o.4.1, λ k. j o.4.1 (o.0 ++ (o.4.0 ++ k)) k (o.4.2 k)))

-- one thing and then another
pub bind_fine : {A B : Type 0} (P : Reading A) (Q : A → Reading B) (R : Reading B) (join : (a : A) (b : B) (t u v : Tokens) → P a t u → Q a b u v → R b t v) → ((a : A) → Some (Q a))
    → (m : Answer (A × Tokens)) (f : A → Parser B) (ts : Tokens) → Fine P ts m → ((x : A × Tokens) → m ≡ Ok x → Fine (Q x.0) x.1 (f x.0 x.1))
    → Fine R ts (m >>= (λ r. f r.0 r.1))
bind_fine P Q R join sm (Ok x) f ts o g = after (Q x.0) R ts o.0 x.1 (f x.0 x.1) o.1 (λ b t v q. join x.0 b (o.0 ++ t) t v (o.2 t) q) (g x refl)
bind_fine P Q R join sm (Err x) f ts o g =
    let c = o.4 in
    let s = sm c.1 in (
      o.0,
      o.1,
      o.2,
      o.3,
      (
        c.0 ++ s.0,
        s.1,
        λ k.
            subst (λ (w : Tokens). R s.1 (o.0 ++ w) k) (sym (append_assoc c.0 s.0 k))
            (join c.1 s.1 (o.0 ++ (c.0 ++ (s.0 ++ k))) (s.0 ++ k) k (c.2 (s.0 ++ k)) (s.2 k)),
      ),
    )

-- something made of what was read
pub map_fine : {A B : Type 0} (P : Reading A) (R : Reading B) (f : A → B) → ((a : A) (t v : Tokens) → P a t v → R (f a) t v) → (m : Answer (A × Tokens)) (ts : Tokens) → Fine P ts m
    → Fine R ts (m >>= (λ r. Ok (f r.0, r.1)))
map_fine P R f j (Ok x) ts o = (o.0, o.1, λ k. j x.0 (o.0 ++ k) k (o.2 k))
map_fine P R f j (Err x) ts o = (o.0, o.1, o.2, o.3, (o.4.0, f o.4.1, λ k. j o.4.1 (o.0 ++ (o.4.0 ++ k)) k (o.4.2 k)))

-- a refusal at the next token
pub stop_fine : {A : Type 0} (c : Cause) (R : Reading A) (ts : Tokens) → Some R → Fine R ts (refuse c (here ts).at)
stop_fine c R ts s = ([], ts, refl, refl, s)

pub ok_fine : {A : Type 0} (a : A) (R : Reading A) (ts : Tokens) → ((k : Tokens) → R a k k) → Fine R ts (Ok (a, ts))
ok_fine a R ts h = ([], refl, h)

-- a sign or word and then something
pub eat_fine : {B : Type 0} (w : List ℕ) (f : Parser B) (Q R : Reading B) → ((at : ℕ) (b : B) (t v : Tokens) → Q b t v → R b (sign w at ∷ t) v) → Some Q → ((ts : Tokens) → Fine Q ts (f ts))
    → (ts : Tokens) → Fine R ts (eat w ts >>= (λ t. f t))
eat_fine {B} w f Q R j s g ts = go (is w ts) refl
  where
    go : (b : Bool) → is w ts ≡ b → Fine R ts (if_so b (λ u. Ok (rest ts)) (λ u. bad ts) >>= (λ t. f t))
    go true e = after Q R ts (sign w (here ts).at ∷ []) (rest ts) (f (rest ts)) (sign_is w ts (T_at (sym e) tt)) (λ b t v q. j (here ts).at b t v q) (g (rest ts))
    go false e = stop_fine NotAllowed R ts (sign w 0 ∷ s.0, s.1, λ k. j 0 s.1 (s.0 ++ k) k (s.2 k))

-- a sign or word for which there is no room
pub deep_fine : {B : Type 0} (w : List ℕ) (R : Reading B) (s : Some R) (ts : Tokens) → Fine R ts (eat w ts >>= (λ t. refuse {A = B × Tokens} TooDeep (here ts).at))
deep_fine {B} w R s ts = go (is w ts)
  where
    go : (b : Bool) → Fine R ts (if_so b (λ u. Ok (rest ts)) (λ u. bad ts) >>= (λ t. refuse {A = B × Tokens} TooDeep (here ts).at))
    go true = stop_fine TooDeep R ts s
    go false = stop_fine NotAllowed R ts s

-- ---- readings made of others

pub data Then {A B : Type 0} (P : Reading A) (Q : A → Reading B) : B → Tokens → Tokens → Type 0 where
  then_is : {a : A} {b : B} {t u v : Tokens} → P a t u → Q a b u v → Then P Q b t v

pub data Sign {B : Type 0} (w : List ℕ) (Q : Reading B) : B → Tokens → Tokens → Type 0 where
  sign_then : (at : ℕ) {b : B} {t v : Tokens} → Q b t v → Sign w Q b (sign w at ∷ t) v

pub data Mapped {A B : Type 0} (f : A → B) (P : Reading A) : B → Tokens → Tokens → Type 0 where
  mapped : {a : A} {t v : Tokens} → P a t v → Mapped f P (f a) t v

pub data Done {B : Type 0} (b : B) : B → Tokens → Tokens → Type 0 where
  done : {v : Tokens} → Done b b v v

pub then_some : {A B : Type 0} (P : Reading A) (Q : A → Reading B) → Some P → ((a : A) → Some (Q a)) → Some (Then P Q)
then_some P Q s q =
    let c = q s.1 in
    (s.0 ++ c.0, c.1, λ k. subst (λ (z : Tokens). Then P Q c.1 z k) (sym (append_assoc s.0 c.0 k)) (then_is (s.2 (c.0 ++ k)) (c.2 k)))

pub sign_some : {B : Type 0} (w : List ℕ) (Q : Reading B) → Some Q → Some (Sign w Q)
sign_some w Q s = (sign w 0 ∷ s.0, s.1, λ k. sign_then 0 (s.2 k))

pub mapped_some : {A B : Type 0} (f : A → B) (P : Reading A) → Some P → Some (Mapped f P)
mapped_some f P s = (s.0, f s.1, λ k. mapped (s.2 k))

pub done_some : {B : Type 0} (b : B) → Some (Done b)
done_some b = ([], b, λ k. done)

pub then_fine : {A B : Type 0} (P : Reading A) (Q : A → Reading B) (m : Answer (A × Tokens)) (f : A → Parser B) (ts : Tokens) → ((a : A) → Some (Q a)) → Fine P ts m
    → ((x : A × Tokens) → m ≡ Ok x → Fine (Q x.0) x.1 (f x.0 x.1)) → Fine (Then P Q) ts (m >>= (λ r. f r.0 r.1))
then_fine P Q m f ts s o g = bind_fine P Q (Then P Q) (λ a b t u v d q. then_is d q) s m f ts o g

pub sign_fine : {B : Type 0} (w : List ℕ) (f : Parser B) (Q : Reading B) → Some Q → ((ts : Tokens) → Fine Q ts (f ts)) → (ts : Tokens) → Fine (Sign w Q) ts (eat w ts >>= (λ t. f t))
sign_fine w f Q s g ts = eat_fine w f Q (Sign w Q) (λ at b t v q. sign_then at q) s g ts

pub mapped_fine : {A B : Type 0} (P : Reading A) (f : A → B) (m : Answer (A × Tokens)) (ts : Tokens) → Fine P ts m → Fine (Mapped f P) ts (m >>= (λ r. Ok (f r.0, r.1)))
mapped_fine P f m ts o = map_fine P (Mapped f P) f (λ a t v d. mapped d) m ts o

pub done_fine : {B : Type 0} (b : B) (ts : Tokens) → Fine (Done b) ts (Ok (b, ts))
done_fine b ts = ([], refl, λ k. done)

-- a sign or word at the end
pub last_fine : {B : Type 0} (w : List ℕ) (b : B) (ts : Tokens) → Fine (Sign w (Done b)) ts (eat w ts >>= (λ t. Ok (b, t)))
last_fine w b ts = sign_fine w (λ t. Ok (b, t)) (Done b) (done_some b) (λ t. done_fine b t) ts

pub last_some : {B : Type 0} (w : List ℕ) (b : B) → Some (Sign w (Done b))
last_some w b = sign_some w (Done b) (done_some b)

-- ---- names and numbers

abbrev pub any_name : Name
any_name = record { text = codes "a"; at = 0 }

abbrev pub any_number : Name
any_number = record { text = codes "0"; at = 0 }

pub data NumberIs (n : Name) : Tokens → Tokens → Type 0 where
  number_is : {r : Tokens} → NumberIs n (number_token n ∷ r) r

pub name_some : Some NameIs
name_some = (name_token any_name ∷ [], any_name, λ k. name_is)

pub number_some : Some NumberIs
number_some = (number_token any_number ∷ [], any_number, λ k. number_is)

pub name_fine : Good a_name NameIs
name_fine ts = go (is_name (here ts).class) refl
  where
    go : (b : Bool) → is_name (here ts).class ≡ b → Fine NameIs ts (if_so b (λ u. Ok (as_name (here ts), rest ts)) (λ u. bad ts))
    go true e = (name_token (as_name (here ts)) ∷ [], name_here ts (T_at (sym e) tt), λ k. name_is)
    go false e = stop_fine NotAllowed NameIs ts name_some

pub number_fine : Good a_number NumberIs
number_fine ts = go (is_number (here ts).class) refl
  where
    go : (b : Bool) → is_number (here ts).class ≡ b → Fine NumberIs ts (if_so b (λ u. Ok (as_name (here ts), rest ts)) (λ u. bad ts))
    go true e = (number_token (as_name (here ts)) ∷ [], number_here ts (T_at (sym e) tt), λ k. number_is)
    go false e = stop_fine NotAllowed NumberIs ts number_some

-- ---- chains of operators

module _
    (S : List ℕ → Op → Type 0) (os : Signs) (R : Reading Exp) (p : Parser Exp)
    (read : (ts : Tokens) (o : Op) → op_here os ts ≡ some o → (s : List ℕ) × S s o × (ts ≡ sign s (here ts).at ∷ rest ts))
    (g : Good p R)
  where
    abbrev Turn : ℕ → Type 0
    Turn n = (a : Exp) (t pre ts : Tokens) → t ≡ pre ++ ts → ((k : Tokens) → Grouped S R a (pre ++ k) k) → length ts < n → Fine (Grouped S R) t (chain os p n a ts)

    step : (n : ℕ) → Turn n → (a : Exp) (t pre ts : Tokens) → t ≡ pre ++ ts → ((k : Tokens) → Grouped S R a (pre ++ k) k) → length ts < suc n
        → (o : Op) (s : List ℕ) (at : ℕ) → S s o → ts ≡ sign s at ∷ rest ts → (m : Answer (Exp × Tokens)) → Fine R (rest ts) m
        → Fine (Grouped S R) t (m >>= (λ r. chain os p n (Both o a r.0) r.1))
    step n rec a t pre ts e h l o s at w q (Err x) f = (
      pre ++ sign s at ∷ f.0,
      f.1,
      e ∙ ap (λ v. pre ++ v) (q ∙ ap (λ v. sign s at ∷ v) f.2) ∙ sym (append_assoc pre (sign s at ∷ f.0) f.1),
      f.3,
      (
        f.4.0,
        Both o a f.4.1,
        λ k.
            subst (λ (z : Tokens). Grouped S R (Both o a f.4.1) z k) (sym (append_assoc pre (sign s at ∷ f.0) (f.4.0 ++ k)))
            (joins (h (sign s at ∷ (f.0 ++ (f.4.0 ++ k)))) w (f.4.2 k)),
      ),
    )
    step n rec a t pre ts e h l o s at w q (Ok y) f =
        let la = ap (λ (z : Tokens). length z) q in
        let lb = ap (λ (z : Tokens). length z) f.1 in
        let lc = length-append f.0 y.1 in
        rec (Both o a y.0) t (pre ++ sign s at ∷ f.0) y.1 (e ∙ ap (λ v. pre ++ v) (q ∙ ap (λ v. sign s at ∷ v) f.1) ∙ sym (append_assoc pre (sign s at ∷ f.0) y.1))
        (λ k.
        subst (λ (z : Tokens). Grouped S R (Both o a y.0) z k) (sym (append_assoc pre (sign s at ∷ f.0) k)) (joins (h (sign s at ∷ (f.0 ++ k))) w (f.2 k)))
        (omega arith)

    chain_fine : (n : ℕ) → Turn n
    chain_fine zero a t pre ts e h l = absurd (omega arith)
    chain_fine (suc n) a t pre ts e h l = go (op_here os ts) refl (chain_fine n)
      where
        go : (o : Option Op) → op_here os ts ≡ o → Turn n → Fine (Grouped S R) t (elim o [ none ↦ Ok (a, ts) | some o ↦ p (rest ts) >>= (λ r. chain os p n (Both o a r.0) r.1) ])
        go none q rec = (pre, e, h)
        go (some o) q rec = let d = read ts o q in step n rec a t pre ts e h l o d.0 (here ts).at d.1 d.2 (p (rest ts)) (g (rest ts))

    pub level_fine : Good (level os p) (Grouped S R)
    level_fine ts = go (p ts) (g ts)
      where
        go : (m : Answer (Exp × Tokens)) → Fine R ts m → Fine (Grouped S R) ts (m >>= (λ r. chain os p (suc (length r.1)) r.0 r.1))
        go (Err x) f = weaken R (Grouped S R) ts (Err x) (λ b t v d. alone d) f
        go (Ok x) f = chain_fine (suc (length x.1)) x.0 ts f.0 x.1 f.1 (λ k. alone (f.2 k)) (omega arith)
