-- The parser reads what the grammar gives.
use Rattle.std.proofs.Common.{◌≡◌, ℕ, zero, suc, ◌<◌, ◌≤◌, Bool, true, false, T, ◌⊎◌, List, [], ◌∷◌, length, Ok, sym, refl, ap, ◌∙◌, subst, inl, inr, arith}
use mathlib.Core.Option.{Option, some, none}
use Rattle.lemmas.proofs.Tests.{T_and}
use Rattle.reader.specs.Faults.{Answer, ◌>>=◌, refuse}
use Rattle.reader.specs.declared.fault.Cause.{Cause}
use Rattle.reader.specs.declared.fault.Cause.TheVariants.{NotAllowed}
use Rattle.reader.specs.Tokens.{same}
use Rattle.grammar.specs.Parsers.{if_so}
use Rattle.reader.specs.Tokens.{Class, name, number, fixed, finish}
use Rattle.grammar.specs.Trees.{Name, Op, Exp, Both}
use Rattle.grammar.specs.Parsers.{Tokens, Parser, here, rest, is_fixed, is_name, is_number, is, bad, eat, as_name, a_name, a_number}
use Rattle.grammar.specs.Parsing.{Signs, op_here, chain, level}
use Rattle.grammar.specs.Language.{sign, name_token, number_token, Grouped, alone, joins}
use Rattle.grammar.proofs.Results.{bound}
use Rattle.grammar.proofs.Results.{same_eq}

-- ---- results and tokens

pub ok_eq : {A : Type 0} (a b : A) → ◌≡◌ {A = Answer A} (Ok a) (Ok b) → a ≡ b
ok_eq a b e = cc

pub no_ok : {A B : Type 0} (n : Cause) (o : ℕ) (a : A) → refuse n o ≡ Ok a → B
no_ok n o a e = absurd (let z : ◌≡◌ {A = ℕ} 0 1 = cc in omega arith)

pub if_inv : {A : Type 0} (b : Bool) (f g : Unit {0} → A) (x : A) → if_so b f g ≡ x → (T b × (f tt ≡ x)) ⊎ ((T b → ⊥) × (g tt ≡ x))
if_inv true f g x e = inl (tt, e)
if_inv false f g x e = inr (λ t. t, e)

pub if_true : {A : Type 0} (b : Bool) (f g : Unit {0} → A) → b ≡ true → if_so b f g ≡ f tt
if_true b f g e = ap (λ c. if_so c f g) e

pub if_false : {A : Type 0} (b : Bool) (f g : Unit {0} → A) → b ≡ false → if_so b f g ≡ g tt
if_false b f g e = ap (λ c. if_so c f g) e

pub then : {A B : Type 0} {m : Answer A} {x : A} (k : A → Answer B) → m ≡ Ok x → (m >>= k) ≡ k x
then k e = ap (λ z. z >>= k) e

fixed_is : (c : Class) → T (is_fixed c) → c ≡ fixed
fixed_is name h = absurd h
fixed_is number h = absurd h
fixed_is fixed h = refl
fixed_is finish h = absurd h

name_class : (c : Class) → T (is_name c) → c ≡ name
name_class name h = refl
name_class number h = absurd h
name_class fixed h = absurd h
name_class finish h = absurd h

number_class : (c : Class) → T (is_number c) → c ≡ number
number_class name h = absurd h
number_class number h = refl
number_class fixed h = absurd h
number_class finish h = absurd h

pub sign_is : (s : List ℕ) (ts : Tokens) → T (is s ts) → ts ≡ sign s (here ts).at ∷ rest ts
sign_is s [] h = absurd h
sign_is s (t ∷ ts) h =
    let i = T_and (is_fixed t.class) (same s t.text) h in
    λ j. record { class = fixed_is t.class i.0 j; text = sym (same_eq s t.text i.1) j; at = t.at } ∷ ts

pub eaten : (s : List ℕ) (ts r : Tokens) → eat s ts ≡ Ok r → ts ≡ sign s (here ts).at ∷ r
eaten s ts r e =
    elim (if_inv (is s ts) (λ u. Ok (rest ts)) (λ u. bad ts) (Ok r) e) [
      | inl i ↦ sign_is s ts i.0 ∙ ap (λ z. sign s (here ts).at ∷ z) (ok_eq (rest ts) r i.1)
      | inr i ↦ no_ok NotAllowed (here ts).at r i.1
    ]

pub name_here : (ts : Tokens) → T (is_name (here ts).class) → ts ≡ name_token (as_name (here ts)) ∷ rest ts
name_here [] h = absurd h
name_here (t ∷ ts) h = λ j. record { class = name_class t.class h j; text = t.text; at = t.at } ∷ ts

pub number_here : (ts : Tokens) → T (is_number (here ts).class) → ts ≡ number_token (as_name (here ts)) ∷ rest ts
number_here [] h = absurd h
number_here (t ∷ ts) h = λ j. record { class = number_class t.class h j; text = t.text; at = t.at } ∷ ts

pub a_name_is : (ts : Tokens) (x : Name × Tokens) → a_name ts ≡ Ok x → ts ≡ name_token x.0 ∷ x.1
a_name_is ts x e =
    elim (if_inv (is_name (here ts).class) (λ u. Ok (as_name (here ts), rest ts)) (λ u. bad ts) (Ok x) e) [
      | inl i ↦ name_here ts i.0 ∙ ap (λ (z : Name × Tokens). name_token z.0 ∷ z.1) (ok_eq (as_name (here ts), rest ts) x i.1)
      | inr i ↦ no_ok NotAllowed (here ts).at x i.1
    ]

pub a_number_is : (ts : Tokens) (x : Name × Tokens) → a_number ts ≡ Ok x → ts ≡ number_token x.0 ∷ x.1
a_number_is ts x e =
    elim (if_inv (is_number (here ts).class) (λ u. Ok (as_name (here ts), rest ts)) (λ u. bad ts) (Ok x) e) [
      | inl i ↦ number_here ts i.0 ∙ ap (λ (z : Name × Tokens). number_token z.0 ∷ z.1) (ok_eq (as_name (here ts), rest ts) x i.1)
      | inr i ↦ no_ok NotAllowed (here ts).at x i.1
    ]

-- ---- a parser and a relation

abbrev pub Sounds : {A : Type 0} → Parser A → (A → Tokens → Tokens → Type 0) → Type 0
Sounds {A} p R = (ts : Tokens) (x : A × Tokens) → p ts ≡ Ok x → R x.0 ts x.1

-- with what may follow
abbrev pub Reads : {A : Type 0} → Parser A → (A → Tokens → Tokens → Type 0) → (Tokens → Type 0) → Type 0
Reads {A} p R F = (a : A) (ts r : Tokens) → R a ts r → F r → p ts ≡ Ok (a, r)

abbrev pub Shrinks : {A : Type 0} → (A → Tokens → Tokens → Type 0) → Type 0
Shrinks {A} R = (a : A) (ts r : Tokens) → R a ts r → length r ≤ length ts

abbrev pub Any : Tokens → Type 0
Any r = Unit {0}

-- ---- levels of operators

module _
    (S : List ℕ → Op → Type 0) (os : Signs) (R : Exp → Tokens → Tokens → Type 0) (p : Parser Exp)
    (read : (ts : Tokens) (o : Op) → op_here os ts ≡ some o → (s : List ℕ) × S s o × (ts ≡ sign s (here ts).at ∷ rest ts))
    (ps : Sounds p R)
  where
    chain_sound : (n : ℕ) (e : Exp) (t ts : Tokens) (x : Exp × Tokens) → Grouped S R e t ts → chain os p n e ts ≡ Ok x → Grouped S R x.0 t x.1
    chain_sound zero e t ts x g i = no_ok NotAllowed (here ts).at x i
    chain_sound (suc n) e t ts x g i = go (op_here os ts) refl (λ f u h. chain_sound n f t u x h) i
      where
        go : (o : Option Op) → op_here os ts ≡ o → ((f : Exp) (u : Tokens) → Grouped S R f t u → chain os p n f u ≡ Ok x → Grouped S R x.0 t x.1)
            → ◌≡◌ {A = Answer (Exp × Tokens)} (elim o [ none ↦ Ok (e, ts) | some o ↦ p (rest ts) >>= (λ r. chain os p n (Both o e r.0) r.1) ]) (Ok x)
            → Grouped S R x.0 t x.1
        go none h k j = subst (λ (z : Exp × Tokens). Grouped S R z.0 t z.1) (ok_eq (e, ts) x j) g
        go (some o) h k j =
            let q = read ts o h in
            let b = bound (p (rest ts)) (λ r. chain os p n (Both o e r.0) r.1) x j in
            k (Both o e b.0.0) b.0.1 (joins (subst (λ (z : Tokens). Grouped S R e t z) q.2 g) q.1 (ps (rest ts) b.0 b.1)) b.2

    pub level_sound : Sounds (level os p) (Grouped S R)
    level_sound ts x e =
        let b = bound (p ts) (λ r. chain os p (suc (length r.1)) r.0 r.1) x e in
        chain_sound (suc (length b.0.1)) b.0.0 ts b.0.1 x (alone (ps ts b.0 b.1)) b.2

pub grouped_shrinks : (S : List ℕ → Op → Type 0) (R : Exp → Tokens → Tokens → Type 0) → Shrinks R → Shrinks (Grouped S R)
grouped_shrinks S R sh e ts r (alone d) = sh e ts r d
grouped_shrinks S R sh e ts r (joins {e = f} {f = h} {s = s} {at = at} {a = a} g o d) =
    let i = grouped_shrinks S R sh f ts (sign s at ∷ a) g in let j = sh h a r d in omega arith

module _
    (S : List ℕ → Op → Type 0) (os : Signs) (R : Exp → Tokens → Tokens → Type 0) (p : Parser Exp) (F : Tokens → Type 0)
    (written : (s : List ℕ) (o : Op) (at : ℕ) (a : Tokens) → S s o → op_here os (sign s at ∷ a) ≡ some o)
    (follows : (s : List ℕ) (o : Op) (at : ℕ) (a : Tokens) → S s o → F (sign s at ∷ a))
    (sh : Shrinks R) (pr : Reads p R F)
  where
    level_to : (e : Exp) (ts a : Tokens) → Grouped S R e ts a → F a → (x : Exp × Tokens) → ((n : ℕ) → length a < n → chain os p n e a ≡ Ok x) → level os p ts ≡ Ok x
    level_to e ts a (alone d) f x k = then (λ r. chain os p (suc (length r.1)) r.0 r.1) (pr e ts a d f) ∙ k (suc (length a)) (omega arith)
    level_to e ts r (joins {e = g} {f = h} {o = o} {s = s} {at = at} {a = a} d w c) f x k =
        level_to g ts (sign s at ∷ a) d (follows s o at a w) x (λ n l. turn n l)
      where
        turn : (n : ℕ) → length (sign s at ∷ a) < n → chain os p n g (sign s at ∷ a) ≡ Ok x
        turn zero l = absurd (omega arith)
        turn (suc n) l =
            let j = sh h a r c in
            subst (λ (z : Option Op). ◌≡◌ {A = Answer (Exp × Tokens)} (elim z [ none ↦ Ok (g, sign s at ∷ a) | some o ↦ p a >>= (λ r. chain os p n (Both o g r.0) r.1) ]) (Ok x))
            (sym (written s o at a w)) (then (λ r. chain os p n (Both o g r.0) r.1) (pr h a r c f) ∙ k n (omega arith))

    pub level_reads : Reads (level os p) (Grouped S R) (λ r. (op_here os r ≡ none) × F r)
    level_reads e ts r d f = level_to e ts r d f.1 (e, r) (λ n l. stop n l)
      where
        stop : (n : ℕ) → length r < n → chain os p n e r ≡ Ok (e, r)
        stop zero l = absurd (omega arith)
        stop (suc n) l =
            subst (λ (z : Option Op). ◌≡◌ {A = Answer (Exp × Tokens)} (elim z [ none ↦ Ok (e, r) | some o ↦ p (rest r) >>= (λ r. chain os p n (Both o e r.0) r.1) ]) (Ok (e, r)))
            (sym f.0) refl
