-- Different names of an environment stand for different own cells.
use Rattle.std.proofs.Common.{◌≡◌, ℕ, suc, ◌+◌, ◌<◌, ◌≤◌, Bool, true, false, not, T, eqb, ◌≢◌, ◌⊎◌, List, [], ◌∷◌, length, Some, None, Ok, Option, sym, refl, ap, ◌∙◌, subst, ap₂, inl, inr, arith, eqb→eq, T_not}
use lib.Dec.{eqb_refl, not_T}
use Rattle.rules.specs.Programs.{elem}
use Rattle.lemmas.proofs.Tests.{T_and, and_T, T_or, or_l, or_r}
use Rattle.reader.specs.Faults.{Answer, ◌>>=◌}
use Rattle.reader.specs.Tokens.{same, among}
use Rattle.grammar.specs.Trees.{Name, Param, Blocks, Last, Also}
use Rattle.unfold.specs.Unfolded.{Got, Branches, last, also}
use Rattle.unfold.specs.Scopes.{found, Binding, Env, lookup, stands}
use Rattle.unfold.specs.Variables.{Uses, ParamsOf, uses_block, written, gets, got_new, got_env, all_get, all_new}
use Rattle.unfold.specs.Unfolding.{Passed, by_reference, by_value, passes}
use Rattle.unfold.specs.Sharing.{owns, none_in, none_in_any, apart, of_branches, none_among, none_among_any, names_apart, names_distinct, writes, all_writes}
use Rattle.reader.specs.declared.fault.Cause.TheVariants.{NotVisible}
use Rattle.program.proofs.Results.{bound}

-- ---- texts

pub same_eq : (a b : List ℕ) → T (same a b) → a ≡ b
same_eq [] [] h = refl
same_eq [] (b ∷ bs) h = absurd h
same_eq (a ∷ as') [] h = absurd h
same_eq (a ∷ as') (b ∷ bs) h =
    let i = T_and (eqb a b) (same as' bs) h in
    ap₂ {B = List ℕ} (λ x y. x ∷ y) (eqb→eq a b i.0) (same_eq as' bs i.1)

pub same_refl : (a : List ℕ) → T (same a a)
same_refl [] = tt
same_refl (a ∷ as') = and_T (eqb a a) (same as' as') (eqb_refl a) (same_refl as')

-- ---- environments

abbrev pub Away : ℕ → Env → Type 0
Away a [] = Unit {0}
Away a (b ∷ v) = (a ≢ b.own) × Away a v

abbrev pub Inj : Env → Type 0
Inj [] = Unit {0}
Inj (b ∷ v) = Away b.own v × Inj v

abbrev pub Below : ℕ → Env → Type 0
Below c [] = Unit {0}
Below c (b ∷ v) = (b.own < c) × Below c v

pub below_more : (c d : ℕ) (v : Env) → c ≤ d → Below c v → Below d v
below_more c d [] l h = tt
below_more c d (b ∷ v) l h = let i = h.0 in (omega arith, below_more c d v l h.1)

-- the first binding of a name, or a later one
pub split : (b : Binding) (v : Env) (n : List ℕ) (x : Binding) → lookup (b ∷ v) n ≡ Some x → ((b ≡ x) × T (same n b.name)) ⊎ (lookup v n ≡ Some x)
split b v n x e = go (same n b.name) e
  where
    go : (t : Bool) → ◌≡◌ {A = Option Binding} (elim t [ true ↦ Some b | false ↦ lookup v n ]) (Some x) → ((b ≡ x) × T t) ⊎ (lookup v n ≡ Some x)
    go true i = inl (let j : b ≡ x = cc in j, tt)
    go false i = inr i

pub below_look : (c : ℕ) (v : Env) (n : List ℕ) (b : Binding) → Below c v → lookup v n ≡ Some b → b.own < c
below_look c [] n b h e = absurd (let z : ◌≡◌ {A = ℕ} 0 1 = cc in omega arith)
below_look c (x ∷ v) n b h e =
    elim (split x v n b e) [ inl i ↦ subst (λ (y : Binding). y.own < c) i.0 h.0 | inr i ↦ below_look c v n b h.1 i ]

away_look : (a : ℕ) (v : Env) (n : List ℕ) (b : Binding) → Away a v → lookup v n ≡ Some b → a ≢ b.own
away_look a [] n b h e = absurd (let z : ◌≡◌ {A = ℕ} 0 1 = cc in omega arith)
away_look a (x ∷ v) n b h e =
    elim (split x v n b e) [ inl i ↦ subst (λ (y : Binding). a ≢ y.own) i.0 h.0 | inr i ↦ away_look a v n b h.1 i ]

pub one_name : (v : Env) (n m : List ℕ) (b d : Binding) → Inj v → lookup v n ≡ Some b → lookup v m ≡ Some d → b.own ≡ d.own → n ≡ m
one_name [] n m b d h e f i = absurd (let z : ◌≡◌ {A = ℕ} 0 1 = cc in omega arith)
one_name (x ∷ v) n m b d h e f i =
    elim (split x v n b e) [
      | inl j ↦
          elim (split x v m d f) [
            | inl k ↦ same_eq n x.name j.1 ∙ sym (same_eq m x.name k.1)
            | inr k ↦ absurd (away_look x.own v m d h.0 k (ap (λ y. y.own) j.0 ∙ i))
          ]
      | inr j ↦
          elim (split x v m d f) [
            | inl k ↦ absurd (away_look x.own v n b h.0 j (ap (λ y. y.own) k.0 ∙ sym i))
            | inr k ↦ one_name v n m b d h.1 j k i
          ]
    ]

-- ---- environments from environments: each own cell is that of a name with N, or a new one from c up to d

abbrev pub Old : Env → (List ℕ → Type 0) → ℕ → Type 0
Old v N a = (n : List ℕ) × (b : Binding) × N n × (lookup v n ≡ Some b) × (b.own ≡ a)

abbrev pub Src : Env → (List ℕ → Type 0) → ℕ → ℕ → Env → Type 0
Src v N c d [] = Unit {0}
Src v N c d (y ∷ w) = (Old v N y.own ⊎ ((c ≤ y.own) × (y.own < d))) × Src v N c d w

pub src_more : (v : Env) (N M : List ℕ → Type 0) (c d c' d' : ℕ) (w : Env) → ((n : List ℕ) → N n → M n) → c' ≤ c → d ≤ d' → Src v N c d w → Src v M c' d' w
src_more v N M c d c' d' [] f l m h = tt
src_more v N M c d c' d' (y ∷ w) f l m h = (
  elim h.0 [
    | inl o ↦ inl (o.0, o.1, f o.0 o.2, o.3, o.4)
    | inr r ↦ let i = r.0 in let j = r.1 in inr (omega arith, omega arith)
  ],
  src_more v N M c d c' d' w f l m h.1,
)

pub src_below : (v : Env) (N : List ℕ → Type 0) (c d : ℕ) (w : Env) → Below c v → c ≤ d → Src v N c d w → Below d w
src_below v N c d [] h l s = tt
src_below v N c d (y ∷ w) h l s =
    (elim s.0 [ inl o ↦ let i = below_look c v o.0 o.1 h o.3 in let j = o.4 in omega arith | inr r ↦ r.1 ], src_below v N c d w h l s.1)

away_old : (v : Env) (N : List ℕ → Type 0) (c d : ℕ) (w : Env) (n : List ℕ) (b : Binding) → Inj v → Below c v → lookup v n ≡ Some b → (N n → ⊥) → Src v N c d w → Away b.own w
away_old v N c d [] n b i l e f s = tt
away_old v N c d (y ∷ w) n b i l e f s = (
  elim s.0 [
    | inl o ↦ λ eq. f (subst N (one_name v o.0 n o.1 b i o.3 e (o.4 ∙ sym eq)) o.2)
    | inr r ↦ λ eq. let j = below_look c v n b l e in let k = r.0 in omega arith
  ],
  away_old v N c d w n b i l e f s.1,
)

away_new : (v : Env) (N : List ℕ → Type 0) (c d : ℕ) (w : Env) → Below c v → Src v N (suc c) d w → Away c w
away_new v N c d [] l s = tt
away_new v N c d (y ∷ w) l s = (
  elim s.0 [
    | inl o ↦ λ eq. let j = below_look c v o.0 o.1 l o.3 in let k = o.4 in omega arith
    | inr r ↦ λ eq. let k = r.0 in omega arith
  ],
  away_new v N c d w l s.1,
)

-- ---- a call

abbrev Refs : List (List ℕ) → List ℕ → Type 0
Refs rs n = T (among n rs)

pub pass_src : (v : Env) (ps : List Param) (as' : List Name) (c : ℕ) (r : Passed) → passes v ps as' c ≡ Ok r → Below c v → Inj v
    → Src v (Refs r.refs) c (c + length r.news) r.env × (T (names_distinct r.refs) → Inj r.env)
pass_src v [] as' c r e l i =
    let j : ◌≡◌ {A = Passed} (record { env = []; copies = []; news = []; refs = [] }) r = cc in
    subst (λ (y : Passed). Src v (Refs y.refs) c (c + length y.news) y.env × (T (names_distinct y.refs) → Inj y.env)) j (tt, λ h. tt)
pass_src v (p ∷ ps) [] c r e l i =
    let j : ◌≡◌ {A = Passed} (record { env = []; copies = []; news = []; refs = [] }) r = cc in
    subst (λ (y : Passed). Src v (Refs y.refs) c (c + length y.news) y.env × (T (names_distinct y.refs) → Inj y.env)) j (tt, λ h. tt)
pass_src v (p ∷ ps) (a ∷ as') c r e l i =
    let b = bound (stands v a) (λ b. elim p.reference [
      | true ↦ passes v ps as' c >>= (λ r. Ok (by_reference p a b r))
      | false ↦ passes v ps as' (suc c) >>= (λ r. Ok (by_value p b c r))
    ]) r e in
    go b.0 (found_here (lookup v a.text) b.0 b.1) p.reference (λ s h. pass_src v ps as' c s h l i)
    (λ s h. pass_src v ps as' (suc c) s h (below_more c (suc c) v (omega arith) l) i) b.2
  where
    R : ℕ → Passed → Type 0
    R c y = Src v (Refs y.refs) c (c + length y.news) y.env × (T (names_distinct y.refs) → Inj y.env)

    found_here : (o : Option Binding) (b : Binding) → found NotVisible a.at o ≡ Ok b → o ≡ Some b
    found_here None b h = absurd (let z : ◌≡◌ {A = ℕ} 0 1 = cc in omega arith)
    found_here (Some x) b h = let j : x ≡ b = cc in ap Some j

    go : (b : Binding) → lookup v a.text ≡ Some b → (t : Bool) → ((s : Passed) → passes v ps as' c ≡ Ok s → R c s) → ((s : Passed) → passes v ps as' (suc c) ≡ Ok s → R (suc c) s)
        → ◌≡◌ {A = Answer Passed} (elim t [ true ↦ passes v ps as' c >>= (λ r. Ok (by_reference p a b r)) | false ↦ passes v ps as' (suc c) >>= (λ r. Ok (by_value p b c r)) ]) (Ok r)
        → R c r
    go b k true f1 f2 h =
        let s = bound (passes v ps as' c) (λ r. Ok (by_reference p a b r)) r h in
        let j : by_reference p a b s.0 ≡ r = cc in
        let z = f1 s.0 s.1 in
        let d = c + length s.0.news in
        subst (R c) j (
          (
            inl (a.text, b, or_l (same a.text a.text) (among a.text s.0.refs) (same_refl a.text), k, refl),
            src_more v (Refs s.0.refs) (Refs (a.text ∷ s.0.refs)) c d c d s.0.env (λ m x. or_r (same m a.text) (among m s.0.refs) x) (omega arith) (omega arith) z.0,
          ),
          λ x.
              let y = T_and (not (among a.text s.0.refs)) (names_distinct s.0.refs) x in
              (away_old v (Refs s.0.refs) c d s.0.env a.text b i l k (λ u. T_not (among a.text s.0.refs) y.0 u) z.0, z.1 y.1),
        )
    go b k false f1 f2 h =
        let s = bound (passes v ps as' (suc c)) (λ r. Ok (by_value p b c r)) r h in
        let j : by_value p b c s.0 ≡ r = cc in
        let z = f2 s.0 s.1 in
        let d = suc c + length s.0.news in
        subst (R c) j (
          (inr (omega arith, omega arith), src_more v (Refs s.0.refs) (Refs s.0.refs) (suc c) d c (c + suc (length s.0.news)) s.0.env (λ m x. x) (omega arith) (omega arith) z.0),
          λ x. (away_new v (Refs s.0.refs) c d s.0.env l z.0, z.1 x),
        )

-- ---- a branch

abbrev pub Wrote : List (List ℕ) → List (List ℕ) → List ℕ → Type 0
Wrote had ws n = T (not (among n had)) × T (among n ws)

abbrev pub GetR : Env → List (List ℕ) → ℕ → List Got → Type 0
GetR v had c gs = Src v (Wrote had (writes gs)) c (c + length (got_new gs)) (got_env gs) × Inj (got_env gs)

not_seen : (n m : List ℕ) (had : List (List ℕ)) → T (not (among m (n ∷ had))) → T (not (among m had))
not_seen n m had h = not_T (among m had) (λ k. T_not (among m (n ∷ had)) h (or_r (same m n) (among m had) k))

not_now : (n : List ℕ) (had : List (List ℕ)) → T (not (among n (n ∷ had))) → ⊥
not_now n had h = T_not (among n (n ∷ had)) h (or_l (same n n) (among n had) (same_refl n))

pub gets_src : (v : Env) (all us : Uses) (had : List (List ℕ)) (c : ℕ) → Below c v → Inj v → GetR v had c (gets v all us had c)
gets_src v all [] had c l i = (tt, tt)
gets_src v all (u ∷ us) had c l i =
    go (among u.0.text had) refl (lookup v u.0.text) refl (written all u.0.text) (gets_src v all us had c l i)
    (gets_src v all us (u.0.text ∷ had) c l i) (gets_src v all us (u.0.text ∷ had) (suc c) (below_more c (suc c) v (omega arith) l) i)
  where
    n : List ℕ
    n = u.0.text

    go : (s : Bool) → among u.0.text had ≡ s → (o : Option Binding) → lookup v u.0.text ≡ o → (w : Bool)
        → GetR v had c (gets v all us had c) → GetR v (u.0.text ∷ had) c (gets v all us (u.0.text ∷ had) c)
        → GetR v (u.0.text ∷ had) (suc c) (gets v all us (u.0.text ∷ had) (suc c))
        → GetR v had c (elim s [
          | true ↦ gets v all us had c
          | false ↦ elim o [
            | None ↦ gets v all us had c
            | Some b ↦ elim w [
              | true ↦ record { name = u.0; own = b.own; home = b.home; from = None } ∷ gets v all us (u.0.text ∷ had) c
              | false ↦ record { name = u.0; own = c; home = b.home; from = Some b.own } ∷ gets v all us (u.0.text ∷ had) (suc c)
            ]
          ]
        ])
    go true se o oe w r1 r2 r3 = r1
    go false se None oe w r1 r2 r3 = r1
    go false se (Some b) oe true r1 r2 r3 =
        let gs = gets v all us (u.0.text ∷ had) c in
        let d = c + length (got_new gs) in
        let ns = u.0.text in
        let not_yet : T (not (among ns had)) = subst (λ (z : Bool). T (not z)) (sym se) tt in (
          (
            inl (ns, b, (not_yet, or_l (same ns ns) (among ns (writes gs)) (same_refl ns)), oe, refl),
            src_more v (Wrote (ns ∷ had) (writes gs)) (Wrote had (ns ∷ writes gs)) c d c d (got_env gs)
                (λ m x. (not_seen ns m had x.0, or_r (same m ns) (among m (writes gs)) x.1)) (omega arith) (omega arith) r2.0,
          ),
          (away_old v (Wrote (ns ∷ had) (writes gs)) c d (got_env gs) ns b i l oe (λ x. not_now ns had x.0) r2.0, r2.1),
        )
    go false se (Some b) oe false r1 r2 r3 =
        let gs = gets v all us (u.0.text ∷ had) (suc c) in
        let d = suc c + length (got_new gs) in
        let ns = u.0.text in (
          (
            inr (omega arith, omega arith),
            src_more v (Wrote (ns ∷ had) (writes gs)) (Wrote had (writes gs)) (suc c) d c (c + suc (length (got_new gs))) (got_env gs)
                (λ m x. (not_seen ns m had x.0, x.1)) (omega arith) (omega arith) r3.0,
          ),
          (away_new v (Wrote (ns ∷ had) (writes gs)) c d (got_env gs) l r3.0, r3.1),
        )

-- ---- the branches of a par

-- each branch's cells, in rising ranges
abbrev pub Rising : Env → ℕ → List (List Got) → Type 0
Rising v c [] = Unit {0}
Rising v c (g ∷ gs) = (d : ℕ) × (c ≤ d) × Src v (Wrote [] (writes g)) c d (got_env g) × Rising v d gs

abbrev pub RisingB : Env → ℕ → Branches → Type 0
RisingB v c last = Unit {0}
RisingB v c (also g us bs) = (d : ℕ) × (c ≤ d) × Src v (Wrote [] (writes g)) c d (got_env g) × RisingB v d bs

-- each branch's environment
abbrev pub AllInj : ℕ → List (List Got) → Type 0
AllInj c [] = Unit {0}
AllInj c (g ∷ gs) = Inj (got_env g) × Below c (got_env g) × AllInj c gs

pub all_src : (f : ParamsOf) (v : Env) (bs : Blocks) (c e : ℕ) → Below c v → Inj v → c + length (all_new (all_get f v bs c)) ≤ e
    → Rising v c (all_get f v bs c) × AllInj e (all_get f v bs c)
all_src f v Last c e l i m = (tt, tt)
all_src f v (Also b bs) c e l i m =
    let us = uses_block f b in
    let g = gets v us us [] c in
    let d = c + length (got_new g) in
    let r = gets_src v us us [] c l i in
    let a = lib.ListN.length-append (got_new g) (all_new (all_get f v bs d)) in
    let z = all_src f v bs d e (below_more c d v (omega arith) l) i (omega arith) in
    ((d, omega arith, r.0, z.0), (r.1, below_more d e (got_env g) (omega arith) (src_below v (Wrote [] (writes g)) c d (got_env g) l (omega arith) r.0), z.1))

module _ (v : Env) (i : Inj v) (base : ℕ) (l : Below base v) where
  -- own cells of two branches differ if the names written in them do
  apart_one : (a : ℕ) (ws vs : List (List ℕ)) (c d c' d' : ℕ) (ys : List Got) → (Old v (Wrote [] ws) a ⊎ ((c ≤ a) × (a < d))) → T (none_among ws vs)
      → base ≤ c → d ≤ c' → c ≤ c' → Src v (Wrote [] vs) c' d' (got_env ys) → T (elem a (owns ys)) → ⊥
  apart_one a ws vs c d c' d' [] s n x y z h t = t
  apart_one a ws vs c d c' d' (g ∷ ys) s n x y z h t =
      elim (T_or (eqb a g.own) (elem a (owns ys)) t) [
        | inl eq ↦
            let e = eqb→eq a g.own eq in
            elim s [
              | inl o ↦
                  elim h.0 [
                    | inl p ↦
                        let m : o.0 ≡ p.0 = one_name v o.0 p.0 o.1 p.1 i o.3 p.3 (o.4 ∙ e ∙ sym p.4) in
                        clash ws vs o.0 n o.2.1 (subst (λ (w : List ℕ). T (among w vs)) (sym m) p.2.1)
                    | inr p ↦ let j = below_look base v o.0 o.1 l o.3 in let k = o.4 in let q = p.0 in omega arith
                  ]
              | inr o ↦
                  elim h.0 [
                    | inl p ↦ let j = below_look base v p.0 p.1 l p.3 in let k = p.4 in let q = o.0 in omega arith
                    | inr p ↦ let j = o.1 in let k = p.0 in omega arith
                  ]
            ]
        | inr k ↦ apart_one a ws vs c d c' d' ys s n x y z h.1 k
      ]
    where
      clash : (ws vs : List (List ℕ)) (m : List ℕ) → T (none_among ws vs) → T (among m ws) → T (among m vs) → ⊥
      clash [] vs m n a b = a
      clash (w ∷ ws) vs m n a b =
          let j = T_and (not (among w vs)) (none_among ws vs) n in
          elim (T_or (same m w) (among m ws) a) [
            | inl k ↦ T_not (among w vs) j.0 (subst (λ (u : List ℕ). T (among u vs)) (same_eq m w k) b)
            | inr k ↦ clash ws vs m j.1 k b
          ]

  apart_two : (xs : List Got) (ws vs : List (List ℕ)) (c d c' d' : ℕ) (ys : List Got) → Src v (Wrote [] ws) c d (got_env xs) → T (none_among ws vs)
      → base ≤ c → d ≤ c' → c ≤ c' → Src v (Wrote [] vs) c' d' (got_env ys) → T (none_in (owns xs) (owns ys))
  apart_two [] ws vs c d c' d' ys s n x y z h = tt
  apart_two (g ∷ xs) ws vs c d c' d' ys s n x y z h =
      and_T (not (elem g.own (owns ys))) (none_in (owns xs) (owns ys))
      (not_T (elem g.own (owns ys)) (λ t. apart_one g.own ws vs c d c' d' ys s.0 n x y z h t))
      (apart_two xs ws vs c d c' d' ys s.1 n x y z h)

  apart_any : (xs : List Got) (ws : List (List ℕ)) (c d e : ℕ) (bs : Branches) → Src v (Wrote [] ws) c d (got_env xs) → T (none_among_any ws (all_writes bs))
      → base ≤ c → d ≤ e → c ≤ e → RisingB v e bs → T (none_in_any (owns xs) (of_branches (λ g us. owns g) bs))
  apart_any xs ws c d e last s n x y z h = tt
  apart_any xs ws c d e (also g us bs) s n x y z h =
      let j = T_and (none_among ws (writes g)) (none_among_any ws (all_writes bs)) n in
      let k = h.1 in
      and_T (none_in (owns xs) (owns g)) (none_in_any (owns xs) (of_branches (λ g us. owns g) bs))
      (apart_two xs ws (writes g) c d e h.0 g s j.0 x y z h.2)
      (apart_any xs ws c d h.0 bs s j.1 x (omega arith) (omega arith) h.3)

  pub apart_all : (c : ℕ) (bs : Branches) → base ≤ c → RisingB v c bs → T (names_apart (all_writes bs)) → T (apart (of_branches (λ g us. owns g) bs))
  apart_all c last x h n = tt
  apart_all c (also g us bs) x h n =
      let j = T_and (none_among_any (writes g) (all_writes bs)) (names_apart (all_writes bs)) n in
      let k = h.1 in
      and_T (none_in_any (owns g) (of_branches (λ g us. owns g) bs)) (apart (of_branches (λ g us. owns g) bs))
      (apart_any g (writes g) c h.0 h.0 bs h.2 j.0 x (omega arith) (omega arith) h.3)
      (apart_all h.0 bs (omega arith) h.3 j.1)
