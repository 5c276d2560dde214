-- What a statement's act says of the statement.
use Rattle.std.proofs.Common.{◌≡◌, ℕ, Bool, true, false, cond, T, eqb, ◌⊎◌, List, [], ◌∷◌, sym, refl, ap, ap₂, inl, inr, eqb→eq}
use mathlib.Core.Path.{fun_ext}
use mathlib.Core.Option.{Option, some, none, map, map-eq-some_iff}
use Rattle.numbers.specs.Kinds.{Meaning}
use Rattle.rules.specs.Effects.{only, nothing, never}
use Rattle.rules.specs.Programs.{Table, Expr, own, word, plus, minus, times, below, same, Copies, Stm, end, var, set, know, next, call, test, try, take, par, goto, throw, pick}
use Rattle.rules.specs.Soundness.{Reads, Copied, Touches, Takes, Leads}
use Rattle.rules.specs.Steps.{Act, stay, pass, fork, raise, halt, act, taking, copying}
use Rattle.rules.specs.Values.{value}
use Rattle.lemmas.proofs.Tests.{cond_some, some_none}

-- ---- an act keeps to what its statement names

abbrev pub Writes : Stm → (ℕ → Option ℕ) → Type 0
Writes st w = (c v : ℕ) → w c ≡ some v → Touches st c

abbrev pub Fits : Table → ℕ → Stm → Act → Type 0
Fits t x st stay = Unit {0}
Fits t x st (pass w r y) = Writes st w × ((i : ℕ) → T (r i) → Takes st i) × Leads st (t.after x) y
Fits t x st (fork w y bs) = Writes st w × (y ≡ x) × ((cs : Copies) × (st ≡ par bs cs))
Fits t x st (raise g j) = st ≡ throw g j
Fits t x st halt = Unit {0}

none_some : {B : Type 0} (v : ℕ) → none ≡ some v → B
none_some v e = some_none v none e refl

only_at : (a v c w : ℕ) → only a v c ≡ some w → c ≡ a
only_at a v c w e = eqb→eq c a (cond_some (eqb c a) v w e).0

copies_at : (f : ℕ → ℕ) (cs : Copies) (c v : ℕ) → copying f cs c ≡ some v → Copied cs c
copies_at f cs c v e = let a = (map-eq-some_iff f (pick cs c)).0 e in inr (a.0, a.1)

taking_fits : (k : Meaning) (t : Table) (x i c z : ℕ) (l : List ℕ) → Fits t x (take i c z) (taking k i c (t.after x) z l)
taking_fits k t x i c z [] = (λ a v e. none_some v e, λ a h. absurd h, inr refl)
taking_fits k t x i c z (w ∷ ws) = go (k.number w)
  where
    go : (b : Bool) → Fits t x (take i c z) (cond b (pass (only c w) (eqb i) (t.after x)) (pass nothing (eqb i) z))
    go true = (λ a v e. only_at c w a v e, λ a h. sym (eqb→eq i a h), inl refl)
    go false = (λ a v e. none_some v e, λ a h. sym (eqb→eq i a h), inr refl)

test_leads : (b : Bool) (y z : ℕ) → (cond b z y ≡ y) ⊎ (cond b z y ≡ z)
test_leads true y z = inr refl
test_leads false y z = inl refl

pub fits : (k : Meaning) (t : Table) (f : ℕ → ℕ) (r : ℕ → List ℕ) (x : ℕ) (st : Stm) → Fits t x st (act k t f r x st)
fits k t f r x end = tt
fits k t f r x (var c) = (λ a v e. only_at c 0 a v e, λ a h. absurd h, refl)
fits k t f r x (set c e) = (λ a v i. inl (only_at c (value k f e) a v i), λ a h. absurd h, refl)
fits k t f r x know = (λ a v e. none_some v e, λ a h. absurd h, refl)
fits k t f r x (next c h) = tt
fits k t f r x (call cs y) = (λ a v e. copies_at f cs a v e, λ a h. absurd h, refl)
fits k t f r x (test e y z) = (λ a v i. none_some v i, λ a h. absurd h, test_leads (eqb (value k f e) 0) y z)
fits k t f r x (try y) = (λ a v e. none_some v e, λ a h. absurd h, refl)
fits k t f r x (take i c z) = taking_fits k t x i c z (r i)
fits k t f r x (par bs cs) = (λ a v e. copies_at f cs a v e, refl, (cs, refl))
fits k t f r x (goto y) = (λ a v e. none_some v e, λ a h. absurd h, refl)
fits k t f r x (throw g j) = refl

-- ---- an act depends on nothing else

pub value_same : (k : Meaning) (f g : ℕ → ℕ) (e : Expr) → ((c : ℕ) → Reads e c → f c ≡ g c) → value k f e ≡ value k g e
value_same k f g (own c) h = h c refl
value_same k f g (word w) h = refl
value_same k f g (plus a b) h = ap₂ k.sum (value_same k f g a (λ c i. h c (inl i))) (value_same k f g b (λ c i. h c (inr i)))
value_same k f g (minus a b) h = ap₂ k.difference (value_same k f g a (λ c i. h c (inl i))) (value_same k f g b (λ c i. h c (inr i)))
value_same k f g (times a b) h = ap₂ k.product (value_same k f g a (λ c i. h c (inl i))) (value_same k f g b (λ c i. h c (inr i)))
value_same k f g (below a b) h =
    ap₂ (λ u v. cond (k.less u v) 1 0) (value_same k f g a (λ c i. h c (inl i))) (value_same k f g b (λ c i. h c (inr i)))
value_same k f g (same a b) h =
    ap₂ (λ u v. cond (eqb u v) 1 0) (value_same k f g a (λ c i. h c (inl i))) (value_same k f g b (λ c i. h c (inr i)))

copying_same : (f g : ℕ → ℕ) (cs : Copies) → ((c : ℕ) → Copied cs c → f c ≡ g c) → copying f cs ≡ copying g cs
copying_same f g cs h = fun_ext (λ d. go d (pick cs d) refl)
  where
    go : (d : ℕ) (o : Option ℕ) → pick cs d ≡ o → map f o ≡ map g o
    go d none e = refl
    go d (some c) e = ap some (h c (inl (d, e)))

pub act_same : (k : Meaning) (t : Table) (f g : ℕ → ℕ) (r u : ℕ → List ℕ) (x : ℕ) (st : Stm)
    → ((c : ℕ) → Touches st c → f c ≡ g c)
    → ((i : ℕ) → Takes st i → r i ≡ u i)
    → act k t f r x st ≡ act k t g u x st
act_same k t f g r u x end h i = refl
act_same k t f g r u x (var c) h i = refl
act_same k t f g r u x (set c e) h i = ap (λ v. pass (only c v) never (t.after x)) (value_same k f g e (λ a m. h a (inr m)))
act_same k t f g r u x know h i = refl
act_same k t f g r u x (next c a) h i = refl
act_same k t f g r u x (call cs y) h i = ap (λ w. pass w never y) (copying_same f g cs h)
act_same k t f g r u x (test e y z) h i = ap (λ v. pass nothing never (cond (eqb v 0) z y)) (value_same k f g e h)
act_same k t f g r u x (try y) h i = refl
act_same k t f g r u x (take j c z) h i = ap (λ l. taking k j c (t.after x) z l) (i j refl)
act_same k t f g r u x (par bs cs) h i = ap (λ w. fork w x bs) (copying_same f g cs h)
act_same k t f g r u x (goto y) h i = refl
act_same k t f g r u x (throw a j) h i = refl
