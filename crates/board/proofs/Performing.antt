-- What each way of a step makes of a state.
use Rattle.std.proofs.Common.{◌≡◌, ℕ, ◌+◌, ◌<◌, ◌≤◌, Bool, true, false, cond, eqb, List, [], ◌∷◌, length, get_or, set, sym, refl, ap, ◌∙◌, subst, inl, inr, zero-add, arith, length-set, get_or-set_other, get_or-set_same}
use mathlib.Core.Option
use mathlib.Core.Option.{Option, some, none, map}
use Rattle.std.proofs.lemmas.Bool.{ne_eqb, eq-eqb}
use Rattle.rules.specs.Programs.{Table, elem}
use Rattle.rules.specs.States.{Local, running, parted}
use Rattle.rules.specs.Effects.{only, changed, one_at, later}
use Rattle.rules.specs.Steps.{step_effect, Act, pass, fork}
use Rattle.numbers.specs.Kinds.{Meaning}
use Rattle.tables.specs.declared.stmt.Stmt.{Stmt}
use Rattle.lemmas.proofs.Tests.{same?}
use Rattle.banks.specs.Banks as banks
use Rattle.board.specs.declared.state.Local as enum
use Rattle.board.specs.declared.state.Local.TheVariants.{Running, Parted}
use Rattle.board.specs.declared.state.PlaceState.{PlaceState}
use Rattle.board.specs.declared.state.State.{State}
use Rattle.tables.specs.Fit.{places_in, named}
use Rattle.tables.specs.Stms.{stm}
use Rattle.board.specs.Views.{idle_place, local, marked, place}
use Rattle.board.specs.Effects.{PlaceAfter, After, Shaped, acted, stepped, with_cells, with_places, started, forked}
use Rattle.board.proofs.Copying.{get_d_set, forked_is, length_forked}

-- a state whose places and cells were changed, and then one place written
abbrev rebuilt : State → List PlaceState → List ℕ → State
rebuilt s ps cs = record { places = ps; cells = cs; meets = s.meets; total = s.total }

step_to_after : (t : Table) (p : ℕ) (a : Act) (s : State) (ps : List PlaceState) (cs : List ℕ) (l : enum.Local)
    → Shaped s → p < 64 → length ps ≡ 64 → length cs ≡ 128
    → ((q : ℕ) → (q ≡ p → ⊥) → PlaceAfter (step_effect t p a) q (place s q) (get_or ps q idle_place))
    → local l ≡ Option.get_or ((step_effect t p a).at p) (local (place s p).at)
    → marked (get_or ps p idle_place).mark ≡ changed ((step_effect t p a).mark p) (marked (place s p).mark)
    → (get_or ps p idle_place).steps ≡ (place s p).steps
    → ((c : ℕ) → get_or cs c 0 ≡ Option.get_or ((step_effect t p a).cell c) (get_or s.cells c 0))
    → After (step_effect t p a) s (stepped (rebuilt s ps cs) p l)
step_to_after t p a s ps cs l sh lt n m others at mark steps cells =
    record {
      shape = (length-set ps p new ∙ n, m, sh.2);
      places = λ q. elim (same? q p) [
        | inl e ↦
            subst (λ (v : ℕ). PlaceAfter (step_effect t p a) v (place s v) (get_or (set ps p new) v idle_place)) (sym e)
            (subst (λ (v : PlaceState). PlaceAfter (step_effect t p a) p (place s p) v) (sym (get_or-set_same ps p new idle_place (omega arith)))
            (record { at = at; mark = mark; steps = own_steps }))
        | inr ne ↦
            subst (λ (v : PlaceState). PlaceAfter (step_effect t p a) q (place s q) v) (sym (get_or-set_other ps p q new idle_place ne)) (others q ne)
      ];
      cells = cells;
      meets = λ h. sym (zero-add (get_or s.meets h 0));
      total = omega arith;
    }
  where
    new : PlaceState
    new = record { at = l; mark = (get_or ps p idle_place).mark; steps = (get_or ps p idle_place).steps + 1 }

    one : one_at p p ≡ 1
    one = ap (λ b. cond b 1 0) (eq-eqb p p refl)

    own_steps : (get_or ps p idle_place).steps + 1 ≡ one_at p p + (place s p).steps
    own_steps = omega (arith, one, steps)

-- the other places stay
rest_stay : (t : Table) (p : ℕ) (l : Local) (q : ℕ) (x : PlaceState) → (q ≡ p → ⊥)
    → (local x.at ≡ Option.get_or (only p l q) (local x.at)) × (x.steps ≡ one_at p q + x.steps)
rest_stay t p l q x ne =
    let b = ne_eqb q p ne in (
      sym (ap (λ v. Option.get_or (cond v (some l) none) (local x.at)) b),
      sym (ap (λ v. cond v 1 0 + x.steps) b ∙ zero-add x.steps),
    )

own_at : (p : ℕ) (l m : Local) → l ≡ Option.get_or (only p l p) m
own_at p l m = sym (ap (λ v. Option.get_or (cond v (some l) none) m) (eq-eqb p p refl))

pub pass_after : (t : Table) (p y : ℕ) (w : ℕ → Option ℕ) (r : ℕ → Bool) (s : State) (cs : List ℕ) → Shaped s → p < 64 → length cs ≡ 128
    → ((c : ℕ) → get_or cs c 0 ≡ Option.get_or (w c) (get_or s.cells c 0))
    → After (step_effect t p (pass w r y)) s (stepped (with_cells s cs) p (Running y))
pass_after t p y w r s cs c lt n cells =
    step_to_after t p (pass w r y) s s.places cs (Running y) c lt c.0 n
    (λ q ne. let b = rest_stay t p (running y) q (place s q) ne in record { at = b.0; mark = refl; steps = b.1 })
    (own_at p (running y) (local (place s p).at)) refl refl cells

pub fork_after : (t : Table) (p x : ℕ) (w : ℕ → Option ℕ) (bs : List ℕ) (s : State) (cs : List ℕ) → Shaped s → p < 64 → length cs ≡ 128
    → places_in bs ≡ true → ((c : ℕ) → get_or cs c 0 ≡ Option.get_or (w c) (get_or s.cells c 0))
    → After (step_effect t p (fork w x bs)) s (stepped (with_places (with_cells s cs) (forked t.start s.places bs)) p (Parted x))
fork_after t p x w bs s cs c lt n named cells =
    step_to_after t p (fork w x bs) s (forked t.start s.places bs) cs (Parted x) c lt (length_forked t.start s.places bs ∙ c.0) n
    (λ q ne. record {
      at = ap (λ (v : PlaceState). local v.at) (is q) ∙ ats (elem q bs) (place s q) (t.start q) ∙ sym (ap (λ v. Option.get_or (cond v (some (parted x)) (cond (elem q bs) (some (running (t.start q))) none)) (local (place s q).at)) (ne_eqb q p ne));
      mark = ap (λ (v : PlaceState). marked v.mark) (is q) ∙ marks (elem q bs) (place s q) (t.start q);
      steps = ap (λ (v : PlaceState). v.steps) (is q) ∙ steps (elem q bs) (place s q) (t.start q) ∙ sym (ap (λ v. cond v 1 0 + (place s q).steps) (ne_eqb q p ne) ∙ zero-add (place s q).steps);
    })
    (sym (ap (λ v. Option.get_or (cond v (some (parted x)) (cond (elem p bs) (some (running (t.start p))) none)) (local (place s p).at)) (eq-eqb p p refl)))
    (ap (λ (v : PlaceState). marked v.mark) (is p) ∙ marks (elem p bs) (place s p) (t.start p))
    (ap (λ (v : PlaceState). v.steps) (is p) ∙ steps (elem p bs) (place s p) (t.start p))
    cells
  where
    is : (q : ℕ) → get_or (forked t.start s.places bs) q idle_place ≡ cond (elem q bs) (started t.start q (place s q)) (place s q)
    is q = forked_is t.start bs s.places c.0 named q

    ats : (b : Bool) (z : PlaceState) (y : ℕ) → local (cond b (record { at = Running y; mark = z.mark; steps = z.steps }) z).at ≡ Option.get_or (cond b (some (running y)) none) (local z.at)
    ats true z y = refl
    ats false z y = refl

    marks : (b : Bool) (z : PlaceState) (y : ℕ) → marked (cond b (record { at = Running y; mark = z.mark; steps = z.steps }) z).mark ≡ marked z.mark
    marks true z y = refl
    marks false z y = refl

    steps : (b : Bool) (z : PlaceState) (y : ℕ) → (cond b (record { at = Running y; mark = z.mark; steps = z.steps }) z).steps ≡ z.steps
    steps true z y = refl
    steps false z y = refl

-- a statement that goes on to a point: a is what stands there, b the variant that it is
pub passes : (k : Meaning) (t : Table) (s : State) (ws : ℕ → List ℕ) (p x q : ℕ) (a b : Stmt) (r : State) (w : ℕ → Option ℕ) (o : ℕ → Bool) (y : ℕ) (cs : List ℕ)
    → Shaped s → p < 64 → a ≡ b → acted k t s ws x q b ≡ pass w o y → r ≡ stepped (with_cells s cs) p (Running y) → length cs ≡ 128
    → ((c : ℕ) → get_or cs c 0 ≡ Option.get_or (w c) (get_or s.cells c 0)) → After (step_effect t p (acted k t s ws x q a)) s r
passes k t s ws p x q a b r w o y cs sh lt is acts new n cells =
    subst (λ (v : Stmt). After (step_effect t p (acted k t s ws x q v)) s r) (sym is)
    (subst (λ (v : Act). After (step_effect t p v) s r) (sym acts)
    (subst (After (step_effect t p (pass w o y)) s) (sym new) (pass_after t p y w o s cs sh lt n cells)))

pub named_as : (q : ℕ) (a b : Stmt) → a ≡ b → named (stm q a) ≡ true → named (stm q b) ≡ true
named_as q a b is e = subst (λ (v : Stmt). named (stm q v) ≡ true) is e

-- a cell set
pub only_is : (xs : List ℕ) (c w : ℕ) → c < length xs → (d : ℕ) → get_or (set xs c w) d 0 ≡ Option.get_or (only c w d) (get_or xs d 0)
only_is xs c w l d = get_d_set xs c d w 0 l ∙ go (eqb d c)
  where
    go : (b : Bool) → cond b w (get_or xs d 0) ≡ Option.get_or (cond b (some w) none) (get_or xs d 0)
    go true = refl
    go false = refl

pub later_same : (xs : List ℕ) → banks.rest xs ≡ later xs
later_same [] = refl
later_same (x ∷ xs) = refl

-- the steps of places of which some were started
pub forked_few : (start : ℕ → ℕ) (s : State) (bs : List ℕ) (n : ℕ) → length s.places ≡ 64 → places_in bs ≡ true → ((q : ℕ) → (place s q).steps ≤ n)
    → (q : ℕ) → (get_or (forked start s.places bs) q idle_place).steps ≤ n
forked_few start s bs n sh named few q =
    subst (λ (v : PlaceState). v.steps ≤ n) (sym (forked_is start bs s.places sh named q)) (go (elem q bs))
  where
    go : (b : Bool) → (cond b (started start q (place s q)) (place s q)).steps ≤ n
    go true = few q
    go false = few q
