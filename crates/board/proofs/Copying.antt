-- The loops that copy cells and start branches.
use Rattle.std.proofs.Common.{◌≡◌, ℕ, zero, suc, ◌+◌, ◌<◌, Bool, true, false, cond, ◌&&◌, ◌||◌, eqb, ltb, List, [], ◌∷◌, ◌++◌, append_assoc, length, get_or, drop, set, sym, refl, ap, ◌∙◌, subst, inl, inr, arith, length-set, get_or-set_other, get_or-set_same}
use mathlib.Core.Option
use mathlib.Core.Option.{Option, some, none, map}
use Rattle.std.proofs.lemmas.List.{drop_all}
use Rattle.std.proofs.Math.Seq.{drop-append_seam}
use Rattle.std.proofs.lemmas.Bool.{and_parts, ltb-true, eq-eqb, ne_eqb}
use Rattle.rules.specs.Programs.{pick, elem, Table}
use Rattle.rules.specs.States.{State}
use Rattle.rules.specs.Steps.{copying}
use Rattle.rules.specs.Moves.{owns_at, runs_at, any_below}
use Rattle.lemmas.proofs.Tests.{same?}
use Rattle.tables.specs.declared.stmt.Copied.{Copied}
use Rattle.board.specs.declared.state.PlaceState.{PlaceState}
use Rattle.tables.specs.Stms.{copies}
use Rattle.tables.specs.Fit.{copies_in, places_in}
use Rattle.board.specs.Views.{idle_place}
use Rattle.board.specs.Effects.{copied, started, forked, observed_by, met_cell}
use Rattle.tables.proofs.Counts.{any_step}

pub places_at : (bs : List ℕ) (i : ℕ) → places_in bs ≡ true → i < length bs → get_or bs i 0 < 64
places_at [] i h l = absurd (omega arith)
places_at (b ∷ bs) zero h l = ltb-true b 64 (and_parts (ltb b 64) (places_in bs) h).0
places_at (b ∷ bs) (suc i) h l = places_at bs i (and_parts (ltb b 64) (places_in bs) h).1 (omega arith)

copy_within : (xs : List Copied) (x : Copied) (ys : List Copied) → copies_in (copies (xs ++ (x ∷ ys))) ≡ true → (x.to < 128) × (x.from < 128)
copy_within [] x ys h =
    let a = and_parts (ltb x.to 128 && ltb x.from 128) (copies_in (copies ys)) h in
    let b = and_parts (ltb x.to 128) (ltb x.from 128) a.0 in
    (ltb-true x.to 128 b.0, ltb-true x.from 128 b.1)
copy_within (z ∷ xs) x ys h = copy_within xs x ys (and_parts (ltb z.to 128 && ltb z.from 128) (copies_in (copies (xs ++ (x ∷ ys)))) h).1

-- from the last copy to the first: those of `rest` are left, all of them at the start
pub all_left : (cs rest : List Copied) → rest ≡ cs → drop (length rest) cs ≡ []
all_left cs rest e = drop_all (length rest) cs (omega (arith, ap length e))

-- one turn, after which those of `left` are left
module _ (cs rest left : List Copied) (x : Copied) (split : rest ++ drop (length rest) cs ≡ cs) (step : rest ≡ left ++ (x ∷ [])) where
  whole : left ++ (x ∷ drop (length rest) cs) ≡ cs
  whole = sym (append_assoc left (x ∷ []) (drop (length rest) cs)) ∙ ap (λ v. v ++ drop (length rest) cs) (sym step) ∙ split

  pub next_drop : drop (length left) cs ≡ x ∷ drop (length rest) cs
  next_drop = ap (drop (length left)) (sym whole) ∙ drop-append_seam left (x ∷ drop (length rest) cs)

  pub split_next : left ++ drop (length left) cs ≡ cs
  split_next = ap (λ v. left ++ v) next_drop ∙ whole

  pub copy_in : copies_in (copies cs) ≡ true → (x.to < 128) × (x.from < 128)
  copy_in h = copy_within left x (drop (length rest) cs) (subst (λ (v : List Copied). copies_in (copies v) ≡ true) (sym whole) h)

-- what a cell holds after a write
pub get_d_set : {A : Type 0} (xs : List A) (i j : ℕ) (v d : A) → i < length xs → get_or (set xs i v) j d ≡ cond (eqb j i) v (get_or xs j d)
get_d_set xs i j v d l =
    elim (same? j i) [
      | inl e ↦ subst (λ (x : ℕ). get_or (set xs i v) x d ≡ cond (eqb x i) v (get_or xs x d)) (sym e)
          (get_or-set_same xs i v d l ∙ ap (λ b. cond b v (get_or xs i d)) (sym (eq-eqb i i refl)))
      | inr ne ↦ get_or-set_other xs i j v d ne ∙ ap (λ b. cond b v (get_or xs j d)) (sym (ne_eqb j i ne))
    ]

pub length_copied : (old : List ℕ) (cs : List Copied) → length (copied old cs) ≡ length old
length_copied old [] = refl
length_copied old (c ∷ cs) = length-set (copied old cs) c.to (get_or old c.from 0) ∙ length_copied old cs

pub copied_is : (old : List ℕ) (cs : List Copied) → length old ≡ 128 → copies_in (copies cs) ≡ true
    → (d : ℕ) → get_or (copied old cs) d 0 ≡ Option.get_or (copying (λ c. get_or old c 0) (copies cs) d) (get_or old d 0)
copied_is old [] n h d = refl
copied_is old (c ∷ cs) n h d =
    let a = and_parts (ltb c.to 128 && ltb c.from 128) (copies_in (copies cs)) h in
    let b = ltb-true c.to 128 (and_parts (ltb c.to 128) (ltb c.from 128) a.0).0 in
    let l = length_copied old cs in
    get_d_set (copied old cs) c.to d (get_or old c.from 0) 0 (omega arith)
    ∙ ap (λ v. cond (eqb d c.to) (get_or old c.from 0) v) (copied_is old cs n a.1 d)
    ∙ over (eqb d c.to)
  where
    over : (b : Bool)
        → cond b (get_or old c.from 0) (Option.get_or (copying (λ c. get_or old c 0) (copies cs) d) (get_or old d 0))
        ≡ Option.get_or (map (λ c. get_or old c 0) (cond b (some c.from) (pick (copies cs) d))) (get_or old d 0)
    over true = refl
    over false = refl

pub length_forked : (start : ℕ → ℕ) (ps : List PlaceState) (bs : List ℕ) → length (forked start ps bs) ≡ length ps
length_forked start ps [] = refl
length_forked start ps (b ∷ bs) =
    length_forked start (set ps b (started start b (get_or ps b idle_place))) bs ∙ length-set ps b (started start b (get_or ps b idle_place))

pub forked_is : (start : ℕ → ℕ) (bs : List ℕ) (ps : List PlaceState) → length ps ≡ 64 → places_in bs ≡ true
    → (q : ℕ) → get_or (forked start ps bs) q idle_place ≡ cond (elem q bs) (started start q (get_or ps q idle_place)) (get_or ps q idle_place)
forked_is start [] ps n h q = refl
forked_is start (b ∷ bs) ps n h q =
    let a = and_parts (ltb b 64) (places_in bs) h in
    let l = ltb-true b 64 a.0 in
    let new = started start b (get_or ps b idle_place) in
    let e = length-set ps b new in
    forked_is start bs (set ps b new) (e ∙ n) a.1 q
    ∙ elim (same? q b) [
      | inl i ↦
          subst (λ (v : ℕ). cond (elem v bs) (started start v (get_or (set ps b new) v idle_place)) (get_or (set ps b new) v idle_place) ≡ cond (eqb v b || elem v bs) (started start v (get_or ps v idle_place)) (get_or ps v idle_place)) (sym i)
          (ap (λ x. cond (elem b bs) (started start b x) x) (get_or-set_same ps b new idle_place (omega arith))
          ∙ both (elem b bs) new
          ∙ ap (λ v. cond (v || elem b bs) new (get_or ps b idle_place)) (sym (eq-eqb b b refl)))
      | inr ne ↦
          ap (λ x. cond (elem q bs) (started start q x) x) (get_or-set_other ps b q new idle_place ne)
          ∙ ap (λ v. cond (v || elem q bs) (started start q (get_or ps q idle_place)) (get_or ps q idle_place)) (sym (ne_eqb q b ne))
    ]
  where
    both : (v : Bool) (x : PlaceState) → cond v x x ≡ x
    both true x = refl
    both false x = refl

-- a cell after one place more set its own
pub met_cell_more : (t : Table) (s : State) (r : ℕ → Bool) (w q c v : ℕ) (b : Bool) → owns_at t (runs_at (observed_by r s q)) c ≡ b
    → v ≡ cond b w (met_cell t s r w q c) → v ≡ met_cell t s r w (q + 1) c
met_cell_more t s r w q c v b e h =
    h ∙ sym (ap (λ x. cond x w (s.cell c)) (any_step f q) ∙ over (f q) (any_below q f) ∙ ap (λ x. cond x w (met_cell t s r w q c)) e)
  where
    f : ℕ → Bool
    f = λ q. owns_at t (runs_at (observed_by r s q)) c

    over : (a b : Bool) → cond (a || b) w (s.cell c) ≡ cond a w (cond b w (s.cell c))
    over true b = refl
    over false b = refl
