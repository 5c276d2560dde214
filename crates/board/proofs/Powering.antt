-- The state at power.
use Rattle.std.proofs.Common.{◌≡◌, ℕ, zero, suc, cond, eqb, List, get_or, set, replicate, None, sym, refl, ap, ◌∙◌, subst, arith}
use mathlib.Core.Path.{fun_ext}
use mathlib.Core.Option.{none}
use Rattle.std.proofs.lemmas.Bool.{ne_eqb}
use Rattle.rules.specs.Programs.{Table}
use Rattle.rules.specs.States.{running, idle, powered}
use Rattle.board.specs.declared.state.Local.TheVariants.{Running}
use Rattle.board.specs.declared.state.PlaceState.{PlaceState}
use Rattle.board.specs.declared.state.State.{State}
use Rattle.board.specs.Views.{idle_place, local, marked, place, view}
use Rattle.board.specs.Effects.{Bounded, started}

same : {A : Type 0} (n : ℕ) (d : A) (q : ℕ) → get_or (replicate n d) q d ≡ d
same zero d q = refl
same (suc n) d zero = refl
same (suc n) d (suc q) = same n d q

-- place 0 stands so, and all else as d
abbrev pub begun_with : PlaceState → PlaceState → State
begun_with d x =
    record {
      places = set (replicate 64 d) 0 x;
      cells = replicate 128 0;
      meets = replicate 128 0;
      total = 0;
    }

abbrev begun : ℕ → State
begun x = begun_with idle_place (record { at = Running x; mark = None; steps = 0 })

at_begun : (x q : ℕ) → local (place (begun x) q).at ≡ cond (eqb q 0) (running x) idle
at_begun x zero = refl
at_begun x (suc q) =
    ap (λ (v : PlaceState). local v.at) (same 63 idle_place q)
    ∙ sym (ap (λ b. cond b (running x) idle) (ne_eqb (suc q) 0 (λ e. omega arith)))

mark_begun : (x q : ℕ) → marked (place (begun x) q).mark ≡ none
mark_begun x zero = refl
mark_begun x (suc q) = ap (λ (v : PlaceState). marked v.mark) (same 63 idle_place q)

steps_begun : (x q : ℕ) → (place (begun x) q).steps ≡ 0
steps_begun x zero = refl
steps_begun x (suc q) = ap (λ (v : PlaceState). v.steps) (same 63 idle_place q)

view_begun : (t : Table) (x : ℕ) → x ≡ t.start 0 → (ws : ℕ → List ℕ) → view (begun x) ws ≡ powered t ws
view_begun t x e ws =
    λ i. record {
      at = fun_ext (λ q. at_begun x q ∙ ap (λ v. cond (eqb q 0) (running v) idle) e) i;
      mark = fun_ext (λ q. mark_begun x q) i;
      cell = fun_ext (λ c. same 128 0 c) i;
      port = ws;
      steps = fun_ext (λ q. steps_begun x q) i;
      meets = fun_ext (λ h. same 128 0 h) i;
      total = 0;
    }

bounded_begun : (x : ℕ) → Bounded (begun x)
bounded_begun x = ((λ q. let e = steps_begun x q in omega arith), λ h. let e : get_or (begun x).meets h 0 ≡ 0 = same {A = ℕ} 128 0 h in omega arith)

module _ (t : Table) (d x : PlaceState) (i : d ≡ idle_place) (e : x ≡ started t.start 0 d) where
  begins : begun_with d x ≡ begun (t.start 0)
  begins = ap (λ (v : PlaceState). begun_with v x) i ∙ ap (begun_with idle_place) (e ∙ ap (started t.start 0) i)

  pub view_at_power : (ws : ℕ → List ℕ) → view (begun_with d x) ws ≡ powered t ws
  view_at_power ws = ap (λ (v : State). view v ws) begins ∙ view_begun t (t.start 0) refl ws

  pub bounded_at_power : Bounded (begun_with d x)
  bounded_at_power = subst Bounded (sym begins) (bounded_begun (t.start 0))
