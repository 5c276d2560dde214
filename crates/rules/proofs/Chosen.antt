-- A run over choices is a run of permitted moves.
use Rattle.std.proofs.Common.{◌≡◌, ℕ, zero, suc, ◌+◌, ◌%◌, ◌<◌, ◌≤◌, Bool, true, false, cond, T, eqb, ltb, List, [], ◌∷◌, length, sym, refl, ap, subst, inl, inr, mod-lt, add-one, arith, ltb→lt, nltb→le}
use mathlib.Core.Option.{some}
use lib.Dec.{not_T}
use Rattle.numbers.specs.Kinds.{Meaning}
use Rattle.rules.specs.declared.answers.Stop.{Stop}
use Rattle.rules.specs.declared.answers.Stop.TheVariants.{Rest, Limit, End}
use Rattle.rules.specs.Programs.{Table}
use Rattle.rules.specs.Soundness.{Sound, HomesInside}
use Rattle.rules.specs.States.{State, Move}
use Rattle.rules.specs.Permissions.{Permitted, Rests}
use Rattle.rules.specs.Moves.{made}
use Rattle.rules.specs.Invariants.{Wf}
use Rattle.rules.specs.Runs.{Run}
use Rattle.rules.specs.Listings.{listing, nth, at_rest}
use Rattle.rules.specs.Answers.{limit}
use Rattle.rules.specs.Choices.{Ran, one_more, stopped, chosen, made_if, run}
use Rattle.rules.specs.GrantLaws.{StopsAs, ChoicesRun, ChoicesStop, ChoicesAlike}
use Rattle.lemmas.proofs.Tests.{T_dec}
use Rattle.rules.proofs.Invariant.{kept}
use Rattle.rules.proofs.Listed.{listing_tells_lem, rest_tells}
use Rattle.rules.proofs.Runs.{one_end}
use Rattle.rules.proofs.Verdicts.{some_permitted}

nth_inside : (xs : List Move) (i : ℕ) → i < length xs → (m : Move) × (nth xs i ≡ some m)
nth_inside [] i l = absurd (omega arith)
nth_inside (x ∷ xs) zero l = (x, refl)
nth_inside (x ∷ xs) (suc i) l = nth_inside xs i (omega arith)

filled : (n : ℕ) → (T (eqb n 0) → ⊥) → 0 < n
filled zero h = absurd (h tt)
filled (suc n) h = omega arith

module _ (k : Meaning) (t : Table) (n : ℕ) (sd : Sound t) (hs : HomesInside t n) where
  abbrev Told : State → ℕ → Ran → Type 0
  Told s choices r = Run k t s r.number r.left × StopsAs t choices r.number r.left r.stop

  -- a choice names a permitted move, unless the board is at rest
  choice : (s : State) → Wf t s → (T (at_rest t n s) → ⊥) → (c : ℕ) → (m : Move) × (chosen t n s c ≡ some m) × Permitted t s m
  choice s wf h c =
      let a = nth_inside (listing t s n) (c % length (listing t s n)) (mod-lt c (filled (length (listing t s n)) h)) in
      (a.0, a.1, ((listing_tells_lem t s n a.0 sd wf).0 (c % length (listing t s n), a.1)).0)

  module _ (s : State) (wf : Wf t s) where
    rests : T (at_rest t n s) → Rests t s
    rests h = (rest_tells t s n sd wf hs).0 h

    moves : (T (at_rest t n s) → ⊥) → (m : Move) × Permitted t s m
    moves h = some_permitted t s n sd wf h

    under : T (ltb s.total limit) → s.total < limit
    under h = ltb→lt s.total limit h

    over : (T (ltb s.total limit) → ⊥) → limit ≤ s.total
    over h = nltb→le s.total limit (not_T (ltb s.total limit) h)

    no_choice : (a b : Bool) → at_rest t n s ≡ a → ltb s.total limit ≡ b → Told s 0 (stopped s (cond a Rest (cond b End Limit)))
    no_choice true b e f = (refl, rests (subst T (sym e) tt))
    no_choice false true e f = (refl, (refl, under (subst T (sym f) tt), moves (λ h. subst T e h)))
    no_choice false false e f = (refl, (over (λ h. subst T f h), moves (λ h. subst T e h)))

    -- one more than a run from the state after a permitted move
    grown : (m : Move) → Permitted t s m → (choices : ℕ) (r : Ran) → Told (made k t s m) choices r → Told s (suc choices) (one_more r)
    grown m pm choices r a =
        (subst (λ (v : ℕ). Run k t s v r.left) (sym (add-one r.number)) (m, pm, a.0), go r.stop a.1)
      where
        go : (e : Stop) → StopsAs t choices r.number r.left e → StopsAs t (suc choices) (r.number + 1) r.left e
        go Rest h = h
        go Limit h = h
        go End h = let z = h.0 in (omega arith, h.1, h.2)

    one_choice : (choices : ℕ) (rest : Ran) (m : Move) → Permitted t s m → Told (made k t s m) choices rest
        → (a b : Bool) → at_rest t n s ≡ a → ltb s.total limit ≡ b
        → Told s (suc choices) (cond a (stopped s Rest) (cond b (one_more rest) (stopped s Limit)))
    one_choice choices rest m pm h true b e f = (refl, rests (subst T (sym e) tt))
    one_choice choices rest m pm h false true e f = grown m pm choices rest h
    one_choice choices rest m pm h false false e f = (refl, (over (λ i. subst T f i), moves (λ i. subst T e i)))

    resting : (choices : ℕ) (rest : Ran) → T (at_rest t n s) → (a b : Bool) → at_rest t n s ≡ a
        → Told s choices (cond a (stopped s Rest) (cond b (one_more rest) (stopped s Limit)))
    resting choices rest h true b e = (refl, rests h)
    resting choices rest h false b e = absurd (subst T e h)

  told : (cs : List ℕ) (s : State) → Wf t s → Told s (length cs) (run k t n s cs)
  unfolding run
  told [] s wf = no_choice s wf (at_rest t n s) (ltb s.total limit) refl refl
  told (c ∷ cs) s wf =
      elim (T_dec (at_rest t n s)) [
        | inl h ↦ resting s wf (suc (length cs)) (run k t n (made_if k t s (chosen t n s c)) cs) h (at_rest t n s) (ltb s.total limit) refl
        | inr h ↦
            let a = choice s wf h c in
            let e : made_if k t s (chosen t n s c) ≡ made k t s a.0 = ap (made_if k t s) a.1 in
            let rest : Told (made k t s a.0) (length cs) (run k t n (made_if k t s (chosen t n s c)) cs) =
            subst (λ (v : State). Told (made k t s a.0) (length cs) (run k t n v cs)) (sym e)
            (told cs (made k t s a.0) (kept k t s a.0 sd wf a.2))
            in
            one_choice s wf (length cs) (run k t n (made_if k t s (chosen t n s c)) cs) a.0 a.2 rest
            (at_rest t n s) (ltb s.total limit) refl refl
      ]

pub choices_run : ChoicesRun
choices_run k t n s cs sd hs wf = (told k t n sd hs cs s wf).0

pub choices_stop : ChoicesStop
choices_stop k t n s cs sd hs wf = (told k t n sd hs cs s wf).1

pub choices_alike : ChoicesAlike
choices_alike k t n s cs ds sd hs wf e f =
    let a = told k t n sd hs cs s wf in
    let b = told k t n sd hs ds s wf in
    let r : Rests t (run k t n s cs).left = subst (λ (v : Stop). StopsAs t (length cs) (run k t n s cs).number (run k t n s cs).left v) e a.1 in
    let u : Rests t (run k t n s ds).left = subst (λ (v : Stop). StopsAs t (length ds) (run k t n s ds).number (run k t n s ds).left v) f b.1 in
    let o = one_end k t s (run k t n s ds).left (run k t n s cs).left (run k t n s ds).number (run k t n s cs).number sd wf b.0 u a.0 in
    let q = o.1.0 r in
    (q, o.2 q)
