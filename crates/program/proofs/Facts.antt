-- What each point and each place of a program must be, and that this makes a table sound.
use Rattle.std.proofs.Common.{◌≡◌, ℕ, zero, suc, ◌<◌, ◌≤◌, T, eqb, ◌≢◌, ◌⊎◌, List, [], sym, refl, ap, ◌∙◌, subst, inl, inr, arith, eqb→eq}
use mathlib.Core.Option.{some}
use native.Mathlib.Decide.{dec_lt}
use lib.Dec.{not_T}
use Rattle.rules.specs.Programs.{Table, awaits, elem, Copies}
use Rattle.rules.specs.Soundness.{Sound, Catches, Leads, Touches, Takes, Beside}
use Rattle.rules.specs.Trees.{here, more, Within, Child, nonzero}
use Rattle.lemmas.proofs.Tests.{T_dec, same?}
use Rattle.rules.proofs.Tree.{compare_ways}
use Rattle.unfold.specs.Unfolded.{Got}
use Rattle.unfold.specs.Sharing.{owns, homes}
use Rattle.program.specs.Layout.{Point, Place, Cell, no_place}
use Rattle.rules.specs.Programs as rules

abbrev pub tab : (ℕ → Point) → (ℕ → Place) → (ℕ → Cell) → ℕ → Table
tab P Q C n =
    record {
      places = n;
      parent = λ q. (Q q).parent;
      under = λ q. (Q q).under;
      start = λ q. (Q q).start;
      knows = λ q h. elem h (homes (Q q).got);
      declarer = λ h. (C h).brought_in;
      home = λ c. (C c).home;
      place = λ x. (P x).place;
      stm = λ x. (P x).stm;
      after = λ x. (P x).after;
      catches = λ x. (P x).catches;
    }

-- an own cell at a place p that got g; a home there
abbrev pub Own : (ℕ → Cell) → ℕ → List Got → ℕ → Type 0
Own C p g a = ((C a).brought_in ≡ p) ⊎ T (elem a (owns g))

abbrev pub Home : (ℕ → Cell) → ℕ → List Got → ℕ → Type 0
Home C p g h = ((C h).brought_in ≡ p) ⊎ T (elem h (homes g))

abbrev pub CellAt : (ℕ → Cell) → ℕ → List Got → ℕ → Type 0
CellAt C p g a = Own C p g a × Home C p g (C a).home

pub record Good (P : ℕ → Point) (Q : ℕ → Place) (C : ℕ → Cell) (n x : ℕ) (r : Point) : Type 0 where
  pub inside : r.place < n
  pub leads : (y : ℕ) → Leads r.stm r.after y → (P y).place ≡ r.place
  pub branch : (bs : List ℕ) (cs : Copies) → r.stm ≡ rules.par bs cs → (q : ℕ) → T (elem q bs) → T (nonzero q) × ((Q q).under ≡ x) × (q < n)
  pub disjoint : (bs : List ℕ) (cs : Copies) → r.stm ≡ rules.par bs cs → (c d a : ℕ) → T (elem c bs) → T (elem d bs) → c ≢ d
      → (T (elem a (owns (Q c).got)) → T (elem a (owns (Q d).got)) → ⊥) × (T (elem a (Q c).ports) → T (elem a (Q d).ports) → ⊥)
  pub thrown : (g j : ℕ) → r.stm ≡ rules.throw g j → T (nonzero r.place) × Within (tab P Q C n) g (Q r.place).parent
  pub caught : (g j : ℕ) → r.stm ≡ rules.throw g j → (c : ℕ) → Child (tab P Q C n) g c → Within (tab P Q C n) c r.place
      → Catches (tab P Q C n) (Q c).under j
  pub next_home : (c h : ℕ) → awaits r.stm ≡ some (c, h) → (C c).home ≡ h
  pub touch : (a : ℕ) → Touches r.stm a → CellAt C r.place (Q r.place).got a
  pub take : (i : ℕ) → Takes r.stm i → T (elem i (Q r.place).ports)

pub record Fine (P : ℕ → Point) (Q : ℕ → Place) (C : ℕ → Cell) (q : ℕ) : Type 0 where
  pub under : (P (Q q).under).place ≡ (Q q).parent
  pub branch : (bs : List ℕ) × (cs : Copies) × ((P (Q q).under).stm ≡ rules.par bs cs) × T (elem q bs)
  pub start : (P (Q q).start).place ≡ q
  pub got : (a : ℕ) → T (elem a (owns (Q q).got)) → Own C (Q q).parent (Q (Q q).parent).got a
  pub home : (h : ℕ) → T (elem h (homes (Q q).got)) → Home C (Q q).parent (Q (Q q).parent).got h
  pub port : (i : ℕ) → T (elem i (Q q).ports) → T (elem i (Q (Q q).parent).ports)

pub pos : (q : ℕ) → T (nonzero q) → 0 < q
pos zero z = absurd z
pos (suc q) z = omega arith

pub nonzero_at : (q : ℕ) → 0 < q → T (nonzero q)
nonzero_at q h = not_T (eqb q 0) (λ b. let e = eqb→eq q 0 b in omega arith)

module _
    (P : ℕ → Point) (Q : ℕ → Place) (C : ℕ → Cell) (n : ℕ)
    (low : (q : ℕ) → T (nonzero q) → (Q q).parent < q)
  where
    pub climb_le : {c p : ℕ} → Within (tab P Q C n) c p → c ≤ p
    climb_le (here e) = omega arith
    climb_le (more {q} z w) = let l = low q z in let k = climb_le w in omega arith

module _
    (P : ℕ → Point) (Q : ℕ → Place) (C : ℕ → Cell) (n : ℕ)
    (low : (q : ℕ) → T (nonzero q) → (Q q).parent < q)
    (good : (x : ℕ) → Good P Q C n x (P x))
    (fine : (q : ℕ) → T (nonzero q) → q < n → Fine P Q C q)
    (past : (q : ℕ) → n ≤ q → Q q ≡ no_place)
    (root_got : (Q 0).got ≡ [])
    (root_start : (P (Q 0).start).place ≡ 0)
    (some_place : 0 < n)
  where
    abbrev t : Table
    t = tab P Q C n

    -- a place that got something is a branch of the board
    got_in : (q a : ℕ) (f : List Got → List ℕ) → f [] ≡ [] → T (elem a (f (Q q).got)) → T (nonzero q) × (q < n)
    got_in q a f e h =
        elim (dec_lt q n) [
          | yes l ↦
              elim (T_dec (nonzero q)) [
                | inl z ↦ (z, l)
                | inr z ↦
                    elim (same? q 0) [
                      | inl i ↦
                          absurd (subst (λ (v : List ℕ). T (elem a v)) e (subst (λ (v : List Got). T (elem a (f v))) root_got (subst (λ (v : ℕ). T (elem a (f (Q v).got))) i h)))
                      | inr i ↦ absurd (z (not_T (eqb q 0) (λ b. i (eqb→eq q 0 b))))
                    ]
              ]
          | no m ↦
              absurd (subst (λ (v : List ℕ). T (elem a v)) e (subst (λ (v : Place). T (elem a (f v.got))) (past q (omega arith)) h))
        ]

    -- up to c, from a place below it: the cell was got by c, or brought below
    reach : (a : ℕ) {c p : ℕ} → Within t c p → Own C p (Q p).got a → T (elem a (owns (Q c).got)) ⊎ Within t c (C a).brought_in
    reach a {c} {p} (here e) (inl b) = inr (here (b ∙ e))
    reach a {c} {p} (here e) (inr g) = inl (subst (λ (v : ℕ). T (elem a (owns (Q v).got))) e g)
    reach a {c} (more {q} z w) (inl b) = inr (subst (λ (v : ℕ). Within t c v) (sym b) (more z w))
    reach a (more {q} z w) (inr g) = reach a w ((fine q z (got_in q a owns refl g).1).got a g)

    reach_port : (i : ℕ) {c p : ℕ} → Within t c p → p < n → T (elem i (Q p).ports) → T (elem i (Q c).ports)
    reach_port i {c} {p} (here e) l h = subst (λ (v : ℕ). T (elem i (Q v).ports)) e h
    reach_port i (more {q} z w) l h = let k = low q z in reach_port i w (omega arith) ((fine q z l).port i h)

    -- what a place got was brought above it
    above : (f q a : ℕ) → q ≤ f → T (elem a (owns (Q q).got)) → (C a).brought_in < q
    above zero q a le g = let z = pos q (got_in q a owns refl g).0 in absurd (omega arith)
    above (suc f) q a le g =
        let i = got_in q a owns refl g in
        let l = low q i.0 in
        elim ((fine q i.0 i.1).got a g) [
          | inl b ↦ omega arith
          | inr h ↦ let k = above f (Q q).parent a (omega arith) h in omega arith
        ]

    above_home : (f q h : ℕ) → q ≤ f → T (elem h (homes (Q q).got)) → (C h).brought_in < q
    above_home zero q h le g = let z = pos q (got_in q h homes refl g).0 in absurd (omega arith)
    above_home (suc f) q h le g =
        let i = got_in q h homes refl g in
        let l = low q i.0 in
        elim ((fine q i.0 i.1).home h g) [
          | inl b ↦ omega arith
          | inr k ↦ let m = above_home f (Q q).parent h (omega arith) k in omega arith
        ]

    par_eq : (bs bs' : List ℕ) (cs cs' : Copies) → rules.par bs cs ≡ rules.par bs' cs' → bs ≡ bs'
    par_eq bs bs' cs cs' e = cc

    module _ (c d : ℕ) (ne : c ≢ d) (zc : T (nonzero c)) (zd : T (nonzero d)) (u : (Q c).under ≡ (Q d).under) (lc : c < n) (ld : d < n) where
      siblings : (Q c).parent ≡ (Q d).parent
      siblings = sym (fine c zc lc).under ∙ ap (λ x. (P x).place) u ∙ (fine d zd ld).under

      apart_here : (a : ℕ) → (T (elem a (owns (Q c).got)) → T (elem a (owns (Q d).got)) → ⊥) × (T (elem a (Q c).ports) → T (elem a (Q d).ports) → ⊥)
      apart_here a =
          let i = (fine c zc lc).branch in
          let j = (fine d zd ld).branch in
          let e : j.0 ≡ i.0 = par_eq j.0 i.0 j.1 i.1 (sym j.2 ∙ ap (λ x. (P x).stm) (sym u) ∙ i.2) in
          (good (Q c).under).disjoint i.0 i.1 i.2 c d a i.3 (subst (λ (v : List ℕ). T (elem d v)) e j.3) ne

      not_within : Within t c d → ⊥
      not_within (here e) = ne (sym e)
      not_within (more z w) =
          let s = siblings in let l = low c zc in let k = climb_le P Q C n low w in omega arith

    sound_cells : (x y c : ℕ) → Beside t (P x).place (P y).place → Touches (P x).stm c → Touches (P y).stm c → ⊥
    sound_cells x y a b h k =
        let c = b.0 in
        let d = b.1 in
        let wc = b.6 in
        let wd = b.7 in
        let ne : c ≢ d = b.2 in
        let ix = (good x).inside in
        let iy = (good y).inside in
        let gc = climb_le P Q C n low wc in
        let gd = climb_le P Q C n low wd in
        let lc : c < n = omega arith in
        let ld : d < n = omega arith in
        let s = siblings c d ne b.3 b.4 b.5 lc ld in
        elim (reach a wc ((good x).touch a h).0) [
          | inl p ↦
              elim (reach a wd ((good y).touch a k).0) [
                | inl q ↦ (apart_here c d ne b.3 b.4 b.5 lc ld a).0 p q
                | inr q ↦ let m = above c c a (omega arith) p in let j = climb_le P Q C n low q in let l = low d b.4 in up c a b.3 lc p d b.4 s j
              ]
          | inr p ↦
              elim (reach a wd ((good y).touch a k).0) [
                | inl q ↦ let j = climb_le P Q C n low p in up d a b.4 ld q c b.3 (sym s) j
                | inr q ↦
                    elim (compare_ways p q) [
                      | inl w ↦ not_within c d ne b.3 b.4 b.5 lc ld w
                      | inr w ↦ not_within d c (λ e. ne (sym e)) b.4 b.3 (sym b.5) ld lc w
                    ]
              ]
        ]
      where
        -- what c got was not brought at a sibling or below
        up : (c a : ℕ) → T (nonzero c) → c < n → T (elem a (owns (Q c).got)) → (d : ℕ) → T (nonzero d) → (Q c).parent ≡ (Q d).parent → d ≤ (C a).brought_in → ⊥
        up c a z l g d y s j =
            let k = low d y in
            elim ((fine c z l).got a g) [
              | inl b ↦ omega arith
              | inr h ↦ let m = above (Q c).parent (Q c).parent a (omega arith) h in omega arith
            ]

    sound_ports : (x y i : ℕ) → Beside t (P x).place (P y).place → Takes (P x).stm i → Takes (P y).stm i → ⊥
    sound_ports x y i b h k =
        let c = b.0 in
        let d = b.1 in
        let ix = (good x).inside in
        let iy = (good y).inside in
        let gc = climb_le P Q C n low b.6 in
        let gd = climb_le P Q C n low b.7 in
        let lc : c < n = omega arith in
        let ld : d < n = omega arith in
        (apart_here c d b.2 b.3 b.4 b.5 lc ld i).1 (reach_port i b.6 ix ((good x).take i h)) (reach_port i b.7 iy ((good y).take i k))

    sound_start : (q : ℕ) → q < n → (P (Q q).start).place ≡ q
    sound_start q l =
        elim (T_dec (nonzero q)) [
          | inl z ↦ (fine q z l).start
          | inr z ↦
              elim (same? q 0) [
                | inl e ↦ subst (λ (v : ℕ). (P (Q v).start).place ≡ v) (sym e) root_start
                | inr e ↦ absurd (z (not_T (eqb q 0) (λ b. e (eqb→eq q 0 b))))
              ]
        ]

    sound_known : (q h : ℕ) → T (elem h (homes (Q q).got)) → T (nonzero q) × (T (elem h (homes (Q (Q q).parent).got)) ⊎ ((Q q).parent ≡ (C h).brought_in))
    sound_known q h g =
        let i = got_in q h homes refl g in
        (i.0, elim ((fine q i.0 i.1).home h g) [ inl b ↦ inr (sym b) | inr k ↦ inl k ])

    sound_touch : (x c : ℕ) → Touches (P x).stm c → T (elem (C c).home (homes (Q (P x).place).got)) ⊎ ((P x).place ≡ (C (C c).home).brought_in)
    sound_touch x c h = elim ((good x).touch c h).1 [ inl b ↦ inr (sym b) | inr k ↦ inl k ]

    pub all_sound : Sound (tab P Q C n)
    all_sound =
        record {
          some_place = some_place;
          lower = low;
          branch = λ x. (good x).branch;
          under_place = λ q z l. (fine q z l).under;
          start_place = sound_start;
          leads_place = λ x. (good x).leads;
          thrown = λ x. (good x).thrown;
          caught = λ x. (good x).caught;
          known = sound_known;
          declared = λ h k. let l = above_home (C h).brought_in (C h).brought_in h (omega arith) k in omega arith;
          next_home = λ x. (good x).next_home;
          touch_home = sound_touch;
          cells_apart = sound_cells;
          ports_apart = sound_ports;
        }
