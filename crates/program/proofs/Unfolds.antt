-- The unfolded text's cells are right.
use Rattle.std.proofs.Common.{◌≡◌, ℕ, suc, ◌+◌, ◌≤◌, Bool, true, false, ◌&&◌, T, eqb, leb, ◌⊎◌, List, [], ◌∷◌, ◌++◌, length, Some, None, Ok, Option, sym, refl, ap, ◌∙◌, subst, inl, inr, arith, length-append}
use mathlib.Core.Option.{some, none}
use Rattle.rules.specs.Programs.{Expr, own, word, plus, minus, times, below, awaits, elem, Copies}
use Rattle.rules.specs.Soundness.{Reads}
use Rattle.lemmas.proofs.Tests.{or_l, or_r, eq_eqb, some_none, pair_eq}
use Rattle.reader.specs.Faults.{Answer, ◌>>=◌, must}
use Rattle.reader.specs.Tokens.{same, among}
use Rattle.grammar.specs.Trees.{Name, Op, Same, Less, Plus, Minus, Times, Exp, Use, Number, Negated, Both, Simple, Var, Set, Call, Next, Know, Throw, Head, Plain, If, While, Try, Take, Stm, One, Two, Par, Block, Nil, Seq, Blocks, Last, Also, Param, Proc}
use Rattle.names.specs.Naming.{Reading}
use Rattle.unfold.specs.Unfolded.{New, Got, Part, plain, calls, tests, loops, tries, takes, Node, one, throws, two, par, Nodes, nil, seq, Branches, last, also}
use Rattle.unfold.specs.Scopes.{Binding, Env, lookup, found, stands, joined, resolved}
use Rattle.unfold.specs.Variables.{Uses, ParamsOf, uses_block, written, gets, got_new, got_env, all_get, all_new}
use Rattle.unfold.specs.Unfolding.{port_of, branch_count, Passed, by_reference, by_value, passes, Count, brings, Callee, Callees, params_of, head_part, unfold_simple, env_after, unfold_stm, unfold_block, unfold_blocks, callees}
use Rattle.unfold.specs.Sharing.{owns, homes}
use Rattle.program.specs.Layout.{Cell, cells_of, node_cells, cells, branch_cells}
use Rattle.program.specs.Sizes.{node_places, how_many}
use Rattle.program.proofs.Facts.{Own, Home, CellAt}
use Rattle.program.proofs.Agree.{Agrees, first, second}
use Rattle.program.proofs.Proper.{PartTouches, GotsProper, ProperNode, Proper, ProperBranches}
use Rattle.program.proofs.Walk.{Pairs, copied}
use Rattle.program.proofs.Distinct.{Away, Inj, Below, below_more, src_below, pass_src, Rising, RisingB, AllInj, all_src, apart_all}
use Rattle.reader.specs.declared.fault.Cause.TheVariants.{NotVisible, OutOfRange, OverLimit}
use Rattle.rules.specs.Programs as rules
use Rattle.program.proofs.Results.{bound, ok_eq, found_is}

pub brought : (n : Count) (p c at : ℕ) (m : Count) → brings n p c at ≡ Ok m → m.cells ≡ n.cells + c
brought n p c at m e =
    let s = suc n.statements in
    let w = n.places + p in
    let d = n.cells + c in
    let r : Count = record { statements = s; places = w; cells = d } in
    let b = bound (must (leb s 1024 && (leb w 64 && leb d 128)) OverLimit at) (λ u. Ok r) m e in
    sym (ap (λ v. v.cells) (ok_eq r m b.2))

cells_size : (p : ℕ) (ns : List New) → length (cells_of p ns) ≡ length ns
cells_size p [] = refl
cells_size p (x ∷ ns) = ap suc (cells_size p ns)

cells_join : (p : ℕ) (ns ms : List New) → cells_of p (ns ++ ms) ≡ cells_of p ns ++ cells_of p ms
cells_join p [] ms = refl
cells_join p (x ∷ ns) ms =
    ap (λ v. record { home = x.home; brought_in = p; name_at = x.name.at; name_length = length x.name.text } ∷ v) (cells_join p ns ms)

joined_reads : (o : Op) (a b : Expr) (x : ℕ) → Reads (joined o a b) x → Reads a x ⊎ Reads b x
joined_reads Same a b x h = h
joined_reads Less a b x h = h
joined_reads Plus a b x h = h
joined_reads Minus a b x h = h
joined_reads Times a b x h = h

module _ (C : ℕ → Cell) where
  abbrev pub BindOk : ℕ → List Got → Binding → Type 0
  BindOk p g b = ((C b.own).home ≡ b.home) × Own C p g b.own × Home C p g b.home

  abbrev pub EnvOk : ℕ → List Got → Env → Type 0
  EnvOk p g [] = Unit {0}
  EnvOk p g (b ∷ v) = BindOk p g b × EnvOk p g v

  looked : (p : ℕ) (g : List Got) (v : Env) (n : List ℕ) (b : Binding) → EnvOk p g v → lookup v n ≡ Some b → BindOk p g b
  looked p g [] n b h e = absurd (let z : ◌≡◌ {A = ℕ} 0 1 = cc in omega arith)
  looked p g (c ∷ v) n b h e = go (same n c.name) (λ i. looked p g v n b h.1 i) e
    where
      go : (t : Bool) → (lookup v n ≡ Some b → BindOk p g b) → ◌≡◌ {A = Option Binding} (elim t [ true ↦ Some c | false ↦ lookup v n ]) (Some b) → BindOk p g b
      go true f i = let j : c ≡ b = cc in subst (λ (x : Binding). BindOk p g x) j h.0
      go false f i = f i

  stood : (p : ℕ) (g : List Got) (v : Env) (n : Name) (b : Binding) → EnvOk p g v → stands v n ≡ Ok b → BindOk p g b
  stood p g v n b h e = looked p g v n.text b h (found_is NotVisible n.at (lookup v n.text) b e)

  cell_of : (p : ℕ) (g : List Got) (b : Binding) → BindOk p g b → CellAt C p g b.own
  cell_of p g b h = (h.1, subst (λ (v : ℕ). Home C p g v) (sym h.0) h.2)

  reads : (l : Reading) (p : ℕ) (g : List Got) (v : Env) (e : Exp) (a : Expr) → EnvOk p g v → resolved l v e ≡ Ok a → (x : ℕ) → Reads a x → CellAt C p g x
  reads l p g v (Use n) a h i x r =
      let b = bound (stands v n) (λ b. Ok (own b.own)) a i in
      let k : x ≡ b.0.own = subst (λ (v : Expr). Reads v x) (sym (ok_eq (own b.0.own) a b.2)) r in
      subst (λ (v : ℕ). CellAt C p g v) (sym k) (cell_of p g b.0 (stood p g v n b.0 h b.1))
  reads l p g v (Number n) a h i x r =
      let b = bound (found OutOfRange n.at (l n.text)) (λ w. Ok (word w)) a i in
      absurd (subst (λ (v : Expr). Reads v x) (sym (ok_eq (word b.0) a b.2)) r)
  reads l p g v (Negated e) a h i x r =
      let b = bound (resolved l v e) (λ a. Ok (minus (word 0) a)) a i in
      let k : ⊥ ⊎ Reads b.0 x = subst (λ (v : Expr). Reads v x) (sym (ok_eq (minus (word 0) b.0) a b.2)) r in
      reads l p g v e b.0 h b.1 x (elim k [ inl z ↦ absurd z | inr z ↦ z ])
  reads l p g v (Both o e f) a h i x r =
      let b = bound (resolved l v e) (λ a. resolved l v f >>= (λ b. Ok (joined o a b))) a i in
      let c = bound (resolved l v f) (λ d. Ok (joined o b.0 d)) a b.2 in
      elim (joined_reads o b.0 c.0 x (subst (λ (v : Expr). Reads v x) (sym (ok_eq (joined o b.0 c.0) a c.2)) r)) [
        | inl z ↦ reads l p g v e b.0 h b.1 x z
        | inr z ↦ reads l p g v f c.0 h c.1 x z
      ]

  part_reads : (l : Reading) (p : ℕ) (g : List Got) (v : Env) (h : Head) (t : Part) → EnvOk p g v → head_part l v h ≡ Ok t → (x : ℕ) → PartTouches t x → CellAt C p g x
  part_reads l p g v Plain t k e x r = absurd (subst (λ (v : Part). PartTouches v x) (sym (ok_eq plain t e)) r)
  part_reads l p g v (If f) t k e x r =
      let b = bound (resolved l v f) (λ a. Ok (tests a)) t e in
      reads l p g v f b.0 k b.1 x (subst (λ (v : Part). PartTouches v x) (sym (ok_eq (tests b.0) t b.2)) r)
  part_reads l p g v (While f) t k e x r =
      let b = bound (resolved l v f) (λ a. Ok (loops a)) t e in
      reads l p g v f b.0 k b.1 x (subst (λ (v : Part). PartTouches v x) (sym (ok_eq (loops b.0) t b.2)) r)
  part_reads l p g v (Try n) t k e x r = absurd (subst (λ (v : Part). PartTouches v x) (sym (ok_eq (tries n.text) t e)) r)
  part_reads l p g v (Take i n) t k e x r =
      let a = bound (found OutOfRange i.at (port_of i.text)) (λ p. stands v n >>= (λ b. Ok (takes p b.own))) t e in
      let b = bound (stands v n) (λ b. Ok (takes a.0 b.own)) t a.2 in
      let j : x ≡ b.0.own = subst (λ (v : Part). PartTouches v x) (sym (ok_eq (takes a.0 b.0.own) t b.2)) r in
      subst (λ (v : ℕ). CellAt C p g v) (sym j) (cell_of p g b.0 (stood p g v n b.0 k b.1))

  -- ---- what a branch gets

  -- a new cell, from the list of cells
  fresh_cell : (c h p : ℕ) (g : List Got) (a b : ℕ) → C c ≡ record { home = h; brought_in = p; name_at = a; name_length = b } → ((C c).home ≡ h) × Own C p g c
  fresh_cell c h p g a b e = (ap (λ r. r.home) e, inl (ap (λ r. r.brought_in) e))

  gets_ok : (p : ℕ) (g : List Got) (v : Env) (all us : Uses) (had : List (List ℕ)) (c : ℕ) → EnvOk p g v
      → Agrees C c (cells_of p (got_new (gets v all us had c))) → GotsProper C p g (gets v all us had c)
  gets_ok p g v all [] had c h a = tt
  gets_ok p g v all (u ∷ us) had c h a =
      go (among u.0.text had) (gets_ok p g v all us had c h)
      (λ b. gets_ok p g v all us (u.0.text ∷ had) c h) (gets_ok p g v all us (u.0.text ∷ had) (suc c) h) (lookup v u.0.text) (λ b. looked p g v u.0.text b h)
      (written all u.0.text) a
    where
      mine : Binding → Got
      mine b = record { name = u.0; own = b.own; home = b.home; from = None }

      copy : Binding → Got
      copy b = record { name = u.0; own = c; home = b.home; from = Some b.own }

      go : (s : Bool)
          → (Agrees C c (cells_of p (got_new (gets v all us had c))) → GotsProper C p g (gets v all us had c))
          → (Binding → Agrees C c (cells_of p (got_new (gets v all us (u.0.text ∷ had) c))) → GotsProper C p g (gets v all us (u.0.text ∷ had) c))
          → (Agrees C (suc c) (cells_of p (got_new (gets v all us (u.0.text ∷ had) (suc c)))) → GotsProper C p g (gets v all us (u.0.text ∷ had) (suc c)))
          → (o : Option Binding) → ((b : Binding) → o ≡ Some b → BindOk p g b) → (w : Bool)
          → Agrees C c (cells_of p (got_new (elim s [
            | true ↦ gets v all us had c
            | false ↦ elim o [
              | None ↦ gets v all us had c
              | Some b ↦ elim w [
                | true ↦ record { name = u.0; own = b.own; home = b.home; from = None } ∷ gets v all us (u.0.text ∷ had) c
                | false ↦ record { name = u.0; own = c; home = b.home; from = Some b.own } ∷ gets v all us (u.0.text ∷ had) (suc c)
              ]
            ]
          ])))
          → GotsProper C p g (elim s [
            | true ↦ gets v all us had c
            | false ↦ elim o [
              | None ↦ gets v all us had c
              | Some b ↦ elim w [
                | true ↦ record { name = u.0; own = b.own; home = b.home; from = None } ∷ gets v all us (u.0.text ∷ had) c
                | false ↦ record { name = u.0; own = c; home = b.home; from = Some b.own } ∷ gets v all us (u.0.text ∷ had) (suc c)
              ]
            ]
          ])
      go true f1 f2 f3 o k w i = f1 i
      go false f1 f2 f3 None k w i = f1 i
      go false f1 f2 f3 (Some b) k true i = let z = k b refl in ((z.0, z.1, z.2, tt), f2 b i)
      go false f1 f2 f3 (Some b) k false i =
          let z = k b refl in
          let m = fresh_cell c b.home p g u.0.at (length u.0.text) i.0 in
          ((m.0, m.1, z.2, cell_of p g b z), f3 i.1)

  abbrev AllGotProper : ℕ → List Got → List (List Got) → Type 0
  AllGotProper p g [] = Unit {0}
  AllGotProper p g (x ∷ xs) = GotsProper C p g x × AllGotProper p g xs

  all_got : (p : ℕ) (g : List Got) (f : ParamsOf) (v : Env) (bs : Blocks) (c : ℕ) → EnvOk p g v
      → Agrees C c (cells_of p (all_new (all_get f v bs c))) → AllGotProper p g (all_get f v bs c)
  all_got p g f v Last c h a = tt
  all_got p g f v (Also b bs) c h a =
      let us = uses_block f b in
      let x = gets v us us [] c in
      let rest = all_new (all_get f v bs (c + length (got_new x))) in
      let j = subst (λ (y : List Cell). Agrees C c y) (cells_join p (got_new x) rest) a in (
        gets_ok p g v us us [] c h (first C c (cells_of p (got_new x)) (cells_of p rest) j),
        all_got p g f v bs (c + length (got_new x)) h
            (second C c (length (got_new x)) (cells_of p (got_new x)) (cells_of p rest) (cells_size p (got_new x)) j),
      )

  -- a branch starts with what it got
  starts : (p q : ℕ) (g all x : List Got) → ((a : ℕ) → T (elem a (owns x)) → T (elem a (owns all))) → ((a : ℕ) → T (elem a (homes x)) → T (elem a (homes all)))
      → GotsProper C p g x → EnvOk q all (got_env x)
  starts p q g all [] i j h = tt
  starts p q g all (y ∷ x) i j h = (
    (
      h.0.0,
      inr (i y.own (or_l (eqb y.own y.own) (elem y.own (owns x)) (eq_eqb y.own y.own refl))),
      inr (j y.home (or_l (eqb y.home y.home) (elem y.home (homes x)) (eq_eqb y.home y.home refl))),
    ),
    starts p q g all x (λ a k. i a (or_r (eqb a y.own) (elem a (owns x)) k)) (λ a k. j a (or_r (eqb a y.home) (elem a (homes x)) k)) h.1,
  )

  -- ---- what a call passes

  passed : (p : ℕ) (g : List Got) (v : Env) (ps : List Param) (as' : List Name) (c : ℕ) (r : Passed) → EnvOk p g v → passes v ps as' c ≡ Ok r
      → Agrees C c (cells_of p r.news) → EnvOk p g r.env × Pairs (CellAt C p g) r.copies
  passed p g v [] as' c r h e a =
      subst (λ (y : Passed). EnvOk p g y.env × Pairs (CellAt C p g) y.copies) (ok_eq (record { env = []; copies = []; news = []; refs = [] }) r e) (tt, tt)
  passed p g v (x ∷ ps) [] c r h e a =
      subst (λ (y : Passed). EnvOk p g y.env × Pairs (CellAt C p g) y.copies) (ok_eq (record { env = []; copies = []; news = []; refs = [] }) r e) (tt, tt)
  passed p g v (x ∷ ps) (y ∷ as') c r h e a =
      let b = bound (stands v y) (λ b. elim x.reference [
        | true ↦ passes v ps as' c >>= (λ r. Ok (by_reference x y b r))
        | false ↦ passes v ps as' (suc c) >>= (λ r. Ok (by_value x b c r))
      ]) r e in
      go b.0 (stood p g v y b.0 h b.1) x.reference (λ s. passed p g v ps as' c s h) (λ s. passed p g v ps as' (suc c) s h) b.2
    where
      R : Passed → Type 0
      R s = EnvOk p g s.env × Pairs (CellAt C p g) s.copies

      go : (b : Binding) → BindOk p g b → (t : Bool)
          → ((s : Passed) → passes v ps as' c ≡ Ok s → Agrees C c (cells_of p s.news) → R s)
          → ((s : Passed) → passes v ps as' (suc c) ≡ Ok s → Agrees C (suc c) (cells_of p s.news) → R s)
          → ◌≡◌ {A = Answer Passed} (elim t [ true ↦ passes v ps as' c >>= (λ r. Ok (by_reference x y b r)) | false ↦ passes v ps as' (suc c) >>= (λ r. Ok (by_value x b c r)) ]) (Ok r)
          → R r
      go b k true f1 f2 i =
          let s = bound (passes v ps as' c) (λ r. Ok (by_reference x y b r)) r i in
          let q = ok_eq (by_reference x y b s.0) r s.2 in
          let z = f1 s.0 s.1 (subst (λ (w : Passed). Agrees C c (cells_of p w.news)) (sym q) a) in
          subst R q ((k, z.0), z.1)
      go b k false f1 f2 i =
          let s = bound (passes v ps as' (suc c)) (λ r. Ok (by_value x b c r)) r i in
          let q = ok_eq (by_value x b c s.0) r s.2 in
          let a' = subst (λ (w : Passed). Agrees C c (cells_of p w.news)) (sym q) a in
          let z = f2 s.0 s.1 a'.1 in
          let m = fresh_cell c b.home p g x.name.at (length x.name.text) a'.0 in
          subst R q (((m.0, m.1, k.2), z.0), ((m.1, subst (λ (w : ℕ). Home C p g w) (sym m.0) k.2), cell_of p g b k, z.1))

  -- ---- unfolding

  abbrev pub Spec : Env → Count → Nodes → Count → Type 0
  Spec v n us m =
      ((p q : ℕ) → length (cells p us q) + n.cells ≡ m.cells)
      × ((p q : ℕ) (g : List Got) → EnvOk p g v → Inj v → Below n.cells v → Agrees C n.cells (cells p us q) → Proper C p g us q)

  abbrev SpecN : Env → Count → Stm → Node → Count → Type 0
  SpecN v n s u m =
      ((p q : ℕ) → length (node_cells p u q) + n.cells ≡ m.cells)
      × ((p q : ℕ) (g : List Got) → EnvOk p g v → Inj v → Below n.cells v → Agrees C n.cells (node_cells p u q) → ProperNode C p g u q × EnvOk p g (env_after v n s))
      × (Inj v → Below n.cells v → Inj (env_after v n s) × Below m.cells (env_after v n s))

  abbrev SpecB : List (List Got) → Count → Branches → Count → Type 0
  SpecB gs n bs m =
      ((q : ℕ) → length (branch_cells bs q) + n.cells ≡ m.cells)
      × ((p q : ℕ) (g : List Got) → AllGotProper p g gs → AllInj n.cells gs → Agrees C n.cells (branch_cells bs q) → ProperBranches C p g bs q)
      × ((v : Env) (c : ℕ) → Rising v c gs → RisingB v c bs)

  abbrev pub CalleesOk : Callees → Type 0
  CalleesOk f = (x : List ℕ) (c : Callee) → f x ≡ Some c → (v : Env) (n : Count) (r : Nodes × Count) → c.body v n ≡ Ok r → Spec v n r.0 r.1

  same_env : (v : Env) (n m : Count) → m.cells ≡ n.cells + 0 → Inj v → Below n.cells v → Inj v × Below m.cells v
  same_env v n m e i l = (i, below_more n.cells m.cells v (omega arith) l)

  away_below : (c : ℕ) (v : Env) → Below c v → Away c v
  away_below c [] l = tt
  away_below c (b ∷ v) l = (λ e. let i = l.0 in omega arith, away_below c v l.1)

  all_more : (c d : ℕ) (gs : List (List Got)) → c ≤ d → AllInj c gs → AllInj d gs
  all_more c d [] l h = tt
  all_more c d (g ∷ gs) l h = (h.0, below_more c d (got_env g) l h.1, all_more c d gs l h.2)

  no_await : (s : rules.Stm) → awaits s ≡ none → (c h : ℕ) → awaits s ≡ some (c, h) → (C c).home ≡ h
  no_await s e c h i = some_none (c, h) (awaits s) i e

  simple_ok : (l : Reading) (f : Callees) (v : Env) (n : Count) (at : ℕ) (s : Simple) → CalleesOk f → (r : Node × Count) → unfold_simple l f v n at s ≡ Ok r
      → SpecN v n (One at s) r.0 r.1
  simple_ok l f v n at (Var x) ck r e =
      let c = n.cells in
      let node = one at (record { home = c; name = x } ∷ []) (rules.var c) in
      let b = bound (brings n 0 1 at) (λ m. Ok (node, m)) r e in
      let i = brought n 0 1 at b.0 b.1 in
      subst (λ (r : Node × Count). SpecN v n (One at (Var x)) r.0 r.1) (ok_eq (node, b.0) r b.2) (
        λ p q. omega arith,
        λ p q g h ij bl a.
            let hm : (C c).home ≡ c = ap (λ r. r.home) a.0 in
            let bn : (C c).brought_in ≡ p = ap (λ r. r.brought_in) a.0 in
            let hh : Home C p g (C c).home = subst (λ (w : ℕ). Home C p g w) (sym hm) (inl bn) in
            ((tt, λ d k. subst (λ (w : ℕ). CellAt C p g w) (sym k) (inl bn, hh), no_await (rules.var c) refl), ((hm, inl bn, inl bn), h)),
        λ ij bl. ((away_below c v bl, ij), (omega arith, below_more c b.0.cells v (omega arith) bl)),
      )
  simple_ok l f v n at (Set x y) ck r e =
      let b = bound (brings n 0 0 at) (λ m. stands v x >>= (λ b. resolved l v y >>= (λ a. Ok (one at [] (rules.set b.own a), m)))) r e in
      let m = b.0 in
      let c = bound (stands v x) (λ b. resolved l v y >>= (λ a. Ok (one at [] (rules.set b.own a), m))) r b.2 in
      let d = bound (resolved l v y) (λ a. Ok (one at [] (rules.set c.0.own a), m)) r c.2 in
      let i = brought n 0 0 at m b.1 in
      subst (λ (r : Node × Count). SpecN v n (One at (Set x y)) r.0 r.1) (ok_eq (one at [] (rules.set c.0.own d.0), m) r d.2) (
        λ p q. omega arith,
        λ p q g h ij bl a. (
          (
            tt,
            λ z k. elim k [
              | inl w ↦ subst (λ (w : ℕ). CellAt C p g w) (sym w) (cell_of p g c.0 (stood p g v x c.0 h c.1))
              | inr w ↦ reads l p g v y d.0 h d.1 z w
            ],
            no_await (rules.set c.0.own d.0) refl,
          ),
          h,
        ),
        same_env v n m i,
      )
  simple_ok l f v n at (Next x) ck r e =
      let b = bound (brings n 0 0 at) (λ m. stands v x >>= (λ b. Ok (one at [] (rules.next b.own b.home), m))) r e in
      let m = b.0 in
      let c = bound (stands v x) (λ b. Ok (one at [] (rules.next b.own b.home), m)) r b.2 in
      let i = brought n 0 0 at m b.1 in
      subst (λ (r : Node × Count). SpecN v n (One at (Next x)) r.0 r.1) (ok_eq (one at [] (rules.next c.0.own c.0.home), m) r c.2) (
        λ p q. omega arith,
        λ p q g h ij bl a.
            let k = stood p g v x c.0 h c.1 in (
              (
                tt,
                λ z w. subst (λ (w : ℕ). CellAt C p g w) (sym w) (cell_of p g c.0 k),
                λ z w j. let y = pair_eq c.0.own z c.0.home w j in ap (λ u. (C u).home) (sym y.0) ∙ k.0 ∙ y.1,
              ),
              h,
            ),
        same_env v n m i,
      )
  simple_ok l f v n at (Know x) ck r e =
      let b = bound (brings n 0 0 at) (λ m. stands v x >>= (λ b. Ok (one at [] rules.know, m))) r e in
      let m = b.0 in
      let c = bound (stands v x) (λ b. Ok (one at [] rules.know, m)) r b.2 in
      let i = brought n 0 0 at m b.1 in
      subst (λ (r : Node × Count). SpecN v n (One at (Know x)) r.0 r.1) (ok_eq (one at [] rules.know, m) r c.2)
      (λ p q. omega arith, λ p q g h ij bl a. ((tt, λ z w. absurd w, no_await rules.know refl), h), same_env v n m i)
  simple_ok l f v n at (Throw x) ck r e =
      let b = bound (brings n 0 0 at) (λ m. Ok (throws at x.text, m)) r e in
      let i = brought n 0 0 at b.0 b.1 in
      subst (λ (r : Node × Count). SpecN v n (One at (Throw x)) r.0 r.1) (ok_eq (throws at x.text, b.0) r b.2)
      (λ p q. omega arith, λ p q g h ij bl a. (tt, h), same_env v n b.0 i)
  simple_ok l f v n at (Call x as') ck r e =
      let b = bound (found NotVisible at (f x.text)) (λ c. passes v c.params as' n.cells >>= (λ p. brings n 0 (length p.news) at >>= (λ m.
      c.body p.env m >>= (λ r. Ok (two at p.news (calls p.copies p.refs) r.0 nil, r.1))))) r e in
      let callee = b.0 in
      let c = bound (passes v callee.params as' n.cells) (λ p. brings n 0 (length p.news) at >>= (λ m.
      callee.body p.env m >>= (λ r. Ok (two at p.news (calls p.copies p.refs) r.0 nil, r.1)))) r b.2 in
      let ps = c.0 in
      let d = bound (brings n 0 (length ps.news) at) (λ m. callee.body ps.env m >>= (λ r. Ok (two at ps.news (calls ps.copies ps.refs) r.0 nil, r.1))) r c.2 in
      let m = d.0 in
      let z = bound (callee.body ps.env m) (λ r. Ok (two at ps.news (calls ps.copies ps.refs) r.0 nil, r.1)) r d.2 in
      let us = z.0.0 in
      let spec = ck x.text callee (found_is NotVisible at (f x.text) callee b.1) ps.env m z.0 z.1 in
      let i = brought n 0 (length ps.news) at m d.1 in
      subst (λ (r : Node × Count). SpecN v n (One at (Call x as')) r.0 r.1) (ok_eq (two at ps.news (calls ps.copies ps.refs) us nil, z.0.1) r z.2) (
        λ p q.
            let k = spec.0 p q in
            let j = cells_size p ps.news in
            let w = length-append (cells_of p ps.news) (cells p us q ++ []) in
            let y = length-append (cells p us q) [] in
            omega arith,
        λ p q g h ij bl a.
            let src = pass_src v callee.params as' n.cells ps c.1 bl ij in
            let bel = src_below v (λ x. T (among x ps.refs)) n.cells (n.cells + length ps.news) ps.env bl (omega arith) src.0 in
            let A = cells_of p ps.news in
            let Z = cells p us q ++ [] in
            let y = passed p g v callee.params as' n.cells ps h c.1 (first C n.cells A Z a) in
            let w = second C n.cells (length ps.news) A Z (cells_size p ps.news) a in
            let w' = subst (λ (u : ℕ). Agrees C u (cells p us q ++ [])) (sym i) w in (
              (
                λ u k. copied (CellAt C p g) ps.copies u y.1 k,
                λ fr. spec.1 p q g y.0 (src.1 fr) (subst (λ (u : ℕ). Below u ps.env) (sym i) bel) (first C m.cells (cells p us q) [] w'),
                tt,
              ),
              h,
            ),
        λ ij bl.
            let k = spec.0 0 0 in
            (ij, below_more n.cells z.0.1.cells v (omega arith) bl),
      )

  mutual
    stm_ok : (s : Stm) (l : Reading) (f : Callees) (v : Env) (n : Count) → CalleesOk f → (r : Node × Count) → unfold_stm l f v n s ≡ Ok r → SpecN v n s r.0 r.1
    stm_ok (One at s) l f v n ck r e = simple_ok l f v n at s ck r e
    stm_ok (Two at h a b) l f v n ck r e =
        let b0 = bound (brings n 0 0 at) (λ m. head_part l v h >>= (λ p. unfold_block l f a v m >>= (λ r. unfold_block l f b v r.1 >>= (λ s. Ok (two at [] p r.0 s.0, s.1))))) r e in
        let m = b0.0 in
        let b1 = bound (head_part l v h) (λ p. unfold_block l f a v m >>= (λ r. unfold_block l f b v r.1 >>= (λ s. Ok (two at [] p r.0 s.0, s.1)))) r b0.2 in
        let t = b1.0 in
        let b2 = bound (unfold_block l f a v m) (λ r. unfold_block l f b v r.1 >>= (λ s. Ok (two at [] t r.0 s.0, s.1))) r b1.2 in
        let us = b2.0.0 in
        let b3 = bound (unfold_block l f b v b2.0.1) (λ s. Ok (two at [] t us s.0, s.1)) r b2.2 in
        let ws = b3.0.0 in
        let sa = block_ok a l f v m ck b2.0 b2.1 in
        let sb = block_ok b l f v b2.0.1 ck b3.0 b3.1 in
        let i = brought n 0 0 at m b0.1 in
        subst (λ (r : Node × Count). SpecN v n (Two at h a b) r.0 r.1) (ok_eq (two at [] t us ws, b3.0.1) r b3.2) (
          λ p q.
              let j = sa.0 p q in
              let k = sb.0 p (q + how_many us) in
              let w = length-append (cells p us q) (cells p ws (q + how_many us)) in
              omega arith,
          λ p q g x ij bl y.
              let A = cells p us q in
              let Z = cells p ws (q + how_many us) in
              let j = sa.0 p q in
              let i0 : n.cells ≡ m.cells = omega arith in
              let i1 : n.cells + length A ≡ b2.0.1.cells = omega arith in (
                (
                  part_reads l p g v h t x b1.1,
                  λ fr. sa.1 p q g x ij (below_more n.cells m.cells v (omega arith) bl) (subst (λ (u : ℕ). Agrees C u A) i0 (first C n.cells A Z y)),
                  sb.1 p (q + how_many us) g x ij (below_more n.cells b2.0.1.cells v (omega arith) bl) (subst (λ (u : ℕ). Agrees C u Z) i1 (second C n.cells (length A) A Z refl y)),
                ),
                x,
              ),
          λ ij bl.
              let j = sa.0 0 0 in
              let k = sb.0 0 0 in
              (ij, below_more n.cells b3.0.1.cells v (omega arith) bl),
        )
    stm_ok (Par at bs) l f v n ck r e =
        let gs = all_get (λ x. params_of (f x)) v bs n.cells in
        let b0 = bound (brings n (branch_count bs) (length (all_new gs)) at) (λ m. unfold_blocks l f bs gs m >>= (λ r. Ok (par at (all_new gs) r.0, r.1))) r e in
        let m = b0.0 in
        let b1 = bound (unfold_blocks l f bs gs m) (λ r. Ok (par at (all_new gs) r.0, r.1)) r b0.2 in
        let ws = b1.0.0 in
        let sp = blocks_ok bs l f gs m ck b1.0 b1.1 in
        let i = brought n (branch_count bs) (length (all_new gs)) at m b0.1 in
        subst (λ (r : Node × Count). SpecN v n (Par at bs) r.0 r.1) (ok_eq (par at (all_new gs) ws, b1.0.1) r b1.2) (
          λ p q.
              let j = sp.0 q in
              let k = cells_size p (all_new gs) in
              let w = length-append (cells_of p (all_new gs)) (branch_cells ws q) in
              omega arith,
          λ p q g x ij bl y.
              let src = all_src (λ x. params_of (f x)) v bs n.cells m.cells bl ij (omega arith) in
              let A = cells_of p (all_new gs) in
              let Z = branch_cells ws q in
              let k = cells_size p (all_new gs) in
              let i1 : n.cells + length (all_new gs) ≡ m.cells = omega arith in (
                (
                  sp.1 p q g (all_got p g (λ x. params_of (f x)) v bs n.cells x (first C n.cells A Z y)) src.1
                      (subst (λ (u : ℕ). Agrees C u Z) i1 (second C n.cells (length (all_new gs)) A Z k y)),
                  λ na. apart_all v ij n.cells bl n.cells ws (omega arith) (sp.2 v n.cells src.0) na,
                ),
                x,
              ),
          λ ij bl.
              let j = sp.0 0 in
              (ij, below_more n.cells b1.0.1.cells v (omega arith) bl),
        )

    pub block_ok : (b : Block) (l : Reading) (f : Callees) (v : Env) (n : Count) → CalleesOk f → (r : Nodes × Count) → unfold_block l f b v n ≡ Ok r → Spec v n r.0 r.1
    block_ok Nil l f v n ck r e =
        subst (λ (r : Nodes × Count). Spec v n r.0 r.1) (ok_eq (nil, n) r e) (λ p q. omega arith, λ p q g h ij bl a. tt)
    block_ok (Seq s b) l f v n ck r e =
        let b0 = bound (unfold_stm l f v n s) (λ r. unfold_block l f b (env_after v n s) r.1 >>= (λ t. Ok (seq r.0 t.0, t.1))) r e in
        let u = b0.0.0 in
        let m = b0.0.1 in
        let b1 = bound (unfold_block l f b (env_after v n s) m) (λ t. Ok (seq u t.0, t.1)) r b0.2 in
        let us = b1.0.0 in
        let s0 = stm_ok s l f v n ck b0.0 b0.1 in
        let s1 = block_ok b l f (env_after v n s) m ck b1.0 b1.1 in
        subst (λ (r : Nodes × Count). Spec v n r.0 r.1) (ok_eq (seq u us, b1.0.1) r b1.2) (
          λ p q.
              let j = s0.0 p q in
              let k = s1.0 p (q + node_places u) in
              let w = length-append (node_cells p u q) (cells p us (q + node_places u)) in
              omega arith,
          λ p q g h ij bl a.
              let A = node_cells p u q in
              let Z = cells p us (q + node_places u) in
              let j = s0.0 p q in
              let x = s0.1 p q g h ij bl (first C n.cells A Z a) in
              let y = s0.2 ij bl in
              let i : n.cells + length A ≡ m.cells = omega arith in
              (x.0, s1.1 p (q + node_places u) g x.1 y.0 y.1 (subst (λ (u : ℕ). Agrees C u Z) i (second C n.cells (length A) A Z refl a))),
        )

    blocks_ok : (bs : Blocks) (l : Reading) (f : Callees) (gs : List (List Got)) (n : Count) → CalleesOk f → (r : Branches × Count) → unfold_blocks l f bs gs n ≡ Ok r → SpecB gs n r.0 r.1
    blocks_ok Last l f gs n ck r e =
        subst (λ (r : Branches × Count). SpecB gs n r.0 r.1) (ok_eq (last, n) r e) (λ q. omega arith, λ p q g h k a. tt, λ v c h. tt)
    blocks_ok (Also b bs) l f [] n ck r e =
        subst (λ (r : Branches × Count). SpecB [] n r.0 r.1) (ok_eq (last, n) r e) (λ q. omega arith, λ p q g h k a. tt, λ v c h. tt)
    blocks_ok (Also b bs) l f (x ∷ gs) n ck r e =
        let b0 = bound (unfold_block l f b (got_env x) n) (λ r. unfold_blocks l f bs gs r.1 >>= (λ t. Ok (also x r.0 t.0, t.1))) r e in
        let us = b0.0.0 in
        let m = b0.0.1 in
        let b1 = bound (unfold_blocks l f bs gs m) (λ t. Ok (also x us t.0, t.1)) r b0.2 in
        let ws = b1.0.0 in
        let s0 = block_ok b l f (got_env x) n ck b0.0 b0.1 in
        let s1 = blocks_ok bs l f gs m ck b1.0 b1.1 in
        subst (λ (r : Branches × Count). SpecB (x ∷ gs) n r.0 r.1) (ok_eq (also x us ws, b1.0.1) r b1.2) (
          λ q.
              let j = s0.0 q (suc q) in
              let k = s1.0 (suc q + how_many us) in
              let w = length-append (cells q us (suc q)) (branch_cells ws (suc q + how_many us)) in
              omega arith,
          λ p q g h ai a.
              let A = cells q us (suc q) in
              let Z = branch_cells ws (suc q + how_many us) in
              let j = s0.0 q (suc q) in
              let i : n.cells + length A ≡ m.cells = omega arith in (
                h.0,
                s0.1 q (suc q) x (starts p q g x x (λ a k. k) (λ a k. k) h.0) ai.0 ai.1 (first C n.cells A Z a),
                s1.1 p (suc q + how_many us) g h.1 (all_more n.cells m.cells gs (omega arith) ai.2) (subst (λ (u : ℕ). Agrees C u Z) i (second C n.cells (length A) A Z refl a)),
              ),
          λ v c h. (h.0, h.1, h.2, s1.2 v h.0 h.3),
        )

  pub callees_ok : (l : Reading) (ps : List Proc) → CalleesOk (callees l ps)
  callees_ok l [] x c e v n r i = absurd (let z : ◌≡◌ {A = ℕ} 0 1 = cc in omega arith)
  callees_ok l (p ∷ ps) x c e v n r i = go (same x p.name.text) (callees_ok l ps) e
    where
      go : (t : Bool) → CalleesOk (λ y. callees l ps y)
          → ◌≡◌ {A = Option Callee} (elim t [ true ↦ Some (record { params = p.params; body = λ v n. unfold_block l (λ y. callees l ps y) p.body v n }) | false ↦ callees l ps x ]) (Some c)
          → Spec v n r.0 r.1
      go true k j =
          let w : ◌≡◌ {A = Callee} (record { params = p.params; body = λ v n. unfold_block l (λ y. callees l ps y) p.body v n }) c = cc in
          block_ok p.body l (λ y. callees l ps y) v n k r (ap (λ (d : Callee). d.body v n) w ∙ i)
      go false k j = k x c j v n r i
