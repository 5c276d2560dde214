-- Rows that are laid out one after another.
use Rattle.std.proofs.Common.{◌≡◌, ℕ, suc, ◌+◌, ◌-◌, ◌^◌, ◌<◌, ◌≤◌, min, List, [], ◌∷◌, length, OnOk, Ok, Err, Result, sym, refl, ap, ◌∙◌, append_assoc, add-one, arith}
use Rattle.std.proofs.lemmas.List.{map-append, length-append}
use Rattle.rules.specs.Programs.{Stm}
use Rattle.unfold.specs.Unfolded.{New, Got, Part, plain, calls, tests, loops, tries, takes, Node, two, Nodes, seq, Branches, also}
use Rattle.program.specs.Sizes.{node_size, size, branch_size, node_places, how_many, entry}
use Rattle.program.specs.Layout.{Open, part_stm, part_after, part_catches, part_opens, node_placing, placing, branch_placing}
use Rattle.layout.specs.Rows.{place_row}
use Rattle.layout.specs.Walked.{Rows, more, statement_rows, begun, node_rows, block_rows, branch_rows}

pub catches_length : (h : Part) (j : ℕ) (cs : List ℕ) → length (part_catches h j cs) ≤ suc (length cs)
catches_length plain j cs = omega arith
catches_length (calls ds rs) j cs = omega arith
catches_length (tests e) j cs = omega arith
catches_length (loops e) j cs = omega arith
catches_length (tries n) j cs = omega (arith, length-append cs (j ∷ []))
catches_length (takes i c) j cs = omega arith

more_assoc : (a b c : Rows) → more (more a b) c ≡ more a (more b c)
more_assoc a b c i =
    record {
      points = append_assoc a.points b.points c.points i;
      places = append_assoc a.places b.places c.places i;
      cells = append_assoc a.cells b.cells c.cells i;
      got = append_assoc a.got b.got c.got i;
    }

joined : {X Y : Type 0} (r : Result X Y) (was mid end a b whole : Rows) → whole ≡ more a b → mid ≡ more was a
    → OnOk r (end ≡ more mid b) → OnOk r (end ≡ more was whole)
joined (Ok x) was mid end a b whole e p q = q ∙ ap (λ l. more l b) p ∙ more_assoc was a b ∙ ap (λ l. more was l) (sym e)
joined (Err y) was mid end a b whole e p q = tt

thirdly : {X Y : Type 0} (r : Result X Y) (was fst mid end a b c whole : Rows) → whole ≡ more a (more b c) → fst ≡ more was a → mid ≡ more fst b
    → OnOk r (end ≡ more mid c) → OnOk r (end ≡ more was whole)
thirdly r was fst mid end a b c whole e p q z = joined r was fst end a (more b c) whole e p (joined r fst mid end b c (more b c) refl q z)

pub seq_laid : {X Y : Type 0} (r : Result X Y) (e p : ℕ) (cs : List ℕ) (rs : List Open) (q o k : ℕ) (us : Nodes) (u u' : Node) (vs vs' : Nodes) (q' o' n : ℕ) (was mid end : Rows)
    → us ≡ seq u vs → u' ≡ u → vs' ≡ vs → q' ≡ q + node_places u' → o' ≡ o + node_size u' → n ≡ entry vs (o + node_size u) k
    → mid ≡ more was (node_rows e p cs rs u' q o n) → OnOk r (end ≡ more mid (block_rows e p cs rs vs' q' o' k))
    → OnOk r (end ≡ more was (block_rows e p cs rs us q o k))
seq_laid r e p cs rs q o k us u u' vs vs' q' o' n was mid end h i j a b c m z =
    let rows = map-append place_row (node_placing e p u q o) (placing e p vs (q + node_places u) (o + node_size u)) in
    joined r was mid end (node_rows e p cs rs u' q o n) (block_rows e p cs rs vs' q' o' k) (block_rows e p cs rs us q o k) (cc) m z

pub two_laid : {X Y : Type 0} (r : Result X Y) (e p : ℕ) (cs : List ℕ) (rs : List Open) (q o k : ℕ) (u : Node) (at : ℕ) (ns ns' : List New) (h : Part) (a a' b b' : Nodes)
    (st : Stm) (after i j : ℕ) (ics : List ℕ) (irs : List Open) (q₁ o₁ q₂ o₂ : ℕ) (was fst mid end : Rows)
    → u ≡ two at ns h a b → ns' ≡ ns → a' ≡ a → b' ≡ b → after ≡ part_after h o k → i ≡ entry a (o + 1) after → j ≡ entry b ((o + 1) + size a) k
    → st ≡ part_stm h i j k → ics ≡ part_catches h j cs → irs ≡ part_opens h p j cs rs
    → q₁ ≡ q → o₁ ≡ o + 1 → q₂ ≡ q₁ + how_many a' → o₂ ≡ o₁ + size a'
    → fst ≡ more was (statement_rows p st k cs at ns') → mid ≡ more fst (block_rows e p ics irs a' q₁ o₁ after)
    → OnOk r (end ≡ more mid (block_rows e p cs rs b' q₂ o₂ k)) → OnOk r (end ≡ more was (node_rows e p cs rs u q o k))
two_laid r e p cs rs q o k u at ns ns' h a a' b b' st after i j ics irs q₁ o₁ q₂ o₂ was fst mid end c₁ c₂ c₃ c₄ c₅ c₆ c₇ c₈ c₉ d₁ d₂ d₃ d₄ d₅ x y z =
    let one = add-one o in
    let rows = map-append place_row (placing e p a q (o + 1)) (placing e p b (q + how_many a) ((o + 1) + size a)) in
    thirdly r was fst mid end (statement_rows p st k cs at ns') (block_rows e p ics irs a' q₁ o₁ after) (block_rows e p cs rs b' q₂ o₂ k) (node_rows e p cs rs u q o k) (cc) x y z

pub also_laid : {X Y : Type 0} (r : Result X Y) (e p x : ℕ) (rs : List Open) (q o : ℕ) (bs : Branches) (g g' : List Got) (us us' : Nodes) (vs vs' : Branches)
    (s : ℕ) (cs : List ℕ) (q₀ q₁ o₁ q₂ o₂ : ℕ) (was fst mid end : Rows)
    → bs ≡ also g us vs → g' ≡ g → us' ≡ us → vs' ≡ vs → s ≡ entry us o (e + q) → cs ≡ []
    → q₀ ≡ q → q₁ ≡ q + 1 → o₁ ≡ o → q₂ ≡ q₁ + how_many us' → o₂ ≡ o₁ + size us'
    → fst ≡ more was (begun q (record { parent = p; under = x; start = s }) g') → mid ≡ more fst (block_rows e q₀ cs rs us' q₁ o₁ (e + q₀))
    → OnOk r (end ≡ more mid (branch_rows e p x rs vs' q₂ o₂)) → OnOk r (end ≡ more was (branch_rows e p x rs bs q o))
also_laid r e p x rs q o bs g g' us us' vs vs' s cs q₀ q₁ o₁ q₂ o₂ was fst mid end c₁ c₂ c₃ c₄ c₅ c₆ c₇ c₈ c₉ d₁ d₂ y z w =
    let one = add-one q in
    let rows = map-append place_row (placing e q us (q + 1) o) (branch_placing e p x vs ((q + 1) + how_many us) (o + size us)) in
    thirdly r was fst mid end (begun q (record { parent = p; under = x; start = s }) g') (block_rows e q₀ cs rs us' q₁ o₁ (e + q₀)) (branch_rows e p x rs vs' q₂ o₂)
    (branch_rows e p x rs bs q o) (cc) y z w

-- ---- where their blocks are entered

pub next_entry : (o k n o' s : ℕ) (us : Nodes) (u u' : Node) (vs vs' : Nodes) → us ≡ seq u vs → u' ≡ u → vs' ≡ vs → o + size us ≤ 1024 → o' ≡ o
    → s ≡ min (node_size u') (2 ^ 16 - 1) → ((o' + s) + size vs' < 2 ^ 16 → n ≡ entry vs' (o' + s) k) → n ≡ entry vs (o + node_size u) k
next_entry o k n o' s us u u' vs vs' h i j l m e f =
    let x : size us ≡ node_size u + size vs = ap size h in
    let y : node_size u' ≡ node_size u = ap node_size i in
    let z : size vs' ≡ size vs = ap size j in
    let w : o' + s ≡ o + node_size u = omega arith in
    f (omega arith) ∙ ap (λ (v : Nodes). entry v (o' + s) k) j ∙ ap (λ (p : ℕ). entry vs p k) w

pub two_entries : (o k after i j o' s : ℕ) (u : Node) (at : ℕ) (ns : List New) (h : Part) (a a₁ a₂ b b' : Nodes) → u ≡ two at ns h a b → a₁ ≡ a → a₂ ≡ a → b' ≡ b
    → o + node_size u ≤ 1024 → o' ≡ o → s ≡ min (size a₂) (2 ^ 16 - 1)
    → ((o' + 1) + size a₁ < 2 ^ 16 → i ≡ entry a₁ (o' + 1) after) → (((o' + 1) + s) + size b' < 2 ^ 16 → j ≡ entry b' ((o' + 1) + s) k)
    → (i ≡ entry a (o + 1) after) × (j ≡ entry b ((o + 1) + size a) k)
two_entries o k after i j o' s u at ns h a a₁ a₂ b b' c₁ c₂ c₃ c₄ l m e f g =
    let x : node_size u ≡ suc (size a + size b) = ap node_size c₁ in
    let y : size a₁ ≡ size a = ap size c₂ in
    let z : size a₂ ≡ size a = ap size c₃ in
    let w : size b' ≡ size b = ap size c₄ in
    let v : o' + 1 ≡ o + 1 = omega arith in
    let t : (o' + 1) + s ≡ (o + 1) + size a = omega arith in (
      f (omega arith) ∙ ap (λ (d : Nodes). entry d (o' + 1) after) c₂ ∙ ap (λ (p : ℕ). entry a p after) v,
      g (omega arith) ∙ ap (λ (d : Nodes). entry d ((o' + 1) + s) k) c₄ ∙ ap (λ (p : ℕ). entry b p k) t,
    )

pub also_entry : (o k n o' k' : ℕ) (bs : Branches) (g : List Got) (us us' : Nodes) (vs : Branches) → bs ≡ also g us vs → us' ≡ us → o + branch_size bs ≤ 1024 → o' ≡ o → k' ≡ k
    → (o' + size us' < 2 ^ 16 → n ≡ entry us' o' k') → n ≡ entry us o k
also_entry o k n o' k' bs g us us' vs h i l m p f =
    let x : branch_size bs ≡ size us + branch_size vs = ap branch_size h in
    let y : size us' ≡ size us = ap size i in
    f (omega arith) ∙ ap (λ (d : Nodes). entry d o' k') i ∙ ap (λ (q : ℕ). entry us q k') m ∙ ap (λ (q : ℕ). entry us o q) p
