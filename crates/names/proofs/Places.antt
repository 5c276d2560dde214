-- Where the visible procedure of a name stands in a table.
use Rattle.std.proofs.Common.{◌≡◌, ℕ, zero, suc, ◌+◌, ◌<◌, ◌≤◌, Bool, true, false, ◌⊎◌, List, [], ◌∷◌, length, get_or, take, Some, None, MatchOption, Option, sym, refl, ap, ◌∙◌, subst, inl, inr, arith}
use Rattle.reader.specs.Tokens.{same}
use Rattle.grammar.specs.declared.tree.Proc as code-proc
use Rattle.grammar.specs.Trees.{Proc}
use Rattle.grammar.specs.Views.{name, proc}
use Rattle.names.specs.Scopes.{after, ended, place}

-- whether a procedure has this name
abbrev pub has_name : List ℕ → List ℕ → code-proc.Proc → Bool
has_name text w q = same w (name text q.name).text

-- no procedure from an index on has the name
abbrev pub NoneFrom : List ℕ → List ℕ → List code-proc.Proc → ℕ → Type 0
NoneFrom text w qs i = (k : ℕ) (q : code-proc.Proc) → i ≤ k → k < length qs → has_name text w (get_or qs k q) ≡ false

-- what a search from the back finds
abbrev pub LastOf : List ℕ → List ℕ → List code-proc.Proc → ℕ → Type 0
LastOf text w qs i = (i < length qs) × ((q : code-proc.Proc) → has_name text w (get_or qs i q) ≡ true) × NoneFrom text w qs (i + 1)

none_after : (text w : List ℕ) (ps : List Proc) (qs : List code-proc.Proc) → NoneFrom text w qs 0 → place w (after text ps qs) ≡ place w ps
none_after text w ps [] h = refl
none_after text w ps (q ∷ qs) h =
    none_after text w (proc text q ∷ ps) qs (λ k r a b. h (suc k) r (omega arith) (omega arith))
    ∙ ap (λ (b : Bool). elim b [ true ↦ Some (length ps) | false ↦ place w ps ]) (h 0 q (omega arith) (omega arith))

last_after : (text w : List ℕ) (ps : List Proc) (qs : List code-proc.Proc) (i : ℕ) → LastOf text w qs i → place w (after text ps qs) ≡ Some (length ps + i)
last_after text w ps [] i h = absurd (let k : i < 0 = h.0 in omega arith)
last_after text w ps (q ∷ qs) zero h =
    none_after text w (proc text q ∷ ps) qs (λ k r a b. h.2 (suc k) r (omega arith) (omega arith))
    ∙ ap (λ (b : Bool). elim b [ true ↦ Some (length ps) | false ↦ place w ps ]) (h.1 q) ∙ ap Some (omega arith)
last_after text w ps (q ∷ qs) (suc i) h =
    let l : i < length qs = let k = h.0 in omega arith in
    last_after text w (proc text q ∷ ps) qs i (l, h.1, λ k s a b. h.2 (suc k) s (omega arith) (omega arith)) ∙ ap Some (omega arith)

pub last_place : (text w : List ℕ) (qs : List code-proc.Proc) (r : Option ℕ) → MatchOption r (NoneFrom text w qs 0) (LastOf text w qs) → r ≡ place w (ended text qs)
last_place text w qs None h = sym (none_after text w [] qs h)
last_place text w qs (Some i) h = sym (last_after text w [] qs i h ∙ ap Some (omega arith))

-- Where j is the place of a name in a table: the procedure there has the name,
-- and F says of the whole table what it says of this procedure and those before it.
abbrev pub PlacedAt : {A : Type 0} → (List Proc → A) → List ℕ → List ℕ → List Proc → List code-proc.Proc → ℕ → Type 0
PlacedAt F text w ps qs j =
    (j < length qs) × ((q : code-proc.Proc) → q ≡ get_or qs j q → (true ≡ has_name text w q) × (F (after text ps qs) ≡ F (proc text q ∷ after text ps (take j qs))))

-- F passes over a procedure that has another name
abbrev pub Skips : {A : Type 0} → (List Proc → A) → List ℕ → Type 0
Skips F w = (p : Proc) (ps : List Proc) → false ≡ same w p.name.text → F (p ∷ ps) ≡ F ps

abbrev Found : {A : Type 0} → (List Proc → A) → List ℕ → List ℕ → List Proc → List code-proc.Proc → ℕ → Type 0
Found F text w ps qs i = ((j : ℕ) × (i ≡ length ps + j) × PlacedAt F text w ps qs j) ⊎ ((Some i ≡ place w ps) × (F (after text ps qs) ≡ F ps))

found_first : {A : Type 0} (F : List Proc → A) (text w : List ℕ) → Skips F w → (ps : List Proc) (q : code-proc.Proc) (qs : List code-proc.Proc) (i : ℕ) (b : Bool)
    → b ≡ has_name text w q → Some i ≡ elim b [ true ↦ Some (length ps) | false ↦ place w ps ] → F (after text ps (q ∷ qs)) ≡ F (proc text q ∷ ps) → Found F text w ps (q ∷ qs) i
found_first F text w skip ps q qs i true h e f =
    let k : i ≡ length ps = cc in
    inl (0, omega arith, (omega arith, λ r s. (h ∙ ap (has_name text w) (sym s), f ∙ ap (λ (x : code-proc.Proc). F (proc text x ∷ ps)) (sym s))))
found_first F text w skip ps q qs i false h e f = inr (e, f ∙ skip (proc text q) ps h)

found : {A : Type 0} (F : List Proc → A) (text w : List ℕ) → Skips F w → (ps : List Proc) (qs : List code-proc.Proc) (i : ℕ) → Some i ≡ place w (after text ps qs) → Found F text w ps qs i
found F text w skip ps [] i e = inr (e, refl)
found F text w skip ps (q ∷ qs) i e =
    elim (found F text w skip (proc text q ∷ ps) qs i e) [
      | inl x ↦ let k = x.1 in let l = x.2.0 in inl (suc x.0, omega arith, (omega arith, x.2.1))
      | inr y ↦ found_first F text w skip ps q qs i (has_name text w q) refl y.0 y.1
    ]

pub place_at : {A : Type 0} (F : List Proc → A) (text w : List ℕ) → Skips F w → (qs : List code-proc.Proc) (i : ℕ) → Some i ≡ place w (ended text qs) → PlacedAt F text w [] qs i
place_at F text w skip qs i e =
    elim (found F text w skip [] qs i e) [
      | inl x ↦ subst (PlacedAt F text w [] qs) (let k = x.1 in omega arith) x.2
      | inr y ↦ absurd (let z : Some i ≡ None = y.0 in cc)
    ]

none_first : {A : Type 0} (F : List Proc → A) (w : List ℕ) → Skips F w → (p : Proc) (ps : List Proc) (b : Bool)
    → b ≡ same w p.name.text → ◌≡◌ {A = Option ℕ} None (elim b [ true ↦ Some (length ps) | false ↦ place w ps ]) → (None ≡ place w ps → F ps ≡ F []) → F (p ∷ ps) ≡ F []
none_first F w skip p ps true h e rest = absurd (let z : ◌≡◌ {A = Option ℕ} None (Some (length ps)) = e in cc)
none_first F w skip p ps false h e rest = skip p ps h ∙ rest e

-- of a table with no such procedure F says what it says of the empty one
pub no_place : {A : Type 0} (F : List Proc → A) (w : List ℕ) → Skips F w → (ps : List Proc) → None ≡ place w ps → F ps ≡ F []
no_place F w skip [] e = refl
no_place F w skip (p ∷ ps) e = none_first F w skip p ps (same w p.name.text) refl e (no_place F w skip ps)
