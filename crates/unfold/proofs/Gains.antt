-- What a branch gets, occurrence by occurrence.
use Rattle.std.proofs.Common.{◌≡◌, ℕ, suc, ◌+◌, ◌<◌, ◌≤◌, Bool, true, false, cond, ◌||◌, List, [], ◌∷◌, ◌++◌, length, map, filter, is_some, get_or, drop, Some, None, Ok, Err, Option, Result, sym, refl, ap, ◌∙◌, subst, ap₂, append_assoc, arith, length-append}
use Rattle.std.proofs.lemmas.List.{at_drop_more, map-append}
use Rattle.std.specs.List.{list_any}
use Rattle.reader.specs.declared.fault.Error.{Error}
use Rattle.reader.specs.Tokens.{same, among}
use Rattle.grammar.specs.Trees.{Name, Block, Blocks, Last, Also}
use Rattle.grammar.specs.Views.{name}
use Rattle.grammar.specs.declared.tree.Name as code-name
use Rattle.names.specs.Scopes.{scope}
use Rattle.names.proofs.Stacks.{stacked_push, among_scope}
use Rattle.unfold.specs.declared.nodes.Got as code_got
use Rattle.unfold.specs.declared.nodes.New as code-new
use Rattle.unfold.specs.declared.scopes.Binding as code-binding
use Rattle.unfold.specs.declared.uses.Use as code-use
use Rattle.unfold.specs.Unfolded.{Got, New}
use Rattle.unfold.specs.Scopes.{Binding, Env, lookup}
use Rattle.unfold.specs.Variables.{Uses, ParamsOf, uses_block, written, gets, got_new, got_env, all_get, all_new}
use Rattle.unfold.specs.Steps.{got_as, got_one, next_cell}
use Rattle.unfold.specs.Occurrences.{uses}
use Rattle.unfold.specs.Getting.{had}
use Rattle.unfold.specs.Views.{env, binding, got, gots, new, news, MoreNews}

module _ (v : Env) (all us : Uses) (had : List (List ℕ)) (n : Name) (b : Bool) (c : ℕ) where
  abbrev R : List (List ℕ) → ℕ → List Got
  R h k = gets v all us h k

  pub gets_some : (g : Got) → got_one v all had n c ≡ Some g → gets v all ((n, b) ∷ us) had c ≡ g ∷ R (g.name.text ∷ had) (next_cell c g.from)
  gets_some g e = go (among n.text had) (lookup v n.text) (written all n.text) e
    where
      go : (s : Bool) (o : Option Binding) (w : Bool)
          → ◌≡◌ {A = Option Got} (elim s [ true ↦ None | false ↦ elim o [ None ↦ None | Some x ↦ Some (got_as w n x c) ] ]) (Some g)
          → ◌≡◌ {A = List Got} (elim s [
            | true ↦ R had c
            | false ↦ elim o [
              | None ↦ R had c
              | Some x ↦ elim w [
                | true ↦ record { name = n; own = x.own; home = x.home; from = None } ∷ R (n.text ∷ had) c
                | false ↦ record { name = n; own = c; home = x.home; from = Some x.own } ∷ R (n.text ∷ had) (suc c)
              ]
            ]
          ])
          (g ∷ R (g.name.text ∷ had) (next_cell c g.from))
      go true o w k = absurd (let z : ◌≡◌ {A = ℕ} 0 1 = cc in omega arith)
      go false None w k = absurd (let z : ◌≡◌ {A = ℕ} 0 1 = cc in omega arith)
      go false (Some x) true k =
          let i : got_as true n x c ≡ g = cc in
          subst (λ (z : Got). ◌≡◌ {A = List Got} (got_as true n x c ∷ R (n.text ∷ had) c) (z ∷ R (z.name.text ∷ had) (next_cell c z.from))) i refl
      go false (Some x) false k =
          let i : got_as false n x c ≡ g = cc in
          subst (λ (z : Got). ◌≡◌ {A = List Got} (got_as false n x c ∷ R (n.text ∷ had) (suc c)) (z ∷ R (z.name.text ∷ had) (next_cell c z.from))) i refl

pub gots_push : (text : List ℕ) (gs : List code_got.Got) (g : code_got.Got) → gots text (gs ++ (g ∷ [])) ≡ gots text gs ++ (got text g ∷ [])
gots_push text [] g = refl
gots_push text (h ∷ gs) g = ap (λ (xs : List Got). got text h ∷ xs) (gots_push text gs g)

pub news_app : (text : List ℕ) (ns ms : List code-new.New) → news text (ns ++ ms) ≡ news text ns ++ news text ms
news_app text [] ms = refl
news_app text (n ∷ ns) ms = ap (λ (xs : List New). new text n ∷ xs) (news_app text ns ms)

pub env_push : (text : List ℕ) (bs : List code-binding.Binding) (b : code-binding.Binding) → env text (bs ++ (b ∷ [])) ≡ env text bs ++ (binding text b ∷ [])
env_push text [] b = refl
env_push text (d ∷ bs) b = ap (λ (xs : Env). binding text d ∷ xs) (env_push text bs b)

-- the names that were had
pub had_push : (text : List ℕ) (gs : List code_got.Got) (g : code_got.Got) → had text (gs ++ (g ∷ [])) ≡ (name text g.name).text ∷ had text gs
had_push text gs g = ap (scope text) (map-append (λ (x : code_got.Got). x.name) gs (g ∷ [])) ∙ stacked_push text [] (map (λ (x : code_got.Got). x.name) gs) g.name

pub had_any : (text w : List ℕ) (gs : List code_got.Got) → list_any (λ (g : code_got.Got). same w (name text g.name).text) gs ≡ among w (had text gs)
had_any text w gs = go gs ∙ sym (among_scope text w (map (λ (g : code_got.Got). g.name) gs))
  where
    go : (gs : List code_got.Got) → list_any (λ (g : code_got.Got). same w (name text g.name).text) gs ≡ list_any (λ (m : code-name.Name). same w (name text m).text) (map (λ (g : code_got.Got). g.name) gs)
    go [] = refl
    go (g ∷ gs) = ap (λ (b : Bool). same w (name text g.name).text || b) (go gs)

-- new ones, by parts
pub new_cons : (g : Got) (gs : List Got) → got_new (g ∷ gs) ≡ got_new (g ∷ []) ++ got_new gs
new_cons g gs = go g.from
  where
    go : (o : Option ℕ) → ◌≡◌ {A = List New} (elim o [ None ↦ got_new gs | Some a ↦ record { home = g.home; name = g.name } ∷ got_new gs ])
        (elim o as (λ z. List New) [ None ↦ [] | Some a ↦ record { home = g.home; name = g.name } ∷ [] ] ++ got_new gs)
    go None = refl
    go (Some a) = refl

pub new_app : (gs hs : List Got) → got_new (gs ++ hs) ≡ got_new gs ++ got_new hs
new_app [] hs = refl
new_app (g ∷ gs) hs =
    new_cons g (gs ++ hs) ∙ ap (λ (xs : List New). got_new (g ∷ []) ++ xs) (new_app gs hs) ∙ sym (append_assoc (got_new (g ∷ [])) (got_new gs) (got_new hs))
    ∙ ap (λ (xs : List New). xs ++ got_new hs) (sym (new_cons g gs))

pub new_one : (g : Got) (c : ℕ) → next_cell c g.from ≡ c + length (got_new (g ∷ []))
new_one g c = go g.from
  where
    go : (o : Option ℕ) → next_cell c o ≡ c + length (elim o as (λ z. List New) [ None ↦ [] | Some a ↦ record { home = g.home; name = g.name } ∷ [] ])
    go None = omega arith
    go (Some a) = omega arith

-- one step of a branch that gets something
pub on_some : (text : List ℕ) (v : Env) (all : Uses) (n : code-name.Name) (gs hs : List code_got.Got) (c d : ℕ) (g : code_got.Got)
    → Some (got text g) ≡ got_one v all (had text gs) (name text n) c → hs ≡ gs ++ (g ∷ []) → d ≡ next_cell c g.from
    → (us : Uses) (w : Bool) → gots text gs ++ gets v all ((name text n, w) ∷ us) (had text gs) c ≡ gots text hs ++ gets v all us (had text hs) d
on_some text v all n gs hs c d g e f k us w =
    let more = gets v all us ((name text g.name).text ∷ had text gs) (next_cell c g.from) in
    ap (λ (xs : List Got). gots text gs ++ xs) (gets_some v all us (had text gs) (name text n) w c (got text g) (sym e))
    ∙ sym (append_assoc (gots text gs) (got text g ∷ []) more)
    ∙ ap (λ (xs : List Got). xs ++ more) (sym (gots_push text gs g) ∙ ap (gots text) (sym f))
    ∙ ap (λ (ws : List (List ℕ)). gots text hs ++ gets v all us ws (next_cell c g.from)) (sym (had_push text gs g) ∙ ap (had text) (sym f))
    ∙ ap (λ (z : ℕ). gots text hs ++ gets v all us (had text hs) z) (sym k)

pub numbered_on : (text : List ℕ) (gs hs : List code_got.Got) (g : code_got.Got) (first c d : ℕ) → hs ≡ gs ++ (g ∷ []) → d ≡ next_cell c g.from
    → c ≡ first + length (got_new (gots text gs)) → d ≡ first + length (got_new (gots text hs))
numbered_on text gs hs g first c d f k e =
    let a : length (got_new (gots text hs)) ≡ length (got_new (gots text gs ++ (got text g ∷ []))) = ap (λ (xs : List code_got.Got). length (got_new (gots text xs))) f ∙ ap (λ (xs : List Got). length (got_new xs)) (gots_push text gs g) in
    let b = ap length (new_app (gots text gs) (got text g ∷ [])) in
    let l = length-append (got_new (gots text gs)) (got_new (got text g ∷ [])) in
    let o = new_one (got text g) c in
    omega arith

pub next_le : (c : ℕ) (o : Option ℕ) → next_cell c o ≤ c + 1
next_le c None = omega arith
next_le c (Some a) = omega arith

-- the next number, by a count of what is new
pub next_count : (c : ℕ) (o : Option ℕ) → c + cond (is_some o) 1 0 ≡ next_cell c o
next_count c None = omega arith
next_count c (Some a) = omega arith

-- the new cells of a branch, and what its names stand for
abbrev pub new_of : code_got.Got → code-new.New
new_of g = record { home = g.home; name = g.name }

pub news_kept : (text : List ℕ) (gs : List code_got.Got) → news text (map new_of (filter (λ g. is_some g.from) gs)) ≡ got_new (gots text gs)
news_kept text [] = refl
news_kept text (g ∷ gs) = go g.from (news_kept text gs)
  where
    rest : List code_got.Got
    rest = filter (λ (x : code_got.Got). is_some x.from) gs

    go : (o : Option ℕ) → news text (map new_of rest) ≡ got_new (gots text gs)
        → news text (map new_of (cond (is_some o) (g ∷ rest) rest))
        ≡ elim o as (λ z. List New) [ None ↦ got_new (gots text gs) | Some a ↦ record { home = g.home; name = name text g.name } ∷ got_new (gots text gs) ]
    go None h = h
    go (Some a) h = ap (λ (xs : List New). record { home = g.home; name = name text g.name } ∷ xs) h

abbrev pub binding_of : code_got.Got → code-binding.Binding
binding_of g = record { name = g.name; own = g.own; home = g.home }

pub env_map : (text : List ℕ) (gs : List code_got.Got) → env text (map binding_of gs) ≡ got_env (gots text gs)
env_map text [] = refl
env_map text (g ∷ gs) = ap (λ (v : Env). binding text (binding_of g) ∷ v) (env_map text gs)

-- the occurrences of a table
pub found_more : {A : Type 0} (F : Uses → A) (text : List ℕ) (us : List code-use.Use) (i : ℕ) (d : code-use.Use) → i < length us
    → F (uses text (drop i us)) ≡ F ((name text (get_or us i d).name, (get_or us i d).written) ∷ uses text (drop (i + 1) us))
found_more F text us i d h = at_drop_more (λ (xs : List code-use.Use). F (uses text xs)) us i d h

-- the new cells of a branch do not depend on their numbers
pub new_any : (v : Env) (all us : Uses) (had : List (List ℕ)) (c d : ℕ) → got_new (gets v all us had c) ≡ got_new (gets v all us had d)
new_any v all [] had c d = refl
new_any v all (u ∷ us) had c d =
    go (among u.0.text had) (lookup v u.0.text) (written all u.0.text) (new_any v all us had c d) (new_any v all us (u.0.text ∷ had) c d) (new_any v all us (u.0.text ∷ had) (suc c) (suc d))
  where
    go : (s : Bool) (o : Option Binding) (w : Bool) → got_new (gets v all us had c) ≡ got_new (gets v all us had d)
        → got_new (gets v all us (u.0.text ∷ had) c) ≡ got_new (gets v all us (u.0.text ∷ had) d)
        → got_new (gets v all us (u.0.text ∷ had) (suc c)) ≡ got_new (gets v all us (u.0.text ∷ had) (suc d))
        → got_new (elim s [
          | true ↦ gets v all us had c
          | false ↦ elim o [
            | None ↦ gets v all us had c
            | Some b ↦ elim w [
              | true ↦ record { name = u.0; own = b.own; home = b.home; from = None } ∷ gets v all us (u.0.text ∷ had) c
              | false ↦ record { name = u.0; own = c; home = b.home; from = Some b.own } ∷ gets v all us (u.0.text ∷ had) (suc c)
            ]
          ]
        ])
        ≡ got_new (elim s [
          | true ↦ gets v all us had d
          | false ↦ elim o [
            | None ↦ gets v all us had d
            | Some b ↦ elim w [
              | true ↦ record { name = u.0; own = b.own; home = b.home; from = None } ∷ gets v all us (u.0.text ∷ had) d
              | false ↦ record { name = u.0; own = d; home = b.home; from = Some b.own } ∷ gets v all us (u.0.text ∷ had) (suc d)
            ]
          ]
        ])
    go true o w p q r = p
    go false None w p q r = p
    go false (Some b) true p q r = q
    go false (Some b) false p q r = ap (λ (xs : List New). record { home = b.home; name = u.0 } ∷ xs) r

pub all_new_any : (f : ParamsOf) (v : Env) (bs : Blocks) (c d : ℕ) → all_new (all_get f v bs c) ≡ all_new (all_get f v bs d)
all_new_any f v Last c d = refl
all_new_any f v (Also a bs) c d =
    let us = uses_block f a in
    ap₂ {B = List New} (λ (x y : List New). x ++ y) (new_any v us us [] c d) (all_new_any f v bs (c + length (got_new (gets v us us [] c))) (d + length (got_new (gets v us us [] d))))

-- the new cells of a branch, and then those of the others
pub branch_news : (text : List ℕ) (f : ParamsOf) (v : Env) (a : Block) (bs : Blocks) (xs ys zs : List code-new.New) (gs : List Got) (r : Result (Unit {0}) Error)
    → gs ≡ gets v (uses_block f a) (uses_block f a) [] 0 → news text ys ≡ news text xs ++ got_new gs → MoreNews text ys (all_new (all_get f v bs 0)) r zs
    → MoreNews text xs (all_new (all_get f v (Also a bs) 0)) r zs
branch_news text f v a bs xs ys zs gs (Ok u) e h k =
    let us = uses_block f a in
    let first = got_new (gets v us us [] 0) in
    k ∙ ap (λ (ns : List New). ns ++ all_new (all_get f v bs 0)) (h ∙ ap (λ (x : List Got). news text xs ++ got_new x) e)
    ∙ append_assoc (news text xs) first (all_new (all_get f v bs 0)) ∙ ap (λ (ns : List New). news text xs ++ (first ++ ns)) (all_new_any f v bs 0 (0 + length first))
branch_news text f v a bs xs ys zs gs (Err x) e h k = k
