-- Arguments that are passed one by one; answers that follow answers.
use Rattle.std.proofs.Common.{◌≡◌, ℕ, suc, ◌+◌, Bool, true, false, ◌⊎◌, List, [], ◌∷◌, ◌++◌, length, Ok, Err, sym, refl, ap, ◌∙◌, inl, inr, append_assoc, append-nil, arith, length-append}
use mathlib.Core.Path.{fun_ext}
use Rattle.reader.specs.declared.fault.Fault.{Fault}
use Rattle.reader.specs.declared.fault.Error.TheVariants.{Refused}
use Rattle.reader.specs.Faults.{Answer, ◌>>=◌}
use Rattle.grammar.specs.declared.tree.Name as code-name
use Rattle.grammar.specs.declared.tree.Param as code-param
use Rattle.grammar.specs.Trees.{Name, Param}
use Rattle.grammar.specs.Views.{name, names, param, params}
use Rattle.rules.specs.Programs as rules
use Rattle.unfold.specs.declared.nodes.New as code-new
use Rattle.tables.specs.declared.stmt.Copied.{Copied}
use Rattle.tables.specs.Stms.{copies}
use Rattle.unfold.specs.declared.scopes.Binding as code-binding
use Rattle.unfold.specs.Unfolded.{New}
use Rattle.unfold.specs.Scopes.{Binding, Env, stands}
use Rattle.unfold.specs.Unfolding.{Passed, by_reference, by_value, passes}
use Rattle.unfold.specs.Passing.{pass_by, brought}
use Rattle.unfold.specs.Views.{env, news, new, spellings, binding, Gives}
use Rattle.unfold.proofs.Gains.{env_push, news_app}

bind_assoc : {A B C : Type 0} (m : Answer A) (f : A → Answer B) (g : B → Answer C) → ((m >>= f) >>= g) ≡ (m >>= (λ x. f x >>= g))
bind_assoc (Ok a) f g = refl
bind_assoc (Err e) f g = refl

copies_push : (ts : List Copied) (t : Copied) → copies (ts ++ (t ∷ [])) ≡ copies ts ++ ((t.to, t.from) ∷ [])
copies_push [] t = refl
copies_push (s ∷ ts) t = ap (λ (xs : rules.Copies). (s.to, s.from) ∷ xs) (copies_push ts t)

spellings_push : (text : List ℕ) (ns : List code-name.Name) (n : code-name.Name) → spellings text (ns ++ (n ∷ [])) ≡ spellings text ns ++ ((name text n).text ∷ [])
spellings_push text [] n = refl
spellings_push text (m ∷ ns) n = ap (λ (xs : List (List ℕ)). (name text m).text ∷ xs) (spellings_push text ns n)

-- what was passed, by its lists
abbrev pub listed : List ℕ → List code-binding.Binding → List Copied → List code-new.New → List code-name.Name → Passed → Passed
listed text E C N R r = record { env = env text E ++ r.env; copies = copies C ++ r.copies; news = news text N ++ r.news; refs = spellings text R ++ r.refs }

same_passed : (e e' : Env) (c c' : rules.Copies) (n n' : List New) (r r' : List (List ℕ)) → e ≡ e' → c ≡ c' → n ≡ n' → r ≡ r'
    → ◌≡◌ {A = Passed} (record { env = e; copies = c; news = n; refs = r }) (record { env = e'; copies = c'; news = n'; refs = r' })
same_passed e e' c c' n n' r r' p q s t = cc

module _ (text : List ℕ) (p : code-param.Param) (a : code-name.Name) (b : code-binding.Binding) (k : ℕ)
    (E E' : List code-binding.Binding) (C C' : List Copied) (N N' : List code-new.New) (R R' : List code-name.Name) where
  pub ref_on : (t : Bool) → t ≡ true → E' ≡ E ++ (record { name = p.name; own = b.own; home = b.home } ∷ []) → R' ≡ R ++ (a ∷ [])
      → (r : Passed) → listed text E C N R (pass_by t (param text p) (name text a) (binding text b) k r) ≡ listed text E' C N R' r
  ref_on t h e f r =
      let x : code-binding.Binding = record { name = p.name; own = b.own; home = b.home } in
      ap (λ (z : Bool). listed text E C N R (pass_by z (param text p) (name text a) (binding text b) k r)) h
      ∙ same_passed _ _ _ _ _ _ _ _
      (sym (append_assoc (env text E) (binding text x ∷ []) r.env) ∙ ap (λ (z : Env). z ++ r.env) (sym (env_push text E x) ∙ ap (env text) (sym e)))
      refl refl
      (sym (append_assoc (spellings text R) ((name text a).text ∷ []) r.refs) ∙ ap (λ (z : List (List ℕ)). z ++ r.refs) (sym (spellings_push text R a) ∙ ap (spellings text) (sym f)))

  pub value_on : (t : Bool) → t ≡ false → E' ≡ E ++ (record { name = p.name; own = k; home = b.home } ∷ []) → C' ≡ C ++ (record { to = k; from = b.own } ∷ [])
      → N' ≡ N ++ (record { home = b.home; name = p.name } ∷ [])
      → (r : Passed) → listed text E C N R (pass_by t (param text p) (name text a) (binding text b) k r) ≡ listed text E' C' N' R r
  value_on t h e f g r =
      let x : code-binding.Binding = record { name = p.name; own = k; home = b.home } in
      let y : Copied = record { to = k; from = b.own } in
      let z : code-new.New = record { home = b.home; name = p.name } in
      ap (λ (z : Bool). listed text E C N R (pass_by z (param text p) (name text a) (binding text b) k r)) h
      ∙ same_passed _ _ _ _ _ _ _ _
      (sym (append_assoc (env text E) (binding text x ∷ []) r.env) ∙ ap (λ (w : Env). w ++ r.env) (sym (env_push text E x) ∙ ap (env text) (sym e)))
      (sym (append_assoc (copies C) ((k, b.own) ∷ []) r.copies) ∙ ap (λ (w : rules.Copies). w ++ r.copies) (sym (copies_push C y) ∙ ap copies (sym f)))
      (sym (append_assoc (news text N) (new text z ∷ []) r.news) ∙ ap (λ (w : List New). w ++ r.news) (sym (news_app text N (z ∷ [])) ∙ ap (news text) (sym g)))
      refl

pub count_same : (n : ℕ) (t : Bool) → t ≡ true → n ≡ n + brought t
count_same n t h = let i = ap brought h in omega arith

pub count_more : (N N' : List code-new.New) (x : code-new.New) (t : Bool) → t ≡ false → N' ≡ N ++ (x ∷ []) → length N' ≡ length N + brought t
count_more N N' x t h e = let i = ap brought h in let j = ap length e in let l = length-append N (x ∷ []) in omega arith

-- ---- the arguments that are left

passes_more : (v : Env) (text : List ℕ) (p : code-param.Param) (ps : List code-param.Param) (a : code-name.Name) (as' : List code-name.Name) (c : ℕ)
    → passes v (params text (p ∷ ps)) (names text (a ∷ as')) c
    ≡ (stands v (name text a) >>= (λ b.
    passes v (params text ps) (names text as') (c + brought p.reference) >>= (λ r.
    Ok (pass_by p.reference (param text p) (name text a) b c r))))
passes_more v text p ps a as' c = ap (λ (f : Binding → Answer Passed). stands v (name text a) >>= f) (fun_ext (λ b. go b p.reference))
  where
    P : List Param
    P = params text ps

    A : List Name
    A = names text as'

    go : (b : Binding) (t : Bool)
        → ◌≡◌ {A = Answer Passed} (elim t [
          | true ↦ passes v P A c >>= (λ r. Ok (by_reference (param text p) (name text a) b r))
          | false ↦ passes v P A (suc c) >>= (λ r. Ok (by_value (param text p) b c r))
        ])
        (passes v P A (c + brought t) >>= (λ r. Ok (pass_by t (param text p) (name text a) b c r)))
    go b true = let e : c ≡ c + 0 = omega arith in ap (λ (n : ℕ). passes v P A n >>= (λ r. Ok (by_reference (param text p) (name text a) b r))) e
    go b false = let e : suc c ≡ c + 1 = omega arith in ap (λ (n : ℕ). passes v P A n >>= (λ r. Ok (by_value (param text p) b c r))) e

no_more : (v : Env) (ps : List Param) (c : ℕ) → passes v ps [] c ≡ Ok (record { env = []; copies = []; news = []; refs = [] })
no_more v [] c = refl
no_more v (p ∷ ps) c = refl

pub passes_end : (v : Env) (text : List ℕ) (ps : List code-param.Param) (as' : List code-name.Name) (c : ℕ) → (ps ≡ []) ⊎ (as' ≡ [])
    → passes v (params text ps) (names text as') c ≡ Ok (record { env = []; copies = []; news = []; refs = [] })
passes_end v text ps as' c (inl h) = ap (λ (qs : List code-param.Param). passes v (params text qs) (names text as') c) h
passes_end v text ps as' c (inr h) = ap (λ (bs : List code-name.Name). passes v (params text ps) (names text bs) c) h ∙ no_more v (params text ps) c

pub listed_end : (text : List ℕ) (E : List code-binding.Binding) (C : List Copied) (N : List code-new.New) (R : List code-name.Name)
    → listed text E C N R (record { env = []; copies = []; news = []; refs = [] }) ≡ record { env = env text E; copies = copies C; news = news text N; refs = spellings text R }
listed_end text E C N R = same_passed _ _ _ _ _ _ _ _ (append-nil (env text E)) (append-nil (copies C)) (append-nil (news text N)) (append-nil (spellings text R))

module _ (D : Answer Passed) (v : Env) (text : List ℕ) (ps qs : List code-param.Param) (as' bs : List code-name.Name) (p : code-param.Param) (a : code-name.Name) (c : ℕ)
    (F : Passed → Passed) (h : ps ≡ p ∷ qs) (k : as' ≡ a ∷ bs) (e : D ≡ (passes v (params text ps) (names text as') c >>= (λ r. Ok (F r)))) where
  by : Binding → Passed → Passed
  by b r = pass_by p.reference (param text p) (name text a) b c r

  rest : ℕ → Answer Passed
  rest n = passes v (params text qs) (names text bs) n

  one_more : D ≡ ((stands v (name text a) >>= (λ b. rest (c + brought p.reference) >>= (λ r. Ok (by b r)))) >>= (λ r. Ok (F r)))
  unfolding by rest
  one_more =
      e ∙ ap (λ (z : Answer Passed). z >>= (λ r. Ok (F r)))
      (ap (λ (z : List code-param.Param). passes v (params text z) (names text as') c) h
      ∙ ap (λ (z : List code-name.Name). passes v (params text (p ∷ qs)) (names text z) c) k
      ∙ passes_more v text p qs a bs c)

  -- one argument is passed, and the others follow
  pub pass_on : (d : ℕ) (b : Binding) (G : Passed → Passed) → stands v (name text a) ≡ Ok b
      → ((r : Passed) → F (pass_by p.reference (param text p) (name text a) b c r) ≡ G r) → c + brought p.reference ≡ d
      → D ≡ (passes v (params text qs) (names text bs) d >>= (λ r. Ok (G r)))
  unfolding by rest
  pass_on d b G s g n =
      one_more ∙ ap (λ (z : Answer Binding). (z >>= (λ x. rest (c + brought p.reference) >>= (λ r. Ok (by x r)))) >>= (λ r. Ok (F r))) s
      ∙ bind_assoc (rest (c + brought p.reference)) (λ r. Ok (by b r)) (λ r. Ok (F r))
      ∙ ap (λ (f : Passed → Passed). rest (c + brought p.reference) >>= (λ r. Ok (f r))) (fun_ext g)
      ∙ ap (λ (m : ℕ). rest m >>= (λ r. Ok (G r))) n

  -- an argument that stands for nothing
  pub pass_stop : {V : Type 0} (w : V → Passed) (x : Fault) → stands v (name text a) ≡ Err x → Gives w (Err (Refused x)) D
  unfolding by rest
  pass_stop {V} w x s = one_more ∙ ap (λ (z : Answer Binding). (z >>= (λ b. rest (c + brought p.reference) >>= (λ r. Ok (by b r)))) >>= (λ r. Ok (F r))) s
