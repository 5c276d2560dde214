-- A run, one choice at a time; and what the listing holds.
use Rattle.std.proofs.Common.{◌≡◌, ℕ, zero, suc, Some, ◌+◌, ◌%◌, ◌<◌, ◌≤◌, Bool, true, false, cond, ◌&&◌, eqb, ltb, List, [], ◌∷◌, ◌++◌, length, get_or, drop, sym, refl, ap, ◌∙◌, subst, add-zero, zero-add, arith}
use mathlib.Core.Option.{some, none}
use Rattle.std.proofs.lemmas.List.{drop_more}
use Rattle.std.proofs.lemmas.Bool.{cond-true, cond-false, ne_eqb, eq-eqb, lt-ltb, le-ltb, and_parts, eqb-true}
use Rattle.banks.specs.Banks.{Words}
use Rattle.numbers.specs.Kinds.{Meaning}
use Rattle.rules.specs.Programs.{Table}
use Rattle.rules.specs.States.{State, Move, step, close, meet, poison}
use Rattle.rules.specs.Moves.{made}
use Rattle.rules.specs.Tests.{permitted}
use Rattle.rules.specs.Listings.{listing, nth, each, if_permitted, steps_of, closes_of, meets_of, poisons_of}
use Rattle.rules.specs.Names.{Exists}
use Rattle.rules.specs.Choices.{Ran, one_more, stopped, chosen, made_if, run}
use Rattle.calls.specs.declared.powered.Board.{Board}
use Rattle.rules.specs.declared.answers.Stop.{Stop}
use Rattle.rules.specs.declared.answers.Stop.TheVariants.{Rest, Limit, End}
use Rattle.calls.specs.Boards.{state_of}
use Rattle.tables.specs.Views.{cells_of}
use Rattle.calls.specs.Boards.{RunTells, Stops, last_stop}
use Rattle.board.specs.declared.state.State as code
use Rattle.tables.specs.declared.tables.Tables.{Tables}
use Rattle.tables.specs.Views.{table}
use Rattle.board.specs.Views.{portless, view}

abbrev pub plus : ℕ → Ran → Ran
plus n r = record { number = n + r.number; stop = r.stop; left = r.left }

pub plus_none : (r : Ran) → r ≡ plus 0 r
plus_none r = ap (λ n. record { number = n; stop = r.stop; left = r.left }) (sym (zero-add r.number))

pub plus_one : (n : ℕ) (r : Ran) → plus n (one_more r) ≡ plus (n + 1) r
plus_one n r = ap (λ m. record { number = m; stop = r.stop; left = r.left }) (omega arith)

module _ (k : Meaning) (t : Table) (m : ℕ) (s : State) where
  pub run_rest : (cs : List ℕ) → length (listing t s m) ≡ 0 → run k t m s cs ≡ stopped s Rest
  unfolding run
  run_rest [] e = ap (stopped s) (cond-true _ _ _ (eq-eqb _ 0 e))
  run_rest (c ∷ cs) e = cond-true _ _ _ (eq-eqb _ 0 e)

  pub run_full : (cs : List ℕ) → (length (listing t s m) ≡ 0 → ⊥) → 1000000000 ≤ s.total → run k t m s cs ≡ stopped s Limit
  unfolding run
  run_full [] ne full = ap (stopped s) (cond-false _ _ _ (ne_eqb _ 0 ne) ∙ cond-false _ _ _ (le-ltb _ _ full))
  run_full (c ∷ cs) ne full = cond-false _ _ _ (ne_eqb _ 0 ne) ∙ cond-false _ _ _ (le-ltb _ _ full)

  pub run_stopped : (e : Stop) (n : ℕ) → n ≡ length (listing t s m) → Stops n s.total (Some e) → (cs : List ℕ) → run k t m s cs ≡ stopped s e
  run_stopped Rest n len h cs = run_rest cs (sym len ∙ h)
  run_stopped Limit n len h cs = run_full cs (λ e. h.0 (len ∙ e)) h.1
  run_stopped End n len h cs = absurd h

  pub run_end : (e : Stop) → e ≡ last_stop t m s → run k t m s [] ≡ stopped s e
  unfolding run
  run_end e h = ap (stopped s) (sym h)

  pub run_more : (c : ℕ) (cs : List ℕ) → (length (listing t s m) ≡ 0 → ⊥) → s.total < 1000000000
      → run k t m s (c ∷ cs) ≡ one_more (run k t m (made_if k t s (chosen t m s c)) cs)
  unfolding run
  run_more c cs ne under = cond-false _ _ _ (ne_eqb _ 0 ne) ∙ cond-true _ _ _ (lt-ltb _ _ under)

  pub run_next : (r : State) (cs : List ℕ) (i : ℕ) (x : Move) → i < length cs → (length (listing t s m) ≡ 0 → ⊥) → s.total < 1000000000
      → some x ≡ chosen t m s (get_or cs i 0) → r ≡ made k t s x
      → run k t m s (drop i cs) ≡ one_more (run k t m r (drop (i + 1) cs))
  run_next r cs i x lt ne under e f =
      ap (run k t m s) (drop_more cs i 0 lt) ∙ run_more (get_or cs i 0) (drop (i + 1) cs) ne under
      ∙ ap (λ o. one_more (run k t m o (drop (i + 1) cs))) (ap (made_if k t s) (sym e) ∙ sym f)

-- where a run ends
pub stops : {K B : Type 0} (k : Meaning) (words : B → Words) (x y : Board K B) (cs : List ℕ) (n : ℕ) (e : Stop) (ds : List ℕ)
    → run k (table x.tables) (cells_of x.tables) (state_of words x) cs ≡ plus n (run k (table x.tables) (cells_of x.tables) (state_of words y) ds)
    → run k (table x.tables) (cells_of x.tables) (state_of words y) ds ≡ stopped (state_of words y) e
    → y.tables ≡ x.tables → y.kind ≡ x.kind → RunTells k words x cs (n, e) y
stops k words x y cs n e ds a b t same =
    let all : run k (table x.tables) (cells_of x.tables) (state_of words x) cs ≡ plus n (stopped (state_of words y) e) = a ∙ ap (plus n) b in
    record {
      number = sym (ap (λ (r : Ran). r.number) all ∙ add-zero n);
      stop = sym (ap (λ (r : Ran). r.stop) all);
      leaves = sym (ap (λ (r : Ran). r.left) all);
      tables = t;
      same_kind = same;
    }

-- ---- the listing holds permitted moves of the board

pub nth_within : (xs : List Move) (i : ℕ) → i < length xs → nth xs i ≡ none → ⊥
nth_within [] i h e = omega arith
nth_within (x ∷ xs) zero h e = let z : ◌≡◌ {A = ℕ} 0 1 = cc in omega arith
nth_within (x ∷ xs) (suc i) h e = nth_within xs i (omega arith) e

module _ (P : Move → Type 0) where
  abbrev All : List Move → Type 0
  All xs = (i : ℕ) (x : Move) → nth xs i ≡ some x → P x

  all_none : All []
  all_none i x e = absurd (let z : ◌≡◌ {A = ℕ} 0 1 = cc in omega arith)

  all_append : (xs ys : List Move) → All xs → All ys → All (xs ++ ys)
  all_append [] ys a b i x e = b i x e
  all_append (z ∷ xs) ys a b zero x e = a zero x e
  all_append (z ∷ xs) ys a b (suc i) x e = all_append xs ys (λ j y f. a (suc j) y f) b i x e

  all_each : (f : ℕ → List Move) (n : ℕ) → ((k : ℕ) → k < n → All (f k)) → All (each f n)
  all_each f zero h = all_none
  all_each f (suc n) h = all_append (each f n) (f n) (all_each f n (λ k l. h k (omega arith))) (h n (omega arith))

  all_one : (b : Bool) (m : Move) → (b ≡ true → P m) → All (cond b (m ∷ []) [])
  all_one true m h zero x e = let s : m ≡ x = cc in subst P s (h refl)
  all_one true m h (suc i) x e = all_none i x e
  all_one false m h i x e = all_none i x e

abbrev pub Granted : Table → ℕ → State → Move → Type 0
Granted t n s x = Exists t n x × (permitted t s x ≡ true)

own_home : (t : Table) (h : ℕ) (b : Bool) → (eqb (t.home h) h && b) ≡ true → t.home h ≡ h
own_home t h b e = eqb-true (t.home h) h (and_parts (eqb (t.home h) h) b e).0

pub all_granted : (t : Table) (s : State) (n : ℕ) (i : ℕ) (x : Move) → nth (listing t s n) i ≡ some x → Granted t n s x
unfolding listing
all_granted t s n =
    let P = Granted t n s in
    all_append P (each (steps_of t s) t.places) _
    (all_each P (steps_of t s) t.places (λ p l. all_one P (permitted t s (step p)) (step p) (λ e. (l, e))))
    (all_append P (each (closes_of t s) t.places) _
    (all_each P (closes_of t s) t.places (λ p l. all_one P (permitted t s (close p)) (close p) (λ e. (l, e))))
    (all_append P (each (meets_of t s) n) _
    (all_each P (meets_of t s) n (λ h l. all_one P (permitted t s (meet h)) (meet h) (λ e. ((l, own_home t h _ e), e))))
    (all_each P (poisons_of t s n) t.places (λ p l.
    all_each P (λ h. if_permitted t s (poison p h)) n (λ h j. all_one P (permitted t s (poison p h)) (poison p h) (λ e. ((l, j, own_home t h _ e), e)))))))

-- ---- the listing of a board that kept its tables

pub same_without_ports : (t : Table) (s : code.State) (w : ℕ → List ℕ) (m : ℕ) → listing t (portless s) m ≡ listing t (view s w) m
unfolding listing
same_without_ports t s w m = refl

module _ {K B : Type 0} (words : B → Words) (x y : Board K B) (e : y.tables ≡ x.tables) where
  same_listing : listing (table y.tables) (portless y.state) (cells_of y.tables) ≡ listing (table x.tables) (state_of words y) (cells_of x.tables)
  same_listing =
      ap (λ (tb : Tables). listing (table tb) (portless y.state) (cells_of tb)) e
      ∙ same_without_ports (table x.tables) y.state (words y.bank) (cells_of x.tables)

  pub same_length : (n : ℕ) → n ≡ length (listing (table y.tables) (portless y.state) (cells_of y.tables))
      → n ≡ length (listing (table x.tables) (state_of words y) (cells_of x.tables))
  same_length n h = h ∙ ap length same_listing

  pub same_chosen : (n c : ℕ) (v : Move) → n ≡ length (listing (table y.tables) (portless y.state) (cells_of y.tables))
      → some v ≡ nth (listing (table y.tables) (portless y.state) (cells_of y.tables)) (c % n)
      → some v ≡ chosen (table x.tables) (cells_of x.tables) (state_of words y) c
  same_chosen n c v h e =
      e ∙ ap (λ i. nth (listing (table y.tables) (portless y.state) (cells_of y.tables)) (c % i)) h
      ∙ ap (λ xs. nth xs (c % length xs)) same_listing

  pub same_last : (e : Stop) → e ≡ last_stop (table y.tables) (cells_of y.tables) (portless y.state)
      → e ≡ last_stop (table x.tables) (cells_of x.tables) (state_of words y)
  same_last e h =
      h ∙ ap (λ (xs : List Move). cond (eqb (length xs) 0) Rest (cond (ltb y.state.total 1000000000) End Limit)) same_listing
