-- The first block of a statement with the try that it stands in, and then the second without it.
use Rattle.std.proofs.Common.{◌≡◌, ℕ, List, [], ◌++◌, length, take, Ok, Err, Result, sym, refl, ap, ◌∙◌, append-nil}
use Rattle.reader.specs.declared.fault.Error.{Error}
use Rattle.reader.specs.declared.fault.Error.TheVariants.{Refused, OutOfMemory}
use Rattle.reader.specs.Faults.{Answer, Meets, ◌>>=◌}
use Rattle.grammar.specs.declared.tree.Name as code-name
use Rattle.names.specs.Scopes.{scope}
use Rattle.names.proofs.Stacks.{stacked_push}
use Rattle.names.proofs.Declaring.{met_ok, cut}
use Rattle.unfold.specs.declared.nodes.Part as code-part
use Rattle.unfold.specs.declared.nodes.Part.TheVariants as parts
use Rattle.unfold.specs.declared.nodes.Nodes as code-nodes
use Rattle.unfold.specs.Sharing.{part_sharing, part_tries, sharing}
use Rattle.unfold.specs.Views.{part, nodes}
use Rattle.sharing.specs.Opening.{opens}

pub opened_scope : (text : List ℕ) (ns : List code-name.Name) (h : code-part.Part) → scope text (ns ++ opens h) ≡ part_tries (scope text ns) (part text h)
opened_scope text ns parts.Plain = ap (scope text) (append-nil ns)
opened_scope text ns (parts.Calls cs rs) = ap (scope text) (append-nil ns)
opened_scope text ns (parts.Tests e) = ap (scope text) (append-nil ns)
opened_scope text ns (parts.Loops e) = ap (scope text) (append-nil ns)
opened_scope text ns (parts.Tries n) = stacked_push text [] ns n
opened_scope text ns (parts.Takes i c) = ap (scope text) (append-nil ns)

-- what the stage says of a statement with two blocks
abbrev pub both : List ℕ → List code-name.Name → ℕ → code-part.Part → code-nodes.Nodes → code-nodes.Nodes → Answer (Unit {0})
both text ns at h a b =
    part_sharing at (part text h) >>= (λ u. sharing (part_tries (scope text ns) (part text h)) (nodes text a) >>= (λ w. sharing (scope text ns) (nodes text b)))

-- ms is the table after the try is open
pub first_is : (text : List ℕ) (ns ms : List code-name.Name) (at : ℕ) (h : code-part.Part) (a a' b : code-nodes.Nodes)
    → a' ≡ a → Ok tt ≡ part_sharing at (part text h) → ms ≡ ns ++ opens h
    → (sharing (scope text ms) (nodes text a') >>= (λ w. sharing (scope text ns) (nodes text b))) ≡ both text ns at h a b
first_is text ns ms at h a a' b i e d =
    let F : Unit {0} → Answer (Unit {0}) = λ w. sharing (scope text ns) (nodes text b) in
    ap (λ (x : code-nodes.Nodes). sharing (scope text ms) (nodes text x) >>= F) i
    ∙ ap (λ (ts : List (List ℕ)). sharing ts (nodes text a) >>= F) (ap (scope text) d ∙ opened_scope text ns h)
    ∙ ap (λ (r : Answer (Unit {0})). r >>= (λ u. sharing (part_tries (scope text ns) (part text h)) (nodes text a) >>= F)) e

-- text' and ms' are the text and the table after the first block, xs the table when the try is closed
pub second_is : (text text' : List ℕ) (ns ms ms' xs : List code-name.Name) (n at : ℕ) (h : code-part.Part) (a a' b b' : code-nodes.Nodes) (whole : Answer (Unit {0}))
    → whole ≡ both text ns at h a b → a' ≡ a → b' ≡ b → Ok tt ≡ part_sharing at (part text h) → ms ≡ ns ++ opens h
    → Meets (λ (u w : Unit {0}). (text' ≡ text) × (ms' ≡ ms)) (Ok tt) (sharing (scope text ms) (nodes text a')) → n ≡ length ns → xs ≡ take n ms'
    → (sharing (scope text' xs) (nodes text' b') ≡ whole) × (text' ≡ text) × (xs ≡ ns)
second_is text text' ns ms ms' xs n at h a a' b b' whole is i j e d first hn hx =
    let o = met_ok (λ (u w : Unit {0}). (text' ≡ text) × (ms' ≡ ms)) tt (sharing (scope text ms) (nodes text a')) first in
    let k : xs ≡ ns = cut ns ns ms ms' xs (opens h) n refl d o.2.1 hn hx in (
      ap (λ (x : List ℕ). sharing (scope x xs) (nodes x b')) o.2.0
          ∙ ap (λ (ys : List code-name.Name). sharing (scope text ys) (nodes text b')) k
          ∙ ap (λ (x : code-nodes.Nodes). sharing (scope text ns) (nodes text x)) j
          ∙ sym (ap (λ (x : Answer (Unit {0})). x >>= (λ w. sharing (scope text ns) (nodes text b))) o.1) ∙ first_is text ns ms at h a a' b i e d ∙ sym is,
      o.2.0,
      k,
    )

-- what is met is met by what follows from it
pub met_map : {V A : Type 0} (P Q : V → A → Type 0) (x : Result V Error) (r : Answer A) → ((v : V) (a : A) → P v a → Q v a) → Meets P x r → Meets Q x r
met_map P Q (Ok v) (Ok a) f h = f v a h
met_map P Q (Ok v) (Err e) f h = h
met_map P Q (Err (Refused g)) (Ok a) f h = h
met_map P Q (Err (Refused g)) (Err e) f h = h
met_map P Q (Err OutOfMemory) r f h = tt
