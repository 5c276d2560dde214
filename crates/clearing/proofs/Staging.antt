-- From the unfolded text to the program that the definition of clearing has.
use Rattle.std.proofs.Common.{◌≡◌, ℕ, suc, List, [], Ok, Err, refl, ap, ◌∙◌, subst, arith, length-append}
use Rattle.reader.specs.Faults.{Answer, ◌>>=◌}
use Rattle.reader.specs.Tokens.{tokenized}
use Rattle.grammar.specs.Parsing.{parsed}
use Rattle.names.specs.Naming.{Reading, named}
use Rattle.rules.specs.Soundness.{Sound}
use Rattle.unfold.specs.Unfolded.{Nodes}
use Rattle.unfold.specs.Unfolding.{unfolded}
use Rattle.unfold.specs.Sharing.{sharing}
use Rattle.program.specs.Sizes.{size, how_many}
use Rattle.program.specs.Layout.{Program, laid_out, table_of, points, ends}
use Rattle.program.specs.Clearing.{cleared, program_of, left}
use Rattle.program.specs.Guarantees.{Bounded, UnfoldedWithin}
use Rattle.program.proofs.Accept.{accepted_sound, ends_size}
use Rattle.program.proofs.Agree.{points_size, placing_size}
use Rattle.program.proofs.Guaranteed.{numbers_are_within_lem}
use Rattle.program.proofs.Results.{bound}
use Rattle.clearing.specs.Cleared.{statements_of}
use Rattle.clearing.specs.Stages.{tree_of, nodes_of, nodes_in}

-- the layout is all that the definition adds
onto : {A : Type 0} (a : Answer A) (f : A → Answer Program) (g : A → Answer Nodes) → ((x : A) → f x ≡ (g x >>= (λ us. Ok (laid_out us))))
    → (a >>= f) ≡ (a >>= g >>= (λ us. Ok (laid_out us)))
onto (Ok x) f g h = h x
onto (Err e) f g h = refl

grouped : {A B C : Type 0} (a : Answer A) (f : A → Answer B) (g : B → Answer C) → (a >>= (λ x. f x >>= g)) ≡ (a >>= f >>= g)
grouped (Ok x) f g = refl
grouped (Err e) f g = refl

pub laid_by : (l : Reading) (bs : List ℕ) → cleared l bs ≡ (nodes_in l bs >>= (λ us. Ok (laid_out us)))
laid_by l bs =
    grouped (tokenized bs) parsed (program_of l)
    ∙ onto (tree_of bs) (program_of l) (nodes_of l)
    (λ t. onto (named l t) _ _ (λ ps. onto (unfolded l ps t.main) _ _ (λ us. onto (sharing [] us) _ _ (λ u. refl))))

pub cleared_to : (l : Reading) (bs : List ℕ) (us : Nodes) → nodes_in l bs ≡ Ok us → cleared l bs ≡ Ok (laid_out us)
cleared_to l bs us e = laid_by l bs ∙ ap (λ (a : Answer Nodes). a >>= (λ vs. Ok (laid_out vs))) e

-- what the last stages let pass
shared_ok : (us vs : Nodes) (a : Answer (Unit {0})) → (a >>= (λ u. Ok us)) ≡ Ok vs → us ≡ vs
shared_ok us vs (Ok u) e = cc
shared_ok us vs (Err g) e = absurd (let z : ◌≡◌ {A = ℕ} 0 1 = cc in omega arith)

unfolded_ok : (vs : Nodes) (a : Answer Nodes) → (a >>= (λ us. sharing [] us >>= (λ u. Ok us))) ≡ Ok vs → a ≡ Ok vs
unfolded_ok vs (Ok us) e = ap Ok (shared_ok us vs (sharing [] us) e)
unfolded_ok vs (Err g) e = absurd (let z : ◌≡◌ {A = ℕ} 0 1 = cc in omega arith)

-- what was unfolded is within its bounds, and its layout is bounded and sound
pub nodes_within : (l : Reading) (bs : List ℕ) (us : Nodes) → nodes_in l bs ≡ Ok us → UnfoldedWithin us
nodes_within l bs us e =
    let t = bound (tree_of bs) (λ t. nodes_of l t) us e in
    let p = bound (named l t.0) (λ ps. unfolded l ps t.0.main >>= (λ us. sharing [] us >>= (λ u. Ok us))) us t.2 in
    numbers_are_within_lem.1 l p.0 t.0.main us (unfolded_ok us (unfolded l p.0 t.0.main) p.2)

pub nodes_bounded : (l : Reading) (bs : List ℕ) (us : Nodes) → nodes_in l bs ≡ Ok us → Bounded (laid_out us)
nodes_bounded l bs us e =
    subst (λ (a : Answer Program). Bounded (left a)) (cleared_to l bs us e) (numbers_are_within_lem.0 l bs)

pub nodes_sound : (l : Reading) (bs : List ℕ) (us : Nodes) → nodes_in l bs ≡ Ok us → Sound (table_of (laid_out us))
nodes_sound l bs us e = subst (λ (a : Answer Program). Sound (table_of (left a))) (cleared_to l bs us e) (accepted_sound l bs)

-- the points are those of the statements and the ends of the places
pub statements_are : (us : Nodes) → size us ≡ statements_of (laid_out us)
statements_are us =
    let e = size us in
    omega (arith, length-append (points e 0 [] [] us 1 0 e) (ends e 0 (suc (how_many us))), points_size e 0 [] [] us 1 0 e, ends_size e 0 (suc (how_many us)), placing_size e 0 us 1 0)
