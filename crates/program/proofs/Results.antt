-- Small facts on answers: what was granted, and what a test or a search must then have given.
use Rattle.std.proofs.Common.{◌≡◌, ℕ, Bool, true, false, T, Some, None, Ok, Err, Option, refl, ap, arith}
use Rattle.reader.specs.declared.fault.Cause.{Cause}
use Rattle.reader.specs.Faults.{Answer, must, ◌>>=◌}
use Rattle.unfold.specs.Scopes.{found}

pub ok_eq : {A : Type 0} (a b : A) → ◌≡◌ {A = Answer A} (Ok a) (Ok b) → a ≡ b
ok_eq a b e = cc

pub bound : {A B : Type 0} (r : Answer A) (f : A → Answer B) (b : B) → (r >>= f) ≡ Ok b → (a : A) × (r ≡ Ok a) × (f a ≡ Ok b)
bound (Ok a) f b e = (a, refl, e)
bound (Err x) f b e = absurd (let z : ◌≡◌ {A = ℕ} 0 1 = cc in omega arith)

pub must_be : (b : Bool) (k : Cause) (o : ℕ) (u : Unit {0}) → must b k o ≡ Ok u → T b
must_be true k o u e = tt
must_be false k o u e = absurd (let z : ◌≡◌ {A = ℕ} 0 1 = cc in omega arith)

pub found_is : {A : Type 0} (k : Cause) (at : ℕ) (o : Option A) (b : A) → found k at o ≡ Ok b → o ≡ Some b
found_is k at None b e = absurd (let z : ◌≡◌ {A = ℕ} 0 1 = cc in omega arith)
found_is k at (Some a) b e = ap Some (ok_eq a b e)
