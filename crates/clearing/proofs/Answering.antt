-- What the stages answer, one after another.
use Rattle.std.proofs.Common.{◌≡◌, Ok, Err, Result, sym, ap, subst}
use Rattle.reader.specs.declared.fault.Error.{Error}
use Rattle.reader.specs.declared.fault.Error.TheVariants.{Refused, OutOfMemory}
use Rattle.reader.specs.Faults.{Answer, Meets, ◌>>=◌}
use Rattle.unfold.specs.Views.{Gives}

-- after a refusal nothing follows
pub met_stops : {A B V W : Type 0} (P : V → A → Type 0) (view : W → B) (e : Error) (a : Answer A) (f : A → Answer B)
    → Meets P (Err e) a → Gives view (Err e) (a >>= f)
met_stops P view (Refused g) (Ok x) f h = absurd h
met_stops P view (Refused g) (Err i) f h = ap Err (sym h)
met_stops P view OutOfMemory a f h = tt

pub given_stops : {A B V W : Type 0} (view : V → A) (other : W → B) (e : Error) (a : Answer A) (f : A → Answer B)
    → Gives view (Err e) a → Gives other (Err e) (a >>= f)
given_stops view other (Refused g) a f h = ap (λ r. r >>= f) h
given_stops view other OutOfMemory a f h = tt

-- another answer of the code that stands for the same
pub given_by : {A V : Type 0} (view : V → A) {x y : Result V Error} {a b : Answer A} → x ≡ y → a ≡ b → Gives view x a → Gives view y b
given_by {A} {V} view {x} {y} {a} {b} e i h =
    subst (λ (r : Result V Error). Gives view r b) e (subst (λ (z : Answer A). Gives view x z) i h)
