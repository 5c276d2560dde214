-- What follows an answer.
use Rattle.std.proofs.Common.{◌≡◌, Ok, Err, sym, ap}
use Rattle.reader.specs.declared.fault.Fault.{Fault}
use Rattle.reader.specs.Faults.{Answer, ◌>>=◌}

pub bind_ok : {A B : Type 0} {r : Answer A} (x : A) (f : A → Answer B) → Ok x ≡ r → (r >>= f) ≡ f x
bind_ok x f e = sym (ap (λ r. r >>= f) e)

pub bind_err : {A B : Type 0} {r : Answer A} (e : Fault) (f : A → Answer B) → Err e ≡ r → (r >>= f) ≡ Err e
bind_err e f h = sym (ap (λ r. r >>= f) h)
