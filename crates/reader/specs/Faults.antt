-- Refusals of a text: their numbers and stages, and results that stop at the first fault.
use Rattle.std.specs.Prelude.{◌≡◌, ℕ, Bool, true, false, List, ◌++◌, Ok, Err, Result, codes, decimal}
use Rattle.reader.specs.declared.fault.Fault.{Fault}
use Rattle.reader.specs.declared.fault.Cause.{Cause}
use Rattle.reader.specs.declared.fault.Cause.TheVariants.{
  TextTooLong,
  NoToken,
  NotAllowed,
  TooDeep,
  NotVisible,
  Redeclared,
  ArgumentCount,
  OutOfRange,
  OverLimit,
  WrittenTwice,
  ReferencedTwice,
  PortTwice,
  Uncaught,
}
use Rattle.reader.specs.declared.fault.Error.{Error}
use Rattle.reader.specs.declared.fault.Error.TheVariants.{Refused, OutOfMemory}

abbrev pub number_of : Cause → ℕ
number_of TextTooLong = 11
number_of NoToken = 12
number_of NotAllowed = 13
number_of TooDeep = 14
number_of NotVisible = 15
number_of Redeclared = 16
number_of ArgumentCount = 17
number_of OutOfRange = 18
number_of OverLimit = 19
number_of WrittenTwice = 20
number_of ReferencedTwice = 21
number_of PortTwice = 22
number_of Uncaught = 23

abbrev pub stage_of : Cause → ℕ
stage_of TextTooLong = 1
stage_of NoToken = 1
stage_of NotAllowed = 2
stage_of TooDeep = 2
stage_of NotVisible = 3
stage_of Redeclared = 3
stage_of ArgumentCount = 3
stage_of OutOfRange = 3
stage_of OverLimit = 4
stage_of WrittenTwice = 5
stage_of ReferencedTwice = 5
stage_of PortTwice = 5
stage_of Uncaught = 5

-- what a stage answers: a value, or the fault
abbrev pub Answer : Type 0 → Type 0
Answer A = Result A Fault

abbrev pub refuse : {A : Type 0} → Cause → ℕ → Answer A
refuse c at = Err (record { cause = c; offset = at })

-- the first fault counts
infixl 20 ◌>>=◌
abbrev pub ◌>>=◌ : {A B : Type 0} → Answer A → (A → Answer B) → Answer B
◌>>=◌ (Ok a) f = f a
◌>>=◌ (Err e) f = Err e

-- what must hold, and the refusal if it does not
abbrev pub must : Bool → Cause → ℕ → Answer (Unit {0})
must true c at = Ok tt
must false c at = refuse c at

-- why clearing failed, in the code's own error type
abbrev pub refused_for : Fault → Error
refused_for f = Refused f

abbrev pub no_memory : Error
no_memory = OutOfMemory

-- how a refusal is printed
abbrev pub refusal_text : Fault → List ℕ
refusal_text f = codes "refused=" ++ decimal (number_of f.cause) ++ codes " at=" ++ decimal f.offset ++ codes " stage=" ++ decimal (stage_of f.cause)

abbrev pub error_text : Error → List ℕ
error_text (Refused f) = refusal_text f
error_text OutOfMemory = codes "out of memory"

-- Code that allocates may also run out of memory; otherwise it answers what the definition says,
-- where `shows` tells how a value of the code stands for one of the definition.
abbrev pub Meets : {A V : Type 0} → (V → A → Type 0) → Result V Error → Answer A → Type 0
Meets shows (Ok v) (Ok a) = shows v a
Meets shows (Ok v) (Err f) = ⊥
Meets shows (Err (Refused g)) (Ok a) = ⊥
Meets shows (Err (Refused g)) (Err f) = g ≡ f
Meets shows (Err OutOfMemory) r = Unit {0}
