-- What the code's checker sees.
use Rattle.std.specs.Prelude.{◌≡◌, List, vec_items, Result}
use Rattle.reader.specs.declared.fault.Error.{Error}
use Rattle.reader.specs.Faults.{Answer, Meets}
use Rattle.grammar.specs.Trees.{Proc}
use Rattle.names.specs.declared.checker.Checker.{Checker}
use Rattle.names.specs.Naming.{Scope}
use Rattle.names.specs.Scopes.{scope, ended}

abbrev pub vars_of : {K : Type 0} → Checker K → Scope
vars_of c = scope c.text.now (vec_items c.vars)

abbrev pub procs_of : {K : Type 0} → Checker K → List Proc
procs_of c = ended c.text.now c.procs.now

-- it sees the same before and after
abbrev pub SeesSame : {K : Type 0} → Checker K → Checker K → Type 0
SeesSame c d = (d.text.now ≡ c.text.now) × (d.procs.now ≡ c.procs.now) × (vec_items d.vars ≡ vec_items c.vars)

-- the answer for a part of the text, behind which the checker sees what it saw before
abbrev pub Checks : {K : Type 0} → Checker K → Checker K → Result (Unit {0}) Error → Answer (Unit {0}) → Type 0
Checks c d r a = Meets (λ u w. SeesSame c d) r a

-- the same for what declares variables: it sees those that the answer has
abbrev pub Declares : {K : Type 0} → Checker K → Checker K → Result (Unit {0}) Error → Answer Scope → Type 0
Declares c d r a = Meets (λ u v. (d.text.now ≡ c.text.now) × (d.procs.now ≡ c.procs.now) × (vars_of d ≡ v)) r a
