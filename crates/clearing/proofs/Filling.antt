-- A clear that is refused, and one that is not.
use Rattle.std.proofs.Common.{◌≡◌, ℕ, List, Ok, sym, subst}
use Rattle.numbers.specs.Kinds.{Meaning}
use Rattle.numbers.specs.Literals.{literal_reading}
use Rattle.reader.specs.Faults.{Answer, Meets}
use Rattle.tables.specs.declared.tables.Tables.{Tables}
use Rattle.program.specs.Layout as laid
use Rattle.program.specs.Clearing.{cleared, left}
use Rattle.layout.specs.Shown.{Shows}
use Rattle.names.proofs.Declaring.{met_ok}
use Rattle.clearing.specs.declared.programs.Program.{Program}
use Rattle.clearing.specs.Cleared.{statements_of, Holds, Cleared}

-- tables and a count that stand for a program
abbrev pub Laid : Tables × ℕ → laid.Program → Type 0
Laid v p = Shows v.0 p × (v.1 ≡ statements_of p)

abbrev Any : Unit {0} → laid.Program → Type 0
Any u p = Unit {0}

pub clear_granted : {K : Type 0} (k : Meaning) (x y : Program K) (text : List ℕ)
    → Meets Laid (Ok (y.tables, y.statements)) (cleared (literal_reading k) text) → y.kind ≡ x.kind
    → Cleared k x text (Ok tt) y
clear_granted {K} k x y text h i =
    let m = met_ok Laid (y.tables, y.statements) (cleared (literal_reading k) text) h in
    record {
      answers = subst (λ (a : Answer laid.Program). Meets Any (Ok tt) a) (sym m.1) tt;
      leaves = subst (λ (a : Answer laid.Program). Holds y (left a)) (sym m.1) (record { shows = m.2.0; counts = m.2.1 });
      same_kind = i;
    }
