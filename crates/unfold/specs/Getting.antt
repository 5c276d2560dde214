-- What a branch got so far, as the code keeps it.
use Rattle.std.specs.Prelude.{◌≡◌, ℕ, ◌+◌, ◌≤◌, Bool, List, [], ◌∷◌, ◌++◌, length, map, Ok, Err, vec_items, Result}
use Rattle.reader.specs.declared.fault.Error.{Error}
use Rattle.reader.specs.declared.fault.Error.TheVariants.{OutOfMemory}
use Rattle.grammar.specs.declared.tree.Name as code-name
use Rattle.grammar.specs.Views.{name}
use Rattle.names.specs.Scopes.{scope}
use Rattle.unfold.specs.declared.gets.Getting as code-getting
use Rattle.unfold.specs.declared.nodes.Got as code_got
use Rattle.unfold.specs.Unfolded.{Got}
use Rattle.unfold.specs.Scopes.{Env}
use Rattle.unfold.specs.Variables.{Uses, gets, got_new}
use Rattle.unfold.specs.Views.{gots}

-- the names that were had, the last in front
abbrev pub had : List ℕ → List code_got.Got → List (List ℕ)
had text gs = scope text (map (λ g. g.name) gs)

-- what was got, with what the occurrences still to come bring
abbrev pub in_all : List ℕ → Env → Uses → code-getting.Getting → Uses → List Got
in_all text v all s us = gots text (vec_items s.got) ++ gets v all us (had text (vec_items s.got)) s.next

-- the next number is the first plus how many are new
abbrev pub Numbered : List ℕ → ℕ → code-getting.Getting → Type 0
Numbered text first s = s.next ≡ first + length (got_new (gots text (vec_items s.got)))

abbrev pub GetsOn : List ℕ → Env → Uses → code-name.Name → code-getting.Getting → Result (Unit {0}) Error → code-getting.Getting → Type 0
GetsOn text v all n s (Ok u) t =
    ((us : Uses) (w : Bool) → in_all text v all s ((name text n, w) ∷ us) ≡ in_all text v all t us)
    × ((first : ℕ) → Numbered text first s → Numbered text first t) × (t.next ≤ s.next + 1)
GetsOn text v all n s (Err e) t = e ≡ OutOfMemory

abbrev pub AllGot : List ℕ → Env → Uses → ℕ → code-getting.Getting → Type 0
AllGot text v all first s = (gots text (vec_items s.got) ≡ gets v all all [] first) × Numbered text first s
