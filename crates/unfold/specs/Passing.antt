-- A call's arguments as the code keeps them.
use Rattle.std.specs.Prelude.{◌≡◌, ℕ, ◌+◌, Bool, true, false, List, ◌++◌, length, Ok, Err, vec_items, Result}
use Rattle.reader.specs.declared.fault.Error.{Error}
use Rattle.reader.specs.declared.fault.Error.TheVariants.{OutOfMemory}
use Rattle.grammar.specs.declared.tree.Name as code-name
use Rattle.grammar.specs.declared.tree.Param as code-param
use Rattle.grammar.specs.Trees.{Name, Param}
use Rattle.grammar.specs.Views.{name, param}
use Rattle.unfold.specs.declared.passing.Passed as code-passed
use Rattle.unfold.specs.declared.scopes.Binding as code-binding
use Rattle.unfold.specs.Scopes.{Binding}
use Rattle.unfold.specs.Unfolding.{Passed, by_reference, by_value}
use Rattle.tables.specs.Stms.{copies}
use Rattle.unfold.specs.Views.{env, news, spellings, binding}

abbrev pub passed : List ℕ → code-passed.Passed → Passed
passed text s =
    record { env = env text (vec_items s.env); copies = copies (vec_items s.copies); news = news text (vec_items s.news); refs = spellings text (vec_items s.refs) }

-- what was passed, with what the arguments still to come bring
abbrev pub passed_with : List ℕ → code-passed.Passed → Passed → Passed
passed_with text s r =
    record {
      env = env text (vec_items s.env) ++ r.env;
      copies = copies (vec_items s.copies) ++ r.copies;
      news = news text (vec_items s.news) ++ r.news;
      refs = spellings text (vec_items s.refs) ++ r.refs;
    }

-- one argument in front of the others
abbrev pub pass_by : Bool → Param → Name → Binding → ℕ → Passed → Passed
pass_by true p a b c r = by_reference p a b r
pass_by false p a b c r = by_value p b c r

-- how many cells it brings
abbrev pub brought : Bool → ℕ
brought true = 0
brought false = 1

abbrev pub PassesOn : List ℕ → code-param.Param → code-name.Name → code-binding.Binding → ℕ → code-passed.Passed → Result (Unit {0}) Error → code-passed.Passed → Type 0
PassesOn text p a b first s (Ok u) t =
    ((r : Passed) → passed_with text s (pass_by p.reference (param text p) (name text a) (binding text b) (first + length (vec_items s.news)) r) ≡ passed_with text t r)
    × (length (vec_items t.news) ≡ length (vec_items s.news) + brought p.reference)
PassesOn text p a b first s (Err e) t = e ≡ OutOfMemory
