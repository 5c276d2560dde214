-- What the code's lists of occurrences stand for.
use Rattle.std.specs.Prelude.{◌≡◌, ℕ, List, [], ◌++◌, map, Some, None, Ok, Err, Option, Result}
use Rattle.reader.specs.declared.fault.Error.{Error}
use Rattle.reader.specs.declared.fault.Error.TheVariants.{OutOfMemory}
use Rattle.grammar.specs.Views.{name}
use Rattle.unfold.specs.declared.uses.Use as code-use
use Rattle.grammar.specs.Trees.{Param, Proc}
use Rattle.names.specs.Naming.{find_proc}
use Rattle.unfold.specs.Variables.{Uses, ParamsOf}

abbrev pub uses : List ℕ → List code-use.Use → Uses
uses text us = map (λ u. (name text u.name, u.written)) us

-- a list before and after some occurrences are added, which fails only for want of memory
abbrev pub Adds : List ℕ → List code-use.Use → Uses → Result (Unit {0}) Error → List code-use.Use → Type 0
Adds text us more (Ok u) ws = uses text ws ≡ uses text us ++ more
Adds text us more (Err e) ws = e ≡ OutOfMemory

-- the parameters of the visible procedures
abbrev pub params_in : Option Proc → List Param
params_in None = []
params_in (Some p) = p.params

abbrev pub visible_params : List Proc → ParamsOf
visible_params ps x = params_in (find_proc ps x)
