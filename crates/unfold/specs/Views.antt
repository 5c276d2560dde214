-- What the code's unfolded text stands for, given the text that its names are parts of.
use Rattle.std.specs.Prelude.{◌≡◌, ℕ, List, [], ◌∷◌, ◌++◌, Some, None, Ok, Err, vec_items, Option, Result}
use Rattle.reader.specs.declared.fault.Error.{Error}
use Rattle.reader.specs.declared.fault.Error.TheVariants.{Refused, OutOfMemory}
use Rattle.reader.specs.Faults.{Answer}
use Rattle.grammar.specs.declared.tree.Name as code-name
use Rattle.reader.specs.declared.fault.Fault.{Fault}
use Rattle.grammar.specs.Trees.{Proc}
use Rattle.grammar.specs.Views.{name}
use Rattle.names.specs.Scopes.{ended}
use Rattle.rules.specs.Programs as rules
use Rattle.tables.specs.Stms.{expr, copies}
use Rattle.unfold.specs.declared.nodes.New as code-new
use Rattle.unfold.specs.declared.nodes.Got as code_got
use Rattle.unfold.specs.declared.nodes.Action as code-action
use Rattle.unfold.specs.declared.nodes.Action.TheVariants as actions
use Rattle.unfold.specs.declared.nodes.Part as code-part
use Rattle.unfold.specs.declared.nodes.Part.TheVariants as parts
use Rattle.unfold.specs.declared.nodes.Node as code-node
use Rattle.unfold.specs.declared.nodes.Nodes as code-nodes
use Rattle.unfold.specs.declared.nodes.Branches as code-branches
use Rattle.unfold.specs.declared.nodes.Branches.TheVariants as tree
use Rattle.unfold.specs.declared.scopes.Binding as code-binding
use Rattle.unfold.specs.declared.scopes.Scope as code-scope
use Rattle.unfold.specs.declared.counts.Count as code-count
use Rattle.unfold.specs.Unfolded.{New, Got, Part, plain, calls, tests, loops, tries, takes, Node, one, throws, two, par, Nodes, nil, seq, Branches, last, also}
use Rattle.unfold.specs.Scopes.{Binding, Env}
use Rattle.unfold.specs.Unfolding.{Count}

-- Code that allocates may also run out of memory; otherwise it answers what the definition says.
abbrev pub Gives : {A V : Type 0} → (V → A) → Result V Error → Answer A → Type 0
Gives view (Ok v) r = r ≡ Ok (view v)
Gives view (Err (Refused f)) r = r ≡ Err f
Gives view (Err OutOfMemory) r = Unit {0}

-- code that allocates nothing answers just that
abbrev pub Says : {A V : Type 0} → (V → A) → Result V Fault → Answer A → Type 0
Says view (Ok v) r = r ≡ Ok (view v)
Says view (Err f) r = r ≡ Err f

-- code that refuses nothing fails only for want of memory
abbrev pub Builds : {V : Type 0} → (V → Type 0) → Result V Error → Type 0
Builds P (Ok v) = P v
Builds P (Err e) = e ≡ OutOfMemory

abbrev pub perhaps : {A V : Type 0} → (V → A) → Option V → Option A
perhaps view None = None
perhaps view (Some v) = Some (view v)

abbrev pub count : code-count.Count → Count
count n = record { statements = n.statements; places = n.places; cells = n.cells }

abbrev pub binding : List ℕ → code-binding.Binding → Binding
binding text b = record { name = (name text b.name).text; own = b.own; home = b.home }

abbrev pub env : List ℕ → List code-binding.Binding → Env
env text [] = []
env text (b ∷ bs) = binding text b ∷ env text bs

-- the procedures and the variables of a scope
abbrev pub visible : code-scope.Scope → List Proc
visible s = ended s.text.now s.procs.now

abbrev pub variables : code-scope.Scope → Env
variables s = env s.text.now s.bindings.now

abbrev pub new : List ℕ → code-new.New → New
new text n = record { home = n.home; name = name text n.name }

abbrev pub news : List ℕ → List code-new.New → List New
news text [] = []
news text (n ∷ ns) = new text n ∷ news text ns

abbrev pub got : List ℕ → code_got.Got → Got
got text g = record { name = name text g.name; own = g.own; home = g.home; from = g.from }

abbrev pub gots : List ℕ → List code_got.Got → List Got
gots text [] = []
gots text (g ∷ gs) = got text g ∷ gots text gs

abbrev pub spellings : List ℕ → List code-name.Name → List (List ℕ)
spellings text [] = []
spellings text (n ∷ ns) = (name text n).text ∷ spellings text ns

abbrev pub action : code-action.Action → rules.Stm
action (actions.Var c) = rules.var c
action (actions.Set c e) = rules.set c (expr e)
action actions.Know = rules.know
action (actions.Next c h) = rules.next c h

abbrev pub part : List ℕ → code-part.Part → Part
part text parts.Plain = plain
part text (parts.Calls cs rs) = calls (copies (vec_items cs)) (spellings text (vec_items rs))
part text (parts.Tests e) = tests (expr e)
part text (parts.Loops e) = loops (expr e)
part text (parts.Tries n) = tries (name text n).text
part text (parts.Takes i c) = takes i c

abbrev mutual
  pub node : List ℕ → code-node.Node → Node
  node text (tree.One at ns s) = one at (news text (vec_items ns)) (action s)
  node text (tree.Throws at n) = throws at (name text n).text
  node text (tree.Two' at ns h p a q b) = two at (news text (vec_items ns)) (part text h) (nodes text a) (nodes text b)
  node text (tree.Par' at ns p bs) = par at (news text (vec_items ns)) (branches text bs)

  pub nodes : List ℕ → code-nodes.Nodes → Nodes
  nodes text tree.Nil = nil
  nodes text (tree.Seq' p u q us) = seq (node text u) (nodes text us)

  pub branches : List ℕ → code-branches.Branches → Branches
  branches text tree.Last = last
  branches text (tree.Also' gs p us q bs) = also (gots text (vec_items gs)) (nodes text us) (branches text bs)

-- the cells that a statement brings, before and after some are added, which fails only for want of memory
abbrev pub MoreNews : List ℕ → List code-new.New → List New → Result (Unit {0}) Error → List code-new.New → Type 0
MoreNews text ns more (Ok u) ms = news text ms ≡ news text ns ++ more
MoreNews text ns more (Err e) ms = e ≡ OutOfMemory

-- a part of the unfolded text, and how much there is with it
abbrev pub node_count : List ℕ → code-node.Node × code-count.Count → Node × Count
node_count text p = (node text p.0, count p.1)

abbrev pub nodes_count : List ℕ → code-nodes.Nodes × code-count.Count → Nodes × Count
nodes_count text p = (nodes text p.0, count p.1)

abbrev pub branches_count : List ℕ → code-branches.Branches × code-count.Count → Branches × Count
branches_count text p = (branches text p.0, count p.1)
