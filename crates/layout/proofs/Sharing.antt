-- The copies for the variables that a branch reads.
use Rattle.std.proofs.Common.{◌≡◌, ℕ, List, [], ◌∷◌, ◌++◌, Some, None, Option, refl, ap}
use Rattle.std.specs.List.{filter_map}
use Rattle.rules.specs.Programs.{Copies}
use Rattle.tables.specs.declared.stmt.Copied.{Copied}
use Rattle.tables.specs.Stms.{copies}
use Rattle.unfold.specs.declared.nodes.Got as code_got
use Rattle.unfold.specs.Variables.{got_copies}
use Rattle.unfold.specs.Views.{gots}

-- a variable's copy, if it has one
abbrev pub own_copy : code_got.Got → Option Copied
own_copy g = elim g.from [ None ↦ None | Some a ↦ Some (record { to = g.own; from = a }) ]

one_copy : (o : Option ℕ) (c : ℕ) (xs : List Copied) (ys : Copies) → copies xs ≡ ys
    → copies (Rattle.std.specs.List.cons_option (elim o [ None ↦ None | Some a ↦ Some (record { to = c; from = a }) ]) xs) ≡ elim o [ None ↦ ys | Some a ↦ (c, a) ∷ ys ]
one_copy None c xs ys e = e
one_copy (Some a) c xs ys e = ap (λ (l : Copies). (c, a) ∷ l) e

pub own_copies : (text : List ℕ) (gs : List code_got.Got) → copies (filter_map own_copy gs) ≡ got_copies (gots text gs)
own_copies text [] = refl
own_copies text (g ∷ gs) = one_copy g.from g.own (filter_map own_copy gs) (got_copies (gots text gs)) (own_copies text gs)

pub copies_append : (xs ys : List Copied) → copies (xs ++ ys) ≡ copies xs ++ copies ys
copies_append [] ys = refl
copies_append (x ∷ xs) ys = ap (λ (l : Copies). (x.to, x.from) ∷ l) (copies_append xs ys)
