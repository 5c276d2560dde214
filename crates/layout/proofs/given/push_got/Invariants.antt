use Rattle.std.proofs.Common.{◌≡◌, ℕ, true, List, ◌++◌, drop, vec_items}
use Rattle.unfold.specs.Views.{gots}
use Rattle.layout.specs.Fits.{gots_fit}
use Rattle.layout.specs.Given.{given}
use Rattle.layout.proofs.given.push_got.Given as from

abbrev pub invariant-loop-g : from.invariant-loop-g
invariant-loop-g l =
    ((text : List ℕ) → vec_items l.out ++ given l.q (gots text (drop l.g-index l.gots)) ≡ vec_items l.initial.out ++ given l.q (gots text l.gots))
    × ((text : List ℕ) × (gots_fit (gots text (drop l.g-index l.gots)) ≡ true))
