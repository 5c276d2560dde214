-- A scan of the permitted moves in order.
use Rattle.std.specs.Prelude.{◌≡◌, ℕ, List, [], ◌∷◌, Some, None, length}
use Rattle.std.specs.declared.option.Option as std
use Rattle.tables.specs.declared.moves.Move as enum
use Rattle.rules.specs.States.{Move}
use Rattle.rules.specs.Listings.{nth}
use Rattle.tables.specs.Views.{move, moved}
use Rattle.board.specs.declared.scan.Scan.{Scan}

-- The moves that an offer tells.
abbrev pub listed : std.Option enum.Move → List Move
listed None = []
listed (Some m) = move m ∷ []

-- A scan that looks for the move at index w has gone through these permitted moves.
abbrev pub Scanned : ℕ → List Move → Scan → Type 0
Scanned w xs s = (s.want ≡ w) × (s.count ≡ length xs) × (moved s.found ≡ nth xs w)
