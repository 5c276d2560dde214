-- The code's expressions, statements and points as those of the rules.
use Rattle.std.specs.Prelude.{◌≡◌, ℕ, zero, suc, Bool, cond, ◌&&◌, List, [], ◌∷◌, length, get_or, Some, None, vec_items, Option, ◌==◌, nat_lt, slice_index_or}
use Rattle.rules.specs.Programs.{Expr, own, word, plus, minus, times, below, same, Stm, end, var, set, know, next, call, test, try, take, par, goto, throw, Copies}
use Rattle.rules.specs.Moves.{any_below}
use Rattle.tables.specs.declared.expr.Expr as enum
use Rattle.tables.specs.declared.expr.Expr.TheVariants.{Own, Word, Plus', Minus', Times', Less', Same'}
use Rattle.tables.specs.declared.stmt.Copied.{Copied}
use Rattle.tables.specs.declared.stmt.Stmt.{Stmt}
use Rattle.tables.specs.declared.stmt.Stmt.TheVariants.{End, Var, Set, Know, Next, Call, Test, Try, Take, Par, Goto, Throw}
use Rattle.tables.specs.declared.rows.Point.{Point}
use Rattle.tables.specs.declared.rows.Cell.{Cell}
use Rattle.tables.specs.declared.rows.Got.{Got}

abbrev pub expr : enum.Expr → Expr
expr (Own c) = own c
expr (Word w) = word w
expr (Plus' p a q b) = plus (expr a) (expr b)
expr (Minus' p a q b) = minus (expr a) (expr b)
expr (Times' p a q b) = times (expr a) (expr b)
expr (Less' p a q b) = below (expr a) (expr b)
expr (Same' p a q b) = same (expr a) (expr b)

abbrev pub copies : List Copied → Copies
copies [] = []
copies (c ∷ cs) = (c.to, c.from) ∷ copies cs

-- A statement of place q. A throw whose nearest try is in its own place goes on to the catch block.
abbrev pub stm : ℕ → Stmt → Stm
stm q End = end
stm q (Var c) = var c
stm q (Set c e) = set c (expr e)
stm q Know = know
stm q (Next c h) = next c h
stm q (Call cs y) = call (copies (vec_items cs)) y
stm q (Test e y z) = test (expr e) y z
stm q (Try y) = try y
stm q (Take i c z) = take i c z
stm q (Par bs cs) = par (vec_items bs) (copies (vec_items cs))
stm q (Goto y) = goto y
stm q (Throw g k y) = cond (g == q) (goto y) (throw g k)

-- Past the last point nothing stands but an end.
abbrev pub stm_at : List Point → ℕ → Stm
stm_at [] x = end
stm_at (p ∷ ps) zero = stm p.place p.stmt
stm_at (p ∷ ps) (suc x) = stm_at ps x

abbrev pub after_at : List Point → ℕ → ℕ
after_at [] x = 0
after_at (p ∷ ps) zero = p.after
after_at (p ∷ ps) (suc x) = after_at ps x

abbrev pub place_at : List Point → ℕ → ℕ
place_at [] x = 0
place_at (p ∷ ps) zero = p.place
place_at (p ∷ ps) (suc x) = place_at ps x

abbrev pub catches_at : List Point → ℕ → List ℕ
catches_at [] x = []
catches_at (p ∷ ps) zero = vec_items p.catches
catches_at (p ∷ ps) (suc x) = catches_at ps x

-- The offset in the text of the statement at a point.
abbrev pub offset_at : List Point → ℕ → ℕ
offset_at [] x = 0
offset_at (p ∷ ps) zero = p.offset
offset_at (p ∷ ps) (suc x) = offset_at ps x

-- The row p stands at the point i.
pub record RowAt (ps : List Point) (i : ℕ) (p : Point) : Type 0 where
  pub stm_is : stm_at ps i ≡ stm p.place p.stmt
  pub after_is : after_at ps i ≡ p.after
  pub catches_is : catches_at ps i ≡ vec_items p.catches
  pub offset_is : offset_at ps i ≡ p.offset

-- The point i is past the last row.
pub record PastRows (ps : List Point) (i : ℕ) : Type 0 where
  pub stm_is : stm_at ps i ≡ end
  pub after_is : after_at ps i ≡ 0
  pub catches_is : catches_at ps i ≡ []
  pub offset_is : offset_at ps i ≡ 0

abbrev pub no_cell : Cell
no_cell = record { home = 0; declarer = 0; at = 0; len = 0 }

-- Where the recorded name of a cell stands in the text; a number past the last cell has none.
abbrev pub recorded : List Cell → ℕ → Option (ℕ × ℕ)
recorded ds c = cond (nat_lt c (length ds)) (Some ((get_or ds c no_cell).at, (get_or ds c no_cell).len)) None

abbrev pub no_got : Got
no_got = record { place = 0; home = 0 }

abbrev pub got_is : Got → ℕ → ℕ → Bool
got_is g q h = g.place == q && g.home == h

-- A place knows the homes of the variables that it got.
abbrev pub has_got : List Got → ℕ → ℕ → Bool
has_got gs q h = any_below (length gs) (λ i. got_is (slice_index_or gs i no_got) q h)
