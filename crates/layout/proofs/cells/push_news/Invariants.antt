use Rattle.std.proofs.Common.{◌≡◌, true, ◌++◌, drop, vec_items}
use Rattle.program.specs.Layout.{cells_of}
use Rattle.unfold.specs.Views.{news}
use Rattle.layout.specs.Fits.{news_fit}
use Rattle.layout.specs.Rows.{cell_rows}
use Rattle.layout.proofs.cells.push_news.Given as goal

abbrev pub invariant-loop-n : goal.invariant-loop-n
invariant-loop-n l =
    (cell_rows (vec_items l.out) ++ cells_of l.p (news l.text (drop l.n-index l.news))
    ≡ cell_rows (vec_items l.initial.out) ++ cells_of l.p (news l.text l.news))
    × (news_fit (news l.text (drop l.n-index l.news)) ≡ true)
