use Rattle.std.proofs.Common.{List, vec_items, subst}
use Rattle.std.specs.Slice.{IsItemAt}
use Rattle.tables.specs.declared.rows.Point.{Point}
use Rattle.tables.proofs.Reading.{looked}
use Rattle.tables.proofs.tables.Tables.point.Goals as goal

pub returns : goal.returns
returns c =
    looked (vec_items c.args.self.now.points) c.args.x c.get.result (subst (λ (v : List Point). IsItemAt v c.args.x c.get.result) c.deref.ensures.value c.get.ensures.lookup)
