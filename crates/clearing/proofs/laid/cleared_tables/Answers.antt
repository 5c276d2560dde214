use Rattle.std.proofs.Common.{◌≡◌, Ok, sym, refl, ◌∙◌, arith}
use Rattle.numbers.specs.Literals.{literal_reading}
use Rattle.unfold.specs.Views.{nodes}
use Rattle.program.specs.Sizes.{size}
use Rattle.names.proofs.Declaring.{met_by}
use Rattle.clearing.proofs.Filling.{Laid}
use Rattle.clearing.proofs.Staging.{cleared_to, nodes_within, nodes_bounded, nodes_sound, statements_are}
use Rattle.clearing.proofs.laid.cleared_tables.Goals as goal

pub lay_out-requires : goal.lay_out-requires
lay_out-requires g c =
    let l = literal_reading g.K.NumberKind.meaning in
    let text = c.args.text.now in
    let e = c.in_ok-all.ensures in
    let us = nodes text c.in_ok-all.all in
    record { within = nodes_within l text us e; bounded = nodes_bounded l text us e; sound = nodes_sound l text us e }

pub returns : goal.returns
returns g c =
    let l = literal_reading g.K.NumberKind.meaning in
    let text = c.args.text.now in
    let us = nodes text c.in_ok-all.all in
    let within = (nodes_within l text us c.in_ok-all.ensures).2 in
    let counted : c.from.result ≡ size us = omega (arith, c.statements.ensures text, c.from.ensures, within) in
    met_by Laid {x = Ok (c.in_ok-tables.tables, c.from.result)} refl (sym (cleared_to l text us c.in_ok-all.ensures))
    (c.in_ok-tables.ensures, counted ∙ statements_are us)
