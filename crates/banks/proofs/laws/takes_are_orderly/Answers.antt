use Rattle.banks.proofs.Contents.{stretch_reads, counted_adds}
use Rattle.banks.proofs.Takes.{takes_commute, many_takes}
use Rattle.banks.proofs.laws.takes_are_orderly.Goals as goal

pub returns : goal.returns
returns c = record { commute = takes_commute; many = many_takes; stretch = stretch_reads; counted = counted_adds }
