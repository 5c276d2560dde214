use Rattle.std.proofs.Common.{refl}
use Rattle.numbers.specs.Packs.{pack_packed, unpack_pack, unpack_below, pack_unpack}
use Rattle.numbers.proofs.Readings.{sums_wrap, differences_wrap, products_wrap, exact_in_range}
use Rattle.numbers.proofs.laws.readings_correspond.Goals as goal

pub returns : goal.returns
returns c = record {
  sums = sums_wrap;
  differences = differences_wrap;
  products = products_wrap;
  exact = exact_in_range;
  packs = λ n h. (pack_packed 8 n, unpack_pack 8 n h);
  unpacks = λ w h. (unpack_below 8 w h, pack_unpack 8 w h);
  ends = (refl, refl, refl, refl);
}
