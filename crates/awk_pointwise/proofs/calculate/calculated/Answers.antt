use Rattle.awk_pointwise.specs.Numbers.{word_numbers}
use Rattle.awk_pointwise.proofs.RangeLaws.{all_int64}
use Rattle.awk_pointwise.proofs.calculate.calculated.Goals as goal

pub calculated_ints-requires : goal.calculated_ints-requires
calculated_ints-requires g c = record {
  prim = c.in_default.not-U64;
  a = all_int64 c.args.prim (word_numbers c.args.sides.0) c.in_default.not-U64 c.requires.a;
  b = all_int64 c.args.prim (word_numbers c.args.sides.1) c.in_default.not-U64 c.requires.b;
  size = c.requires.size;
}
