use Rattle.std.proofs.Common.{refl}
use Rattle.awk_open.proofs.WholeLanes.{whole_rows}
use Rattle.awk_open.proofs.whole.whole_rows.Goals as goal

pub returns-then-are_long : goal.returns-then-are_long
returns-then-are_long c = record {
  opened =
      whole_rows _ c.in_ok-names.names c.args.n c.args.contents.now c.in_ok-columns.columns
      c.requires.valid (c.if-are_long.ensures refl) c.in_ok-names.ensures c.in_ok-columns.ensures;
}
