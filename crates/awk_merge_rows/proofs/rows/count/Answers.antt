use Rattle.std.proofs.Common.{◌∙◌}
use Rattle.awk_merge_rows.proofs.RowSides.{rec_count, tup_count}
use Rattle.awk_merge_rows.proofs.rows.count.Goals as goal

pub returns-in-Rec : goal.returns-in-Rec
returns-in-Rec c = c.len.ensures ∙ rec_count c.args.t.now c.in-Rec.fields c.in-Rec.is

pub returns-in-Tup : goal.returns-in-Tup
returns-in-Tup c = c.len-in-Tup.ensures ∙ tup_count c.args.t.now c.in-Tup.parts c.in-Tup.is
