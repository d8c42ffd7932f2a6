use Rattle.std.proofs.Common.{sym, ◌∙◌}
use Rattle.std.proofs.lemmas.Result.{on_ok_weaker}
use Rattle.awk_unify.specs.View.{lift_of}
use Rattle.awk_merge_sides.specs.Groups.{groups_of}
use Rattle.awk_merge_sides.specs.Sides.{side_of}
use Rattle.awk_merge_rows.proofs.RowGroups.{rows_put, rows_alike}
use Rattle.awk_merge_rows.proofs.rows.put_side.Goals as goal

pub returns-clause-parts : goal.returns-clause-parts
returns-clause-parts g c = λ ts ss side parts.
    on_ok_weaker c.put_parts.result
    (λ put. rows_put ts ss c.args.side.now.column (lift_of c.args.side.now.lift)
    c.in_ok-columns.columns (groups_of c.args.groups.now) (groups_of c.put_parts.new.groups) side
    c.len.ensures.items c.in_ok-columns.ensures.opens put parts) c.put_parts.ensures.put

pub returns-then-len-eq0-clause-parts : goal.returns-then-len-eq0-clause-parts
returns-then-len-eq0-clause-parts g c = λ ts ss side parts.
    rows_alike ts ss (side_of c.args.side.now) (groups_of c.args.groups.now)
    (sym c.len-2.ensures ∙ c.if-len-eq0.true) side c.len.ensures.items parts
