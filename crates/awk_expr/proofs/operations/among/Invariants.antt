use Rattle.std.proofs.Common.{◌≡◌, drop}
use Rattle.awk_expr.specs.Operations.{row_among, rows_of}
use Rattle.awk_expr.proofs.operations.among.Given as goal

-- the rows that are left tell what the table does
abbrev pub invariant-loop-row : goal.invariant-loop-row
invariant-loop-row l =
    row_among (rows_of l.rows) l.name l.count
    ≡ row_among (rows_of (drop l.row-index l.rows)) l.name l.count
