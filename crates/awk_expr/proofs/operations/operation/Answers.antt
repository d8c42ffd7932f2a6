use Rattle.awk_expr.specs.Operations.{row_of}
use Rattle.awk_expr.proofs.operations.operation.Goals as goal

-- the table in code is that of the definition
pub returns : goal.returns
unfolding row_of
returns c = c.among.ensures
