use Rattle.serde_json.specs.View.{view}
use Rattle.awk_query.proofs.LineLaws.{read-allowed}
use Rattle.awk_query.proofs.line.read_line.Goals as goal

pub returns-clause-allowed : goal.returns-clause-allowed
returns-clause-allowed c =
    read-allowed c.args.reading (view c.in_ok-value.value) c.line_in.result c.line_in.ensures
