use Rattle.std.proofs.Common.{ap, ◌∙◌}
use Rattle.awk_query.specs.Line.{or_json}
use Rattle.awk_query.proofs.LineLaws.{json_of-read, json_of-none}
use Rattle.awk_query.proofs.line.parse.Goals as goal

pub returns-in-Ok : goal.returns-in-Ok
returns-in-Ok c =
    ap or_json (json_of-read c.args.bytes.now c.in-Ok.ensures.ok.0 ∙ c.in-Ok.ensures.ok.1)

pub returns-else-is_memory : goal.returns-else-is_memory
returns-else-is_memory c =
    ap or_json
    (json_of-none c.args.bytes.now
    (c.in-Err.ensures.err (λ memory. absurd (cc (c.is_memory.ensures.1 memory)))))
