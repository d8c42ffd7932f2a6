use Rattle.std.proofs.Common.{sym, arith}
use Rattle.awk_framing.proofs.FramingLaws.{raw_asked-blank}
use Rattle.awk_run.proofs.unit.raw_count.Goals as goal

pub returns-then-is_blank : goal.returns-then-is_blank
returns-then-is_blank c = (
  sym (raw_asked-blank c.args.engine.now.reading c.args.line.now (sym c.if-is_blank.ensures)),
  omega arith,
)
