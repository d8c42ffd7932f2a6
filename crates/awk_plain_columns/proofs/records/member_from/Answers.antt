use Rattle.std.proofs.Common.{◌+◌, sym}
use Rattle.serde_json.specs.Data.{null}
use Rattle.serde_json.specs.View.{view}
use Rattle.awk_plain_columns.proofs.SuitedLaws.{view_at}
use Rattle.awk_plain_columns.proofs.records.member_from.Goals as goal

pub returns : goal.returns
returns c =
    sym (view_at (λ v. view v.now) c.args.parts.now (c.args.start + c.args.k)
    c.index-parts-start.result null c.requires c.index-parts-start.is)
