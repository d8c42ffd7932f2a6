use Rattle.std.proofs.Common.{ap}
use Rattle.serde_json.specs.View.{view}
use Rattle.awk_session.specs.Replies.{evaluated}
use Rattle.awk_session.proofs.DenotedLaws.{bound-denoted}
use Rattle.awk_session.proofs.ValuesLaws.{is_list-listed, binds_array}
use Rattle.awk_session.proofs.reply.bind_values.Goals as goal

pub from_values-requires : goal.from_values-requires
from_values-requires g c = is_list-listed (view c.args.list.now) c.requires.listed

pub returns-in_ok-bind-in-Ok-clause-reply : goal.returns-in_ok-bind-in-Ok-clause-reply
returns-in_ok-bind-in-Ok-clause-reply g c =
    rw c.as_str.ensures
    (bound-denoted c.args.env.now c.bind.new.self c.args.name.now _ _ _
    (ap evaluated c.in-Ok.ensures) c.in_ok-copy-in-Ok.ensures
    c.in_ok-bind-in-Ok.ensures.ok)

pub returns-in_ok-bind-in-Ok-clause-binds : goal.returns-in_ok-bind-in-Ok-clause-binds
returns-in_ok-bind-in-Ok-clause-binds g c =
    binds_array c.args.name.now _ c.in-Ok.array c.args.env.now c.bind.new.self
    c.in_ok-copy-in-Ok.ensures c.in_ok-bind-in-Ok.ensures.ok
