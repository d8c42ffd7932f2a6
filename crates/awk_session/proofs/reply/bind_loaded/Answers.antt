use Rattle.awk_session.proofs.DenotedLaws.{bound-denoted}
use Rattle.awk_session.proofs.reply.bind_loaded.Goals as goal

pub returns-in_ok-bind-in-Ok-clause-reply : goal.returns-in_ok-bind-in-Ok-clause-reply
returns-in_ok-bind-in-Ok-clause-reply g c =
    rw c.as_str.ensures
    (bound-denoted c.args.env.now c.bind.new.self c.args.head.now.name.now _ _ _
    c.in-Ok.ensures.answer c.in_ok-copy-in-Ok.ensures c.in_ok-bind-in-Ok.ensures.ok)
