-- What is looked up behind references is what the entries show.
use Rattle.std.proofs.Common.{ap, Some, None}
use Rattle.std.specs.Prelude.{string_bytes}
use Rattle.awk_store.proofs.Kept.{at_key-shown}
use Rattle.awk_store.proofs.raws.Raws.get.Goals as goal

pub returns-in-Some : goal.returns-in-Some
returns-in-Some c =
    at_key-shown string_bytes _ c.self.inside.raws.entries (ap (λ r. r.entries) c.self.view_is)
    c.args.key.now (Some c.in-Some.bytes.now) c.in-Some.ensures.value

pub returns-in-None : goal.returns-in-None
returns-in-None c =
    at_key-shown string_bytes _ c.self.inside.raws.entries (ap (λ r. r.entries) c.self.view_is)
    c.args.key.now None c.in-None.ensures.value
