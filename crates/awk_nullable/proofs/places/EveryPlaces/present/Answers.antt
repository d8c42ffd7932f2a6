use Rattle.std.proofs.Common.{sym}
use Rattle.awk_nullable.proofs.CountLaws.{present-all}
use Rattle.awk_nullable.proofs.places.EveryPlaces.present.Goals as goal

pub returns : goal.returns
returns g c = sym (present-all c.args._first c.args.count)
