use Rattle.awk_present.proofs.PresentLaws.{plain_present}
use Rattle.awk_present.proofs.present.present_of.Goals as goal

pub returns-in_ok-leaves_of : goal.returns-in_ok-leaves_of
returns-in_ok-leaves_of g c =
    rw c.copy.ensures
    (plain_present c.in_ok-leaves_of.field-0 c.args.items.now c.in_ok-leaves_of.ensures
    c.args.offsets.now c.args.count c.requires.rising)
