-- The index of a key is the place of the name.
use Rattle.std.proofs.Common.{◌∙◌}
use Rattle.awk_name_places.proofs.PlaceLaws.{found-place, absent-place}
use Rattle.awk_name_places.proofs.NamePlaces.place.Goals as goal

pub returns-in-Some : goal.returns-in-Some
returns-in-Some c =
    found-place c.args.name.now c.self.inside.names.keys c.args.self.now c.self.view_is
    c.in-Some.place c.in-Some.ensures.index

pub returns-in-None : goal.returns-in-None
returns-in-None c =
    c.len.ensures.len
    ∙ absent-place c.args.name.now c.self.inside.names.keys c.args.self.now c.self.view_is
    c.in-None.ensures.index
