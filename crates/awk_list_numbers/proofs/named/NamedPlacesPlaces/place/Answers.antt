use Rattle.std.proofs.Common.{sym, ◌∙◌}
use Rattle.awk_lanes.specs.Places.{at}
use Rattle.awk_list_numbers.proofs.named.NamedPlacesPlaces.place.Goals as goal
use Rattle.awk_list_numbers.proofs.NamedPlaces.{named_place, no_place_named}

pub returns-in-Some : goal.returns-in-Some
returns-in-Some g c = record {
  place = named_place (at (g.P.OptionIndex.lane c.args.self.now.index.now) c.args.i) c.in-Some.place
      (sym c.place.ensures ∙ c.in-Some.is);
}

pub returns-in-None : goal.returns-in-None
returns-in-None g c = record {
  place = no_place_named (at (g.P.OptionIndex.lane c.args.self.now.index.now) c.args.i)
      (sym c.place.ensures ∙ c.in-None.is);
}
