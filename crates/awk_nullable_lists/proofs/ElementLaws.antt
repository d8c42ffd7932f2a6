-- What the numbers of lanes are read as, by their places.
use Rattle.std.proofs.Common.{ℕ, get_or}
use Rattle.std.specs.Prelude.{pos}
use Rattle.awk_lanes.specs.Column.{Column}
use Rattle.awk_lanes.specs.Places.{at}
use Rattle.awk_lanes.specs.Ranges.{AreNumbers}
use Rattle.awk_parts.specs.Elements.{IsElement}
use Rattle.awk_parts.proofs.ElementLaws.{element_of}

pub element-at : (c : Column) → AreNumbers c → (k : ℕ) → IsElement c.kind (at c k)
element-at c h k = element_of c.kind (get_or c.items k (pos 0)) (h k)
