-- The case that a `Place` is, without its references.
use Rattle.std.specs.Prelude.{ℕ, option_map, pos}
use Rattle.awk_types.specs.Value.{Value, int, truth}
use Rattle.awk_lanes.specs.Numbers.{nat_of}
use Rattle.awk_lanes.specs.declared.kind.Num.{Num}
use Rattle.awk_lanes.specs.declared.kind.Num.TheVariants.{Int, Nat, Truth}
use Rattle.awk_layout.specs.Layout.{layouts_from}
use Rattle.awk_layout.specs.Place.{Case, number, span, across, missing, through, alternative}
use Rattle.awk_layout.specs.declared.node.place.Place.{Place}
use Rattle.awk_layout.specs.declared.node.place.Place.TheVariants.{Number, Items, Row, Missing}
use Rattle.awk_layout.specs.declared.node.place.Place.TheVariants.{Through, Alternative}

abbrev pub value_of_num : Num → Value
value_of_num (Int z) = int z
value_of_num (Nat n) = int (pos n)
value_of_num (Truth b) = truth b

-- a whole number as a count
abbrev pub count_of : Value → ℕ
count_of (int z) = nat_of z
count_of v = 0

abbrev pub shown : Place → Case
shown (Number x) = number (value_of_num x)
shown (Items x lo hi) = span x.now lo hi
shown (Row names xs i) = across (option_map (λ m. m.now) names) (layouts_from xs.now) i
shown Missing = missing
shown (Through x i) = through x.now i
shown (Alternative tag x i) = alternative tag x.now i
