-- Worked heights, each computed.
use Rattle.std.specs.Prelude.{◌≡◌, ℕ, zero, suc, nat_lt, pos, true, false, [], ◌∷◌, refl}
use Rattle.awk_lanes.specs.Column.{Column}
use Rattle.awk_lanes.specs.declared.kind.Kind.TheVariants.{I64}
use Rattle.awk_layout.specs.Layout.{Layout, flat, unmasked, height}
use Rattle.awk_layout.specs.Typing.{array_type}
use Rattle.awk_heights.specs.Low.{height_limit}

abbrev sevens : Column
sevens = record { kind = I64; items = pos 7 ∷ [] }

-- options over options over a number, whose type is one option
abbrev layers : ℕ → Layout
layers zero = flat sevens
layers (suc n) = unmasked 1 (layers n)

-- three layers over the number are no higher than twice the depth of the type, four are
three_layers : nat_lt (height_limit (array_type (layers 3))) (height (layers 3)) ≡ false
three_layers = refl

four_layers : nat_lt (height_limit (array_type (layers 4))) (height (layers 4)) ≡ true
four_layers = refl
