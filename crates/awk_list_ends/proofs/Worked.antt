-- Lists that lie over one another, worked out.
use Rattle.std.specs.Prelude.{◌≡◌, ℕ, zero, suc, refl, [], ◌∷◌, pos}
use Rattle.awk_lanes.specs.Column.{Column}
use Rattle.awk_lanes.specs.Counted.{before}
use Rattle.awk_lanes.specs.declared.kind.Kind.TheVariants.{I64}
use Rattle.awk_list_ends.specs.Inside.{total_inside}

-- lists of two items and of three
abbrev two_three : ℕ → ℕ
two_three zero = 2
two_three (suc i) = 3

abbrev lane_of_two : ℕ → ℕ → Column
lane_of_two a b = record { kind = I64; items = pos a ∷ pos b ∷ [] }

-- five items lie there
stored-two : before two_three 2 ≡ 5
stored-two = refl

-- a list of both, and one of the first alone, which is reached twice
reached-twice : total_inside two_three (lane_of_two 0 0) (lane_of_two 2 1) ≡ 7
reached-twice = refl
