-- Lists that lie over one another, worked out.
use Rattle.std.specs.Prelude.{◌≡◌, ℕ, refl, [], ◌∷◌, pos}
use Rattle.awk_lanes.specs.Column.{Column}
use Rattle.awk_lanes.specs.declared.kind.Kind.TheVariants.{I64}
use Rattle.awk_layout.specs.Layout.{Layout, flat, lists as spanned}
use Rattle.awk_axis.specs.Over.{items_reached}

abbrev two : ℕ → ℕ → Column
two a b = record { kind = I64; items = pos a ∷ pos b ∷ [] }

-- a list of two numbers, and one of the second alone
abbrev inner : Layout
inner = spanned (two 0 1) (two 2 2) (flat (two 7 8))

-- a list of both, and one of the first alone, which is reached twice
reached-twice : items_reached (two 0 0) (two 2 1) inner ≡ 5
reached-twice = refl
