-- Contents that hold exactly the items at places, in order.
use Rattle.std.specs.Prelude.{◌≡◌, ℕ, suc, List, [], ◌∷◌, map}
use Rattle.awk_lanes.specs.Column.{Column}
use Rattle.awk_lanes.specs.Places.{size_of}
use Rattle.awk_layout.specs.Layout.{Layout}
use Rattle.awk_layout.specs.Valid.{IsValid}
use Rattle.awk_layout.specs.Typing.{array_type, array_items}
use Rattle.awk_gather.specs.Arrays.{array_item}
use Rattle.awk_counts.specs.Counted.{first_of, tagged_at}

-- z holds the items of y at places
pub record IsReached (y : Layout) (ks : List ℕ) (z : Layout) : Type 0 where
  pub typ : array_type z ≡ array_type y
  pub items : array_items z ≡ map (array_item y) ks

-- each of these holds the items of its alternative, from alternative a on
abbrev pub AreReached : Column → Column → ℕ → List Layout → List Layout → Type 0
AreReached t j a [] [] = Unit {0}
AreReached t j a (y ∷ ys) (z ∷ zs) =
    (IsReached y (first_of (tagged_at t j a) (size_of t)) z × IsValid z)
    × AreReached t j (suc a) ys zs
AreReached t j a [] (z ∷ zs) = ⊥
AreReached t j a (y ∷ ys) [] = ⊥
