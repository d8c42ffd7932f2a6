-- Single rows below a level, each alone.
use Rattle.std.specs.Prelude.{◌≡◌, ℕ, ◌<◌, List, [], ◌∷◌}
use Rattle.awk_lanes.specs.Places.{size_of}
use Rattle.awk_layout.specs.Layout.{Layout}
use Rattle.awk_layout.specs.Typing.{array_type}
use Rattle.awk_layout.specs.Valid.{len}
use Rattle.awk_gather.specs.Arrays.{array_item}
use Rattle.awk_columns.specs.Lists.{length_of}
use Rattle.awk_pair_levels.specs.Shares.{share_column, share_at}
use Rattle.awk_pair_levels.specs.declared.shares.Share.{Share}
use Rattle.awk_pair_levels.specs.declared.shares.Share.TheVariants.{Lists, Items}

-- a share has an item k below row i
abbrev pub IsInside : ℕ → ℕ → Share → Type 0
IsInside i k (Lists l) = (i < size_of l.starts) × (k < length_of l i)
IsInside i k (Items y) = i < len y

abbrev pub AllInside : ℕ → ℕ → List Share → Type 0
AllInside i k [] = Unit {0}
AllInside i k (p ∷ ps) = IsInside i k p × AllInside i k ps

-- z has that item alone
pub record IsItem (i k : ℕ) (p : Share) (z : Layout) : Type 0 where
  pub size : len z ≡ 1
  pub typ : array_type z ≡ array_type (share_column p)
  pub item : array_item z 0 ≡ share_at p i k

abbrev pub AreItems : ℕ → ℕ → List Share → List Layout → Type 0
AreItems i k [] [] = Unit {0}
AreItems i k (p ∷ ps) (z ∷ zs) = IsItem i k p z × AreItems i k ps zs
AreItems i k [] (z ∷ zs) = ⊥
AreItems i k (p ∷ ps) [] = ⊥
