-- Rows one after another, each alone.
use Rattle.std.specs.Prelude.{◌≡◌, ℕ, ◌<◌, List, [], ◌∷◌}
use Rattle.awk_lanes.specs.Places.{size_of}
use Rattle.awk_layout.specs.Layout.{Layout}
use Rattle.awk_layout.specs.Typing.{array_type}
use Rattle.awk_layout.specs.Valid.{len}
use Rattle.awk_gather.specs.Arrays.{array_item}
use Rattle.awk_columns.specs.Lists.{Listed, length_of}
use Rattle.awk_pair_levels.specs.Shares.{length_at, IsAmong}
use Rattle.awk_pair_levels.specs.Single.{AllInside}
use Rattle.awk_pair_levels.specs.declared.shares.Share.{Share}

-- z has the item of x at a place, alone
pub record IsAlone (i : ℕ) (x z : Layout) : Type 0 where
  pub size : len z ≡ 1
  pub typ : array_type z ≡ array_type x
  pub item : array_item z 0 ≡ array_item x i

abbrev pub AreAlone : ℕ → List Layout → List Layout → Type 0
AreAlone i [] [] = Unit {0}
AreAlone i (x ∷ xs) (z ∷ zs) = IsAlone i x z × AreAlone i xs zs
AreAlone i [] (z ∷ zs) = ⊥
AreAlone i (x ∷ xs) [] = ⊥

-- row i of what operands give to a level
pub record IsRow (i : ℕ) (ps : List Share) : Type 0 where
  pub within : (l : Listed) → IsAmong l ps → i < size_of l.starts
  pub same : (l : Listed) → IsAmong l ps → length_of l i ≡ length_at ps i
  pub inside : (k : ℕ) → k < length_at ps i → AllInside i k ps
