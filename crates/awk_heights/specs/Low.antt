-- Arrays that are no higher than their types ask for.
use Rattle.std.specs.Prelude.{◌≡◌, ℕ, ◌*◌, ◌<◌, ◌≤◌, List, [], ◌∷◌}
use Rattle.awk_types.specs.DataType.{DataType, depth}
use Rattle.awk_layout.specs.Item.{item}
use Rattle.awk_layout.specs.Layout.{Layout, height}
use Rattle.awk_layout.specs.Typing.{layout_type, array_type, array_items}
use Rattle.awk_layout.specs.Valid.{len}
use Rattle.awk_gather.specs.Arrays.{array_item}

-- the most nodes on a path: one for each node of the type, and an index over each
abbrev pub height_limit : DataType → ℕ
height_limit t = 2 * depth t

abbrev pub IsLow : Layout → Type 0
IsLow x = height x ≤ height_limit (array_type x)

-- y is the array x as a low layout, whose type and items are simple as they stand
pub record IsLowNode (x y : Layout) : Type 0 where
  pub size : len y ≡ len x
  pub typ : layout_type y ≡ array_type x
  pub items : (i : ℕ) → i < len x → item y i ≡ array_item x i
  pub low : height y ≤ height_limit (array_type x)

-- the same of each
abbrev pub AreLowNodes : List Layout → List Layout → Type 0
AreLowNodes [] [] = Unit {0}
AreLowNodes (x ∷ xs) (y ∷ ys) = IsLowNode x y × AreLowNodes xs ys
AreLowNodes [] (y ∷ ys) = ⊥
AreLowNodes (x ∷ xs) [] = ⊥

-- y is the same array as x, and low
pub record IsLowArray (x y : Layout) : Type 0 where
  pub size : len y ≡ len x
  pub typ : array_type y ≡ array_type x
  pub items : array_items y ≡ array_items x
  pub low : IsLow y
