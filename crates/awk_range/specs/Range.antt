-- A range of an array: its items from one place below another.
use Rattle.std.specs.Prelude.{◌≡◌, ℕ, ◌+◌, ◌-◌, ◌<◌, ◌≤◌, List, [], ◌∷◌}
use Rattle.awk_layout.specs.Layout.{Layout, weight, height}
use Rattle.awk_layout.specs.Valid.{len}
use Rattle.awk_layout.specs.Item.{item}
use Rattle.awk_layout.specs.Typing.{layout_type}

-- r is the items of x from lo below hi, of the same type and in no more nodes
pub record IsPart (x : Layout) (lo hi : ℕ) (r : Layout) : Type 0 where
  pub size : len r ≡ hi - lo
  pub typ : layout_type r ≡ layout_type x
  pub items : (j : ℕ) → j < hi - lo → item r j ≡ item x (lo + j)
  pub weight_within : weight r ≤ weight x
  pub height_within : height r ≤ height x

-- each of these is that part of the one beside it
abbrev pub AreParts : List Layout → ℕ → ℕ → List Layout → Type 0
AreParts [] lo hi [] = Unit {0}
AreParts (x ∷ xs) lo hi (r ∷ rs) = IsPart x lo hi r × AreParts xs lo hi rs
AreParts [] lo hi (r ∷ rs) = ⊥
AreParts (x ∷ xs) lo hi [] = ⊥
