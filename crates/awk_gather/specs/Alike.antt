-- Copies of one item, where all items of a layout are alike because none has a byte.
use Rattle.std.specs.Prelude.{◌≡◌, ℕ, ◌<◌, ◌≤◌, List, [], ◌∷◌}
use Rattle.awk_layout.specs.Layout.{Layout, held, weight}
use Rattle.awk_layout.specs.Valid.{len}
use Rattle.awk_layout.specs.Item.{item}
use Rattle.awk_layout.specs.Typing.{layout_type}

-- each of the first n items of r is what each item of x is; r is of the type of x, and no larger
pub record AreCopies (x : Layout) (n : ℕ) (r : Layout) : Type 0 where
  pub size : n ≤ len r
  pub items : (i j : ℕ) → i < n → item r i ≡ item x j
  pub same_type : layout_type r ≡ layout_type x
  pub held_within : held r ≤ held x
  pub nodes_within : weight r ≤ weight x

-- each of these is such copies of the one beside it
abbrev pub AreAllCopies : List Layout → ℕ → List Layout → Type 0
AreAllCopies [] n [] = Unit {0}
AreAllCopies (x ∷ xs) n (r ∷ rs) = AreCopies x n r × AreAllCopies xs n rs
AreAllCopies [] n (r ∷ rs) = ⊥
AreAllCopies (x ∷ xs) n [] = ⊥
