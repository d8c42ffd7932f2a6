-- The contents of a layout, one by one.
use Rattle.std.proofs.Common.{◌≡◌, ℕ, suc, zero, refl, arith}
use Rattle.std.specs.Prelude.{List, ◌∷◌, []}
use Rattle.awk_layout.specs.Layout.{Layouts, no_layouts, layout, Layout, layouts_from}
use Rattle.awk_layout.specs.Valid.{len, len_of, AllReach}
use Rattle.awk_layout.specs.Place.{nth}
use Rattle.awk_open.specs.Opened.{AreLong}

pub len_of-nth : (xs : Layouts) (k : ℕ) → len_of xs k ≡ len (nth xs k)
len_of-nth no_layouts k = refl
len_of-nth (layout x xs) zero = refl
len_of-nth (layout x xs) (suc k) = len_of-nth xs k

-- contents that are so long reach so far
pub reach_long : (n : ℕ) (ys : List Layout) → AreLong n ys → AllReach n (layouts_from ys)
reach_long n [] h = tt
reach_long n (y ∷ ys) h = (omega (arith, h.0), reach_long n ys h.1)
