-- Layouts as lists, and back, and the length of one of them.
use Rattle.std.proofs.Common.{◌≡◌, ℕ, zero, suc, List, [], ◌∷◌, length, slice_get, Some, refl, ap}
use Rattle.std.proofs.Common.{arith}
use Rattle.awk_layout.specs.Layout.{Layout, layout_list, layouts_from, Layouts, count, layout}
use Rattle.awk_layout.specs.Layout.{no_layouts}
use Rattle.awk_layout.specs.Valid.{len, len_of}

pub layout_list-from : (xs : List Layout) → layout_list (layouts_from xs) ≡ xs
layout_list-from [] = refl
layout_list-from (x ∷ xs) = ap (λ ys. x ∷ ys) (layout_list-from xs)

pub length-layout_list : (xs : Layouts) → length (layout_list xs) ≡ count xs
length-layout_list no_layouts = refl
length-layout_list (layout x xs) = omega (arith, length-layout_list xs)

pub len_of-get : (xs : List Layout) (k : ℕ) (y : Layout) → slice_get xs k ≡ Some y
    → len_of (layouts_from xs) k ≡ len y
len_of-get [] k y e = cc
len_of-get (x ∷ xs) zero y e = let f : x ≡ y = cc in ap len f
len_of-get (x ∷ xs) (suc k) y e = len_of-get xs k y e
