-- Groups of columns: one group a part of a row, or an alternative.
use Rattle.std.specs.Prelude.{◌∷◌, [], ℕ, zero, suc, List, map}
use Rattle.std.specs.List.{AllByRecursion}
use Rattle.awk_types.specs.DataType.{DataType}
use Rattle.awk_layout.specs.Array.{IsArrayType}
use Rattle.awk_layout.specs.Layout.{Layout}
use Rattle.awk_unify.specs.Carry.{Carry}
use Rattle.awk_merge_sides.specs.Sides.{Side, sides_of, with_side, AreSides, IsCounted, IsMerged}
use Rattle.awk_merge_sides.specs.declared.groups.Groups.{Groups}

abbrev pub groups_of : Groups → List (List Side)
groups_of g = map sides_of g.groups.items

abbrev pub AreCounted : Groups → Type 0
AreCounted g = AllByRecursion IsCounted g.groups.items

-- a further column in the group at a place, unless it has no items
abbrev pub with_side_at : ℕ → List (List Side) → Layout → Carry → List (List Side)
with_side_at j [] x f = []
with_side_at zero (g ∷ gs) x f = with_side g x f ∷ gs
with_side_at (suc j) (g ∷ gs) x f = g ∷ with_side_at j gs x f

-- the columns of each group become one of the type at its place
abbrev pub AreGroups : List DataType → List (List Side) → Type 0
AreGroups [] [] = Unit {0}
AreGroups (t ∷ ts) (g ∷ gs) = AreSides t g × AreGroups ts gs
AreGroups ts gs = ⊥

abbrev pub AreMerged : List DataType → List (List Side) → List Layout → Type 0
AreMerged [] [] [] = Unit {0}
AreMerged (t ∷ ts) (g ∷ gs) (r ∷ rs) = IsMerged t g r × AreMerged ts gs rs
AreMerged ts gs rs = ⊥

abbrev pub AreArrayTypes : List DataType → Type 0
AreArrayTypes ts = AllByRecursion IsArrayType ts
