-- What lies over several contents, and contents that are one.
use Rattle.std.specs.Prelude.{ℕ, ◌<◌, ◌^◌, List, [], ◌∷◌}
use Rattle.awk_lanes.specs.Places.{size_of}
use Rattle.awk_layout.specs.Layout.{Layout, layouts_from, count, rows, union}
use Rattle.awk_layout.specs.Valid.{AllReach, AreNames, IsUnion}
use Rattle.awk_layout.specs.declared.frame.Frame.{Frame}
use Rattle.awk_layout.specs.declared.frame.Frame.TheVariants as frame

-- the node of n items over contents
abbrev pub framed : ℕ → Frame → List Layout → Layout
framed n (frame.Row names) zs = rows names n (layouts_from zs)
framed n (frame.Union t j) zs = union t j (layouts_from zs)

-- a frame of n items fits contents
abbrev pub Frames : ℕ → Frame → List Layout → Type 0
Frames n (frame.Row names) zs =
    (n < 2 ^ 63) × AreNames names (count (layouts_from zs)) × AllReach n (layouts_from zs)
Frames n (frame.Union t j) zs = (size_of t < 2 ^ 63) × IsUnion t j (layouts_from zs)

-- there is one array, of which this holds
abbrev pub IsOnly : (Layout → Type 0) → List Layout → Type 0
IsOnly P (z ∷ []) = P z
IsOnly P zs = ⊥
