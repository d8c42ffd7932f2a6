-- An array once its outermost kind is taken off, and the node over what is made of its contents.
use Rattle.std.specs.Prelude.{◌≡◌, ℕ, ◌-◌, ◌*◌, ◌<◌, ◌≤◌, ◌^◌, Bool, true, false, List}
use Rattle.awk_types.specs.DataType.{DataType, var, reg, opt}
use Rattle.awk_types.specs.Value.{Value, list}
use Rattle.awk_lanes.specs.Places.{size_of, place_at, option_place_at, AreSpans, IsIndex}
use Rattle.awk_lanes.specs.Places.{IsOptionalIndex}
use Rattle.awk_layout.specs.Frames.{IsOnly}
use Rattle.awk_layout.specs.Item.{run, at_option}
use Rattle.awk_layout.specs.Layout.{Layout, regular, lists, indexed, optional}
use Rattle.awk_layout.specs.Typing.{array_type}
use Rattle.awk_layout.specs.Valid.{len}
use Rattle.awk_layout.specs.declared.frame.Frame.{Frame}
use Rattle.awk_gather.specs.Arrays.{array_item}
use Rattle.awk_open.specs.Opened.{IsOpened}
use Rattle.awk_open.specs.declared.opening.Opened.{Opened}
use Rattle.awk_open.specs.declared.opening.Opened.TheVariants as opened
use Rattle.awk_heights.specs.Low.{IsLowNode}
use Rattle.awk_heights.specs.declared.level.Cover.{Cover}
use Rattle.awk_heights.specs.declared.level.Cover.TheVariants as cover
use Rattle.awk_layout.specs.declared.frame.Frame.TheVariants as frame
use Rattle.awk_heights.specs.declared.level.Level.{Level}
use Rattle.awk_heights.specs.declared.level.Level.TheVariants.{Whole, Over, Beside}

abbrev pub is_regular : Layout → Bool
is_regular (regular size n x) = true
is_regular x = false

-- ---- over one content

-- the node over a content
abbrev pub covered : Cover → Layout → Layout
covered (cover.Lists s e) z = lists s e z
covered (cover.Sized j size n) z = indexed j (regular size n z)
covered (cover.Option j) z = optional j z

-- its type, by that of the content
abbrev pub cover_type : Cover → DataType → DataType
cover_type (cover.Lists s e) t = var t
cover_type (cover.Sized j size n) t = reg size t
cover_type (cover.Option j) t = opt t

-- its item at a place, by those of the content
abbrev pub cover_item : Cover → (ℕ → Value) → ℕ → Value
cover_item (cover.Lists s e) f i = list (run f (place_at s i) (place_at e i - place_at s i))
cover_item (cover.Sized j size n) f i = list (run f (place_at j i * size) size)
cover_item (cover.Option j) f i = at_option (option_place_at j i) f

-- a cover fits a content of m items
abbrev pub Covers : Cover → ℕ → Type 0
Covers (cover.Lists s e) m = (size_of s < 2 ^ 63) × AreSpans s e m
Covers (cover.Sized j size n) m =
    (size_of j < 2 ^ 63) × (n < 2 ^ 63) × (n * size ≤ m) × IsIndex j n
Covers (cover.Option j) m = (size_of j < 2 ^ 63) × IsOptionalIndex j m

-- x is what a cover over z is
pub record IsOver (x : Layout) (c : Cover) (z : Layout) : Type 0 where
  pub fits : Covers c (len z)
  pub size : len (covered c z) ≡ len x
  pub typ : array_type x ≡ cover_type c (array_type z)
  pub items : (i : ℕ) → i < len x → array_item x i ≡ cover_item c (array_item z) i

-- ---- over several contents

-- the kind of a frame with its contents
abbrev pub kind_of : Frame → List Layout → Opened
kind_of (frame.Row names) ys = opened.Row names ys
kind_of (frame.Union t j) ys = opened.Union t j ys

-- ---- either

-- an array without contents is low, and every other one is taken apart
abbrev pub IsLevel : Layout → Level → Type 0
IsLevel x (Whole y) = IsLowNode x y
IsLevel x (Over c zs) = IsOnly (IsOver x c) zs
IsLevel x (Beside f ys) = IsOpened x (kind_of f ys)
