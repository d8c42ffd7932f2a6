-- A level of options that are merged: the columns of what is present, and an index into their
-- items, or none where nothing is null.
use Rattle.std.specs.Prelude.{◌≡◌, false, ℕ, ◌<◌, ◌^◌, List, length, Option, Some, None}
use Rattle.awk_types.specs.DataType.{DataType, opt}
use Rattle.awk_types.specs.Simple.{is_option, present}
use Rattle.awk_types.specs.Value.{Value}
use Rattle.awk_lanes.specs.Column.{Column}
use Rattle.awk_lanes.specs.Places.{size_of, IsOptionalIndex}
use Rattle.awk_lanes.specs.declared.kind.Kind.TheVariants.{I64}
use Rattle.awk_layout.specs.Layout.{Layout, optional, unmasked}
use Rattle.awk_layout.specs.Typing.{array_type, array_items}
use Rattle.awk_layout.specs.Valid.{len}
use Rattle.awk_gather.specs.Arrays.{pick}
use Rattle.awk_merge_sides.specs.Sides.{Side, sides_of, merged_items, AreSides, IsCounted}
use Rattle.awk_merge_rows.specs.declared.whole.PresentLevel.{PresentLevel}

-- y holds the items of x, of which none is null
pub record IsWhole (x y : Layout) : Type 0 where
  pub typ : array_type y ≡ present (array_type x)
  pub whole : is_option (array_type y) ≡ false
  pub items : array_items y ≡ array_items x

-- columns of the same items, which have a type where those have its option
pub record IsWholeLevel (ss whole : List Side) : Type 0 where
  pub sides : (u : DataType) → is_option u ≡ false → AreSides (opt u) ss → AreSides u whole
  pub items : merged_items ss ≡ merged_items whole

-- the values at an index, or all of them where there is none
abbrev pub values_at : Option Column → List Value → List Value
values_at None vs = vs
values_at (Some j) vs = pick vs j.items

-- an index into n items, if there is one
abbrev pub IsIndexOf : ℕ → Option Column → Type 0
IsIndexOf n None = Unit {0}
IsIndexOf n (Some j) = (j.kind ≡ I64) × (size_of j < 2 ^ 63) × IsOptionalIndex j n

-- the option of the items of a node at an index, or of all where there is none
abbrev pub option_over : Option Column → Layout → Layout
option_over None y = unmasked (len y) y
option_over (Some j) y = optional j y

-- the columns of what is present have a type where those of all have its option
pub record IsPresentLevel (ss : List Side) (r : PresentLevel) : Type 0 where
  pub sides : (u : DataType) → is_option u ≡ false → AreSides (opt u) ss
      → AreSides u (sides_of r.sides)
  pub counted : IsCounted r.sides
  pub index : IsIndexOf (length (merged_items (sides_of r.sides))) r.index
  pub items : merged_items ss ≡ values_at r.index (merged_items (sides_of r.sides))
