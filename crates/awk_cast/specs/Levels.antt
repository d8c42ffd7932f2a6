-- An array once its outermost kind is taken off, and the node over what is made of its contents.
use Rattle.std.specs.Prelude.{◌≡◌, ℕ, ◌+◌, ◌-◌, ◌<◌, ◌^◌, false, List}
use Rattle.awk_types.specs.Value.{list}
use Rattle.awk_lanes.specs.Column.{Column}
use Rattle.awk_lanes.specs.Places.{size_of, place_at, IsOptionalIndex}
use Rattle.awk_layout.specs.Item.{run}
use Rattle.awk_layout.specs.Layout.{Layout, optional}
use Rattle.awk_layout.specs.Typing.{array_type, array_items}
use Rattle.awk_layout.specs.Valid.{len}
use Rattle.awk_layout.specs.declared.frame.Frame.{Frame}
use Rattle.awk_gather.specs.Arrays.{array_item}
use Rattle.awk_columns.specs.Columns.{joined_items}
use Rattle.awk_columns.specs.Joined.{AreOffsets}
use Rattle.awk_columns.specs.ListClass.{Class, list_type}
use Rattle.awk_columns.specs.ListNode.{AreEven, list_layout}
use Rattle.awk_open.specs.Opens.{OpensOption, OpensRow, OpensUnion}
use Rattle.awk_cast.specs.Cast.{are_many}
use Rattle.awk_cast.specs.declared.level.Cover.{Cover}
use Rattle.awk_cast.specs.declared.level.Cover.TheVariants as cover
use Rattle.awk_layout.specs.declared.frame.Frame.TheVariants as frame

-- ---- over one content

-- x has lists of a class, whose items z holds one list after another
pub record IsListed (class : Class) (o : Column) (z x : Layout) : Type 0 where
  pub typ : array_type x ≡ list_type class (array_type z)
  pub offsets : AreOffsets o (len x) (len z)
  pub even : AreEven class o (len x)
  pub column : array_items z ≡ joined_items (array_items x)
  pub few : are_many (array_items z) ≡ false
  pub items : (i : ℕ) → i < len x → array_item x i
      ≡ list (run (array_item z) (place_at o i) (place_at o (i + 1) - place_at o i))

abbrev pub IsOver : Layout → Cover → Layout → Type 0
IsOver x (cover.Lists class o) z = IsListed class o z x
IsOver x (cover.Option j) z = OpensOption j z x

-- the node of n items over a content
abbrev pub covered : ℕ → Cover → Layout → Layout
covered n (cover.Lists class o) z = list_layout class n o z
covered n (cover.Option j) z = optional j z

-- a cover of n items fits a content of so many
abbrev pub Covers : ℕ → Cover → ℕ → Type 0
Covers n (cover.Lists class o) m = AreOffsets o n m × AreEven class o n
Covers n (cover.Option j) m = (size_of j < 2 ^ 63) × IsOptionalIndex j m

-- ---- over several contents

abbrev pub AreBeside : Layout → Frame → List Layout → Type 0
AreBeside x (frame.Row names) ys = OpensRow names ys x
AreBeside x (frame.Union t j) ys = OpensUnion t j ys x
