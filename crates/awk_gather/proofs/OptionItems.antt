-- The items of arrays through options and indexes.
use Rattle.std.proofs.Common.{◌≡◌, ℕ, refl}
use Rattle.std.specs.Prelude.{Bool, true, false, Option, Some, None, if◌then◌else◌, List}
use Rattle.awk_types.specs.Value.{null}
use Rattle.awk_types.specs.Simple.{simple_value, in_option}
use Rattle.awk_types.proofs.NullLaws.{in_option-simple}
use Rattle.awk_lanes.specs.Column.{Column}
use Rattle.awk_lanes.specs.Places.{option_place_at}
use Rattle.awk_layout.specs.Layout.{Layout, optional, byte_masked, bit_masked, unmasked}
use Rattle.awk_layout.specs.Item.{item, at_option, byte_shows, bit_shows}
use Rattle.awk_layout.specs.Typing.{layout_type}
use Rattle.awk_gather.specs.Arrays.{array_item}

option_item : (x : Layout) (o : Option ℕ)
    → in_option (simple_value (layout_type x)) (at_option o (item x)) ≡ at_option o (array_item x)
option_item x None = refl
option_item x (Some k) = in_option-simple (layout_type x) (item x k)

shown_item : (x : Layout) (b : Bool) (i : ℕ)
    → in_option (simple_value (layout_type x)) (if b then item x i else null) ≡
    (if b then array_item x i else null)
shown_item x true i = in_option-simple (layout_type x) (item x i)
shown_item x false i = refl

pub item-optional : (j : Column) (x : Layout) (i : ℕ)
    → array_item (optional j x) i ≡ at_option (option_place_at j i) (array_item x)
item-optional j x i = option_item x (option_place_at j i)

pub item-byte_masked : (m : Column) (v : Bool) (x : Layout) (i : ℕ)
    → array_item (byte_masked m v x) i ≡ (if byte_shows m v i then array_item x i else null)
item-byte_masked m v x i = shown_item x (byte_shows m v i) i

pub item-bit_masked : (m : List Bool) (v : Bool) (x : Layout) (i : ℕ)
    → array_item (bit_masked m v x) i ≡ (if bit_shows m v i then array_item x i else null)
item-bit_masked m v x i = shown_item x (bit_shows m v i) i

pub item-unmasked : (n : ℕ) (x : Layout) (i : ℕ) → array_item (unmasked n x) i ≡ array_item x i
item-unmasked n x i = in_option-simple (layout_type x) (item x i)
