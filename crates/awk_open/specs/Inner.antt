-- What the contents of an outermost kind are not.
use Rattle.std.specs.Prelude.{◌≡◌, false, map}
use Rattle.awk_types.specs.DataType.{types_from}
use Rattle.awk_types.specs.Simple.{is_option, ArePlain}
use Rattle.awk_layout.specs.Typing.{array_type}
use Rattle.awk_open.specs.declared.opening.Opened.{Opened}
use Rattle.awk_open.specs.declared.opening.Opened.TheVariants.{Empty, Leaf, Items, Row}
use Rattle.awk_open.specs.declared.opening.Opened.TheVariants.{Option as Optional, Union}

-- the content of an option is no option, and the contents of a union are neither options nor unions
abbrev pub IsInner : Opened → Type 0
IsInner (Optional j y) = is_option (array_type y) ≡ false
IsInner (Union t j ys) = ArePlain (types_from (map array_type ys))
IsInner Empty = Unit {0}
IsInner (Leaf c) = Unit {0}
IsInner (Items l) = Unit {0}
IsInner (Row names ys) = Unit {0}
