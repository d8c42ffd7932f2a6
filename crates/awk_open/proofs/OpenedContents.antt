-- The parts of a simple type are what the contents of an outermost kind are to be.
use Rattle.std.proofs.Common.{subst}
use Rattle.awk_types.specs.DataType.{DataType}
use Rattle.awk_types.specs.Simple.{IsSimple}
use Rattle.awk_layout.specs.Layout.{Layout}
use Rattle.awk_layout.specs.Typing.{array_type}
use Rattle.awk_open.specs.Inner.{IsInner}
use Rattle.awk_open.specs.Opened.{IsKindOf, IsOpened}
use Rattle.awk_open.specs.declared.opening.Opened.{Opened}
use Rattle.awk_open.specs.declared.opening.Opened.TheVariants.{Empty, Leaf, Items, Row}
use Rattle.awk_open.specs.declared.opening.Opened.TheVariants.{Option as Optional, Union}

inner_of : (t : DataType) (r : Opened) → IsSimple t → IsKindOf t r → IsInner r
inner_of t (Optional j y) s e = (subst IsSimple e s).0
inner_of t (Union k j ys) s e = subst IsSimple e s
inner_of t Empty s e = tt
inner_of t (Leaf c) s e = tt
inner_of t (Items l) s e = tt
inner_of t (Row names ys) s e = tt

pub opened_inner : (x : Layout) (r : Opened) → IsSimple (array_type x) → IsOpened x r → IsInner r
opened_inner x r s h = inner_of (array_type x) r s h.kind
