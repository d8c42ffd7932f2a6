-- The items are of the array's type.
use Rattle.std.proofs.Common.{subst}
use Rattle.std.specs.List.{AllByRecursion}
use Rattle.awk_types.specs.Has.{Has}
use Rattle.awk_layout.specs.Layout.{Layout}
use Rattle.awk_layout.specs.Typing.{array_type, array_items}
use Rattle.awk_layout.proofs.TypedItems.{array_items_have}
use Rattle.awk_layout.proofs.array.Array.len.Goals as goal

pub returns-clause-items : goal.returns-clause-items
returns-clause-items c =
    subst (λ (x : Layout). AllByRecursion (Has (array_type x)) (array_items x)) c.self.view_is
    (array_items_have _ c.len.ensures.valid c.len.ensures.numbered)
