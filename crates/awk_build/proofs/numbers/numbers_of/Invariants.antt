use Rattle.std.proofs.Common.{drop}
use Rattle.serde_json.specs.View.{items_view}
use Rattle.awk_build.specs.Numbers.{AreNumbersOf}
use Rattle.awk_build.proofs.numbers.numbers_of.Given as goal

-- the numbers so far and the items that are left
abbrev pub invariant-loop-item : goal.invariant-loop-item
invariant-loop-item l =
    AreNumbersOf (items_view l.items) l.numbers.items (items_view (drop l.item-index l.items))
