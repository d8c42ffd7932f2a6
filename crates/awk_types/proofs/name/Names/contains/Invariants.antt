use Rattle.std.proofs.Common.{◌≡◌, drop}
use Rattle.awk_types.specs.Names.{is_among}
use Rattle.awk_types.proofs.name.Names.contains.Given as goal

abbrev pub invariant-loop-item : goal.invariant-loop-item
invariant-loop-item l =
    is_among l.text (drop l.item-index l.item-items) ≡ is_among l.text l.item-items
