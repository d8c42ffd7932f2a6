use Rattle.std.proofs.Common.{◌≡◌}
use Rattle.awk_merge_rows.specs.Tagged.{with_numbers, item_tag, item_place}
use Rattle.awk_merge_rows.proofs.unions.put_items.Given as goal

abbrev pub invariant-loop-i : goal.invariant-loop-i
invariant-loop-i g l =
    (l.made.tags ≡ with_numbers l.fn.made.tags l.i (item_tag l.tags l.targets))
    × (l.made.index ≡ with_numbers l.fn.made.index l.i (item_place l.tags l.index l.targets))
