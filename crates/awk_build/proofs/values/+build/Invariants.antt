use Rattle.std.proofs.Common.{drop}
use Rattle.serde_json.specs.View.{items_view, members_view}
use Rattle.awk_plain.specs.IsPlain.{AreJudged, HaveJudged}
use Rattle.awk_build.specs.Built.{AreArraysOf, AreFieldsOf}
use Rattle.awk_build.proofs.values.+build.Given as goal

-- the arrays so far and the items that are left
abbrev pub invariant-items_array-loop-item : goal.invariant-items_array-loop-item
invariant-items_array-loop-item g l =
    AreArraysOf (items_view l.items.items) l.arrays (items_view (drop l.item-index l.item-items))
    × AreJudged (items_view (drop l.item-index l.item-items))

abbrev pub invariant-field_nodes-loop-key : goal.invariant-field_nodes-loop-key
invariant-field_nodes-loop-key g l =
    AreFieldsOf (members_view l.members.entries) l.nodes (members_view l.key-iterator)
    × HaveJudged (members_view l.key-iterator)
