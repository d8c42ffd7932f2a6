use Rattle.std.proofs.Common.{drop}
use Rattle.awk_types.specs.View.{fields_of, typ_of}
use Rattle.serde_json.specs.View.{items_view, members_view}
use Rattle.awk_plain.proofs.TypeSteps.{AreFields, AreLeft}
use Rattle.awk_plain.proofs.types.+typ.Given as goal

-- the type so far and the items that are left
abbrev pub invariant-items_type-loop-item : goal.invariant-items_type-loop-item
invariant-items_type-loop-item l =
    AreLeft (items_view l.items.items) (typ_of l.typ) (items_view (drop l.item-index l.item-items))

-- the fields so far and the members that are left
abbrev pub invariant-member_types-loop-key : goal.invariant-member_types-loop-key
invariant-member_types-loop-key l =
    AreFields (members_view l.members.entries) (fields_of l.fields) (members_view l.key-iterator)
