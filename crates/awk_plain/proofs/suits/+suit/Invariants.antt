use Rattle.std.proofs.Common.{◌≡◌, ◌≤◌, drop, length}
use Rattle.serde_json.specs.View.{items_view, members_view}
use Rattle.awk_types.specs.View.{fields_of, typ_of}
use Rattle.awk_plain.specs.IsPlain.{ArePlain, HavePlain}
use Rattle.awk_plain.specs.Suits as spec
use Rattle.awk_plain.proofs.suits.+suit.Given as goal

-- the rest decides
abbrev pub invariant-all_suit-loop-item : goal.invariant-all_suit-loop-item
invariant-all_suit-loop-item l =
    (spec.all_suit (typ_of l.typ) (items_view l.items.items)
    ≡ spec.all_suit (typ_of l.typ) (items_view (drop l.item-index l.item-items)))
    × (ArePlain (items_view (drop l.item-index l.item-items)) → ArePlain (items_view l.items.items))

abbrev pub invariant-members_suit-loop-key : goal.invariant-members_suit-loop-key
invariant-members_suit-loop-key l =
    (l.i ≤ length (fields_of l.fields))
    × (spec.fields_suit (fields_of l.fields) (members_view l.members.entries)
    ≡ spec.fields_suit (drop l.i (fields_of l.fields)) (members_view l.key-iterator))
    × (HavePlain (members_view l.key-iterator) → HavePlain (members_view l.members.entries))
