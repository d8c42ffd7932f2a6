use Rattle.std.proofs.Common.{◌≡◌, drop}
use Rattle.serde_json.specs.View.{items_view}
use Rattle.awk_types.specs.View.{typ_of}
use Rattle.awk_plain.specs.IsPlain.{ArePlain}
use Rattle.awk_plain.specs.Suits as spec
use Rattle.awk_plain.proofs.standing.stand_before.Given as goal

-- the rest decides
abbrev pub invariant-loop-i : goal.invariant-loop-i
invariant-loop-i l =
    (spec.all_suit (typ_of l.typ) (items_view l.items)
    ≡ spec.all_suit (typ_of l.typ) (items_view (drop l.i l.items)))
    × (ArePlain (items_view (drop l.i l.items)) → ArePlain (items_view l.items))
