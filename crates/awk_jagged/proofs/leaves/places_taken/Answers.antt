use Rattle.std.specs.List.{AllByRecursion}
use Rattle.std.specs.Prelude.{ℕ, ◌<◌, true, false, Some, refl}
use Rattle.std.proofs.Common.{◌≡◌, ap, ◌∙◌, subst}
use Rattle.awk_base.proofs.Results.{if_ok}
use Rattle.awk_types.specs.Has.{Has}
use Rattle.awk_types.specs.ItemLimit.{item_limit}
use Rattle.awk_types.specs.Simple.{is_option}
use Rattle.awk_lanes.specs.Column.{Column}
use Rattle.awk_lanes.specs.Counted.{AreOffsetsBy}
use Rattle.awk_lanes.specs.Places.{size_of}
use Rattle.awk_lanes.specs.declared.counted.Offsets.{Offsets}
use Rattle.awk_layout.specs.Typing.{array_type, array_items}
use Rattle.awk_columns.specs.Lists.{Listed, length_of}
use Rattle.awk_jagged_places.specs.Leaves.{take_numbers, AreTested, AreTestedIn}
use Rattle.awk_jagged_places.specs.Put.{IsPutLane, IsPutOr}
use Rattle.awk_jagged.specs.PickedAt.{ArePlacesOr, IsPickedAt}
use Rattle.awk_jagged.specs.declared.leaves.Places.{Places}
use Rattle.awk_jagged.proofs.LeafLaws.{takes-made, takes-total, takes-within}
use Rattle.awk_jagged.proofs.PickLaws.{by-takes, leaf-outcome, outside-told}
use Rattle.awk_jagged.proofs.leaves.places_taken.Goals as goal

-- where the places of all lists lie
abbrev places_at : Offsets → Column → Places
places_at o lane = record { offsets = o.lane; lane = lane }

places-made : (xs ws : Listed) (n : ℕ) (o : Offsets) (lane : Column) → n ≡ size_of ws.starts
    → AreOffsetsBy item_limit (length_of ws) n (Some o) → IsPutLane (take_numbers xs ws) n lane
    → ArePlacesOr (take_numbers xs ws) (size_of ws.starts) (Some (places_at o lane))
places-made xs ws n o lane e h p =
    subst (λ n. ArePlacesOr (take_numbers xs ws) n (Some (places_at o lane))) e
    (takes-made xs ws n o.lane lane (places_at o lane) h.1 h.2 p refl)

-- no item of all lists is refused
none-refused : (xs ws : Listed) (n : ℕ) → n ≡ size_of ws.starts
    → ((i : ℕ) → i < n → AreTestedIn xs ws i false) → AreTested xs ws false
none-refused xs ws n e h = subst (λ n. (i : ℕ) → i < n → AreTestedIn xs ws i false) e h

pub put_lane-requires-clause-total : goal.put_lane-requires-clause-total
put_lane-requires-clause-total g c =
    c.requires.offsets.0 ∙ takes-total c.args.source.now.xs.now c.args.source.now.ws.now c.args.n

pub returns-in-None : goal.returns-in-None
returns-in-None g c =
    let xs = c.args.source.now.xs.now in
    let ws = c.args.source.now.ws.now in
    let refused : AreTested xs ws true =
    rw (c.in-None.is, c.requires.lists) at c.in_ok-put_lane.ensures in
    outside-told xs ws c.requires.leaf c.requires.mask refused

pub picked_at-requires : goal.picked_at-requires
picked_at-requires g c =
    let xs = c.args.source.now.xs.now in
    let ws = c.args.source.now.ws.now in
    let optional : c.is_optional-optional.result ≡ is_option (array_type ws.content) =
    c.is_optional-optional.ensures ∙ ap is_option c.typ.ensures.typ
    ∙ ap (λ y. is_option (array_type y)) c.content-index.ensures.content in
    let has : AllByRecursion (Has (array_type ws.content)) (array_items ws.content) =
    subst (λ y. AllByRecursion (Has (array_type y)) (array_items y))
    c.content-index.ensures.content c.len.ensures.items in
    let put : IsPutOr (AreTestedIn xs ws) (take_numbers xs ws) c.args.n (Some c.in-Some.lane) =
    rw c.in-Some.is at c.in_ok-put_lane.ensures in
    let inside = none-refused xs ws c.args.n c.requires.lists put.0 in
    let p = places_at c.args.offsets c.in-Some.lane in
    let places = places-made xs ws c.args.n c.args.offsets c.in-Some.lane c.requires.lists
    c.requires.offsets put.1 in
    rw (optional, c.content-content.ensures.content)
    (record {
      places = takes-within xs ws c.requires.leaves.pairs c.content-content.ensures.lists.spans
          c.content-index.ensures.lists.spans c.requires.leaf c.requires.mask has inside
          (Some p) places;
    })

pub returns-in-Some : goal.returns-in-Some
returns-in-Some g c =
    let xs = c.args.source.now.xs.now in
    let ws = c.args.source.now.ws.now in
    let optional : c.is_optional-optional.result ≡ is_option (array_type ws.content) =
    c.is_optional-optional.ensures ∙ ap is_option c.typ.ensures.typ
    ∙ ap (λ y. is_option (array_type y)) c.content-index.ensures.content in
    let put : IsPutOr (AreTestedIn xs ws) (take_numbers xs ws) c.args.n (Some c.in-Some.lane) =
    rw c.in-Some.is at c.in_ok-put_lane.ensures in
    let inside = none-refused xs ws c.args.n c.requires.lists put.0 in
    let p = places_at c.args.offsets c.in-Some.lane in
    let places = places-made xs ws c.args.n c.args.offsets c.in-Some.lane c.requires.lists
    c.requires.offsets put.1 in
    if_ok _ _ c.picked_at.result
    (λ r q.
    leaf-outcome xs ws (take_numbers xs ws)
    (by-takes xs ws c.requires.leaves.pairs c.content-content.ensures.lists.spans c.requires.leaf
    c.requires.mask inside)
    (Some p) r places
    (subst (λ o. IsPickedAt o xs.content (Some p) r) optional
    (subst (λ y. IsPickedAt c.is_optional-optional.result y (Some p) r)
    c.content-content.ensures.content q)))
    c.picked_at.ensures
