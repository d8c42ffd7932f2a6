use Rattle.std.proofs.Common.{◌≡◌, length, [], get_or, refl, ap, sym, ◌∙◌, arith}
use Rattle.std.specs.Prelude.{Some}
use Rattle.std.proofs.lemmas.List.{get_or_read}
use Rattle.awk_base.proofs.Results.{none_left}
use Rattle.awk_lanes.specs.Places.{option_place}
use Rattle.awk_gather_lanes.specs.Moved.{eight}
use Rattle.awk_counts.specs.Counted.{present_place}
use Rattle.awk_counts.proofs.FirstPlaces.{first_of-room, length-first_of}
use Rattle.awk_present.specs.Named.{place_group}
use Rattle.awk_present.proofs.NamedLaws.{named_more, places_same}
use Rattle.awk_present.proofs.named.groups_named.Goals as goal
use Rattle.awk_present.proofs.named.groups_named.Goals.{in-Some, in_default}

pub push_reserved-requires : goal.push_reserved-requires
push_reserved-requires g c =
    let ps = c.args.places.now in
    let here : option_place (eight (get_or ps c.loop-i.i [])) ≡ Some c.in-Some.place =
    sym c.place_of.ensures ∙ c.in-Some.is in
    omega (
      arith,
      c.loop-i.invariant.count,
      c.loop-i.invariant.room,
      c.requires.count,
      first_of-room (place_group ps) c.loop-i.i (length ps) c.loop-i-test.true,
      ap (λ o. length (present_place o)) here,
    )

pub loop-i-preserved : goal.loop-i-preserved
loop-i-preserved g c = elim c.match-place_of.branch [
  | in-Some w ↦
      let ps = c.args.places.now in
      let gs = c.args.groups.now in
      let here : option_place (eight (get_or ps c.loop-i.i [])) ≡ Some w.in-Some.place =
      sym c.place_of.ensures ∙ w.in-Some.is in
      let group = get_or_read gs w.in-Some.place w.index-groups-place.result
      (c.requires.within c.loop-i.i w.in-Some.place c.loop-i-test.true here)
      w.index-groups-place.is [] in
      rw w.named-is (record {
        end = refl;
        count = omega (
          arith,
          w.push_reserved.ensures.len,
          c.loop-i.invariant.count,
          length-first_of (place_group ps) c.loop-i.i,
          ap (λ o. length (present_place o)) here,
        );
        room = w.push_reserved.ensures.capacity ∙ c.loop-i.invariant.room;
        items = named_more gs ps c.loop-i.i w.in-Some.place w.index-groups-place.result
            c.loop-i.named.items _ here w.push_reserved.ensures.items group
            c.loop-i.invariant.items;
      })
  | in_default w ↦
      let ps = c.args.places.now in
      let same = places_same ps c.loop-i.i
      (ap present_place (none_left _ (λ k e. w.in_default.not-Some k (c.place_of.ensures ∙ e)))) in
      rw (w.named-is, same) (record {
        end = refl;
        count = c.loop-i.invariant.count;
        room = c.loop-i.invariant.room;
        items = c.loop-i.invariant.items;
      })
]
