use Rattle.std.proofs.Common.{◌≡◌, ap, sym, subst, ◌∙◌, arith}
use Rattle.std.proofs.lemmas.List.{length-map}
use Rattle.std.proofs.lemmas.Result.{IfOk-weaker}
use Rattle.std.specs.Prelude.{get_or, pos}
use Rattle.awk_lanes.specs.Column.{Column}
use Rattle.awk_lanes.specs.Places.{size_of}
use Rattle.awk_layout.specs.Layout.{flat}
use Rattle.awk_layout.specs.Valid.{len}
use Rattle.awk_counts.specs.Counted.{spans}
use Rattle.awk_columns.specs.Reached.{IsReached}
use Rattle.awk_columns.proofs.JoinedLists.{gather_reached, spans_places}
use Rattle.awk_columns.proofs.MovedNumbers.{numbers_reached}
use Rattle.awk_columns.proofs.moved.scattered.Goals as goal

pub array_like-requires-clause-small : goal.array_like-requires-clause-small
array_like-requires-clause-small g c =
    let e : size_of c.in_ok-lane.lane ≡ c.args.n =
    ap size_of c.in_ok-lane.ensures
    ∙ length-map (spans c.args.starts.now c.args.stops.now)
    (λ k. get_or c.in-Numpy.lane.now.items k (pos 0))
    ∙ sym c.requires.total in
    omega (arith, e, c.requires.small)

pub returns-in-Numpy : goal.returns-in-Numpy
returns-in-Numpy g c =
    let e : flat c.in-Numpy.lane.now ≡ c.args.content.now =
    c.in-Numpy.ensures.class ∙ c.node.ensures in
    let ks = spans c.args.starts.now c.args.stops.now in
    let moved = numbers_reached c.in-Numpy.lane.now c.in_ok-lane.lane ks c.in_ok-lane.ensures in
    record {
      reached = IfOk-weaker c.array_like.result _ _
          (λ r h. subst (λ y. IsReached y ks r) e
          (subst (IsReached (flat c.in-Numpy.lane.now) ks) (sym h) moved))
          c.array_like.ensures;
    }

pub gather-requires : goal.gather-requires
gather-requires g c = record {
  kind = ap (λ (w : Column). w.kind) c.in_ok-places.ensures;
  places = spans_places c.args.starts.now c.args.stops.now (len c.args.content.now)
      c.in_ok-places.places c.requires.spans c.in_ok-places.ensures;
}

pub returns : goal.returns
returns g c = record {
  reached = IfOk-weaker c.gather.result _ _
      (λ r h. gather_reached c.args.starts.now c.args.stops.now c.in_ok-places.places
      c.args.content.now r c.requires.spans c.in_ok-places.ensures h)
      c.gather.ensures.gathered;
}
