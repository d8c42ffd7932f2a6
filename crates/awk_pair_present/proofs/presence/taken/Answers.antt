use Rattle.std.proofs.Common.{◌∙◌, ap, sym, subst}
use Rattle.awk_lanes.specs.Column.{Column}
use Rattle.awk_lanes.specs.Made.{lane_of}
use Rattle.awk_lanes.specs.Places.{at, place_at}
use Rattle.awk_lanes.specs.declared.kind.Kind.TheVariants.{I64}
use Rattle.awk_layout.specs.Laws.{len-fits}
use Rattle.awk_pair_present.specs.Presence.{IsAsLong, AreKeptOf, AreThereAt, IsTaken}
use Rattle.awk_pair_present.specs.declared.presence.Presence.TheVariants.{Indexed}
use Rattle.awk_pair_present.proofs.PresenceLaws.{there_places, there_index, taken_indexed}
use Rattle.awk_pair_present.proofs.presence.taken.Goals as goal

pub made_lane-requires-clause-ready : goal.made_lane-requires-clause-ready
made_lane-requires-clause-ready g c =
    let l : IsAsLong c.args.n (Indexed c.in-Indexed.index c.in-Indexed.content) =
    rw c.in-Indexed.is at c.requires.long in
    let k : AreKeptOf c.args.n (Indexed c.in-Indexed.index c.in-Indexed.content) c.args.places.now =
    rw c.in-Indexed.is at c.requires.kept in
    subst (AreThereAt c.in-Indexed.index) (sym c.in_ok-seen-in-Indexed.ensures)
    (there_places c.args.n c.in-Indexed.index c.in-Indexed.content c.args.places.now
    (len-fits c.in-Indexed.content c.len.ensures.valid) l c.requires.kind c.requires.positive k)

pub gather-requires-in-Indexed-clause-places : goal.gather-requires-in-Indexed-clause-places
gather-requires-in-Indexed-clause-places g c =
    let l : IsAsLong c.args.n (Indexed c.in-Indexed.index c.in-Indexed.content) =
    rw c.in-Indexed.is at c.requires.long in
    let k : AreKeptOf c.args.n (Indexed c.in-Indexed.index c.in-Indexed.content) c.args.places.now =
    rw c.in-Indexed.is at c.requires.kept in
    there_index c.args.n c.in-Indexed.index c.in-Indexed.content c.args.places.now
    c.in_ok-lane-in-Indexed.lane l k
    (c.in_ok-lane-in-Indexed.ensures.lane
    ∙ ap (λ (ks : Column). lane_of I64 c.len-n.result (λ q. at c.in-Indexed.index (place_at ks q)))
    c.in_ok-seen-in-Indexed.ensures
    ∙ ap (λ n. lane_of I64 n (λ q. at c.in-Indexed.index (place_at c.args.places.now q)))
    c.len-n.ensures.len)

pub returns-in_ok-column-in-Indexed : goal.returns-in_ok-column-in-Indexed
returns-in_ok-column-in-Indexed g c =
    let k : AreKeptOf c.args.n (Indexed c.in-Indexed.index c.in-Indexed.content) c.args.places.now =
    rw c.in-Indexed.is at c.requires.kept in
    subst (λ p. IsTaken p c.args.places.now c.in_ok-column-in-Indexed.column) (sym c.in-Indexed.is)
    (taken_indexed c.args.n c.in-Indexed.index c.in-Indexed.content
    c.in_ok-column-in-Indexed.column c.args.places.now c.in_ok-lane-in-Indexed.lane k
    (c.in_ok-lane-in-Indexed.ensures.lane
    ∙ ap (λ (ks : Column). lane_of I64 c.len-n.result (λ q. at c.in-Indexed.index (place_at ks q)))
    c.in_ok-seen-in-Indexed.ensures
    ∙ ap (λ n. lane_of I64 n (λ q. at c.in-Indexed.index (place_at c.args.places.now q)))
    c.len-n.ensures.len)
    c.in_ok-column-in-Indexed.ensures.gathered)
