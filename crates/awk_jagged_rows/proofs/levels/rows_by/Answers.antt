use Rattle.std.specs.Prelude.{true, false}
use Rattle.std.proofs.Common.{◌≡◌, ap, sym, ◌∙◌, subst}
use Rattle.awk_lanes.specs.Counted.{items_lane}
use Rattle.awk_lanes.specs.declared.kind.Kind.TheVariants.{I64}
use Rattle.awk_columns.specs.Lists.{length_of}
use Rattle.awk_jagged_rows.specs.Levels.{pair_lane, IsIndexOf}
use Rattle.awk_jagged_rows.specs.Rows.{pair_at, IsSmallIndex, AreIn, AreListsIn}
use Rattle.awk_jagged_rows.proofs.LevelLaws.{ready, pair-small, first_in, second_in}
use Rattle.awk_jagged_rows.proofs.levels.rows_by.Goals as goal

pub places_of-requires-clause-ready : goal.places_of-requires-clause-ready
places_of-requires-clause-ready g c =
    ready c.args.xs.now c.args.ws.now c.args.x.now c.args.w.now c.requires.pairs c.requires.alike
    c.content.ensures.lists.spans c.content-2.ensures.lists.spans c.requires.first
    c.requires.second

pub places_of-requires-2-clause-ready : goal.places_of-requires-2-clause-ready
places_of-requires-2-clause-ready g c =
    ready c.args.xs.now c.args.ws.now c.args.x.now c.args.w.now c.requires.pairs c.requires.alike
    c.content.ensures.lists.spans c.content-2.ensures.lists.spans c.requires.first
    c.requires.second

pub index_of-requires : goal.index_of-requires
index_of-requires g c =
    let e : c.in_ok-of_w.of_w
    ≡ pair_lane true c.args.xs.now c.args.ws.now c.args.x.now c.args.w.now =
    c.in_ok-of_w.ensures
    ∙ ap (items_lane I64 (length_of c.args.ws.now)
    (pair_at true c.args.xs.now c.args.ws.now c.args.x.now c.args.w.now)) c.len-n.ensures.len in
    subst IsSmallIndex (sym e)
    (pair-small true c.args.xs.now c.args.ws.now c.args.x.now c.args.w.now c.requires.few)

pub lists_in-requires-clause-index : goal.lists_in-requires-clause-index
lists_in-requires-clause-index g c =
    let e : c.in_ok-of_x.of_x
    ≡ pair_lane false c.args.xs.now c.args.ws.now c.args.x.now c.args.w.now =
    c.in_ok-of_x.ensures
    ∙ ap (items_lane I64 (length_of c.args.ws.now)
    (pair_at false c.args.xs.now c.args.ws.now c.args.x.now c.args.w.now)) c.len-n.ensures.len in
    subst IsSmallIndex (sym e)
    (pair-small false c.args.xs.now c.args.ws.now c.args.x.now c.args.w.now c.requires.few)

pub lists_in-requires-clause-lists : goal.lists_in-requires-clause-lists
lists_in-requires-clause-lists g c =
    let e : c.in_ok-of_x.of_x
    ≡ pair_lane false c.args.xs.now c.args.ws.now c.args.x.now c.args.w.now =
    c.in_ok-of_x.ensures
    ∙ ap (items_lane I64 (length_of c.args.ws.now)
    (pair_at false c.args.xs.now c.args.ws.now c.args.x.now c.args.w.now)) c.len-n.ensures.len in
    subst (λ j. AreIn j c.args.x.now) (sym e)
    (first_in c.args.xs.now c.args.ws.now c.args.x.now c.args.w.now c.requires.pairs
    c.requires.alike c.content.ensures.lists.spans c.content-2.ensures.lists.spans
    c.requires.first c.requires.second)

pub lists_in-requires-2-clause-index : goal.lists_in-requires-2-clause-index
lists_in-requires-2-clause-index g c =
    let e : c.in_ok-of_w.of_w
    ≡ pair_lane true c.args.xs.now c.args.ws.now c.args.x.now c.args.w.now =
    c.in_ok-of_w.ensures
    ∙ ap (items_lane I64 (length_of c.args.ws.now)
    (pair_at true c.args.xs.now c.args.ws.now c.args.x.now c.args.w.now)) c.len-n.ensures.len in
    subst IsSmallIndex (sym e)
    (pair-small true c.args.xs.now c.args.ws.now c.args.x.now c.args.w.now c.requires.few)

pub lists_in-requires-2-clause-lists : goal.lists_in-requires-2-clause-lists
lists_in-requires-2-clause-lists g c =
    let e : c.in_ok-of_w.of_w
    ≡ pair_lane true c.args.xs.now c.args.ws.now c.args.x.now c.args.w.now =
    c.in_ok-of_w.ensures
    ∙ ap (items_lane I64 (length_of c.args.ws.now)
    (pair_at true c.args.xs.now c.args.ws.now c.args.x.now c.args.w.now)) c.len-n.ensures.len in
    subst (λ j. AreIn j c.args.w.now) (sym e)
    (second_in c.args.xs.now c.args.ws.now c.args.x.now c.args.w.now c.requires.pairs
    c.requires.alike c.content.ensures.lists.spans c.content-2.ensures.lists.spans
    c.requires.first c.requires.second)

pub returns : goal.returns
returns g c =
    let ex : c.in_ok-of_x.of_x
    ≡ pair_lane false c.args.xs.now c.args.ws.now c.args.x.now c.args.w.now =
    c.in_ok-of_x.ensures
    ∙ ap (items_lane I64 (length_of c.args.ws.now)
    (pair_at false c.args.xs.now c.args.ws.now c.args.x.now c.args.w.now)) c.len-n.ensures.len in
    let ew : c.in_ok-of_w.of_w
    ≡ pair_lane true c.args.xs.now c.args.ws.now c.args.x.now c.args.w.now =
    c.in_ok-of_w.ensures
    ∙ ap (items_lane I64 (length_of c.args.ws.now)
    (pair_at true c.args.xs.now c.args.ws.now c.args.x.now c.args.w.now)) c.len-n.ensures.len in
    record {
      offsets = c.copy.ensures;
      first = subst (λ j. AreListsIn j c.args.x.now c.in_ok-xs.xs) ex c.in_ok-xs.ensures;
      second = subst (λ j. AreListsIn j c.args.w.now c.in_ok-ws.ws) ew c.in_ok-ws.ensures;
      index = subst (λ p. IsIndexOf p c.args.x.now.index c.args.w.now.index c.in_ok-index.index)
          ew c.in_ok-index.ensures;
    }
