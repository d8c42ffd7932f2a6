use Rattle.std.proofs.Common.{◌≡◌, ◌+◌, ◌<◌, arith, ap, sym, ◌∙◌, length, [], get_or}
use Rattle.std.proofs.lemmas.List.{get_or_read}
use Rattle.awk_types.specs.Value.{truth}
use Rattle.awk_layout.specs.Valid.{len}
use Rattle.awk_gather.specs.Arrays.{array_item}
use Rattle.awk_jagged_rows.specs.Levels.{row_at}
use Rattle.awk_jagged_rows.specs.Rows.{place_by}
use Rattle.awk_jagged_places.proofs.BesideLaws.{groups-next, count-next, groups-room}
use Rattle.awk_jagged_places.proofs.beside.Beside.put_list.Goals as goal

pub at-keep-requires : goal.at-keep-requires
at-keep-requires g c =
    c.requires.leaves.cells.there (c.span_of-by.result.start + c.loop-k.k)
    (omega (
      arith,
      c.loop-k-test.true,
      c.span_of-by.ensures.within (omega (arith, c.loop-k-test.true)),
    ))

pub bounds-groups-from : goal.bounds-groups-from
bounds-groups-from g c =
    let same : c.span_of-from.result.length ≡ c.span_of-by.result.length =
    c.span_of-from.ensures.length ∙ c.requires.alike c.args.i c.requires.list
    ∙ sym c.span_of-by.ensures.length in
    omega (
      arith,
      c.loop-k-test.true,
      c.requires.content,
      same,
      c.span_of-from.ensures.within (omega (arith, c.loop-k-test.true, same)),
    )

pub put_if-requires : goal.put_if-requires
put_if-requires g c = (
  omega (arith, c.requires.small),
  omega (
    arith,
    groups-room c.args.self.now.xs.now c.args.self.now.ws.now c.args.groups.now c.args.i
        c.loop-k.k _ _ _ c.requires.room
        (omega (arith, c.loop-k-test.true, c.span_of-by.ensures.length))
        c.loop-k.invariant.count,
    c.loop-k.invariant.capacity,
  ),
)

pub loop-k-preserved : goal.loop-k-preserved
loop-k-preserved g c =
    let xs = c.args.self.now.xs.now in
    let ws = c.args.self.now.ws.now in
    let there : c.span_of-by.result.start + c.loop-k.k < len ws.content =
    omega (
      arith,
      c.loop-k-test.true,
      c.span_of-by.ensures.within (omega (arith, c.loop-k-test.true)),
    ) in
    let keep : truth c.at-keep.result ≡ row_at ws c.args.i c.loop-k.k =
    c.at-keep.ensures
    ∙ sym (c.requires.leaves.cells.values (c.span_of-by.result.start + c.loop-k.k) there)
    ∙ ap (λ a. array_item ws.content (a + c.loop-k.k)) c.span_of-by.ensures.start in
    let same : c.span_of-from.result.length ≡ c.span_of-by.result.length =
    c.span_of-from.ensures.length ∙ c.requires.alike c.args.i c.requires.list
    ∙ sym c.span_of-by.ensures.length in
    let within : c.span_of-from.result.start + c.loop-k.k < length c.args.groups.now =
    omega (
      arith,
      c.loop-k-test.true,
      c.requires.content,
      same,
      c.span_of-from.ensures.within (omega (arith, c.loop-k-test.true, same)),
    ) in
    let group : c.index-groups-from.result
    ≡ get_or c.args.groups.now (place_by xs c.args.i c.loop-k.k) [] =
    get_or_read c.args.groups.now (c.span_of-from.result.start + c.loop-k.k)
    c.index-groups-from.result within c.index-groups-from.is []
    ∙ ap (λ a. get_or c.args.groups.now (a + c.loop-k.k) []) c.span_of-from.ensures.start in
    record {
      items = groups-next xs ws c.args.groups.now c.args.i c.loop-k.k c.at-keep.result
          c.index-groups-from.result _ _ _ keep group c.loop-k.invariant.items
          c.put_if.ensures.items;
      count = count-next xs ws c.args.groups.now c.args.i c.loop-k.k c.at-keep.result
          c.index-groups-from.result _ _ _ keep group c.loop-k.invariant.count c.put_if.ensures.len;
      capacity = omega (arith, c.put_if.ensures.capacity, c.loop-k.invariant.capacity);
    }
