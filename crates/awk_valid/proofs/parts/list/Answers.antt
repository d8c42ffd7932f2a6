-- The rule is judged over the starts and stops that were made.
use Rattle.std.proofs.Common.{arith, ap, sym, ◌∙◌, refl, codes, ◌∷◌, [], ap₂}
use Rattle.awk_types.proofs.RefusalLaws.{refused_or-Ok}
use Rattle.awk_lanes.specs.Places.{size_of, at}
use Rattle.awk_store.specs.Buffers.{held_len}
use Rattle.awk_form.specs.FormTree.{list}
use Rattle.awk_valid.specs.Broken.{size_break, rule_break, list_rule}
use Rattle.awk_valid.specs.Container.{index_at}
use Rattle.awk_valid.specs.Walked.{given, container_in}
use Rattle.awk_valid.specs.Loading.{told}
use Rattle.awk_valid.specs.Needs.{lists_length}
use Rattle.awk_valid.specs.declared.own.One.TheVariants.{Lists}
use Rattle.awk_valid.specs.declared.own.Own.TheVariants.{Over}
use Rattle.awk_valid.proofs.PartLaws.{part-fails, part-made, told-buffers, told-second, told-places}
use Rattle.awk_valid.proofs.PartLaws.{index_break, index_told, index_fetched, list-own}
use Rattle.awk_valid.proofs.parts.list.Goals as goal

pub returns-in_err-stops-clause-answer : goal.returns-in_err-stops-clause-answer
returns-in_err-stops-clause-answer g c f =
    let e = c.in_err-stops.field-0.0 in
    let t = given c.args.walk.now.reader.now.big c.args.store.now.held in
    let u = given c.args.walk.now.reader.now.big c.index_lane.new.store.held in
    let small =
    (refused_or-Ok (size_break c.args.spot.n) tt tt c.in_ok-judged_size.ensures).0 in
    let starts =
    index_fetched t t c.args.key.now (codes "starts") c.args.start_kind c.args.spot.n
    c.in_ok-starts.starts refl c.in_ok-starts.ensures.answer in
    let stops =
    index_told (told e) t u c.args.key.now (codes "stops") c.args.stop_kind c.args.spot.n
    (index_at (container_in u) c.args.key.now (codes "stops") c.args.stop_kind c.args.spot.n)
    (ap (given c.args.walk.now.reader.now.big) c.in_ok-starts.ensures.held)
    c.in_err-stops.ensures.answer in
    part-fails
    (list c.args.key.now c.args.start_kind c.args.stop_kind f) c.args.spot.node c.args.spot.n t
    c.from_residual-in_err-stops.result e c.from_residual-in_err-stops.ensures.1
    (told-buffers (told e) (list c.args.key.now c.args.start_kind c.args.stop_kind f)
    c.args.spot.node c.args.spot.n t
    (index_at (container_in u) c.args.key.now (codes "stops") c.args.stop_kind c.args.spot.n) small
    (told-second (told e)
    (index_break (container_in t) c.args.key.now (codes "starts") c.args.start_kind c.args.spot.n)
    (index_break (container_in t) c.args.key.now (codes "stops") c.args.stop_kind c.args.spot.n)
    (index_at (container_in u) c.args.key.now (codes "stops") c.args.stop_kind c.args.spot.n)
    starts.0 stops))

pub judged_lists-requires-clause-starts : goal.judged_lists-requires-clause-starts
judged_lists-requires-clause-starts g c =
    let t = given c.args.walk.now.reader.now.big c.args.store.now.held in
    (index_fetched t t c.args.key.now (codes "starts") c.args.start_kind c.args.spot.n
    c.in_ok-starts.starts refl c.in_ok-starts.ensures.answer).3

pub judged_lists-requires-clause-same : goal.judged_lists-requires-clause-same
judged_lists-requires-clause-same g c =
    let t = given c.args.walk.now.reader.now.big c.args.store.now.held in
    let starts =
    index_fetched t t c.args.key.now (codes "starts") c.args.start_kind c.args.spot.n
    c.in_ok-starts.starts refl c.in_ok-starts.ensures.answer in
    let stops =
    index_fetched t (given c.args.walk.now.reader.now.big c.index_lane.new.store.held)
    c.args.key.now (codes "stops") c.args.stop_kind
    c.args.spot.n c.in_ok-stops.stops (ap (given c.args.walk.now.reader.now.big)
    c.in_ok-starts.ensures.held)
    c.in_ok-stops.ensures.answer in
    starts.2 ∙ sym stops.2

pub returns-in_err-length-clause-answer : goal.returns-in_err-length-clause-answer
returns-in_err-length-clause-answer g c f =
    let e = c.in_err-length.field-0.0 in
    let t = given c.args.walk.now.reader.now.big c.args.store.now.held in
    let small =
    (refused_or-Ok (size_break c.args.spot.n) tt tt c.in_ok-judged_size.ensures).0 in
    let starts =
    index_fetched t t c.args.key.now (codes "starts") c.args.start_kind c.args.spot.n
    c.in_ok-starts.starts refl c.in_ok-starts.ensures.answer in
    let stops =
    index_fetched t (given c.args.walk.now.reader.now.big c.index_lane.new.store.held)
    c.args.key.now (codes "stops") c.args.stop_kind
    c.args.spot.n c.in_ok-stops.stops (ap (given c.args.walk.now.reader.now.big)
    c.in_ok-starts.ensures.held)
    c.in_ok-stops.ensures.answer in
    let own =
    list-own (container_in t) c.args.key.now c.args.start_kind c.args.stop_kind f
    c.args.spot.node c.args.spot.n c.in_ok-starts.starts c.in_ok-stops.stops small starts.0
    stops.0 starts.1 stops.1 starts.2 in
    part-fails
    (list c.args.key.now c.args.start_kind c.args.stop_kind f) c.args.spot.node c.args.spot.n t
    c.from_residual-in_err-length.result e c.from_residual-in_err-length.ensures.1
    (told-places (told e)
    (list c.args.key.now c.args.start_kind c.args.stop_kind f) c.args.spot.node c.args.spot.n t
    (rule_break c.args.spot.node (size_of c.in_ok-starts.starts)
    (λ i. list_rule (at c.in_ok-starts.starts i) (at c.in_ok-stops.stops i)))
    (lists_length (size_of c.in_ok-starts.starts) (at c.in_ok-starts.starts)
    (at c.in_ok-stops.stops)) own.0 c.in_err-length.ensures.answer)

pub returns-in_err-length-clause-cost : goal.returns-in_err-length-clause-cost
returns-in_err-length-clause-cost g c =
    let t = given c.args.walk.now.reader.now.big c.args.store.now.held in
    let starts =
    index_fetched t t c.args.key.now (codes "starts") c.args.start_kind c.args.spot.n
    c.in_ok-starts.starts refl c.in_ok-starts.ensures.answer in
    let stops =
    index_fetched t (given c.args.walk.now.reader.now.big c.index_lane.new.store.held)
    c.args.key.now (codes "stops") c.args.stop_kind
    c.args.spot.n c.in_ok-stops.stops (ap (given c.args.walk.now.reader.now.big)
    c.in_ok-starts.ensures.held)
    c.in_ok-stops.ensures.answer in
    let same = ap held_len c.in_ok-starts.ensures.held in
    omega (
      arith,
      starts.2,
      stops.2,
      same,
      c.in_ok-starts.ensures.short,
      c.in_ok-starts.ensures.cost,
      c.in_ok-stops.ensures.cost,
      c.in_err-length.ensures.cost,
    )

pub returns-clause-answer : goal.returns-clause-answer
returns-clause-answer g c f =
    let t = given c.args.walk.now.reader.now.big c.args.store.now.held in
    let small =
    (refused_or-Ok (size_break c.args.spot.n) tt tt c.in_ok-judged_size.ensures).0 in
    let starts =
    index_fetched t t c.args.key.now (codes "starts") c.args.start_kind c.args.spot.n
    c.in_ok-starts.starts refl c.in_ok-starts.ensures.answer in
    let stops =
    index_fetched t (given c.args.walk.now.reader.now.big c.index_lane.new.store.held)
    c.args.key.now (codes "stops") c.args.stop_kind
    c.args.spot.n c.in_ok-stops.stops (ap (given c.args.walk.now.reader.now.big)
    c.in_ok-starts.ensures.held)
    c.in_ok-stops.ensures.answer in
    let own =
    list-own (container_in t) c.args.key.now c.args.start_kind c.args.stop_kind f
    c.args.spot.node c.args.spot.n c.in_ok-starts.starts c.in_ok-stops.stops small starts.0
    stops.0 starts.1 stops.1 starts.2 in
    let rule =
    refused_or-Ok
    (rule_break c.args.spot.node (size_of c.in_ok-starts.starts)
    (λ i. list_rule (at c.in_ok-starts.starts i) (at c.in_ok-stops.stops i)))
    (lists_length (size_of c.in_ok-starts.starts) (at c.in_ok-starts.starts)
    (at c.in_ok-stops.stops)) c.in_ok-length.length c.in_ok-length.ensures.answer in
    part-made
    (list c.args.key.now c.args.start_kind c.args.stop_kind f) c.args.spot.node c.args.spot.n t
    (Over (Lists c.in_ok-starts.starts c.in_ok-stops.stops)) c.in_ok-lengths.lengths
    (own.0 ∙ rule.0) (ap₂ (λ i j. Over (Lists i j)) starts.1 stops.1)
    (ap (λ l. l ∷ []) (own.1 ∙ rule.1) ∙ sym c.in_ok-lengths.ensures)

pub returns-clause-cost : goal.returns-clause-cost
returns-clause-cost g c =
    let t = given c.args.walk.now.reader.now.big c.args.store.now.held in
    let starts =
    index_fetched t t c.args.key.now (codes "starts") c.args.start_kind c.args.spot.n
    c.in_ok-starts.starts refl c.in_ok-starts.ensures.answer in
    let stops =
    index_fetched t (given c.args.walk.now.reader.now.big c.index_lane.new.store.held)
    c.args.key.now (codes "stops") c.args.stop_kind
    c.args.spot.n c.in_ok-stops.stops (ap (given c.args.walk.now.reader.now.big)
    c.in_ok-starts.ensures.held)
    c.in_ok-stops.ensures.answer in
    let same = ap held_len c.in_ok-starts.ensures.held in
    omega (
      arith,
      starts.2,
      stops.2,
      same,
      c.in_ok-starts.ensures.short,
      c.in_ok-starts.ensures.cost,
      c.in_ok-stops.ensures.cost,
      c.in_ok-length.ensures.cost,
    )

pub returns-in_err-lengths-clause-cost : goal.returns-in_err-lengths-clause-cost
returns-in_err-lengths-clause-cost g c =
    let t = given c.args.walk.now.reader.now.big c.args.store.now.held in
    let starts =
    index_fetched t t c.args.key.now (codes "starts") c.args.start_kind c.args.spot.n
    c.in_ok-starts.starts refl c.in_ok-starts.ensures.answer in
    let stops =
    index_fetched t (given c.args.walk.now.reader.now.big c.index_lane.new.store.held)
    c.args.key.now (codes "stops") c.args.stop_kind
    c.args.spot.n c.in_ok-stops.stops (ap (given c.args.walk.now.reader.now.big)
    c.in_ok-starts.ensures.held)
    c.in_ok-stops.ensures.answer in
    let same = ap held_len c.in_ok-starts.ensures.held in
    omega (
      arith,
      starts.2,
      stops.2,
      same,
      c.in_ok-starts.ensures.short,
      c.in_ok-starts.ensures.cost,
      c.in_ok-stops.ensures.cost,
      c.in_ok-length.ensures.cost,
    )
