-- The rule is judged over the offsets that were made.
use Rattle.std.proofs.Common.{None, ◌+◌, ◌-◌, arith, ◌∙◌, refl, codes, ◌∷◌, [], ap, sym}
use Rattle.awk_types.proofs.RefusalLaws.{Told-first, refused_or-Ok}
use Rattle.awk_lanes.specs.Places.{size_of, at}
use Rattle.awk_form.specs.FormTree.{list_offset}
use Rattle.awk_valid.specs.Broken.{size_break, rule_break, list_rule}
use Rattle.awk_valid.specs.Container.{index_at}
use Rattle.awk_valid.specs.Walked.{given, container_in}
use Rattle.awk_valid.specs.Loading.{told}
use Rattle.awk_valid.specs.Needs.{lists_length}
use Rattle.awk_valid.specs.declared.own.One.TheVariants.{OffsetLists}
use Rattle.awk_valid.specs.declared.own.Own.TheVariants.{Over}
use Rattle.awk_valid.proofs.PartLaws.{part-fails, part-made, told-buffers, told-places, index_break}
use Rattle.awk_valid.proofs.PartLaws.{index_fetched, offsets-own}
use Rattle.awk_valid.proofs.parts.list_offset.Goals as goal

pub returns-in_err-offsets-clause-answer : goal.returns-in_err-offsets-clause-answer
returns-in_err-offsets-clause-answer g c f =
    let e = c.in_err-offsets.field-0.0 in
    let t = given c.args.walk.now.reader.now.big c.args.store.now.held in
    let n = c.args.spot.n in
    let made = index_at (container_in t) c.args.key.now (codes "offsets") c.args.kind (n + 1) in
    let small = (refused_or-Ok (size_break n) tt tt c.in_ok-judged_size.ensures).0 in
    part-fails (list_offset c.args.key.now c.args.kind f) c.args.spot.node n t
    c.from_residual-in_err-offsets.result e c.from_residual-in_err-offsets.ensures.1
    (told-buffers (told e)
    (list_offset c.args.key.now c.args.kind f) c.args.spot.node n t made small
    (Told-first (told e)
    (index_break (container_in t) c.args.key.now (codes "offsets") c.args.kind (n + 1)) None made
    made c.in_err-offsets.ensures.answer))

pub returns-in_err-length-clause-answer : goal.returns-in_err-length-clause-answer
returns-in_err-length-clause-answer g c f =
    let e = c.in_err-length.field-0.0 in
    let t = given c.args.walk.now.reader.now.big c.args.store.now.held in
    let small =
    (refused_or-Ok (size_break c.args.spot.n) tt tt c.in_ok-judged_size.ensures).0 in
    let lane =
    index_fetched t t c.args.key.now (codes "offsets") c.args.kind (c.args.spot.n + 1)
    c.in_ok-offsets.offsets refl c.in_ok-offsets.ensures.answer in
    let own =
    offsets-own (container_in t) c.args.key.now c.args.kind f c.args.spot.node c.args.spot.n
    c.in_ok-offsets.offsets small lane.0 lane.1 lane.2 in
    part-fails (list_offset c.args.key.now c.args.kind f) c.args.spot.node c.args.spot.n t
    c.from_residual-in_err-length.result e c.from_residual-in_err-length.ensures.1
    (told-places (told e) (list_offset c.args.key.now c.args.kind f) c.args.spot.node
    c.args.spot.n t
    (rule_break c.args.spot.node (size_of c.in_ok-offsets.offsets - 1)
    (λ i. list_rule (at c.in_ok-offsets.offsets i) (at c.in_ok-offsets.offsets (i + 1))))
    (lists_length (size_of c.in_ok-offsets.offsets - 1) (at c.in_ok-offsets.offsets)
    (λ i. at c.in_ok-offsets.offsets (i + 1))) own.0 c.in_err-length.ensures.answer)

pub returns-in_err-length-clause-cost : goal.returns-in_err-length-clause-cost
returns-in_err-length-clause-cost g c =
    let t = given c.args.walk.now.reader.now.big c.args.store.now.held in
    let lane =
    index_fetched t t c.args.key.now (codes "offsets") c.args.kind (c.args.spot.n + 1)
    c.in_ok-offsets.offsets refl c.in_ok-offsets.ensures.answer in
    omega (
      arith,
      lane.2,
      c.in_ok-offsets.ensures.short,
      c.in_ok-offsets.ensures.cost,
      c.in_err-length.ensures.cost,
    )

pub returns-clause-answer : goal.returns-clause-answer
returns-clause-answer g c f =
    let t = given c.args.walk.now.reader.now.big c.args.store.now.held in
    let small =
    (refused_or-Ok (size_break c.args.spot.n) tt tt c.in_ok-judged_size.ensures).0 in
    let lane =
    index_fetched t t c.args.key.now (codes "offsets") c.args.kind (c.args.spot.n + 1)
    c.in_ok-offsets.offsets refl c.in_ok-offsets.ensures.answer in
    let own =
    offsets-own (container_in t) c.args.key.now c.args.kind f c.args.spot.node c.args.spot.n
    c.in_ok-offsets.offsets small lane.0 lane.1 lane.2 in
    let rule =
    refused_or-Ok
    (rule_break c.args.spot.node (size_of c.in_ok-offsets.offsets - 1)
    (λ i. list_rule (at c.in_ok-offsets.offsets i) (at c.in_ok-offsets.offsets (i + 1))))
    (lists_length (size_of c.in_ok-offsets.offsets - 1) (at c.in_ok-offsets.offsets)
    (λ i. at c.in_ok-offsets.offsets (i + 1))) c.in_ok-length.length
    c.in_ok-length.ensures.answer in
    part-made (list_offset c.args.key.now c.args.kind f) c.args.spot.node c.args.spot.n t
    (Over (OffsetLists c.in_ok-offsets.offsets)) c.in_ok-lengths.lengths (own.0 ∙ rule.0)
    (ap (λ j. Over (OffsetLists j)) lane.1)
    (ap (λ l. l ∷ []) (own.1 ∙ rule.1) ∙ sym c.in_ok-lengths.ensures)

pub returns-clause-cost : goal.returns-clause-cost
returns-clause-cost g c =
    let t = given c.args.walk.now.reader.now.big c.args.store.now.held in
    let lane =
    index_fetched t t c.args.key.now (codes "offsets") c.args.kind (c.args.spot.n + 1)
    c.in_ok-offsets.offsets refl c.in_ok-offsets.ensures.answer in
    omega (
      arith,
      lane.2,
      c.in_ok-offsets.ensures.short,
      c.in_ok-offsets.ensures.cost,
      c.in_ok-length.ensures.cost,
    )

pub returns-in_err-lengths-clause-cost : goal.returns-in_err-lengths-clause-cost
returns-in_err-lengths-clause-cost g c =
    let t = given c.args.walk.now.reader.now.big c.args.store.now.held in
    let lane =
    index_fetched t t c.args.key.now (codes "offsets") c.args.kind (c.args.spot.n + 1)
    c.in_ok-offsets.offsets refl c.in_ok-offsets.ensures.answer in
    omega (
      arith,
      lane.2,
      c.in_ok-offsets.ensures.short,
      c.in_ok-offsets.ensures.cost,
      c.in_ok-length.ensures.cost,
    )
