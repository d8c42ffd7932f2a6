-- The content needs as many items as the index that was made.
use Rattle.std.proofs.Common.{arith, sym, ◌∙◌, refl, codes, ◌∷◌, [], ap}
use Rattle.awk_types.proofs.RefusalLaws.{refused_or-Ok}
use Rattle.awk_form.specs.FormTree.{indexed_option}
use Rattle.awk_valid.specs.Broken.{size_break}
use Rattle.awk_valid.specs.Walked.{given, container_in}
use Rattle.awk_valid.specs.declared.own.One.TheVariants.{Optional}
use Rattle.awk_valid.specs.declared.own.Own.TheVariants.{Over}
use Rattle.awk_valid.proofs.PartLaws.{part-made, index_fetched, optional-own}
use Rattle.awk_valid.proofs.parts.indexed_option.Goals as goal

pub returns-in_err-length-clause-cost : goal.returns-in_err-length-clause-cost
returns-in_err-length-clause-cost g c =
    let t = given c.args.walk.now.reader.now.big c.args.store.now.held in
    let lane =
    index_fetched t t c.args.key.now (codes "index") c.args.kind c.args.spot.n
    c.in_ok-index.index refl c.in_ok-index.ensures.answer in
    omega (
      arith,
      lane.2,
      c.in_ok-index.ensures.short,
      c.in_ok-index.ensures.cost,
      c.in_err-length.ensures.cost,
    )

pub returns-clause-answer : goal.returns-clause-answer
returns-clause-answer g c f =
    let t = given c.args.walk.now.reader.now.big c.args.store.now.held in
    let small =
    (refused_or-Ok (size_break c.args.spot.n) tt tt c.in_ok-judged_size.ensures).0 in
    let lane =
    index_fetched t t c.args.key.now (codes "index") c.args.kind c.args.spot.n
    c.in_ok-index.index refl c.in_ok-index.ensures.answer in
    let own =
    optional-own (container_in t) c.args.key.now c.args.kind f c.args.spot.node c.args.spot.n
    c.in_ok-index.index small lane.0 lane.1 lane.2 in
    part-made (indexed_option c.args.key.now c.args.kind f) c.args.spot.node c.args.spot.n t
    (Over (Optional c.in_ok-index.index)) c.in_ok-lengths.lengths own.0
    (ap (λ j. Over (Optional j)) lane.1)
    (ap (λ l. l ∷ []) (own.1 ∙ sym c.in_ok-length.ensures.length) ∙ sym c.in_ok-lengths.ensures)

pub returns-clause-cost : goal.returns-clause-cost
returns-clause-cost g c =
    let t = given c.args.walk.now.reader.now.big c.args.store.now.held in
    let lane =
    index_fetched t t c.args.key.now (codes "index") c.args.kind c.args.spot.n
    c.in_ok-index.index refl c.in_ok-index.ensures.answer in
    omega (
      arith,
      lane.2,
      c.in_ok-index.ensures.short,
      c.in_ok-index.ensures.cost,
      c.in_ok-length.ensures.cost,
    )

pub returns-in_err-lengths-clause-cost : goal.returns-in_err-lengths-clause-cost
returns-in_err-lengths-clause-cost g c =
    let t = given c.args.walk.now.reader.now.big c.args.store.now.held in
    let lane =
    index_fetched t t c.args.key.now (codes "index") c.args.kind c.args.spot.n
    c.in_ok-index.index refl c.in_ok-index.ensures.answer in
    omega (
      arith,
      lane.2,
      c.in_ok-index.ensures.short,
      c.in_ok-index.ensures.cost,
      c.in_ok-length.ensures.cost,
    )
