-- The rule is judged over the index that was made.
use Rattle.std.proofs.Common.{arith, ◌∙◌, refl, codes, ◌∷◌, [], ap, sym}
use Rattle.awk_types.proofs.RefusalLaws.{refused_or-Ok}
use Rattle.awk_lanes.specs.Places.{size_of, at}
use Rattle.awk_form.specs.FormTree.{indexed}
use Rattle.awk_valid.specs.Broken.{size_break, rule_break, index_rule}
use Rattle.awk_valid.specs.Walked.{given, container_in}
use Rattle.awk_valid.specs.Loading.{told}
use Rattle.awk_valid.specs.Needs.{index_length}
use Rattle.awk_valid.specs.declared.own.One.TheVariants.{Indexed}
use Rattle.awk_valid.specs.declared.own.Own.TheVariants.{Over}
use Rattle.awk_valid.proofs.PartLaws.{part-fails, part-made, told-places, index_fetched}
use Rattle.awk_valid.proofs.PartLaws.{indexed-own}
use Rattle.awk_valid.proofs.parts.indexed.Goals as goal

pub returns-in_err-length-clause-answer : goal.returns-in_err-length-clause-answer
returns-in_err-length-clause-answer g c f =
    let e = c.in_err-length.field-0.0 in
    let t = given c.args.walk.now.reader.now.big c.args.store.now.held in
    let small =
    (refused_or-Ok (size_break c.args.spot.n) tt tt c.in_ok-judged_size.ensures).0 in
    let lane =
    index_fetched t t c.args.key.now (codes "index") c.args.kind c.args.spot.n
    c.in_ok-index.index refl c.in_ok-index.ensures.answer in
    let own =
    indexed-own (container_in t) c.args.key.now c.args.kind f c.args.spot.node c.args.spot.n
    c.in_ok-index.index small lane.0 lane.1 lane.2 in
    part-fails (indexed c.args.key.now c.args.kind f) c.args.spot.node c.args.spot.n t
    c.from_residual-in_err-length.result e c.from_residual-in_err-length.ensures.1
    (told-places (told e) (indexed c.args.key.now c.args.kind f) c.args.spot.node c.args.spot.n t
    (rule_break c.args.spot.node (size_of c.in_ok-index.index)
    (λ i. index_rule (at c.in_ok-index.index i)))
    (index_length (size_of c.in_ok-index.index) (at c.in_ok-index.index)) own.0
    c.in_err-length.ensures.answer)

pub returns-in_err-length-clause-cost : goal.returns-in_err-length-clause-cost
returns-in_err-length-clause-cost g c =
    let t = given c.args.walk.now.reader.now.big c.args.store.now.held in
    let lane =
    index_fetched t t c.args.key.now (codes "index") c.args.kind c.args.spot.n
    c.in_ok-index.index refl c.in_ok-index.ensures.answer in
    omega (
      arith,
      lane.2,
      c.in_ok-index.ensures.short,
      c.in_ok-index.ensures.cost,
      c.in_err-length.ensures.cost,
    )

pub returns-clause-answer : goal.returns-clause-answer
returns-clause-answer g c f =
    let t = given c.args.walk.now.reader.now.big c.args.store.now.held in
    let small =
    (refused_or-Ok (size_break c.args.spot.n) tt tt c.in_ok-judged_size.ensures).0 in
    let lane =
    index_fetched t t c.args.key.now (codes "index") c.args.kind c.args.spot.n
    c.in_ok-index.index refl c.in_ok-index.ensures.answer in
    let own =
    indexed-own (container_in t) c.args.key.now c.args.kind f c.args.spot.node c.args.spot.n
    c.in_ok-index.index small lane.0 lane.1 lane.2 in
    let rule =
    refused_or-Ok
    (rule_break c.args.spot.node (size_of c.in_ok-index.index)
    (λ i. index_rule (at c.in_ok-index.index i)))
    (index_length (size_of c.in_ok-index.index) (at c.in_ok-index.index)) c.in_ok-length.length
    c.in_ok-length.ensures.answer in
    part-made (indexed c.args.key.now c.args.kind f) c.args.spot.node c.args.spot.n t
    (Over (Indexed c.in_ok-index.index)) c.in_ok-lengths.lengths (own.0 ∙ rule.0)
    (ap (λ j. Over (Indexed j)) lane.1)
    (ap (λ l. l ∷ []) (own.1 ∙ rule.1) ∙ sym c.in_ok-lengths.ensures)

pub returns-clause-cost : goal.returns-clause-cost
returns-clause-cost g c =
    let t = given c.args.walk.now.reader.now.big c.args.store.now.held in
    let lane =
    index_fetched t t c.args.key.now (codes "index") c.args.kind c.args.spot.n
    c.in_ok-index.index refl c.in_ok-index.ensures.answer in
    omega (
      arith,
      lane.2,
      c.in_ok-index.ensures.short,
      c.in_ok-index.ensures.cost,
      c.in_ok-length.ensures.cost,
    )

pub returns-in_err-lengths-clause-cost : goal.returns-in_err-lengths-clause-cost
returns-in_err-lengths-clause-cost g c =
    let t = given c.args.walk.now.reader.now.big c.args.store.now.held in
    let lane =
    index_fetched t t c.args.key.now (codes "index") c.args.kind c.args.spot.n
    c.in_ok-index.index refl c.in_ok-index.ensures.answer in
    omega (
      arith,
      lane.2,
      c.in_ok-index.ensures.short,
      c.in_ok-index.ensures.cost,
      c.in_ok-length.ensures.cost,
    )
