-- The rule is judged over the tags and the index that were made.
use Rattle.std.proofs.Common.{arith, ap, ap₂, sym, ◌∙◌, codes, map}
use Rattle.std.specs.List.{range_with_len}
use Rattle.awk_types.proofs.RefusalLaws.{refused_or-Ok}
use Rattle.awk_lanes.specs.Column.{Column}
use Rattle.awk_lanes.specs.Places.{size_of, at}
use Rattle.awk_store.specs.Buffers.{held_len}
use Rattle.awk_form.specs.FormTree.{union}
use Rattle.awk_valid.specs.Broken.{size_break, rule_break, tag_rule}
use Rattle.awk_valid.specs.Walked.{given, container_in}
use Rattle.awk_valid.specs.Loading.{told}
use Rattle.awk_valid.specs.Needs.{tag_length}
use Rattle.awk_valid.specs.declared.own.Own.TheVariants.{Union}
use Rattle.awk_valid.proofs.PartLaws.{part-fails, part-made, told-places, index_fetched}
use Rattle.awk_valid.proofs.PartLaws.{int8s_fetched, union-own}
use Rattle.awk_valid.proofs.parts.union.Goals as goal

pub judged_union-requires-clause-tags : goal.judged_union-requires-clause-tags
judged_union-requires-clause-tags g c =
    let t = given c.args.reader.now.big c.args.store.now.held in
    let tags =
    int8s_fetched t c.args.key.now (codes "tags") c.args.spot.n c.in_ok-tags.tags
    c.in_ok-tags.ensures.answer in
    ap (λ (l : Column). l.kind) (sym tags.1)

pub judged_union-requires-clause-same : goal.judged_union-requires-clause-same
judged_union-requires-clause-same g c =
    let t = given c.args.reader.now.big c.args.store.now.held in
    let tags =
    int8s_fetched t c.args.key.now (codes "tags") c.args.spot.n c.in_ok-tags.tags
    c.in_ok-tags.ensures.answer in
    let index =
    index_fetched t (given c.args.reader.now.big c.int8_lane.new.store.held) c.args.key.now
    (codes "index") c.args.kind
    c.args.spot.n c.in_ok-index.index (ap (given c.args.reader.now.big) c.in_ok-tags.ensures.held)
    c.in_ok-index.ensures.answer in
    tags.2 ∙ sym index.2

pub returns-in_err-lengths-clause-answer : goal.returns-in_err-lengths-clause-answer
returns-in_err-lengths-clause-answer g c fs counted =
    let e = c.in_err-lengths.field-0.0 in
    let t = given c.args.reader.now.big c.args.store.now.held in
    let small =
    (refused_or-Ok (size_break c.args.spot.n) tt tt c.in_ok-judged_size.ensures).0 in
    let tags =
    int8s_fetched t c.args.key.now (codes "tags") c.args.spot.n c.in_ok-tags.tags
    c.in_ok-tags.ensures.answer in
    let index =
    index_fetched t (given c.args.reader.now.big c.int8_lane.new.store.held) c.args.key.now
    (codes "index") c.args.kind
    c.args.spot.n c.in_ok-index.index (ap (given c.args.reader.now.big) c.in_ok-tags.ensures.held)
    c.in_ok-index.ensures.answer in
    let own =
    union-own (container_in t) c.args.key.now c.args.kind fs c.args.alternatives
    c.args.spot.node c.args.spot.n c.in_ok-tags.tags c.in_ok-index.index counted small tags.0
    index.0 tags.1 index.1 tags.2 in
    part-fails (union c.args.key.now c.args.kind fs) c.args.spot.node c.args.spot.n t
    c.from_residual-in_err-lengths.result e c.from_residual-in_err-lengths.ensures.1
    (told-places (told e) (union c.args.key.now c.args.kind fs) c.args.spot.node c.args.spot.n t
    (rule_break c.args.spot.node (size_of c.in_ok-tags.tags)
    (λ i. tag_rule c.args.alternatives (at c.in_ok-tags.tags i) (at c.in_ok-index.index i)))
    (map (tag_length (size_of c.in_ok-tags.tags) (at c.in_ok-tags.tags) (at c.in_ok-index.index))
    (range_with_len 0 c.args.alternatives)) own.0 c.in_err-lengths.ensures.answer)

pub returns-in_err-lengths-clause-cost : goal.returns-in_err-lengths-clause-cost
returns-in_err-lengths-clause-cost g c =
    let t = given c.args.reader.now.big c.args.store.now.held in
    let tags =
    int8s_fetched t c.args.key.now (codes "tags") c.args.spot.n c.in_ok-tags.tags
    c.in_ok-tags.ensures.answer in
    let index =
    index_fetched t (given c.args.reader.now.big c.int8_lane.new.store.held) c.args.key.now
    (codes "index") c.args.kind
    c.args.spot.n c.in_ok-index.index (ap (given c.args.reader.now.big) c.in_ok-tags.ensures.held)
    c.in_ok-index.ensures.answer in
    let same = ap held_len c.in_ok-tags.ensures.held in
    omega (
      arith,
      tags.2,
      index.2,
      same,
      c.in_ok-tags.ensures.short,
      c.in_ok-tags.ensures.cost,
      c.in_ok-index.ensures.cost,
      c.in_err-lengths.ensures.cost,
    )

pub returns-clause-answer : goal.returns-clause-answer
returns-clause-answer g c fs counted =
    let t = given c.args.reader.now.big c.args.store.now.held in
    let small =
    (refused_or-Ok (size_break c.args.spot.n) tt tt c.in_ok-judged_size.ensures).0 in
    let tags =
    int8s_fetched t c.args.key.now (codes "tags") c.args.spot.n c.in_ok-tags.tags
    c.in_ok-tags.ensures.answer in
    let index =
    index_fetched t (given c.args.reader.now.big c.int8_lane.new.store.held) c.args.key.now
    (codes "index") c.args.kind
    c.args.spot.n c.in_ok-index.index (ap (given c.args.reader.now.big) c.in_ok-tags.ensures.held)
    c.in_ok-index.ensures.answer in
    let own =
    union-own (container_in t) c.args.key.now c.args.kind fs c.args.alternatives
    c.args.spot.node c.args.spot.n c.in_ok-tags.tags c.in_ok-index.index counted small tags.0
    index.0 tags.1 index.1 tags.2 in
    let rule =
    refused_or-Ok
    (rule_break c.args.spot.node (size_of c.in_ok-tags.tags)
    (λ i. tag_rule c.args.alternatives (at c.in_ok-tags.tags i) (at c.in_ok-index.index i)))
    (map (tag_length (size_of c.in_ok-tags.tags) (at c.in_ok-tags.tags) (at c.in_ok-index.index))
    (range_with_len 0 c.args.alternatives)) c.in_ok-lengths.lengths.items
    c.in_ok-lengths.ensures.answer in
    part-made (union c.args.key.now c.args.kind fs) c.args.spot.node c.args.spot.n t
    (Union c.in_ok-tags.tags c.in_ok-index.index) c.in_ok-lengths.lengths (own.0 ∙ rule.0)
    (ap₂ (λ i j. Union i j) tags.1 index.1) (own.1 ∙ rule.1)

pub returns-clause-cost : goal.returns-clause-cost
returns-clause-cost g c =
    let t = given c.args.reader.now.big c.args.store.now.held in
    let tags =
    int8s_fetched t c.args.key.now (codes "tags") c.args.spot.n c.in_ok-tags.tags
    c.in_ok-tags.ensures.answer in
    let index =
    index_fetched t (given c.args.reader.now.big c.int8_lane.new.store.held) c.args.key.now
    (codes "index") c.args.kind
    c.args.spot.n c.in_ok-index.index (ap (given c.args.reader.now.big) c.in_ok-tags.ensures.held)
    c.in_ok-index.ensures.answer in
    let same = ap held_len c.in_ok-tags.ensures.held in
    omega (
      arith,
      tags.2,
      index.2,
      same,
      c.in_ok-tags.ensures.short,
      c.in_ok-tags.ensures.cost,
      c.in_ok-index.ensures.cost,
      c.in_ok-lengths.ensures.cost,
    )
