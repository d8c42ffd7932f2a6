use Rattle.awk_gather.proofs.AlikeNodes.{copies_reach, alike_picked, found_copies}
use Rattle.std.proofs.Common.{◌*◌, ◌≡◌, ◌∙◌, ap, sym}
use Rattle.awk_gather.specs.Alike.{AreCopies}
use Rattle.awk_gather.proofs.alike.pick_alike.Goals as goal

pub regular-requires-clause-valid : goal.regular-requires-clause-valid
regular-requires-clause-valid g c =
    let found : AreCopies c.args.content.now c.in_ok-count.count c.in-Some.part = found_copies
    c.in_ok-part.field-0 c.args.content.now c.in-Some.part c.in_ok-count.count c.in-Some.is
    c.in_ok-part.ensures.copies in
    let many : c.in_ok-count.count ≡ c.len-2.result * c.args.size = c.in_ok-count.ensures.0 ∙ ap
    (λ n. n * c.args.size) (c.len.ensures.len ∙ sym c.len-2.ensures.len) in
    copies_reach c.len-2.result c.in_ok-count.count c.args.size c.args.content.now c.in-Some.part
    c.in_ok-part-2.part.value many found c.in_ok-part-2.ensures.ok

pub returns : goal.returns
returns g c =
    let found : AreCopies c.args.content.now c.in_ok-count.count c.in-Some.part = found_copies
    c.in_ok-part.field-0 c.args.content.now c.in-Some.part c.in_ok-count.count c.in-Some.is
    c.in_ok-part.ensures.copies in
    record {
      node =
          alike_picked c.args.size c.args.n c.len.result c.len-2.result c.in_ok-count.count
          c.args.places.now c.args.content.now c.in-Some.part c.in_ok-part-2.part.value
          c.regular.result c.len.ensures.len c.len-2.ensures.len c.in_ok-count.ensures.0 found
          c.in_ok-part-2.ensures.ok c.regular.ensures.node;
    }
