use Rattle.std.proofs.Common.{◌≤◌, sym, subst, ◌∙◌}
use Rattle.awk_types.specs.Faults.{fault_told}
use Rattle.awk_types.specs.Gives.{Gives}
use Rattle.awk_leaves.specs.Values.{binary_at}
use Rattle.awk_pointwise.specs.Numbers.{word_numbers}
use Rattle.awk_pointwise.specs.Sides.{leaf_type, lane_values}
use Rattle.awk_pointwise.proofs.BlockLaws.{past, length-pair, part_size, pair_part}
use Rattle.awk_pointwise.proofs.ReadyLaws.{are_ready}
use Rattle.awk_pointwise.proofs.binary.PairBlocks.block.Goals as goal

pub see_part-requires-clause-side : goal.see_part-requires-clause-side
see_part-requires-clause-side g c =
    let p = c.args.self.now in
    let inside = subst (λ n. c.args.hi ≤ n) (length-pair (binary_at p.op p.prim) p.n p.x.now p.y.now
    c.requires.ready.first c.requires.ready.second) c.requires.within in
    past p.n p.x.now c.args.hi inside c.requires.ready.first

pub see_part-requires-2-clause-side : goal.see_part-requires-2-clause-side
see_part-requires-2-clause-side g c =
    let p = c.args.self.now in
    let inside = subst (λ n. c.args.hi ≤ n) (length-pair (binary_at p.op p.prim) p.n p.x.now p.y.now
    c.requires.ready.first c.requires.ready.second) c.requires.within in
    past p.n p.y.now c.args.hi inside c.requires.ready.second

pub of_numbers-requires-clause-ready : goal.of_numbers-requires-clause-ready
of_numbers-requires-clause-ready g c =
    let p = c.args.self.now in
    are_ready p.op (leaf_type p.x.now) (leaf_type p.y.now) p.prim (word_numbers c.in_ok-a.a)
    (word_numbers c.in_ok-b.b) c.requires.ready.judged c.in_ok-a.ensures.typed
    c.in_ok-b.ensures.typed

pub of_numbers-requires-clause-size : goal.of_numbers-requires-clause-size
of_numbers-requires-clause-size g c =
    let p = c.args.self.now in
    let inside = subst (λ n. c.args.hi ≤ n) (length-pair (binary_at p.op p.prim) p.n p.x.now p.y.now
    c.requires.ready.first c.requires.ready.second) c.requires.within in
    part_size p.n p.y.now c.args.lo c.args.hi (leaf_type p.y.now) c.in_ok-b.b c.requires.order
    inside c.requires.ready.second c.in_ok-b.ensures
    ∙ sym (part_size p.n p.x.now c.args.lo c.args.hi (leaf_type p.x.now) c.in_ok-a.a
    c.requires.order inside c.requires.ready.first c.in_ok-a.ensures)

pub returns-clause-answer : goal.returns-clause-answer
returns-clause-answer g c =
    let p = c.args.self.now in
    let inside = subst (λ n. c.args.hi ≤ n) (length-pair (binary_at p.op p.prim) p.n p.x.now p.y.now
    c.requires.ready.first c.requires.ready.second) c.requires.within in
    subst (Gives lane_values fault_told c.of_numbers.result)
    (sym (pair_part p.op (leaf_type p.x.now) (leaf_type p.y.now) p.prim p.n p.x.now p.y.now
    c.args.lo c.args.hi c.in_ok-a.a c.in_ok-b.b c.requires.order inside c.in_ok-a.ensures
    c.in_ok-b.ensures)) c.of_numbers.ensures.answer
