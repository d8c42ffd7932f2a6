use Rattle.std.proofs.Common.{◌≤◌, sym, subst}
use Rattle.awk_types.specs.Faults.{fault_told}
use Rattle.awk_types.specs.Gives.{Gives}
use Rattle.awk_leaves.specs.Values.{unary_at}
use Rattle.awk_pointwise.specs.Numbers.{word_numbers}
use Rattle.awk_pointwise.specs.Sides.{leaf_type, lane_values}
use Rattle.awk_pointwise.proofs.BlockLaws.{past}
use Rattle.awk_pointwise.proofs.SingleLaws.{single_ready, single_part, length-single}
use Rattle.awk_pointwise.proofs.unary.SingleBlocks.block.Goals as goal

pub see_part-requires-clause-side : goal.see_part-requires-clause-side
see_part-requires-clause-side g c =
    let s = c.args.self.now in
    let inside = subst (λ n. c.args.hi ≤ n) (length-single (unary_at s.op s.prim) s.n s.side.now
    c.requires.ready.side) c.requires.within in
    past s.n s.side.now c.args.hi inside c.requires.ready.side

pub of_number-requires : goal.of_number-requires
of_number-requires g c =
    let s = c.args.self.now in
    single_ready s.op (leaf_type s.side.now) s.prim (word_numbers c.in_ok-numbers.numbers)
    c.requires.ready.judged c.in_ok-numbers.ensures.typed

pub returns-clause-answer : goal.returns-clause-answer
returns-clause-answer g c =
    let s = c.args.self.now in
    let inside = subst (λ n. c.args.hi ≤ n) (length-single (unary_at s.op s.prim) s.n s.side.now
    c.requires.ready.side) c.requires.within in
    subst (Gives lane_values fault_told c.of_number.result)
    (sym (single_part s.op (leaf_type s.side.now) s.prim s.n s.side.now c.args.lo c.args.hi
    c.in_ok-numbers.numbers c.requires.order inside c.in_ok-numbers.ensures))
    c.of_number.ensures.answer
