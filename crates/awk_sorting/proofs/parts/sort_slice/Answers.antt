use Rattle.std.proofs.lemmas.List.Sorted.{IsPermutation-trans}
use Rattle.awk_sorting.proofs.PartLaws.{sorted_down}
use Rattle.awk_sorting.proofs.parts.sort_slice.Goals as goal

pub returns-then-not-up-clause-same : goal.returns-then-not-up-clause-same
returns-then-not-up-clause-same g c =
    IsPermutation-trans c.args.numbers.now c.sort.new.numbers c.reverse.new.self
    c.sort.ensures.same c.reverse.ensures.permutation

pub returns-then-not-up-clause-order : goal.returns-then-not-up-clause-order
returns-then-not-up-clause-order g c =
    rw (c.reverse.ensures.after, c.if-not-up.true)
    (sorted_down g.N.Number.number c.args.numbers.now c.sort.new.numbers c.sort.ensures.same
    c.sort.ensures.order)

pub returns-else-not-up-clause-order : goal.returns-else-not-up-clause-order
returns-else-not-up-clause-order g c = rw (c.if-not-up.false) c.sort.ensures.order
