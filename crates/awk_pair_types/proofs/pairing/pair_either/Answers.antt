use Rattle.awk_pair_types.proofs.pairing.pair_either.Goals as goal

pub returns-then-keep-clause-answer : goal.returns-then-keep-clause-answer
returns-then-keep-clause-answer g c = rw c.if-keep.true c.pair_keeping.ensures.answer

pub returns-then-keep-clause-frame : goal.returns-then-keep-clause-frame
returns-then-keep-clause-frame g c = rw c.if-keep.true c.pair_keeping.ensures.frame

pub returns-else-keep-clause-answer : goal.returns-else-keep-clause-answer
returns-else-keep-clause-answer g c = rw c.if-keep.false c.pair.ensures.answer

pub returns-else-keep-clause-frame : goal.returns-else-keep-clause-frame
returns-else-keep-clause-frame g c = rw c.if-keep.false c.pair.ensures.frame
