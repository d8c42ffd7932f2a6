use Rattle.awk_sorting.specs.Parts.{SortsParts}
use Rattle.awk_sorting.proofs.parts.sort_slice_parts.Given as goal

abbrev pub invariant-loop-i : goal.invariant-loop-i
invariant-loop-i g l =
    SortsParts g.N.Number.number l.up l.offsets l.i l.fn.numbers l.numbers
