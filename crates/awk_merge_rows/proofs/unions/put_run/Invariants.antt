use Rattle.std.proofs.Common.{◌≡◌, ◌+◌}
use Rattle.awk_merge_rows.specs.Tagged.{with_numbers}
use Rattle.awk_merge_rows.proofs.unions.put_run.Given as goal

abbrev pub invariant-loop-i : goal.invariant-loop-i
invariant-loop-i l =
    (l.made.tags ≡ with_numbers l.fn.made.tags l.i (λ i. l.target.tag))
    × (l.made.index ≡ with_numbers l.fn.made.index l.i (λ i. l.target.base + i))
