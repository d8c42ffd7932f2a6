use Rattle.std.proofs.Common.{◌≡◌, ◌+◌, drop}
use Rattle.awk_types.specs.Names.{is_among}
use Rattle.awk_view.specs.Leading.{leading}
use Rattle.awk_view.proofs.found.leading_known.Given as goal

abbrev pub invariant-loop-i : goal.invariant-loop-i
invariant-loop-i l =
    leading (λ n. is_among n l.own) l.wanted ≡ l.i + leading (λ n. is_among n l.own)
    (drop l.i l.wanted)
