use Rattle.std.proofs.Common.{◌≡◌, take}
use Rattle.awk_put_field.specs.Places.{put_at}
use Rattle.awk_put_field.proofs.records.nodes_with.Given as goal

abbrev pub invariant-loop-i : goal.invariant-loop-i
invariant-loop-i l = l.nodes ≡ take l.i (put_at l.place l.column l.columns)
