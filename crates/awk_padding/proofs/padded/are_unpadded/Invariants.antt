use Rattle.awk_layout.specs.Valid.{len}
use Rattle.awk_padding.proofs.PadWhole.{IsUnpaddedSoFar}
use Rattle.awk_padding.proofs.padded.are_unpadded.Given as goal

abbrev pub invariant-loop-i : goal.invariant-loop-i
invariant-loop-i l =
    IsUnpaddedSoFar l.padded.padding.size l.padded.padding.clip l.padded.lists.now.starts
    l.padded.lists.now.stops (len l.padded.lists.now.content) l.place l.i
