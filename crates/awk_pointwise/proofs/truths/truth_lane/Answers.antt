use Rattle.std.proofs.Common.{ap₂, sym, refl, ◌∙◌, length, ◌/◌, arith}
use Rattle.awk_lanes.specs.Words.{column}
use Rattle.awk_lanes.specs.Numbers.{numbers}
use Rattle.awk_lanes.specs.declared.kind.Kind.TheVariants.{Bool as Truths}
use Rattle.awk_lanes.proofs.WordLaws.{integers-byte_numbers}
use Rattle.awk_pointwise.proofs.truths.truth_lane.Goals as goal

pub returns : goal.returns
returns c =
    let b = c.args.bytes.now in
    ap₂ column c.new.ensures.kind (c.new.ensures.items
    ∙ sym (integers-byte_numbers Truths (length b / 1) b (numbers Truths (length b / 1) b) tt
    (omega arith) refl))
