-- The bytes are read as the places in order.
use Rattle.std.proofs.Common.{subst, ap, sym, ◌∙◌, ◌≡◌, ◌*◌}
use Rattle.awk_lanes.specs.Column.{Column}
use Rattle.awk_lanes.specs.Numbers.{width, numbers}
use Rattle.awk_lanes.specs.Places.{size_of}
use Rattle.awk_lanes.specs.Words.{column}
use Rattle.awk_lanes.specs.declared.kind.Kind.TheVariants.{I64}
use Rattle.awk_lanes.proofs.in_order.run_lane.Goals as goal

pub whole-requires : goal.whole-requires
whole-requires c =
    ap (λ n. n * 8) c.len-n.ensures.len
    ∙ ap (λ w. size_of c.new-run.result * w)
    (sym (ap (λ (v : Column). width v.kind) c.new-run.ensures))
    ∙ sym c.in_ok-bytes.ensures.size

pub returns : goal.returns
returns c =
    c.whole.ensures
    ∙ ap (λ n. column I64 (numbers I64 n c.in_ok-bytes.bytes.now)) c.len-n.ensures.len
    ∙ ap (column I64) (subst (λ (v : Column).
    numbers v.kind (size_of c.new-run.result) c.in_ok-bytes.bytes.now ≡ v.items)
    c.new-run.ensures c.in_ok-bytes.ensures.numbers)
