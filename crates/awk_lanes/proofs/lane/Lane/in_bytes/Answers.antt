use Rattle.std.proofs.Common.{ap, ap₂, sym, ◌∙◌, ◌*◌}
use Rattle.awk_lanes.specs.Numbers.{width, numbers}
use Rattle.awk_lanes.proofs.RunLaws.{seen_bytes, seen_run}
use Rattle.awk_lanes.proofs.lane.Lane.in_bytes.Goals as goal

pub returns-in-Bytes : goal.returns-in-Bytes
returns-in-Bytes c =
    c.copy.ensures ∙ seen_bytes _ c.in-Bytes.lane c.args.self.now c.in-Bytes.is c.self.view_is

pub whole-requires : goal.whole-requires
whole-requires c =
    ap₂ (λ n k. n * width k) c.len-n.ensures.len c.kind-kind.ensures.value
    ∙ sym c.in_ok-bytes-in-Run.ensures.size

pub returns-in_ok-bytes-in-Run : goal.returns-in_ok-bytes-in-Run
returns-in_ok-bytes-in-Run c =
    c.whole.ensures
    ∙ ap₂ (λ k n. record { kind = k; items = numbers k n c.in_ok-bytes-in-Run.bytes.now })
    c.kind-kind.ensures.value c.len-n.ensures.len
    ∙ ap (λ zs. record { kind = c.in-Run.places.kind; items = zs }) c.in_ok-bytes-in-Run.ensures.numbers
    ∙ seen_run _ c.in-Run.places c.args.self.now c.in-Run.is c.self.view_is
