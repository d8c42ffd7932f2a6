use Rattle.std.proofs.Common.{ap, ◌∙◌, subst, ◌≡◌, ◌+◌, ◌*◌, length}
use Rattle.std.specs.List.{flat_map}
use Rattle.std.specs.Prelude.{IfOk}
use Rattle.awk_lanes.specs.Column.{Column}
use Rattle.awk_lanes.specs.Numbers.{width, numbers, bytes_of}
use Rattle.awk_lanes.specs.Places.{size_of}
use Rattle.awk_lanes.proofs.RunLaws.{seen_bytes, seen_run}
use Rattle.awk_lanes.proofs.lane.Lane.bulk.Goals as goal

pub returns-in-Bytes : goal.returns-in-Bytes
returns-in-Bytes g c =
    let same = seen_bytes _ c.in-Bytes.lane c.args.self.now c.in-Bytes.is c.self.view_is in
    let b = c.bulk.result.now in
    record {
      numbers = subst (λ (v : Column). numbers v.kind (size_of v) b ≡ v.items) same
          c.bulk.ensures.numbers;
      size = subst (λ (v : Column). length b ≡ size_of v * width v.kind) same c.bulk.ensures.size;
      bytes = subst (λ (v : Column). b ≡ flat_map (bytes_of v.kind) v.items) same
          c.bulk.ensures.bytes;
      cost = c.bulk.ensures.cost ∙ ap (λ (v : Column). c.args.steps.now + size_of v) same;
    }

pub returns-in-Run : goal.returns-in-Run
returns-in-Run g c =
    let same = seen_run _ c.in-Run.places c.args.self.now c.in-Run.is c.self.view_is in
    let r = c.bytes.result in
    record {
      numbers = subst (λ (v : Column). IfOk r (λ b.
          numbers v.kind (size_of v) b.now ≡ v.items)) same c.bytes.ensures.numbers;
      size = subst (λ (v : Column). IfOk r (λ b.
          length b.now ≡ size_of v * width v.kind)) same c.bytes.ensures.size;
      bytes = subst (λ (v : Column). IfOk r (λ b.
          b.now ≡ flat_map (bytes_of v.kind) v.items)) same c.bytes.ensures.bytes;
      cost = c.add.ensures ∙ ap (λ n. c.args.steps.now + n)
          (c.len.ensures.len ∙ ap (λ (v : Column). size_of v) same);
    }
