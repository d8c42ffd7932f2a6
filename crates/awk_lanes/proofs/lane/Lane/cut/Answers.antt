use Rattle.std.proofs.Common.{ap, ◌∙◌, subst, sym, ◌≤◌}
use Rattle.awk_lanes.specs.Column.{Column}
use Rattle.awk_lanes.specs.Cut.{cut_of}
use Rattle.awk_lanes.specs.Places.{size_of}
use Rattle.awk_lanes.proofs.RunLaws.{seen_bytes, seen_run}
use Rattle.awk_lanes.proofs.lane.Lane.cut.Goals as goal

pub returns-in-Bytes-clause-value : goal.returns-in-Bytes-clause-value
returns-in-Bytes-clause-value g c =
    let same = seen_bytes _ c.in-Bytes.lane c.args.self.now c.in-Bytes.is c.self.view_is in
    c.cut.ensures.value ∙ ap (λ (v : Column). cut_of v c.args.lo c.args.hi) same

pub returns-in-Run-clause-value : goal.returns-in-Run-clause-value
returns-in-Run-clause-value g c =
    let same = seen_run _ c.in-Run.places c.args.self.now c.in-Run.is c.self.view_is in
    c.cut-in-Run.ensures.value ∙ ap (λ (v : Column). cut_of v c.args.lo c.args.hi) same

pub cut-requires-clause-within : goal.cut-requires-clause-within
cut-requires-clause-within g c =
    subst (λ (v : Column). c.args.hi ≤ size_of v)
    (sym (seen_bytes _ c.in-Bytes.lane c.args.self.now c.in-Bytes.is c.self.view_is))
    c.requires.within

pub cut-requires-in-Run-clause-within : goal.cut-requires-in-Run-clause-within
cut-requires-in-Run-clause-within g c =
    subst (λ (v : Column). c.args.hi ≤ size_of v)
    (sym (seen_run _ c.in-Run.places c.args.self.now c.in-Run.is c.self.view_is))
    c.requires.within
