use Rattle.std.proofs.Common.{ap, ◌∙◌, subst, ◌*◌, ◌<◌, ◌^◌}
use Rattle.awk_lanes.specs.Column.{Column}
use Rattle.awk_lanes.specs.Numbers.{width}
use Rattle.awk_lanes.specs.Places.{size_of}
use Rattle.awk_lanes.specs.Ranges.{AreNumbers}
use Rattle.awk_lanes.proofs.RunLaws.{seen_bytes, seen_run}
use Rattle.awk_lanes.proofs.lane.Lane.len.Goals as goal

pub returns-in-Bytes-clause-len : goal.returns-in-Bytes-clause-len
returns-in-Bytes-clause-len c =
    let same = seen_bytes _ c.in-Bytes.lane c.args.self.now c.in-Bytes.is c.self.view_is in
    c.len.ensures.len ∙ ap (λ (v : Column). size_of v) same

pub returns-in-Bytes-clause-fits : goal.returns-in-Bytes-clause-fits
returns-in-Bytes-clause-fits c =
    let same = seen_bytes _ c.in-Bytes.lane c.args.self.now c.in-Bytes.is c.self.view_is in
    subst AreNumbers same c.len.ensures.fits

pub returns-in-Bytes-clause-small : goal.returns-in-Bytes-clause-small
returns-in-Bytes-clause-small c =
    let same = seen_bytes _ c.in-Bytes.lane c.args.self.now c.in-Bytes.is c.self.view_is in
    subst (λ (v : Column). c.len.result * width v.kind < 2 ^ 64) same c.len.ensures.small

pub returns-in-Run-clause-len : goal.returns-in-Run-clause-len
returns-in-Run-clause-len c =
    let same = seen_run _ c.in-Run.places c.args.self.now c.in-Run.is c.self.view_is in
    c.len-in-Run.ensures.len ∙ ap (λ (v : Column). size_of v) same

pub returns-in-Run-clause-fits : goal.returns-in-Run-clause-fits
returns-in-Run-clause-fits c =
    let same = seen_run _ c.in-Run.places c.args.self.now c.in-Run.is c.self.view_is in
    subst AreNumbers same c.len-in-Run.ensures.fits

pub returns-in-Run-clause-small : goal.returns-in-Run-clause-small
returns-in-Run-clause-small c =
    let same = seen_run _ c.in-Run.places c.args.self.now c.in-Run.is c.self.view_is in
    subst (λ (v : Column). c.len-in-Run.result * width v.kind < 2 ^ 64) same
    c.len-in-Run.ensures.small
