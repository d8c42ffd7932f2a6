use Rattle.std.proofs.Common.{ap, ◌∙◌, subst, sym, ◌<◌}
use Rattle.awk_lanes.specs.Column.{Column}
use Rattle.awk_lanes.specs.Numbers.{IsOf}
use Rattle.awk_lanes.specs.Places.{at, size_of}
use Rattle.awk_lanes.proofs.RunLaws.{seen_bytes, seen_run}
use Rattle.awk_lanes.proofs.lane.Lane.at.Goals as goal

pub returns-in-Bytes-clause-number : goal.returns-in-Bytes-clause-number
returns-in-Bytes-clause-number g c =
    let same = seen_bytes _ c.in-Bytes.lane c.args.self.now c.in-Bytes.is c.self.view_is in
    c.at.ensures.number ∙ ap (λ (v : Column). at v c.args.i) same

pub returns-in-Bytes-clause-kind : goal.returns-in-Bytes-clause-kind
returns-in-Bytes-clause-kind g c =
    let same = seen_bytes _ c.in-Bytes.lane c.args.self.now c.in-Bytes.is c.self.view_is in
    subst (λ (v : Column). IsOf v.kind c.at.result) same c.at.ensures.kind

pub returns-in-Run-clause-number : goal.returns-in-Run-clause-number
returns-in-Run-clause-number g c =
    let same = seen_run _ c.in-Run.places c.args.self.now c.in-Run.is c.self.view_is in
    c.at-in-Run.ensures.number ∙ ap (λ (v : Column). at v c.args.i) same

pub returns-in-Run-clause-kind : goal.returns-in-Run-clause-kind
returns-in-Run-clause-kind g c =
    let same = seen_run _ c.in-Run.places c.args.self.now c.in-Run.is c.self.view_is in
    subst (λ (v : Column). IsOf v.kind c.at-in-Run.result) same c.at-in-Run.ensures.kind

pub at-requires : goal.at-requires
at-requires g c =
    subst (λ (v : Column). c.args.i < size_of v)
    (sym (seen_bytes _ c.in-Bytes.lane c.args.self.now c.in-Bytes.is c.self.view_is))
    c.requires

pub at-requires-in-Run : goal.at-requires-in-Run
at-requires-in-Run g c =
    subst (λ (v : Column). c.args.i < size_of v)
    (sym (seen_run _ c.in-Run.places c.args.self.now c.in-Run.is c.self.view_is))
    c.requires
