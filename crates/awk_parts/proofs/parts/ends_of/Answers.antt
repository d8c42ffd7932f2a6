use Rattle.std.proofs.Common.{◌≡◌, ap, subst, ◌∙◌, map}
use Rattle.std.specs.List.{range_with_len}
use Rattle.std.specs.Prelude.{IfOk}
use Rattle.awk_lanes.specs.Column.{Column}
use Rattle.awk_lanes.specs.Numbers.{number}
use Rattle.awk_lanes.specs.Places.{at}
use Rattle.awk_lanes.specs.declared.kind.Kind.TheVariants as Kind
use Rattle.awk_parts.proofs.SpanLaws.{offsets_wide}
use Rattle.awk_parts.proofs.parts.ends_of.Goals as goal

pub returns-in_ok-wide-in_default : goal.returns-in_ok-wide-in_default
returns-in_ok-wide-in_default g c =
    let lane = c.args.lane.now in
    subst (λ zs. IfOk c.groups_of-in_default.result (λ r. map (number Kind.I64) r.now ≡ zs))
    (ap (λ (x : Column). x.items) c.in_ok-wide-in_default.ensures.lane
    ∙ ap (λ n. map (at lane) (range_with_len 0 n)) c.len.ensures.len
    ∙ offsets_wide lane c.requires)
    c.groups_of-in_default.ensures
