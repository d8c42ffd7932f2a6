use Rattle.std.proofs.Common.{◌++◌, ◌-◌, ◌∙◌, ap}
use Rattle.awk_types.specs.View.{typs_of}
use Rattle.awk_unify.specs.Carries.{kept_each}
use Rattle.awk_unify.specs.View.{lifts_of}
use Rattle.awk_unify.proofs.PlacedLaws.{widened_is}
use Rattle.awk_unify.proofs.alternatives.widened.Goals as goal

pub returns : goal.returns
returns c =
    widened_is (typs_of c.args.ts.now) _ _ _ _ c.args.k _ _ _ _ _ c.requires c.in_ok-typs.ensures
    c.in_ok-push.ensures.ok c.in_ok-push_later.ensures c.in_ok-kept.ensures
    c.in_ok-push-2.ensures.ok
    (c.in_ok-push_same.ensures ∙ ap (λ n. lifts_of c.push-2.new.self ++ kept_each
    (n - c.args.k - 1)) c.len.ensures)
