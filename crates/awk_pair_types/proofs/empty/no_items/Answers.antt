use Rattle.std.proofs.Common.{subst, ◌≤◌}
use Rattle.awk_pair_types.specs.Emptied.{height}
use Rattle.awk_pair_types.proofs.EmptyLaws.{emptied_is, kept_type}
use Rattle.awk_pair_types.proofs.HeightLaws.{height_limit}
use Rattle.awk_pair_types.proofs.empty.no_items.Goals as goal

pub returns : goal.returns
returns g c =
    let t = kept_type c.args.x.now c.in_ok-datum.datum c.kept-kept.result.now
    c.in_ok-datum.ensures.answer c.kept-kept.ensures in
    record {
      datum = emptied_is c.args.x.now c.in_ok-datum.datum c.kept-kept.result.now c.in_ok-none.none
          c.in_ok-datum.ensures.answer c.kept-kept.ensures c.in_ok-none.ensures.typ
          c.in_ok-none.ensures.items;
      operand = tt;
      shallow = subst (λ u. height u ≤ 60) t (height_limit _ c.typ.ensures.lawful.within_limits);
    }
