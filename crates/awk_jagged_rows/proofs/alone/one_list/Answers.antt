use Rattle.std.specs.Prelude.{refl}
use Rattle.awk_base.proofs.Results.{if_ok}
use Rattle.awk_jagged_rows.proofs.AloneLaws.{whole}
use Rattle.awk_jagged_rows.proofs.alone.one_list.Goals as goal

pub returns : goal.returns
returns c =
    if_ok _ _ c.between.result
    (λ r h. whole c.args.x.now 0 c.len.result r refl c.len.ensures.len h) c.between.ensures
