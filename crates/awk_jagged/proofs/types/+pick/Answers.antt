use Rattle.std.proofs.Common.{option_map, ap, ◌∙◌}
use Rattle.awk_base.proofs.Results.{if_ok}
use Rattle.awk_types.specs.DataType.{opt}
use Rattle.awk_types.specs.View.{typ_of}
use Rattle.awk_jagged.specs.Jagged.{pick_type}
use Rattle.awk_jagged.proofs.TypeLaws.{rows_by_opt}
use Rattle.awk_jagged.proofs.types.+pick.Goals as goal

pub rows_type-returns-in_ok-list_type-in-Opt : goal.rows_type-returns-in_ok-list_type-in-Opt
rows_type-returns-in_ok-list_type-in-Opt t c =
    if_ok _ _ c.as_option.result
    (λ r h. h ∙ ap (option_map opt) c.in_ok-list_type-in-Opt.ensures
    ∙ rows_by_opt c.args.t.now c.in-Opt.inner c.deref.result.now (pick_type (typ_of c.args.u.now))
    c.in-Opt.is c.deref.ensures) c.as_option.ensures
