use Rattle.std.proofs.Common.{ap₂, ◌∙◌}
use Rattle.awk_types.specs.DataType.{rec, types_from}
use Rattle.awk_types.proofs.Views.{typ_of-Rec}
use Rattle.awk_hist.proofs.types.bins_typ.Goals as goal

pub returns : goal.returns
returns c =
    typ_of-Rec c.in_ok-named.field-0
    ∙ ap₂ (λ ns ts. rec ns (types_from ts)) (c.in_ok-named.ensures.names ∙ c.in_ok-names.ensures)
    (c.in_ok-named.ensures.types ∙ c.in_ok-types.ensures)
