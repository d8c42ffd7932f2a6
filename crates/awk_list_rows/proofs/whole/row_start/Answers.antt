use Rattle.std.proofs.Common.{◌-◌, arith, ap, sym, ◌∙◌, rules}
use Rattle.std.specs.Prelude.{FitsSigned}
use Rattle.std.specs.Int.{w64}
use Rattle.std.proofs.lemmas.Int.{to_z-of_z}
use Rattle.awk_lanes.specs.Cut.{cut_of}
use Rattle.awk_lanes.specs.Places.{at, option_place}
use Rattle.awk_layout.specs.Valid.{len}
use Rattle.awk_list_rows.proofs.WholeLaws.{row_found}
use Rattle.awk_list_rows.proofs.whole.row_start.Goals as goal

pub returns : goal.returns
returns g c =
    let fits : FitsSigned w64 c.index_at.result = search rules in
    row_found c.args.lists.now.starts c.args.lists.now.stops (len c.args.lists.now.content)
    c.len-n.result c.to_option_place.result c.content.ensures.lists.spans c.len-n.ensures.len
    (omega (arith, c.if-n-eq0.false))
    (sym (c.cut-starts.ensures.value ∙ ap (λ w. cut_of w 1 c.len-n.result) c.starts.ensures)
    ∙ c.is_same.ensures c.if-not-is_same.false ∙ c.cut-stops.ensures.value
    ∙ ap (λ w. cut_of w 0 (c.len-n.result - 1)) c.stops.ensures)
    (c.to_option_place.ensures
    ∙ ap option_place (to_z-of_z w64 c.index_at.result fits ∙ c.index_at.ensures.value ∙ ap
    (λ w. at w 0) c.starts-2.ensures))
