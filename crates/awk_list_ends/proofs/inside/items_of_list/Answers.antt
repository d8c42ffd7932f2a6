use Rattle.std.proofs.Common.{◌-◌, ap₂, ◌∙◌}
use Rattle.awk_layout.specs.Valid.{len}
use Rattle.awk_list_ends.proofs.InsideLaws.{between_span}
use Rattle.awk_list_ends.proofs.inside.items_of_list.Goals as goal

pub returns : goal.returns
returns c =
    let l = c.args.lists.now in
    ap₂ (λ a b. a - b) c.place_of.ensures c.place_of-2.ensures
    ∙ between_span c.args.offsets.now l.starts l.stops (len l.content) c.args.i
    c.span_or-span.result.start c.span_or-span.result.length
    (c.content.ensures.lists.spans.ordered c.args.i c.requires.list)
    c.span_or-span.ensures.length c.span_or-span.ensures.start
