use Rattle.std.proofs.Common.{◌≡◌, max, ap, ◌∙◌, sym, subst}
use Rattle.std.specs.Prelude.{IfOk}
use Rattle.awk_layout.specs.Typing.{array_items}
use Rattle.awk_eval.proofs.Ranges.{range_items-of}
use Rattle.awk_layout.proofs.ArrayItems.{length-array_items}
use Rattle.awk_eval.proofs.views.between.Goals as goal

pub returns-clause-items : goal.returns-clause-items
returns-clause-items g c =
    subst (λ vs. IfOk c.range.result (λ made. array_items made ≡ vs))
    (range_items-of (array_items c.args.x.now) c.len-n.result c.bound_or-from.result
    c.max-to.result c.args.lo.now c.args.hi.now
    (length-array_items c.args.x.now ∙ sym c.len-n.ensures.len) c.bound_or-from.ensures.bound
    (c.max-to.ensures ∙ ap (λ to. max to c.bound_or-from.result) c.bound_or.ensures.bound))
    c.range.ensures.items
