use Rattle.std.proofs.Common.{◌≡◌, max, ap, ◌∙◌, subst}
use Rattle.std.specs.Prelude.{IfOk}
use Rattle.awk_layout.specs.Typing.{array_items}
use Rattle.awk_layout.specs.Valid.{len}
use Rattle.awk_layout.proofs.ArrayItems.{length-array_items}
use Rattle.awk_select.specs.Places.{bound_up}
use Rattle.awk_select.proofs.RangePlaces.{cut-range}
use Rattle.awk_select.proofs.ranges.between.Goals as goal

pub returns-clause-items : goal.returns-clause-items
returns-clause-items g c =
    subst (λ vs. IfOk c.range.result (λ made. array_items made ≡ vs))
    (cut-range (array_items c.args.x.now) (len c.args.x.now) c.bound_up-from.result c.max-to.result
    c.args.lo c.args.hi (length-array_items c.args.x.now)
    (c.bound_up-from.ensures.bound ∙ ap (λ n. bound_up n 0 c.args.lo) c.len-n.ensures.len)
    (c.max-to.ensures ∙ ap (λ to. max to c.bound_up-from.result)
    (c.bound_up.ensures.bound ∙ ap (λ n. bound_up n n c.args.hi) c.len-n.ensures.len)))
    c.range.ensures.items
