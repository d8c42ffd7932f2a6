use Rattle.std.proofs.Common.{◌≡◌, subst, ◌∙◌}
use Rattle.std.specs.Prelude.{IfOk, IfSome}
use Rattle.awk_base.proofs.Results.{if_ok}
use Rattle.awk_layout.specs.Layout.{Layout, optional}
use Rattle.awk_open.specs.Opened.{IsOpened}
use Rattle.awk_open.specs.declared.opening.Opened.TheVariants.{Option as Optional}
use Rattle.awk_fill.specs.Filled.{HoldsOption}
use Rattle.awk_fill.proofs.FillLaws.{holds_found}
use Rattle.awk_fill.proofs.parts.whole_parts.Goals as goal

pub returns-in-IndexedOption : goal.returns-in-IndexedOption
returns-in-IndexedOption c =
    let x = c.args.x.now in
    let is : optional c.in-IndexedOption.index.now c.in-IndexedOption.content.now ≡ x =
    c.in-IndexedOption.ensures.class ∙ c.node.ensures in
    if_ok (λ o. IfSome o (λ r. IsOpened x (Optional r.index r.content)))
    (λ o. IfSome o (λ r. HoldsOption r.index r.content x)) c.parts_over.result
    (λ o h. holds_found x o h)
    (subst (λ (y : Layout). IfOk c.parts_over.result (λ o. IfSome o (λ r.
    IsOpened y (Optional r.index r.content)))) is c.parts_over.ensures)
