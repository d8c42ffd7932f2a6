use Rattle.std.proofs.Common.{◌≤◌, ap, ap₂, arith, subst, sym, ◌∙◌}
use Rattle.awk_lanes.specs.Places.{IsOptionalIndex}
use Rattle.awk_layout.specs.Laws.{len-fits}
use Rattle.awk_layout.specs.Layout.{optional, unmasked}
use Rattle.awk_layout.specs.Valid.{len}
use Rattle.awk_merge_rows.specs.PresentLevels.{option_over, IsIndexOf}
use Rattle.awk_merge_columns.proofs.nodes.option_node.Goals as goal

pub indexed_option-requires-clause-length : goal.indexed_option-requires-clause-length
indexed_option-requires-clause-length g c =
    (subst (IsIndexOf (len c.args.content)) c.in-Some.is c.requires).1

pub indexed_option-requires-clause-valid : goal.indexed_option-requires-clause-valid
indexed_option-requires-clause-valid g c =
    subst (λ y. IsOptionalIndex c.in-Some.index (len y)) (sym c.in_ok-content.ensures.ok)
    (subst (IsIndexOf (len c.args.content)) c.in-Some.is c.requires).2

pub unmasked-requires-clause-length : goal.unmasked-requires-clause-length
unmasked-requires-clause-length g c = omega
    (arith, c.len-n.ensures.len, len-fits c.args.content c.len-n.ensures.valid)

pub unmasked-requires-clause-valid : goal.unmasked-requires-clause-valid
unmasked-requires-clause-valid g c =
    subst (λ y. c.len-n.result ≤ len y) (sym c.in_ok-content.ensures.ok)
    (omega (arith, c.len-n.ensures.len))

pub returns-in-Some : goal.returns-in-Some
returns-in-Some g c =
    c.indexed_option.ensures.node
    ∙ ap (optional c.in-Some.index) c.in_ok-content.ensures.ok
    ∙ ap (λ j. option_over j c.args.content) (sym c.in-Some.is)

pub returns-in-None : goal.returns-in-None
returns-in-None g c =
    c.unmasked.ensures.node
    ∙ ap₂ unmasked c.len-n.ensures.len c.in_ok-content.ensures.ok
    ∙ ap (λ j. option_over j c.args.content) (sym c.in-None.is)
