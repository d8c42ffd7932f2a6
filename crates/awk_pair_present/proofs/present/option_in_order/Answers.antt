use Rattle.std.proofs.Common.{◌∙◌, sym, subst}
use Rattle.awk_lanes.specs.Column.{Column}
use Rattle.awk_layout.specs.Typing.{array_type, array_items}
use Rattle.awk_open.specs.InOrder.{IsInOrder}
use Rattle.awk_open.specs.Opened.{IsOpened}
use Rattle.awk_open.specs.declared.opening.Opened.TheVariants.{Option as Optional}
use Rattle.awk_open.proofs.OnlyKinds.{only_option}
use Rattle.awk_pair_present.proofs.NarrowIndexes.{in_order_option, in_order_numbers}
use Rattle.awk_pair_present.proofs.present.option_in_order.Goals as goal

pub new-requires : goal.new-requires
new-requires g c =
    in_order_option (array_items c.args.x.now) c.in-Option.index c.in-Option.content
    (rw c.in-Option.is at c.in_ok-index.ensures.order)

pub returns-clause-opened : goal.returns-clause-opened
returns-clause-opened g c =
    let h : IsInOrder (array_items c.args.x.now) (Optional c.in-Option.index c.in-Option.content) =
    rw c.in-Option.is at c.in_ok-index.ensures.order in
    subst (λ (j : Column). IsOpened c.args.x.now (Optional j c.in-Option.content))
    (sym (c.new.ensures ∙ in_order_numbers (array_items c.args.x.now) c.in-Option.index
    c.in-Option.content h))
    (rw c.in-Option.is at c.in_ok-index.ensures.opened)

pub returns-clause-inner : goal.returns-clause-inner
returns-clause-inner g c = rw c.in-Option.is at c.in_ok-index.ensures.inner

pub returns-clause-order : goal.returns-clause-order
returns-clause-order g c =
    let h : IsInOrder (array_items c.args.x.now) (Optional c.in-Option.index c.in-Option.content) =
    rw c.in-Option.is at c.in_ok-index.ensures.order in
    subst (λ (j : Column). IsInOrder (array_items c.args.x.now) (Optional j c.in-Option.content))
    (sym (c.new.ensures ∙ in_order_numbers (array_items c.args.x.now) c.in-Option.index
    c.in-Option.content h)) h

pub unreachable-requires : goal.unreachable-requires
unreachable-requires g c =
    only_option (array_type c.args.x.now) c.in_ok-index.field-0 c.in_ok-index.ensures.opened.kind
    c.requires.option c.in_default.not-Option
