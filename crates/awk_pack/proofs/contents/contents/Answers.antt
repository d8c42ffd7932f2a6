use Rattle.std.proofs.Common.{◌≡◌, IfOk, true, arith, sym, subst}
use Rattle.awk_layout.specs.Typing.{array_type, array_items}
use Rattle.awk_open.specs.declared.opening.Opened.TheVariants as opened
use Rattle.awk_pack.specs.Canon.{is_too_large}
use Rattle.awk_pack.specs.Packing.{IfSize, IsColumn, IsLeft}
use Rattle.awk_pack.proofs.ContentLaws.{column-is, left_row, left_option, left_union}
use Rattle.awk_pack.proofs.LargeLaws.{large_array}
use Rattle.awk_pack.proofs.contents.contents.Goals as goal

pub returns-then-len-gt-ITEM_LIMIT-clause-size : goal.returns-then-len-gt-ITEM_LIMIT-clause-size
returns-then-len-gt-ITEM_LIMIT-clause-size g c =
    large_array c.args.x.now (omega (arith, c.if-len-gt-ITEM_LIMIT.true, c.len.ensures.len))

pub returns-in-Leaf-clause-left : goal.returns-in-Leaf-clause-left
returns-in-Leaf-clause-left g c =
    let x = c.args.x.now in
    c.in_ok-leaf_contents-in-Leaf.ensures.left (array_type x) (array_items x)
    (column-is x c.in_ok-in_order.field-0 (opened.Leaf c.in-Leaf.lane) c.in-Leaf.is
    c.in_ok-in_order.ensures.opened c.in_ok-in_order.ensures.order
    (omega (arith, c.if-len-gt-ITEM_LIMIT.false, c.len.ensures.len)))

pub returns-in-Items-clause-left : goal.returns-in-Items-clause-left
returns-in-Items-clause-left g c =
    let x = c.args.x.now in
    let s = opened.Items c.in-Items.lists in
    let column = column-is x c.in_ok-in_order.field-0 s c.in-Items.is
    c.in_ok-in_order.ensures.opened c.in_ok-in_order.ensures.order
    (omega (arith, c.if-len-gt-ITEM_LIMIT.false, c.len.ensures.len)) in
    subst (λ t. IfOk c.list_contents.result
    (λ ys. IsLeft t (array_items x) c.args.lanes.now ys c.list_contents.new.lanes))
    c.typ.ensures.typ
    (c.list_contents.ensures.left (array_items x)
    (subst (λ t. IsColumn t (array_items x) s) (sym c.typ.ensures.typ) column))

pub returns-in-Items-clause-size : goal.returns-in-Items-clause-size
returns-in-Items-clause-size g c =
    let x = c.args.x.now in
    let s = opened.Items c.in-Items.lists in
    let column = column-is x c.in_ok-in_order.field-0 s c.in-Items.is
    c.in_ok-in_order.ensures.opened c.in_ok-in_order.ensures.order
    (omega (arith, c.if-len-gt-ITEM_LIMIT.false, c.len.ensures.len)) in
    subst (λ t. IfSize c.list_contents.result (is_too_large t (array_items x) ≡ true))
    c.typ.ensures.typ
    (c.list_contents.ensures.size (array_items x)
    (subst (λ t. IsColumn t (array_items x) s) (sym c.typ.ensures.typ) column))

pub returns-in-Row-clause-left : goal.returns-in-Row-clause-left
returns-in-Row-clause-left g c =
    let x = c.args.x.now in
    left_row (array_type x) (array_items x) c.args.lanes.now c.in-Row.names c.in-Row.columns
    (column-is x c.in_ok-in_order.field-0 (opened.Row c.in-Row.names c.in-Row.columns) c.in-Row.is
    c.in_ok-in_order.ensures.opened c.in_ok-in_order.ensures.order
    (omega (arith, c.if-len-gt-ITEM_LIMIT.false, c.len.ensures.len)))

pub returns-in-Option-clause-left : goal.returns-in-Option-clause-left
returns-in-Option-clause-left g c =
    let x = c.args.x.now in
    left_option (array_type x) (array_items x) c.args.lanes.now c.push.new.self c.in-Option.index
    c.in-Option.content c.in_ok-only-in-Option.field-0
    (column-is x c.in_ok-in_order.field-0 (opened.Option c.in-Option.index c.in-Option.content)
    c.in-Option.is c.in_ok-in_order.ensures.opened c.in_ok-in_order.ensures.order
    (omega (arith, c.if-len-gt-ITEM_LIMIT.false, c.len.ensures.len)))
    c.in_ok-push-in-Option.ensures.ok c.in_ok-only-in-Option.ensures

pub returns-clause-left : goal.returns-clause-left
returns-clause-left g c =
    let x = c.args.x.now in
    left_union (array_type x) (array_items x) c.args.lanes.now c.push-in-Union.new.self
    c.push-in-Union-2.new.self c.in-Union.tags c.in-Union.index c.in-Union.contents
    (column-is x c.in_ok-in_order.field-0
    (opened.Union c.in-Union.tags c.in-Union.index c.in-Union.contents) c.in-Union.is
    c.in_ok-in_order.ensures.opened c.in_ok-in_order.ensures.order
    (omega (arith, c.if-len-gt-ITEM_LIMIT.false, c.len.ensures.len)))
    c.in_ok-push-in-Union.ensures.ok c.in_ok-push-in-Union-2.ensures.ok
