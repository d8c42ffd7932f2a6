use Rattle.std.proofs.Common.{◌≡◌, ◌+◌, ap, ap₂, sym, ◌∙◌, subst, arith, length}
use Rattle.awk_hist.specs.Lists.{AreItems}
use Rattle.awk_layout.specs.Typing.{array_type, array_items}
use Rattle.awk_layout.proofs.ArrayItems.{length-array_items}
use Rattle.awk_types.specs.Datum as shown
use Rattle.awk_types.specs.Simple.{simple_value}
use Rattle.awk_layout.specs.Datum.{first_item}
use Rattle.awk_present.specs.Numbers.{numbers}
use Rattle.awk_present.specs.Present.{list_at}
use Rattle.awk_hist.specs.Bins.{bins_type, bins_and, count_nulls}
use Rattle.awk_hist.proofs.WholeLaws.{whole_items, whole_list, simple_bins}
use Rattle.awk_hist.proofs.binning.hist_column.Goals as goal

pub bins_node-requires-clause-items : goal.bins_node-requires-clause-items
bins_node-requires-clause-items g c =
    let z = c.args.items.now in
    let n = c.len.result in
    let counted : n ≡ length (array_items z) = c.len.ensures.len ∙ sym (length-array_items z) in
    subst (λ o. AreItems z o 1) (sym c.in_ok-offsets.ensures)
    (whole_items z n counted c.requires.numbers c.requires.few)

pub returns-clause-answer : goal.returns-clause-answer
returns-clause-answer g c =
    let z = c.args.items.now in
    let vs = array_items z in
    let es = c.args.edges.now in
    let more = c.args.more in
    let n = c.len.result in
    let counted : n ≡ length vs = c.len.ensures.len ∙ sym (length-array_items z) in
    let whole : list_at vs c.in_ok-offsets.offsets 0 ≡ vs =
    ap (λ o. list_at vs o 0) c.in_ok-offsets.ensures ∙ whole_list vs n counted in
    let column = c.in_ok-node.ensures in
    let made = c.in_ok-of_node.ensures in
    ap₂ shown.one (ap array_type made ∙ column.typ)
    (ap first_item made ∙ column.items 0 (omega arith)
    ∙ ap (λ vs. simple_value bins_type (bins_and more es vs)) whole
    ∙ simple_bins es (numbers vs) (count_nulls vs + more))
