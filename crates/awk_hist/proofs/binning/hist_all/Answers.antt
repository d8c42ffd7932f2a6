use Rattle.std.proofs.Common.{◌≡◌, ◌<◌, ◌≤◌, arith, ap, sym, ◌∙◌, subst, length, true}
use Rattle.awk_types.specs.Faults.{fault_told}
use Rattle.awk_types.specs.Gives.{Gives}
use Rattle.awk_types.specs.ItemLimit.{item_limit}
use Rattle.awk_layout.specs.Datum.{datum_of}
use Rattle.awk_layout.specs.Typing.{array_type, array_items}
use Rattle.awk_layout.proofs.ArrayItems.{length-array_items}
use Rattle.awk_hist.specs.Hist.{has_numbers, hist_of}
use Rattle.awk_hist.proofs.WholeLaws.{array_many, array_fine}
use Rattle.awk_hist.proofs.binning.hist_all.Goals as goal

pub hist_array-requires-clause-few : goal.hist_array-requires-clause-few
hist_array-requires-clause-few g c =
    omega (
      arith,
      c.if-len-gt-MOST_ITEMS.false,
      c.len.ensures.len,
      length-array_items c.in-Arr.array,
    )

pub returns-then-len-gt-MOST_ITEMS-clause-answer :
    goal.returns-then-len-gt-MOST_ITEMS-clause-answer
returns-then-len-gt-MOST_ITEMS-clause-answer g c =
    let x = c.in-Arr.array in
    let es = c.args.edges.now in
    let taken : has_numbers (array_type x) ≡ true =
    ap has_numbers (sym c.typ.ensures.typ) ∙ sym c.has_numbers.ensures
    ∙ c.if-not-has_numbers.false in
    let many : item_limit < length (array_items x) =
    omega (arith, c.if-len-gt-MOST_ITEMS.true, c.len.ensures.len, length-array_items x) in
    ap (λ d. hist_of es (datum_of d)) c.in-Arr.is
    ∙ array_many es (array_type x) (array_items x) taken many

pub returns-else-len-gt-MOST_ITEMS-clause-answer :
    goal.returns-else-len-gt-MOST_ITEMS-clause-answer
returns-else-len-gt-MOST_ITEMS-clause-answer g c =
    let x = c.in-Arr.array in
    let es = c.args.edges.now in
    let taken : has_numbers (array_type x) ≡ true =
    ap has_numbers (sym c.typ.ensures.typ) ∙ sym c.has_numbers.ensures
    ∙ c.if-not-has_numbers.false in
    let few : length (array_items x) ≤ item_limit =
    omega (arith, c.if-len-gt-MOST_ITEMS.false, c.len.ensures.len, length-array_items x) in
    subst (Gives datum_of fault_told c.hist_array.result)
    (sym (ap (λ d. hist_of es (datum_of d)) c.in-Arr.is
    ∙ array_fine es (array_type x) (array_items x) taken few))
    c.hist_array.ensures.answer
