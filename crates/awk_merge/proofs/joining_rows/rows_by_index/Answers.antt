use Rattle.std.proofs.Common.{◌≡◌, ◌∙◌, ◌*◌, ◌<◌, ◌^◌, ℕ, List, Ok, Err, ap, sym, subst, refl}
use Rattle.std.proofs.Common.{arith}
use Rattle.awk_types.proofs.RefusalLaws.{Gives-Err}
use Rattle.awk_types.specs.DataType.{DataType, var}
use Rattle.awk_types.specs.Faults.{fault_told}
use Rattle.awk_types.specs.Gives.{Told}
use Rattle.awk_types.specs.Value.{Value}
use Rattle.awk_lanes.specs.Places.{size_of, IsOptionalIndex}
use Rattle.awk_layout.specs.Layout.{optional}
use Rattle.awk_layout.specs.Typing.{array_type, array_datum}
use Rattle.awk_layout.specs.Valid.{len}
use Rattle.awk_merge_operands.specs.Operands.{rows_lane, rows_datum, filled_rows, stacked_rows}
use Rattle.awk_merge_operands.specs.Operands.{values_by}
use Rattle.awk_merge_operands.specs.Operands.{type_by, list_between, IsListIndex}
use Rattle.awk_merge_operands.proofs.ListPlaceLaws.{few_rows, indexes_all, size-rows, rows_index}
use Rattle.awk_merge.proofs.NullRowLaws.{plain_gives, null_gives, rows_made, rows-len, rows_told}
use Rattle.awk_merge.proofs.joining_rows.rows_by_index.Goals as goal

pub rows_lane-requires-clause-index : goal.rows_lane-requires-clause-index
rows_lane-requires-clause-index g c =
    indexes_all c.args.index.now (c.args.k * c.args.n) (size_of c.args.starts.now) c.requires.index

pub rows_lane-requires-clause-small : goal.rows_lane-requires-clause-small
rows_lane-requires-clause-small g c =
    omega (arith, few_rows c.args.n c.args.k c.requires.some, c.requires.fits)

pub joined_lists-requires-clause-index : goal.joined_lists-requires-clause-index
joined_lists-requires-clause-index g c =
    let size : size_of c.in_ok-rows.rows ≡ c.args.n =
    ap size_of c.in_ok-rows.ensures ∙ size-rows c.args.index.now c.args.n c.args.k in
    subst (λ m. IsListIndex c.args.index.now (c.args.k * m) (size_of c.args.starts.now)) (sym size)
    c.requires.index

pub joined_lists-requires-clause-fits : goal.joined_lists-requires-clause-fits
joined_lists-requires-clause-fits g c =
    let size : size_of c.in_ok-rows.rows ≡ c.args.n =
    ap size_of c.in_ok-rows.ensures ∙ size-rows c.args.index.now c.args.n c.args.k in
    subst (λ m. c.args.k * m < 2 ^ 63) (sym size) c.requires.fits

pub joined_lists-requires-clause-rows : goal.joined_lists-requires-clause-rows
joined_lists-requires-clause-rows g c =
    let size : size_of c.in_ok-rows.rows ≡ c.args.n =
    ap size_of c.in_ok-rows.ensures ∙ size-rows c.args.index.now c.args.n c.args.k in
    c.in_ok-rows.ensures ∙ ap (λ m. rows_lane c.args.index.now m c.args.k) (sym size)

pub returns-in_err-lists : goal.returns-in_err-lists
returns-in_err-lists g c =
    let size : size_of c.in_ok-rows.rows ≡ c.args.n =
    ap size_of c.in_ok-rows.ensures ∙ size-rows c.args.index.now c.args.n c.args.k in
    let t : DataType = var (array_type c.args.content.now) in
    let failed : c.from_residual-in_err-lists.result ≡ Err c.in_err-lists.field-0.0 = grind arith in
    Gives-Err array_datum fault_told c.from_residual-in_err-lists.result c.in_err-lists.field-0.0 _
    failed
    (rows_told (fault_told c.in_err-lists.field-0.0) t (type_by c.args.index.now t) c.args.n
    c.args.k
    (values_by c.args.index.now (c.args.k * c.args.n)
    (list_between c.args.starts.now c.args.stops.now c.args.content.now))
    (subst (λ m. Told (fault_told c.in_err-lists.field-0.0) (rows_datum t
    (filled_rows m c.args.k (values_by c.args.index.now (c.args.k * m)
    (list_between c.args.starts.now c.args.stops.now c.args.content.now))))) size
    c.in_err-lists.ensures))

pub null_rows-requires-clause-fits : goal.null_rows-requires-clause-fits
null_rows-requires-clause-fits g c =
    let size : size_of c.in_ok-rows.rows ≡ c.args.n =
    ap size_of c.in_ok-rows.ensures ∙ size-rows c.args.index.now c.args.n c.args.k in
    omega (arith, size, few_rows c.args.n c.args.k c.requires.some, c.requires.fits)

pub null_rows-requires-clause-index : goal.null_rows-requires-clause-index
null_rows-requires-clause-index g c =
    let size : size_of c.in_ok-rows.rows ≡ c.args.n =
    ap size_of c.in_ok-rows.ensures ∙ size-rows c.args.index.now c.args.n c.args.k in
    let t : DataType = var (array_type c.args.content.now) in
    let f : ℕ → Value = list_between c.args.starts.now c.args.stops.now c.args.content.now in
    let made : rows_datum t (filled_rows c.args.n c.args.k
    (values_by c.args.index.now (c.args.k * c.args.n) f)) ≡ Ok (array_datum c.in_ok-lists.lists) =
    subst (λ m. rows_datum t (filled_rows m c.args.k (values_by c.args.index.now (c.args.k * m) f))
    ≡ Ok (array_datum c.in_ok-lists.lists)) size c.in_ok-lists.ensures in
    let items = (rows_made t (filled_rows c.args.n c.args.k
    (values_by c.args.index.now (c.args.k * c.args.n) f)) c.in_ok-lists.lists made).2 in
    let long = rows-len c.args.index.now c.args.n c.args.k f (λ p. refl) c.in_ok-lists.lists
    (sym items) in
    subst (λ r. IsOptionalIndex r (len c.in_ok-lists.lists)) (sym c.in_ok-rows.ensures)
    (rows_index c.args.index.now c.args.n c.args.k (len c.in_ok-lists.lists) (omega (arith, long)))

pub returns-in_ok-null_rows-in-Some : goal.returns-in_ok-null_rows-in-Some
returns-in_ok-null_rows-in-Some g c =
    let size : size_of c.in_ok-rows.rows ≡ c.args.n =
    ap size_of c.in_ok-rows.ensures ∙ size-rows c.args.index.now c.args.n c.args.k in
    let t : DataType = array_type c.args.content.now in
    let f : ℕ → Value = list_between c.args.starts.now c.args.stops.now c.args.content.now in
    let vs : List Value = values_by c.args.index.now (c.args.k * c.args.n) f in
    let made : rows_datum (var t) (filled_rows c.args.n c.args.k vs)
    ≡ Ok (array_datum c.in_ok-lists.lists) =
    subst (λ m. rows_datum (var t) (filled_rows m c.args.k
    (values_by c.args.index.now (c.args.k * m) f))
    ≡ Ok (array_datum c.in_ok-lists.lists)) size c.in_ok-lists.ensures in
    ap (λ i. rows_datum (type_by i (var t)) (stacked_rows c.args.n c.args.k vs)) c.in-Some.is
    ∙ null_gives c.args.index.now c.args.n c.args.k f t c.in_ok-lists.lists (λ p. refl) made
    ∙ ap (λ x. Ok (array_datum x))
    (ap (λ r. optional r c.in_ok-lists.lists) (sym c.in_ok-rows.ensures)
    ∙ sym c.in_ok-null_rows-in-Some.ensures)

pub returns-in-None : goal.returns-in-None
returns-in-None g c =
    let size : size_of c.in_ok-rows.rows ≡ c.args.n =
    ap size_of c.in_ok-rows.ensures ∙ size-rows c.args.index.now c.args.n c.args.k in
    let t : DataType = array_type c.args.content.now in
    let f : ℕ → Value = list_between c.args.starts.now c.args.stops.now c.args.content.now in
    plain_gives c.args.index.now c.args.n c.args.k f (var t) (array_datum c.in_ok-lists.lists)
    c.in-None.is (λ p. refl)
    (subst (λ m. rows_datum (var t) (filled_rows m c.args.k
    (values_by c.args.index.now (c.args.k * m) f))
    ≡ Ok (array_datum c.in_ok-lists.lists)) size c.in_ok-lists.ensures)
