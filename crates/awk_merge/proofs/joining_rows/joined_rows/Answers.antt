use Rattle.std.proofs.Common.{◌≡◌, ◌∙◌, Ok, Err, ap, ap₂, sym, subst, length, arith}
use Rattle.awk_types.proofs.RefusalLaws.{Gives-Err}
use Rattle.awk_types.specs.Faults.{fault_told}
use Rattle.awk_types.specs.Gives.{Told}
use Rattle.awk_layout.proofs.ArrayItems.{length-array_items}
use Rattle.awk_layout.specs.Array.{IsArrayType}
use Rattle.awk_layout.specs.Typing.{array_type, array_items, array_datum}
use Rattle.awk_merge_operands.specs.Operands.{stacked_rows, rows_datum, IsRowsType}
use Rattle.awk_merge_sides.specs.Sides.{sides_of, merged_items}
use Rattle.awk_merge.proofs.NullRowLaws.{rows_made}
use Rattle.awk_merge.proofs.joining_rows.joined_rows.Goals as goal

pub rows_of-requires-clause-rows : goal.rows_of-requires-clause-rows
rows_of-requires-clause-rows g c = subst IsRowsType (sym c.in_ok-x.ensures.typ) c.requires.rows

pub rows_of-requires-clause-whole : goal.rows_of-requires-clause-whole
rows_of-requires-clause-whole g c =
    sym (length-array_items c.in_ok-x.x) ∙ ap length c.in_ok-x.ensures.items ∙ c.requires.whole

pub rows_of-requires-clause-fits : goal.rows_of-requires-clause-fits
rows_of-requires-clause-fits g c =
    omega (arith, c.requires.whole, c.requires.counted.total, c.requires.counted.fits)

pub returns-in_err-rows : goal.returns-in_err-rows
returns-in_err-rows g c =
    let failed : c.from_residual-in_err-rows.result ≡ Err c.in_err-rows.field-0.0 = grind arith in
    Gives-Err array_datum fault_told c.from_residual-in_err-rows.result c.in_err-rows.field-0.0 _
    failed
    (subst (λ t. Told (fault_told c.in_err-rows.field-0.0) (rows_datum t
    (stacked_rows c.args.n c.args.k (merged_items (sides_of c.args.sides.now)))))
    c.in_ok-x.ensures.typ
    (subst (λ vs. Told (fault_told c.in_err-rows.field-0.0) (rows_datum (array_type c.in_ok-x.x)
    (stacked_rows c.args.n c.args.k vs))) c.in_ok-x.ensures.items c.in_err-rows.ensures))

pub with_type-requires : goal.with_type-requires
with_type-requires g c =
    let made = rows_made (array_type c.in_ok-x.x)
    (stacked_rows c.args.n c.args.k (array_items c.in_ok-x.x)) c.in_ok-rows.rows
    c.in_ok-rows.ensures in
    record {
      typ = c.in_ok-again.ensures ∙ sym c.in_ok-x.ensures.typ ∙ made.1;
      lawful = subst IsArrayType (sym c.in_ok-again.ensures) c.requires.lawful;
    }

pub returns : goal.returns
returns g c =
    ap₂ (λ t vs. rows_datum t (stacked_rows c.args.n c.args.k vs)) (sym c.in_ok-x.ensures.typ)
    (sym c.in_ok-x.ensures.items) ∙ c.in_ok-rows.ensures
    ∙ ap (λ z. Ok (array_datum z)) (sym c.with_type.ensures)
