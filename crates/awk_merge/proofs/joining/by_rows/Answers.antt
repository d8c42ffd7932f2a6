use Rattle.std.proofs.Common.{◌≡◌, ◌∙◌, ◌*◌, Err, None, ap, sym, subst, map, length, arith}
use Rattle.awk_types.proofs.RefusalLaws.{Gives-Err, refused_or-Ok}
use Rattle.awk_types.specs.Faults.{fault_told}
use Rattle.awk_types.specs.Gives.{Gives}
use Rattle.awk_types.specs.View.{typ_of}
use Rattle.awk_layout.specs.Typing.{array_datum}
use Rattle.awk_layout.specs.Valid.{len}
use Rattle.awk_unify.specs.View.{lifts_of}
use Rattle.awk_merge_operands.specs.Concatenate.{row_count}
use Rattle.awk_merge_operands.specs.Operands.{column_in, rows_datum, stacked_rows, rows_refused}
use Rattle.awk_merge_sides.specs.Sides.{sides_of, merged_items}
use Rattle.awk_merge_operands.proofs.AnswerLaws.{first_rows, rows_told_first, length-joined}
use Rattle.awk_merge_operands.proofs.AnswerLaws.{rows_gives}
use Rattle.awk_merge.proofs.joining.by_rows.Goals as goal

pub returns-in_err-judge_rows : goal.returns-in_err-judge_rows
returns-in_err-judge_rows g c =
    let rows : row_count (map column_in c.args.xs.now) ≡ c.len-n.result =
    first_rows c.args.xs.now c.get.result.now c.get.ensures.item
    ∙ sym (c.len-n.ensures.len ∙ ap len c.kept.ensures) in
    let failed : c.from_residual.result ≡ Err c.in_err-judge_rows.field-0.0 =
    grind arith in
    Gives-Err array_datum fault_told c.from_residual.result
    c.in_err-judge_rows.field-0.0 _ failed
    (rows_told_first c.args.xs.now (lifts_of c.args.whole.now.lifts) (typ_of c.args.whole.now.typ)
    c.len-n.result c.requires.carried rows (fault_told c.in_err-judge_rows.field-0.0)
    c.in_err-judge_rows.ensures)

pub joined_rows-requires-clause-whole : goal.joined_rows-requires-clause-whole
joined_rows-requires-clause-whole g c =
    let rows : row_count (map column_in c.args.xs.now) ≡ c.len-n.result =
    first_rows c.args.xs.now c.get.result.now c.get.ensures.item
    ∙ sym (c.len-n.ensures.len ∙ ap len c.kept.ensures) in
    let none : rows_refused c.len-n.result (map column_in c.args.xs.now) ≡ None =
    (refused_or-Ok (rows_refused c.len-n.result (map column_in c.args.xs.now)) (tt {0}) (tt {0})
    c.in_ok-judge_rows.ensures).0 in
    ap length c.in_ok-sides.ensures.items
    ∙ length-joined c.args.xs.now (lifts_of c.args.whole.now.lifts) (typ_of c.args.whole.now.typ)
    c.len-n.result c.requires.carried rows none
    ∙ ap (λ k. k * c.len-n.result) (sym c.len.ensures)

pub joined_rows-requires-clause-some : goal.joined_rows-requires-clause-some
joined_rows-requires-clause-some g c = omega (arith, c.requires.some, c.len.ensures)

pub returns : goal.returns
returns g c =
    let rows : row_count (map column_in c.args.xs.now) ≡ c.len-n.result =
    first_rows c.args.xs.now c.get.result.now c.get.ensures.item
    ∙ sym (c.len-n.ensures.len ∙ ap len c.kept.ensures) in
    let none : rows_refused c.len-n.result (map column_in c.args.xs.now) ≡ None =
    (refused_or-Ok (rows_refused c.len-n.result (map column_in c.args.xs.now)) (tt {0}) (tt {0})
    c.in_ok-judge_rows.ensures).0 in
    subst (Gives array_datum fault_told c.joined_rows.result)
    (ap (λ k. rows_datum (typ_of c.args.whole.now.typ) (stacked_rows c.len-n.result k
    (merged_items (sides_of c.in_ok-sides.sides)))) c.len.ensures
    ∙ ap (λ vs. rows_datum (typ_of c.args.whole.now.typ)
    (stacked_rows c.len-n.result (length c.args.xs.now) vs)) c.in_ok-sides.ensures.items
    ∙ rows_gives c.args.xs.now (lifts_of c.args.whole.now.lifts) (typ_of c.args.whole.now.typ)
    c.len-n.result c.requires.carried rows none) c.joined_rows.ensures
