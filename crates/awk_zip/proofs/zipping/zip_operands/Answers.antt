use Rattle.std.proofs.Common.{◌≡◌, ◌∙◌, ap, sym, subst, arith}
use Rattle.std.specs.Prelude.{option_map, Ok, Err}
use Rattle.awk_types.specs.Faults.{fault_told, limit_refused}
use Rattle.awk_types.specs.View.{typ_of}
use Rattle.awk_types.proofs.RefusalLaws.{Gives-Err, refused_or-Ok}
use Rattle.awk_layout.specs.Datum.{datum_of, IsDatum}
use Rattle.awk_pair_operands.specs.First.{all_data}
use Rattle.awk_zip.specs.Counted.{size_if}
use Rattle.awk_zip.specs.Zip.{zip_of, zip_type}
use Rattle.awk_zip.proofs.ZipLaws.{told_type, told_pair, told_large, made, datum_made, is_zipped}
use Rattle.awk_zip.proofs.zipping.zip_operands.Goals as goal

pub returns-in_err-typ-clause-answer : goal.returns-in_err-typ-clause-answer
returns-in_err-typ-clause-answer g c =
    let d = c.args.depth in
    let named = option_map (λ names. names.now) c.args.names in
    let ds = all_data c.args.xs.now in
    let e = c.in_err-typ.field-0.0 in
    let failed : c.from_residual.result ≡ Err e = grind arith in
    Gives-Err datum_of fault_told c.from_residual.result e (zip_of d named ds) failed
    (told_type d named ds (fault_told e) c.in_err-typ.ensures.answer)

pub returns-in_err-single-clause-answer : goal.returns-in_err-single-clause-answer
returns-in_err-single-clause-answer g c =
    let d = c.args.depth in
    let named = option_map (λ names. names.now) c.args.names in
    let ds = all_data c.args.xs.now in
    let e = c.in_err-single.field-0.0 in
    let failed : c.from_residual-in_err-single.result ≡ Err e = grind arith in
    let within = refused_or-Ok (limit_refused (zip_type d named ds)) (zip_type d named ds)
    (typ_of c.in_ok-typ.typ) c.in_ok-typ.ensures.answer in
    Gives-Err datum_of fault_told c.from_residual-in_err-single.result e (zip_of d named ds) failed
    (told_pair d named ds (fault_told e) within.0 c.in_err-single.ensures.answer)

pub returns-then-branch-clause-answer : goal.returns-then-branch-clause-answer
returns-then-branch-clause-answer g c =
    let d = c.args.depth in
    let named = option_map (λ names. names.now) c.args.names in
    let ds = all_data c.args.xs.now in
    let single = c.in_ok-single.field-0.single in
    let y = c.within_limits-made.result in
    let h = is_zipped d named ds single (typ_of c.in_ok-typ.typ) y c.in_ok-single.field-0.node
    c.within_limits-made.ensures c.in_ok-typ.ensures.answer c.in_ok-single.ensures.answer
    c.in_ok-single.ensures.typ c.in_ok-single.ensures.items in
    told_large d named ds single c.levels_inside-levels.result y h c.levels_inside-levels.ensures
    (c.in_ok-is_large.ensures ∙ ap size_if c.if-branch.true)

pub returns-clause-answer : goal.returns-clause-answer
returns-clause-answer g c =
    let d = c.args.depth in
    let named = option_map (λ names. names.now) c.args.names in
    let ds = all_data c.args.xs.now in
    let single = c.in_ok-single.field-0.single in
    let y = c.within_limits-made.result in
    let h = is_zipped d named ds single (typ_of c.in_ok-typ.typ) y c.in_ok-single.field-0.node
    c.within_limits-made.ensures c.in_ok-typ.ensures.answer c.in_ok-single.ensures.answer
    c.in_ok-single.ensures.typ c.in_ok-single.ensures.items in
    made d named ds single c.levels_inside-levels.result y h c.levels_inside-levels.ensures
    (c.in_ok-is_large.ensures ∙ ap size_if c.if-branch.false)
    ∙ ap (λ x. Ok (datum_of x)) (sym c.datum_from.ensures)

pub returns-clause-datum : goal.returns-clause-datum
returns-clause-datum g c =
    let d = c.args.depth in
    let named = option_map (λ names. names.now) c.args.names in
    let ds = all_data c.args.xs.now in
    let single = c.in_ok-single.field-0.single in
    let y = c.within_limits-made.result in
    let h = is_zipped d named ds single (typ_of c.in_ok-typ.typ) y c.in_ok-single.field-0.node
    c.within_limits-made.ensures c.in_ok-typ.ensures.answer c.in_ok-single.ensures.answer
    c.in_ok-single.ensures.typ c.in_ok-single.ensures.items in
    subst IsDatum (sym c.datum_from.ensures) (datum_made d named ds single y h)
