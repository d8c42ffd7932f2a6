use Rattle.std.proofs.Common.{◌≡◌, ◌∙◌, ap, arith, subst, sym}
use Rattle.std.specs.Prelude.{Err, false}
use Rattle.awk_types.specs.Faults.{fault_told}
use Rattle.awk_types.specs.Gives.{Told}
use Rattle.awk_types.proofs.RefusalLaws.{Gives-Err}
use Rattle.awk_layout.specs.Datum.{datum_of}
use Rattle.awk_layout.specs.Typing.{array_items}
use Rattle.awk_layout.specs.Valid.{len}
use Rattle.awk_cast.specs.Cast.{are_many, cast_of}
use Rattle.awk_cast.specs.Casting.{fault_of}
use Rattle.awk_cast.proofs.ArrayLaws.{array_given, array_told, many_told, one_given, one_told}
use Rattle.awk_cast.proofs.ArrayLaws.{over_limit, within_limit}
use Rattle.awk_cast.proofs.casting.cast.Goals as goal

-- ---- arrays

pub returns-then-len-gt-ITEM_LIMIT-clause-answer :
    goal.returns-then-len-gt-ITEM_LIMIT-clause-answer
returns-then-len-gt-ITEM_LIMIT-clause-answer g c =
    ap (λ d. cast_of c.args.to (datum_of d)) c.in-Arr.is
    ∙ many_told c.args.to c.in-Arr.x
    (over_limit c.in-Arr.x c.len.result c.len.ensures.len c.if-len-gt-ITEM_LIMIT.true)

pub returns-in_err-cast_array-in-Arr-clause-answer :
    goal.returns-in_err-cast_array-in-Arr-clause-answer
returns-in_err-cast_array-in-Arr-clause-answer g c =
    let x = c.in-Arr.x in
    let few : are_many (array_items x) ≡ false =
    within_limit x c.len.result c.len.ensures.len (omega (arith, c.if-len-gt-ITEM_LIMIT.false)) in
    let e = c.in_err-cast_array-in-Arr.field-0.0 in
    let failed : c.from_residual.result ≡ Err (fault_of e) = grind arith in
    Gives-Err datum_of fault_told c.from_residual.result (fault_of e)
    (cast_of c.args.to (datum_of c.args.x.now)) failed
    (subst (λ d. Told (fault_told (fault_of e)) (cast_of c.args.to (datum_of d))) (sym c.in-Arr.is)
    (array_told c.args.to x e few c.in_err-cast_array-in-Arr.ensures))

pub returns-in_ok-cast_array-in-Arr-clause-answer :
    goal.returns-in_ok-cast_array-in-Arr-clause-answer
returns-in_ok-cast_array-in-Arr-clause-answer g c =
    let x = c.in-Arr.x in
    let few : are_many (array_items x) ≡ false =
    within_limit x c.len.result c.len.ensures.len (omega (arith, c.if-len-gt-ITEM_LIMIT.false)) in
    let made = c.in_ok-cast_array-in-Arr.ensures in
    ap (λ d. cast_of c.args.to (datum_of d)) c.in-Arr.is
    ∙ array_given c.args.to x c.in_ok-cast_array-in-Arr.field-0 few made.0 made.1

-- ---- single values

pub returns-in_err-cast_array-in-One-clause-answer :
    goal.returns-in_err-cast_array-in-One-clause-answer
returns-in_err-cast_array-in-One-clause-answer g c =
    let x = c.in-One.x in
    let only : len x ≡ 1 = rw c.in-One.is at c.requires.datum in
    let e = c.in_err-cast_array-in-One.field-0.0 in
    let failed : c.from_residual-in_err-cast_array-in-One.result ≡ Err (fault_of e) = grind arith in
    Gives-Err datum_of fault_told c.from_residual-in_err-cast_array-in-One.result (fault_of e)
    (cast_of c.args.to (datum_of c.args.x.now)) failed
    (subst (λ d. Told (fault_told (fault_of e)) (cast_of c.args.to (datum_of d))) (sym c.in-One.is)
    (one_told c.args.to x e only c.in_err-cast_array-in-One.ensures))

pub returns-in_ok-cast_array-in-One-clause-answer :
    goal.returns-in_ok-cast_array-in-One-clause-answer
returns-in_ok-cast_array-in-One-clause-answer g c =
    let x = c.in-One.x in
    let only : len x ≡ 1 = rw c.in-One.is at c.requires.datum in
    let made = c.in_ok-cast_array-in-One.ensures in
    ap (λ d. cast_of c.args.to (datum_of d)) c.in-One.is
    ∙ one_given c.args.to x c.in_ok-cast_array-in-One.field-0 only made.0 made.1
