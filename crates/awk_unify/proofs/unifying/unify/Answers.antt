use Rattle.std.proofs.Common.{◌≡◌, Err, arith}
use Rattle.awk_types.proofs.RefusalLaws.{Gives-Err}
use Rattle.awk_types.specs.Limit.{limit_told}
use Rattle.awk_types.specs.View.{typ_of}
use Rattle.awk_unify.specs.View.{lift_of, unified_of}
use Rattle.awk_unify.proofs.UnifiesLaws.{unified_gives, unified_told, unified_within, unifies}
use Rattle.awk_unify.proofs.unifying.unify.Goals as goal

pub returns-in_err-typ-2-clause-gives : goal.returns-in_err-typ-2-clause-gives
returns-in_err-typ-2-clause-gives c =
    let failed : c.from_residual-in_err-typ-2.result ≡ Err c.in_err-typ-2.field-0.0 = grind arith in
    Gives-Err unified_of limit_told c.from_residual-in_err-typ-2.result c.in_err-typ-2.field-0.0 _
    failed
    (unified_told (typ_of c.args.a.now) (typ_of c.args.b.now) (typ_of c.in_ok-typ.field-0.typ)
    (lift_of c.in_ok-typ.field-0.left) (lift_of c.in_ok-typ.field-0.right) _ c.requires.0
    c.requires.1 c.in_ok-typ.ensures c.in_err-typ-2.ensures.gives)

pub returns-clause-gives : goal.returns-clause-gives
returns-clause-gives c =
    unified_gives (typ_of c.args.a.now) (typ_of c.args.b.now) (typ_of c.in_ok-typ.field-0.typ)
    (typ_of c.in_ok-typ-2.typ) (lift_of c.in_ok-typ.field-0.left)
    (lift_of c.in_ok-typ.field-0.right) c.requires.0 c.requires.1 c.in_ok-typ.ensures
    c.in_ok-typ-2.ensures.gives

pub returns-clause-laws : goal.returns-clause-laws
returns-clause-laws c =
    unifies (typ_of c.args.a.now) (typ_of c.args.b.now) _ c.requires.0 c.requires.1
    (unified_within (typ_of c.args.a.now) (typ_of c.args.b.now) (typ_of c.in_ok-typ.field-0.typ)
    (typ_of c.in_ok-typ-2.typ) (lift_of c.in_ok-typ.field-0.left)
    (lift_of c.in_ok-typ.field-0.right) c.requires.0 c.requires.1 c.in_ok-typ.ensures
    c.in_ok-typ-2.ensures.gives)
