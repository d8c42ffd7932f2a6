use Rattle.std.proofs.Common.{◌≡◌, Err, arith}
use Rattle.awk_types.proofs.RefusalLaws.{Gives-Err}
use Rattle.awk_types.specs.Limit.{limit_told}
use Rattle.awk_types.specs.View.{typ_of, typs_of}
use Rattle.awk_unify.specs.View.{all_of, lifts_of}
use Rattle.awk_unify.proofs.ListLaws.{list_gives, list_told, list_within, unifies_all}
use Rattle.awk_unify.proofs.several.unify_all.Goals as goal

pub returns-in_err-typ-2-clause-gives : goal.returns-in_err-typ-2-clause-gives
returns-in_err-typ-2-clause-gives c =
    let failed : c.from_residual-in_err-typ-2.result ≡ Err c.in_err-typ-2.field-0.0 = grind arith in
    Gives-Err all_of limit_told c.from_residual-in_err-typ-2.result c.in_err-typ-2.field-0.0 _
    failed
    (list_told (typs_of c.args.ts.now) (typ_of c.in_ok-typ.field-0.typ)
    (lifts_of c.in_ok-typ.field-0.lifts) _ c.requires c.in_ok-typ.ensures
    c.in_err-typ-2.ensures.gives)

pub returns-clause-gives : goal.returns-clause-gives
returns-clause-gives c =
    list_gives (typs_of c.args.ts.now) (typ_of c.in_ok-typ.field-0.typ) (typ_of c.in_ok-typ-2.typ)
    (lifts_of c.in_ok-typ.field-0.lifts) c.requires c.in_ok-typ.ensures
    c.in_ok-typ-2.ensures.gives

pub returns-clause-laws : goal.returns-clause-laws
returns-clause-laws c =
    unifies_all (typs_of c.args.ts.now) _
    (list_within (typs_of c.args.ts.now) (typ_of c.in_ok-typ.field-0.typ) (typ_of c.in_ok-typ-2.typ)
    (lifts_of c.in_ok-typ.field-0.lifts) c.requires c.in_ok-typ.ensures
    c.in_ok-typ-2.ensures.gives)
