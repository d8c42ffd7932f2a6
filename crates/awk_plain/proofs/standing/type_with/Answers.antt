use Rattle.std.proofs.Common.{◌∙◌, ap, sym}
use Rattle.serde_json.specs.View.{view}
use Rattle.awk_types.proofs.RefusalLaws.{refused_or-Ok}
use Rattle.awk_types.specs.Limit.{limit}
use Rattle.awk_types.specs.View.{typ_of}
use Rattle.awk_unify.specs.Unify.{unification}
use Rattle.awk_unify.specs.View.{unified_of}
use Rattle.awk_plain.proofs.TypeSteps.{one_simple, unified_type}
use Rattle.awk_plain.specs.Plain.{first_limit, one_more, plain_type, types_made}
use Rattle.awk_plain.proofs.standing.type_with.Goals as goal

pub unify-requires : goal.unify-requires
unify-requires c =
    (c.requires, one_simple (view c.args.value.now) (typ_of c.in_ok-one.one) c.in_ok-one.ensures)

pub returns : goal.returns
returns c =
    let d = view c.args.value.now in
    let t = typ_of c.args.typ.now in
    let one = typ_of c.in_ok-one.one in
    let is = refused_or-Ok (first_limit (types_made d)) (plain_type d) one c.in_ok-one.ensures in
    unified_type (limit (unification t one).typ) (unification t one)
    (unified_of c.in_ok-unified.unified) c.in_ok-unified.ensures.gives
    ∙ sym (ap (one_more t) is.1)
