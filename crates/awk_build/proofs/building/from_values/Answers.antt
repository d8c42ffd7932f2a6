use Rattle.std.proofs.Common.{◌≡◌, ◌∙◌, ap, subst}
use Rattle.std.specs.Prelude.{IfSome, None}
use Rattle.serde_json.proofs.Views.{view-Array}
use Rattle.serde_json.specs.Data.{array}
use Rattle.serde_json.specs.View.{items_view, view}
use Rattle.awk_types.proofs.RefusalLaws.{refused_or-Ok}
use Rattle.awk_types.specs.DataType.{unknown}
use Rattle.awk_types.proofs.PartLimits.{within_var}
use Rattle.awk_plain.specs.IsPlain.{IsJudged}
use Rattle.awk_plain.specs.Plain.{items_type, plain_fault, plain_type}
use Rattle.awk_plain.proofs.JudgedLaws.{fault_free}
use Rattle.awk_build.proofs.SuitedArrays.{array_given}
use Rattle.awk_build.specs.Built.{IsArrayOfItems}
use Rattle.awk_build.proofs.building.from_values.Goals as goal

pub returns-in-Some : goal.returns-in-Some
returns-in-Some g c =
    let d = view c.args.v.now in
    let ds = items_view c.in-Array.items.items in
    let viewed : d ≡ array ds = ap view c.in-Array.is ∙ view-Array c.in-Array.items in
    let free : plain_fault (array ds) ≡ None =
    subst (λ o. IfSome o (λ y. plain_fault (array ds) ≡ None)) c.in-Some.is
    c.in_ok-array-in-Array.ensures.free in
    let made : IsArrayOfItems ds c.in-Some.array =
    subst (λ o. IfSome o (IsArrayOfItems ds)) c.in-Some.is c.in_ok-array-in-Array.ensures.items in
    array_given d ds c.in-Some.array viewed free made

pub items_array-requires-clause-items : goal.items_array-requires-clause-items
items_array-requires-clause-items g c =
    let d = view c.args.v.now in
    let viewed : d ≡ array (items_view c.in-Array.items.items) =
    ap view c.in-Array.is ∙ view-Array c.in-Array.items in
    (subst IsJudged viewed
    (fault_free d
    (refused_or-Ok (plain_fault d) (plain_type d) _
    c.in_ok-_typ-in-Array.ensures).0)).1

pub items_array-requires-clause-limit : goal.items_array-requires-clause-limit
items_array-requires-clause-limit g c =
    let d = view c.args.v.now in
    let ds = items_view c.in-Array.items.items in
    let viewed : d ≡ array ds = ap view c.in-Array.is ∙ view-Array c.in-Array.items in
    within_var (items_type unknown ds)
    (subst IsJudged viewed
    (fault_free d
    (refused_or-Ok (plain_fault d) (plain_type d) _
    c.in_ok-_typ-in-Array.ensures).0)).0
