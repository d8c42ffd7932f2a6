use Rattle.std.proofs.Common.{◌≡◌, None, IfSome, arith, subst, sym}
use Rattle.awk_types.specs.DataType.{opt}
use Rattle.awk_types.specs.View.{typ_of}
use Rattle.awk_lanes.specs.Places.{IsOptionalIndex}
use Rattle.awk_layout.specs.Filler.{Filler, filler_of, filler_value}
use Rattle.awk_layout.specs.Laws.{len-fits}
use Rattle.awk_layout.specs.Typing.{array_type}
use Rattle.awk_fill.specs.Filled.{IsFirst, IsFilledOption}
use Rattle.awk_fill.specs.FillNone.{filler_refusal, filler_type}
use Rattle.awk_fill.proofs.FillLaws.{made_index, made_fit, made_option}
use Rattle.awk_fill.proofs.filling.filled_option.Goals as goal

pub value_array-requires-clause-accepted : goal.value_array-requires-clause-accepted
value_array-requires-clause-accepted g c =
    subst (λ t. filler_refusal (filler_of c.args.value.now) (opt t) ≡ None) (sym c.typ.ensures.typ)
    c.requires.accepted

pub places_or-requires-clause-fits : goal.places_or-requires-clause-fits
places_or-requires-clause-fits g c =
    omega (arith, c.len-n.ensures.len, len-fits c.args.present.now c.len-n.ensures.valid)

pub places_or-requires-clause-index : goal.places_or-requires-clause-index
places_or-requires-clause-index g c =
    subst (IsOptionalIndex c.args.index.now) (sym c.len-n.ensures.len) c.requires.index

pub indexed-requires-clause-valid : goal.indexed-requires-clause-valid
indexed-requires-clause-valid g c =
    made_index (filler_of c.args.value.now) c.args.index.now c.in_ok-places.places
    c.args.present.now c.in_ok-own.own c.in_ok-pair.field-0 c.in_ok-items.items.value
    c.len-n.result (typ_of c.typ.result.now) c.typ.ensures.typ c.len-n.ensures.items
    c.requires.plain c.requires.fits c.requires.index c.in_ok-own.ensures c.in_ok-pair.ensures
    c.in_ok-items.ensures.ok c.len-n.ensures.len c.in_ok-places.ensures

pub indexed-requires-clause-length : goal.indexed-requires-clause-length
indexed-requires-clause-length g c =
    made_fit (filler_of c.args.value.now) c.args.index.now c.in_ok-places.places
    c.args.present.now c.in_ok-own.own c.in_ok-pair.field-0 c.in_ok-items.items.value
    c.len-n.result (typ_of c.typ.result.now) c.typ.ensures.typ c.len-n.ensures.items
    c.requires.plain c.requires.fits c.requires.index c.in_ok-own.ensures c.in_ok-pair.ensures
    c.in_ok-items.ensures.ok c.len-n.ensures.len c.in_ok-places.ensures

pub returns : goal.returns
returns g c =
    made_option (filler_of c.args.value.now) c.args.index.now c.in_ok-places.places
    c.args.present.now c.in_ok-own.own c.in_ok-pair.field-0 c.in_ok-items.items.value
    c.len-n.result (typ_of c.typ.result.now) c.typ.ensures.typ c.len-n.ensures.items
    c.requires.plain c.requires.fits c.requires.index c.in_ok-own.ensures c.in_ok-pair.ensures
    c.in_ok-items.ensures.ok c.len-n.ensures.len c.in_ok-places.ensures c.indexed.result
    c.indexed.ensures.node

pub returns-in-Some : goal.returns-in-Some
returns-in-Some g c =
    let f : Filler = filler_of c.args.value.now in
    let own : IsFirst (filler_type f (array_type c.args.present.now)) (filler_value f)
    c.in_ok-own.own =
    subst (λ t. IsFirst (filler_type f t) (filler_value f) c.in_ok-own.own) c.typ.ensures.typ
    c.in_ok-own.ensures in
    let h : IfSome c.in_ok-filled.filled
    (IsFilledOption f c.args.index.now c.args.present.now) = c.in_ok-filled.ensures f own in
    rw c.in-Some.is at h
