use Rattle.std.proofs.Common.{◌≡◌, ◌∙◌, ap₂, sym, true, false}
use Rattle.awk_types.specs.Names.{same_name}
use Rattle.awk_types.specs.View.{field_of, fields_of}
use Rattle.awk_types.proofs.Views.{name_out}
use Rattle.awk_unify.proofs.NamePlaces.{place-here, place-next}
use Rattle.awk_unify.proofs.fields.place.Goals as goal

pub returns-then-eq-clause-at : goal.returns-then-eq-clause-at
returns-then-eq-clause-at c =
    let same : same_name (field_of c.get.result.now).name c.args.name.now ≡ true =
    ap₂ same_name (name_out c.get.result.now ∙ sym c.as_str.ensures)
    (sym c.as_str-in-loop-i.ensures) ∙ sym c.eq.ensures ∙ c.if-eq.true in
    place-here (fields_of c.args.xs.now) c.args.name.now c.loop-i.i (field_of c.get.result.now) _
    c.get.ensures.item same c.loop-i.invariant

pub loop-i-preserved : goal.loop-i-preserved
loop-i-preserved c =
    let other : same_name (field_of c.get.result.now).name c.args.name.now ≡ false =
    ap₂ same_name (name_out c.get.result.now ∙ sym c.as_str.ensures)
    (sym c.as_str-in-loop-i.ensures) ∙ sym c.eq.ensures ∙ c.if-eq.false in
    place-next (fields_of c.args.xs.now) c.args.name.now c.loop-i.i (field_of c.get.result.now) _
    c.get.ensures.item other c.loop-i.invariant
