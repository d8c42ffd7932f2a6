use Rattle.std.proofs.Common.{◌≡◌, ◌∙◌, ap, arith, sym}
use Rattle.awk_types.specs.View.{field_of, fields_of, names_of}
use Rattle.awk_name_places.specs.Places.{place_in}
use Rattle.awk_unify.proofs.NamePlaces.{alike-next, alike-none, is_in-none, is_in-some}
use Rattle.awk_types.proofs.Views.{name_out}
use Rattle.awk_unify.proofs.fields.are_found.Goals as goal

pub returns-then-place_by-len : goal.returns-then-place_by-len
returns-then-place_by-len c =
    let at : c.place_by.result ≡ place_in (names_of (fields_of c.args.xs.now))
    (field_of c.get.result.now).name =
    c.place_by.ensures.at ∙ ap (place_in (names_of (fields_of c.args.xs.now)))
    (sym (name_out c.get.result.now)) in
    alike-none (names_of (fields_of c.args.xs.now)) (fields_of c.args.ys.now) c.loop-i.i
    (field_of c.get.result.now) c.get.ensures.item
    (is_in-none (fields_of c.args.xs.now) (field_of c.get.result.now).name
    (omega (arith, at, c.if-place_by-len.true, c.len.ensures))) c.loop-i.invariant

pub loop-i-preserved : goal.loop-i-preserved
loop-i-preserved c =
    let at : c.place_by.result ≡ place_in (names_of (fields_of c.args.xs.now))
    (field_of c.get.result.now).name =
    c.place_by.ensures.at ∙ ap (place_in (names_of (fields_of c.args.xs.now)))
    (sym (name_out c.get.result.now)) in
    alike-next (names_of (fields_of c.args.xs.now)) (fields_of c.args.ys.now) c.loop-i.i
    (field_of c.get.result.now) _ c.get.ensures.item
    (is_in-some (fields_of c.args.xs.now) (field_of c.get.result.now).name
    (λ e. omega (arith, e, at, c.if-place_by-len.false, c.len.ensures))) c.loop-i.invariant
