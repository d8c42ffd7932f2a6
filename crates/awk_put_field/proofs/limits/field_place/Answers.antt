use Rattle.std.proofs.Common.{◌≡◌, ◌+◌, true, false, sym, ap, ◌∙◌, drop}
use Rattle.awk_types.specs.Names.{same_name, place_of}
use Rattle.awk_types.specs.View.{fields_of, field_of, names_of}
use Rattle.awk_base.proofs.Lists.{drop-get}
use Rattle.awk_types.proofs.Views.{field_of-out}
use Rattle.awk_put_field.proofs.PutLaws.{place_found, place_passed}
use Rattle.awk_put_field.proofs.limits.field_place.Goals as goal

pub returns-then-eq : goal.returns-then-eq
returns-then-eq c =
    let n = c.args.name.now in
    let fs = fields_of c.args.fields.now in
    let f = field_of c.get.result.now in
    let same : same_name f.name n ≡ true =
    ap (λ m. same_name m n) (ap (λ x. x.name) (field_of-out c.get.result.now)
    ∙ sym c.as_str.ensures) ∙ sym c.eq.ensures ∙ c.if-eq.true in
    place_found n c.loop-i.i f.name (place_of n (names_of fs)) (names_of (drop c.loop-i.i fs))
    (names_of (drop (c.loop-i.i + 1) fs))
    (ap names_of (drop-get fs c.loop-i.i f c.get.ensures.item)) same c.loop-i.invariant

pub loop-i-preserved : goal.loop-i-preserved
loop-i-preserved c =
    let n = c.args.name.now in
    let fs = fields_of c.args.fields.now in
    let f = field_of c.get.result.now in
    let other : same_name f.name n ≡ false =
    ap (λ m. same_name m n) (ap (λ x. x.name) (field_of-out c.get.result.now)
    ∙ sym c.as_str.ensures) ∙ sym c.eq.ensures ∙ c.if-eq.false in
    place_passed n (names_of fs) c.loop-i.i f.name (place_of n (names_of fs))
    (names_of (drop c.loop-i.i fs)) (names_of (drop (c.loop-i.i + 1) fs))
    (ap names_of (drop-get fs c.loop-i.i f c.get.ensures.item)) other c.loop-i.invariant
