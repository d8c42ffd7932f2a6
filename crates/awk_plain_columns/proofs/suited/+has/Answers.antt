use Rattle.std.proofs.Common.{◌≡◌, ◌∙◌, ◌+◌, ap, drop, false, sym, true}
use Rattle.std.specs.Prelude.{◌&&◌}
use Rattle.awk_types.proofs.Views.{field_of-out}
use Rattle.awk_types.specs.View.{NamedType, field_of, fields_of, types_of}
use Rattle.awk_plain_columns.proofs.RecordLaws.{columns_next}
use Rattle.awk_plain_columns.specs.Suited as spec
use Rattle.awk_plain_columns.proofs.suited.+has.Goals as goal

pub have_columns-returns-then-not-has_columns : goal.have_columns-returns-then-not-has_columns
have_columns-returns-then-not-has_columns t c =
    let fs = fields_of c.args.fields.now in
    let k = c.loop-k.k in
    let x = c.get.result.now in
    let rest = spec.have_columns (types_of (drop (k + 1) fs)) in
    let no : spec.has_columns (field_of x).typ ≡ false =
    ap (λ (f : NamedType). spec.has_columns f.typ) (field_of-out x)
    ∙ sym c.if-not-has_columns.ensures in
    sym (c.loop-k.invariant ∙ columns_next fs k (field_of x) c.get.ensures.item
    ∙ ap (λ b. b && rest) no)

pub have_columns-loop-k-preserved : goal.have_columns-loop-k-preserved
have_columns-loop-k-preserved t c =
    let fs = fields_of c.args.fields.now in
    let k = c.loop-k.k in
    let x = c.get.result.now in
    let rest = spec.have_columns (types_of (drop (k + 1) fs)) in
    let yes : spec.has_columns (field_of x).typ ≡ true =
    ap (λ (f : NamedType). spec.has_columns f.typ) (field_of-out x)
    ∙ sym c.if-not-has_columns.ensures in
    c.loop-k.invariant ∙ columns_next fs k (field_of x) c.get.ensures.item
    ∙ ap (λ b. b && rest) yes
