-- The contents of a record and of a union are listed in the form.
use Rattle.std.proofs.Common.{arith, ap, ◌∙◌, length}
use Rattle.std.specs.List.{slice_get}
use Rattle.awk_valid.proofs.FormLaws.{contents-Row, contents-Union}
use Rattle.awk_valid.proofs.walk.content_at.Goals as goal

pub get-requires : goal.get-requires
get-requires c =
    omega (
      arith,
      ap length (contents-Row c.args.form.now _ c.in-Row.contents c.in-Row.is),
      c.requires.within,
    )

pub returns-in-Row-clause-item : goal.returns-in-Row-clause-item
returns-in-Row-clause-item c =
    ap (λ gs. slice_get gs c.args.place)
    (contents-Row c.args.form.now _ c.in-Row.contents c.in-Row.is) ∙ c.get.ensures.item

pub get-requires-in-Union : goal.get-requires-in-Union
get-requires-in-Union c =
    omega (
      arith,
      ap length (contents-Union c.args.form.now _ c.in-Union.contents c.in-Union.is),
      c.requires.within,
    )

pub returns-in-Union-clause-item : goal.returns-in-Union-clause-item
returns-in-Union-clause-item c =
    ap (λ gs. slice_get gs c.args.place)
    (contents-Union c.args.form.now _ c.in-Union.contents c.in-Union.is)
    ∙ c.get-in-Union.ensures.item
