use Rattle.awk_merge_sides.specs.Sides.{sides_of}
use Rattle.awk_merge_rows.proofs.WholeLaws.{found_sides, found_counted, whole_present}
use Rattle.awk_merge_rows.proofs.WholeLaws.{indexed_present}
use Rattle.awk_merge_rows.proofs.whole.present_level.Goals as goal

pub returns-in-Some : goal.returns-in-Some
returns-in-Some g c =
    let ss = sides_of c.args.sides.now in
    whole_present ss c.in-Some.present
    (found_counted c.in_ok-present.field-0 c.in-Some.present c.in-Some.is
    c.in_ok-present.ensures.counted)
    (found_sides ss c.in_ok-present.field-0 c.in-Some.present c.in-Some.is
    c.in_ok-present.ensures.whole)

pub returns : goal.returns
returns g c =
    indexed_present (sides_of c.args.sides.now) c.in_ok-index.field-0 c.in_ok-index.ensures
