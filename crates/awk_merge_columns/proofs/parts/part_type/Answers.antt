use Rattle.awk_merge_columns.proofs.PartTypeLaws.{within-Rec, within-Tup, within-Uni}
use Rattle.awk_merge_columns.proofs.parts.part_type.Goals as goal

pub get-requires : goal.get-requires
get-requires c = within-Rec c.args.t.now c.in-Rec.fields c.args.j c.in-Rec.is c.requires.within

pub get-requires-in-Tup : goal.get-requires-in-Tup
get-requires-in-Tup c =
    within-Tup c.args.t.now c.in-Tup.parts c.args.j c.in-Tup.is c.requires.within

pub get-requires-in-Uni : goal.get-requires-in-Uni
get-requires-in-Uni c =
    within-Uni c.args.t.now c.in-Uni.alternatives c.args.j c.in-Uni.is c.requires.within
