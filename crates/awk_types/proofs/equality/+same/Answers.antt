use Rattle.awk_types.proofs.SameTypes.{tup_same, uni_same, rec_same}
use Rattle.awk_types.proofs.equality.+same.Goals as goal

pub same-returns-in-Rec-Rec : goal.same-returns-in-Rec-Rec
same-returns-in-Rec-Rec t c =
    rec_same _ _ _ _ c.in-Rec-Rec.is-0 c.in-Rec-Rec.is-1 c.same_fields.ensures

pub same-returns-in-Tup-Tup : goal.same-returns-in-Tup-Tup
same-returns-in-Tup-Tup t c =
    tup_same _ _ _ _ c.in-Tup-Tup.is-0 c.in-Tup-Tup.is-1 c.same_typs.ensures

pub same-returns-in-Uni-Uni : goal.same-returns-in-Uni-Uni
same-returns-in-Uni-Uni t c =
    uni_same _ _ _ _ c.in-Uni-Uni.is-0 c.in-Uni-Uni.is-1 c.same_typs-in-Uni-Uni.ensures
