use Rattle.std.proofs.Common.{sym, subst, length}
use Rattle.awk_layout.specs.Layout.{bit_masked}
use Rattle.awk_layout.specs.Valid.{IsValid}
use Rattle.awk_nullable.specs.Masks.{bit_place}
use Rattle.awk_nullable_lists.specs.Nullable.{AreLeaves}
use Rattle.awk_nullable_lists.proofs.NullableLaws.{bit_leaves}
use Rattle.awk_nullable_lists.proofs.opening.by_bits.Goals as goal

pub returns-in-Some : goal.returns-in-Some
returns-in-Some c =
    let m = c.args.mask.now in
    let v = c.args.valid_when in
    let lane = c.in-Some.lane in
    subst (λ b. AreLeaves (bit_masked m v c.args.content.now) (bit_place b v) (length b) lane)
    (sym c.copy-bits.ensures)
    (subst (λ y. AreLeaves (bit_masked m v y) (bit_place m v) (length m) lane)
    (sym c.in-Some.ensures)
    (bit_leaves lane m v
    (subst (λ y. IsValid (bit_masked m v y)) c.in-Some.ensures c.requires)))
