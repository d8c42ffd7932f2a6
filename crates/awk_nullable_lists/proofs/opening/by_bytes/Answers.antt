use Rattle.std.proofs.Common.{◌≡◌, ap, sym, ◌∙◌, subst, length, get_or, []}
use Rattle.awk_lanes.specs.Numbers.{number}
use Rattle.awk_lanes.specs.declared.kind.Kind.TheVariants.{I8, I64}
use Rattle.awk_layout.specs.Layout.{byte_masked}
use Rattle.awk_layout.specs.Valid.{IsValid}
use Rattle.awk_nullable.specs.Masks.{byte_place}
use Rattle.awk_nullable_lists.specs.Nullable.{AreLeaves}
use Rattle.awk_nullable_lists.proofs.NullableLaws.{byte_leaves, mask_groups}
use Rattle.awk_nullable_lists.proofs.opening.by_bytes.Goals as goal

pub narrow_bytes-requires : goal.narrow_bytes-requires
narrow_bytes-requires g c e =
    let clash : I8 ≡ I64 = sym c.requires.1.kind ∙ e in
    cc

pub returns-in-Some : goal.returns-in-Some
returns-in-Some g c =
    let m = c.args.mask.now in
    let v = c.args.valid_when in
    let lane = c.in-Some.lane in
    let gs = c.as_chunks.result.0.now in
    let front = c.as_chunks.ensures.front in
    let valid = subst (λ y. IsValid (byte_masked m v y)) c.in-Some.ensures c.requires in
    let groups = mask_groups m c.narrow_bytes.result.now valid.1.kind c.narrow_bytes.ensures.size
    c.narrow_bytes.ensures.numbers in
    subst (λ y. AreLeaves (byte_masked m v y) (byte_place gs v) (length gs) lane)
    (sym c.in-Some.ensures)
    (byte_leaves lane m v gs valid (ap length front ∙ groups.0)
    (λ i l. ap (λ xs. number I8 (get_or xs i [])) front ∙ groups.1 i l))
