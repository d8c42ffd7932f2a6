use Rattle.std.proofs.Common.{sym, subst}
use Rattle.awk_lanes.specs.Places.{size_of, option_place_at}
use Rattle.awk_lanes.proofs.PlaceLaws.{option-index}
use Rattle.awk_layout.specs.Layout.{optional}
use Rattle.awk_layout.specs.Valid.{IsValid}
use Rattle.awk_nullable_lists.specs.Nullable.{AreLeaves}
use Rattle.awk_nullable_lists.proofs.NullableLaws.{indexed_leaves}
use Rattle.awk_nullable_lists.proofs.opening.by_index.Goals as goal

pub index_of-requires : goal.index_of-requires
index_of-requires g c = option-index c.args.index.now.kind c.requires.1.kind

pub returns-in_ok-index-in-Some : goal.returns-in_ok-index-in-Some
returns-in_ok-index-in-Some g c =
    let j = c.args.index.now in
    let lane = c.in-Some.lane in
    subst (λ i. AreLeaves (optional j c.args.content.now) (option_place_at i) (size_of i) lane)
    (sym c.in_ok-index-in-Some.ensures)
    (subst (λ y. AreLeaves (optional j y) (option_place_at j) (size_of j) lane)
    (sym c.in-Some.ensures)
    (indexed_leaves lane j (subst (λ y. IsValid (optional j y)) c.in-Some.ensures c.requires)))

pub returns-then-eq : goal.returns-then-eq
returns-then-eq g c =
    let j = c.args.index.now in
    let lane = c.in-Some.lane in
    subst (λ i. AreLeaves (optional j c.args.content.now) (option_place_at i) (size_of i) lane)
    (sym c.narrow_index-index.ensures)
    (subst (λ y. AreLeaves (optional j y) (option_place_at j) (size_of j) lane)
    (sym c.in-Some.ensures)
    (indexed_leaves lane j (subst (λ y. IsValid (optional j y)) c.in-Some.ensures c.requires)))
