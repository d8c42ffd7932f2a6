use Rattle.std.proofs.Common.{◌≡◌, ℕ, List, map, length, replicate, refl, ap, subst, ◌∙◌, w64}
use Rattle.std.proofs.Common.{to_z, of_z}
use Rattle.std.specs.Prelude.{ℤ, IfOk, IfSome}
use Rattle.std.proofs.lemmas.Int.{to_z-of_z}
use Rattle.std.proofs.lemmas.List.{length-map}
use Rattle.awk_types.specs.declared.primitive.Primitive.TheVariants as prim
use Rattle.awk_lanes.specs.Numbers.{width, number}
use Rattle.awk_lanes.specs.declared.kind.Kind.TheVariants as kind
use Rattle.awk_lane_pairs.specs.Results.{AreCalculated}
use Rattle.awk_lane_pairs.proofs.GroupLaws.{chunks_long, chunks_numbers}
use Rattle.awk_lane_pairs.proofs.wide.wide_beside.Goals as goal

pub wide_rows-requires-clause-first : goal.wide_rows-requires-clause-first
wide_rows-requires-clause-first g c =
    ap (λ (gs : List (List ℕ)). length (map (number kind.I64) gs)) c.new-first.ensures
    ∙ length-map c.as_chunks.result.0.now (number kind.I64)

pub returns : goal.returns
returns g c =
    let op = c.args.op in
    let r = c.wide_rows.result in
    let f : List ℕ → ℤ = number kind.I64 in
    let x = c.as_chunks.result.0.now in
    let first : map f c.new-first.result.groups.now ≡ c.args.a.now.items =
    ap (λ (gs : List (List ℕ)). map f gs) c.new-first.ensures
    ∙ chunks_numbers 8 kind.I64 c.args.a.now c.in_ok-bytes.bytes.now x c.as_chunks.ensures.front
    c.requires refl c.in_ok-bytes.ensures.size c.in_ok-bytes.ensures.numbers in
    let many : length x ≡ length c.args.a.now.items =
    chunks_long 8 c.args.a.now c.in_ok-bytes.bytes.now x c.as_chunks.ensures.front
    (ap width c.requires) c.in_ok-bytes.ensures.size c.in_ok-bytes.ensures.numbers in
    subst (λ n. IfOk r (λ o. IfSome o
    (AreCalculated op prim.I64 c.args.a.now.items (replicate n c.args.y)))) many
    (subst (λ y. IfOk r (λ o. IfSome o
    (AreCalculated op prim.I64 c.args.a.now.items (replicate (length x) y))))
    (to_z-of_z w64 c.args.y c.ranges.y)
    (subst (λ xs. IfOk r (λ o. IfSome o (AreCalculated op prim.I64 xs (replicate (length x)
    (to_z w64 (of_z w64 c.args.y))))))
    first c.wide_rows.ensures))
