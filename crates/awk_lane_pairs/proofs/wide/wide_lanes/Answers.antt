use Rattle.std.proofs.Common.{◌≡◌, ℕ, List, map, length, refl, ap, sym, subst, ◌∙◌}
use Rattle.std.specs.Prelude.{ℤ, IfOk, IfSome}
use Rattle.std.proofs.lemmas.List.{length-map}
use Rattle.awk_types.specs.declared.primitive.Primitive.TheVariants as prim
use Rattle.awk_lanes.specs.Numbers.{width, number}
use Rattle.awk_lanes.specs.declared.kind.Kind.TheVariants as kind
use Rattle.awk_lane_pairs.specs.Results.{AreCalculated}
use Rattle.awk_lane_pairs.proofs.GroupLaws.{chunks_long, chunks_numbers}
use Rattle.awk_lane_pairs.proofs.wide.wide_lanes.Goals as goal

pub wide_rows-requires-clause-first : goal.wide_rows-requires-clause-first
wide_rows-requires-clause-first g c =
    ap (λ (gs : List (List ℕ)). length (map (number kind.I64) gs)) c.new-first.ensures
    ∙ length-map c.as_chunks.result.0.now (number kind.I64)

pub wide_rows-requires-clause-second : goal.wide_rows-requires-clause-second
wide_rows-requires-clause-second g c =
    ap (λ (gs : List (List ℕ)). length (map (number kind.I64) gs)) c.new-second.ensures
    ∙ length-map c.as_chunks-2.result.0.now (number kind.I64)
    ∙ chunks_long 8 c.args.b.now c.in_ok-others.others.now c.as_chunks-2.result.0.now
    c.as_chunks-2.ensures.front (ap width c.requires.second) c.in_ok-others.ensures.size
    c.in_ok-others.ensures.numbers
    ∙ c.requires.size
    ∙ sym (chunks_long 8 c.args.a.now c.in_ok-ones.ones.now c.as_chunks.result.0.now
    c.as_chunks.ensures.front (ap width c.requires.first) c.in_ok-ones.ensures.size
    c.in_ok-ones.ensures.numbers)

pub returns : goal.returns
returns g c =
    let op = c.args.op in
    let r = c.wide_rows.result in
    let f : List ℕ → ℤ = number kind.I64 in
    let first : map f c.new-first.result.groups.now ≡ c.args.a.now.items =
    ap (λ (gs : List (List ℕ)). map f gs) c.new-first.ensures
    ∙ chunks_numbers 8 kind.I64 c.args.a.now c.in_ok-ones.ones.now c.as_chunks.result.0.now
    c.as_chunks.ensures.front c.requires.first refl c.in_ok-ones.ensures.size
    c.in_ok-ones.ensures.numbers in
    let second : map f c.new-second.result.groups.now ≡ c.args.b.now.items =
    ap (λ (gs : List (List ℕ)). map f gs) c.new-second.ensures
    ∙ chunks_numbers 8 kind.I64 c.args.b.now c.in_ok-others.others.now c.as_chunks-2.result.0.now
    c.as_chunks-2.ensures.front c.requires.second refl c.in_ok-others.ensures.size
    c.in_ok-others.ensures.numbers in
    subst (λ xs. IfOk r (λ o. IfSome o (AreCalculated op prim.I64 xs c.args.b.now.items))) first
    (subst (λ ys. IfOk r (λ o. IfSome o
    (AreCalculated op prim.I64 (map f c.new-first.result.groups.now) ys))) second
    c.wide_rows.ensures)
