use Rattle.std.proofs.Common.{ℕ, None, Some, arith}
use Rattle.awk_types.specs.ItemLimit.{item_limit}
use Rattle.awk_lanes.specs.Counted.{before, AreOffsetsBy}
use Rattle.awk_lanes.specs.Places.{size_of}
use Rattle.awk_lanes.specs.declared.kind.Kind.TheVariants as kinds
use Rattle.awk_lanes.proofs.MadeLanes.{size-lane_of}
use Rattle.std.specs.Prelude.{pos}
use Rattle.awk_nulls.specs.Lanes.{span_length}
use Rattle.awk_nulls.proofs.NoneLaws.{none_given, none_spoilt, none_fine}
use Rattle.awk_nulls.proofs.nulls.none_null.Goals as goal

pub returns-in-None : goal.returns-in-None
returns-in-None g c =
    let m : ℕ → ℕ = span_length c.args.lists.now.starts c.args.lists.now.stops in
    let t : AreOffsetsBy item_limit m (size_of c.args.lists.now.starts) None =
    rw (c.in-None.is, c.len-n.ensures.len) at c.in_ok-offsets_within.ensures in
    none_spoilt c.args.lists.now.class c.args.lists.now.starts
    c.args.lists.now.stops c.args.lists.now.content
    c.content.ensures.lists c.requires.plain t

pub numpy-requires : goal.numpy-requires
numpy-requires g c =
    let m : ℕ → ℕ = span_length c.args.lists.now.starts c.args.lists.now.stops in
    let t : AreOffsetsBy item_limit m (size_of c.args.lists.now.starts) (Some c.in-Some.offsets) =
    rw (c.in-Some.is, c.len-n.ensures.len) at c.in_ok-offsets_within.ensures in
    rw (c.in_ok-nulls-in-Some.ensures, t.0)
    (omega (
      arith,
      size-lane_of kinds.Bool (before m (size_of c.args.lists.now.starts)) (λ j. pos 0),
      t.1,
    ))

pub returns-in_ok-nulls-in-Some : goal.returns-in_ok-nulls-in-Some
returns-in_ok-nulls-in-Some g c =
    let m : ℕ → ℕ = span_length c.args.lists.now.starts c.args.lists.now.stops in
    let t : AreOffsetsBy item_limit m (size_of c.args.lists.now.starts) (Some c.in-Some.offsets) =
    rw (c.in-Some.is, c.len-n.ensures.len) at c.in_ok-offsets_within.ensures in (
      none_fine c.args.lists.now.class c.args.lists.now.starts
          c.args.lists.now.stops c.args.lists.now.content
          c.content.ensures.lists c.requires.plain t.1,
      rw (c.numpy.ensures.node, c.in_ok-nulls-in-Some.ensures, t.0, t.2)
          (none_given c.args.lists.now.class c.args.lists.now.starts c.args.lists.now.stops
          c.args.lists.now.content c.content.ensures.lists c.requires.plain t.1),
    )
