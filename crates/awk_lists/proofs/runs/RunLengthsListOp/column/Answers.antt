use Rattle.std.proofs.Common.{◌+◌, ◌<◌, ◌^◌, arith, ap, ◌∙◌}
use Rattle.std.specs.Prelude.{ℕ, pos}
use Rattle.std.proofs.lemmas.Int.{ints}
use Rattle.std.proofs.lemmas.List.{length-map}
use Rattle.awk_lanes.specs.Numbers.{nat_of}
use Rattle.awk_lanes.specs.Places.{size_of, place_at}
use Rattle.awk_lanes.specs.declared.kind.Kind.TheVariants.{I64}
use Rattle.awk_counts.specs.Counted.{first_of}
use Rattle.awk_lanes.proofs.MadeLanes.{at-lane_of}
use Rattle.awk_columns.specs.Joined.{IsJoined}
use Rattle.awk_columns.specs.declared.lists.Joined.TheVariants.{Lists}
use Rattle.awk_lists.specs.Runs.{runs_at, runs_before}
use Rattle.awk_lists.proofs.RunLists.{lists_rise, few_runs, runs_given, runs_spoilt, runs_fine}
use Rattle.awk_lists.proofs.runs.RunLengthsListOp.column.Goals as goal

pub run_offsets-requires-clause-lists : goal.run_offsets-requires-clause-lists
run_offsets-requires-clause-lists g c =
    let j : IsJoined c.args.lists.now.starts c.args.lists.now.stops c.args.lists.now.content
    (Lists c.in-Lists.offsets c.in-Lists.content) =
    rw c.in-Lists.is at c.in_ok-joined.ensures in
    rw c.len-n.ensures.len (lists_rise c.args.lists.now.starts c.args.lists.now.stops
    c.args.lists.now.content
    c.in-Lists.offsets c.in-Lists.content
    c.in_ok-items-in-Lists.items c.args.lists.now.class c.content.ensures.lists j.1
    c.in_ok-items-in-Lists.ensures)

pub run_offsets-requires-clause-few : goal.run_offsets-requires-clause-few
run_offsets-requires-clause-few g c =
    let j : IsJoined c.args.lists.now.starts c.args.lists.now.stops c.args.lists.now.content
    (Lists c.in-Lists.offsets c.in-Lists.content) =
    rw c.in-Lists.is at c.in_ok-joined.ensures in
    let few = few_runs c.args.lists.now.starts c.args.lists.now.stops c.args.lists.now.content
    c.in-Lists.offsets c.in-Lists.content
    c.in_ok-items-in-Lists.items c.args.lists.now.class c.content.ensures.lists j.1
    c.in_ok-items-in-Lists.ensures in
    let small : runs_before c.in_ok-items-in-Lists.items c.in-Lists.offsets
    (size_of c.args.lists.now.starts) < 2 ^ 63 =
    omega (arith, few, c.in_ok-items-in-Lists.ensures.fits) in
    rw c.len-n.ensures.len small

pub place_in-count-requires-clause-positive : goal.place_in-count-requires-clause-positive
place_in-count-requires-clause-positive g c =
    rw (
      c.in_ok-ends-in-Lists.ensures,
      at-lane_of I64 (c.len-n.result + 1)
          (λ k. pos (runs_before c.in_ok-items-in-Lists.items c.in-Lists.offsets k))
          c.len-n.result (omega arith),
    ) (omega (arith, ints))

pub all_runs-requires-clause-lists : goal.all_runs-requires-clause-lists
all_runs-requires-clause-lists g c =
    let j : IsJoined c.args.lists.now.starts c.args.lists.now.stops c.args.lists.now.content
    (Lists c.in-Lists.offsets c.in-Lists.content) =
    rw c.in-Lists.is at c.in_ok-joined.ensures in
    rw c.len-n.ensures.len (lists_rise c.args.lists.now.starts c.args.lists.now.stops
    c.args.lists.now.content
    c.in-Lists.offsets c.in-Lists.content
    c.in_ok-items-in-Lists.items c.args.lists.now.class c.content.ensures.lists j.1
    c.in_ok-items-in-Lists.ensures)

pub all_runs-requires-clause-count : goal.all_runs-requires-clause-count
all_runs-requires-clause-count g c =
    c.place_in-count.ensures.value
    ∙ ap (λ w. place_at w c.len-n.result) c.in_ok-ends-in-Lists.ensures
    ∙ ap nat_of (at-lane_of I64 (c.len-n.result + 1)
    (λ k. pos (runs_before c.in_ok-items-in-Lists.items c.in-Lists.offsets k))
    c.len-n.result (omega arith))

pub numpy-requires : goal.numpy-requires
numpy-requires g c =
    let j : IsJoined c.args.lists.now.starts c.args.lists.now.stops c.args.lists.now.content
    (Lists c.in-Lists.offsets c.in-Lists.content) =
    rw c.in-Lists.is at c.in_ok-joined.ensures in
    let few = few_runs c.args.lists.now.starts c.args.lists.now.stops c.args.lists.now.content
    c.in-Lists.offsets c.in-Lists.content
    c.in_ok-items-in-Lists.items c.args.lists.now.class c.content.ensures.lists j.1
    c.in_ok-items-in-Lists.ensures in
    let small : runs_before c.in_ok-items-in-Lists.items c.in-Lists.offsets
    (size_of c.args.lists.now.starts) < 2 ^ 63 =
    omega (arith, few, c.in_ok-items-in-Lists.ensures.fits) in
    rw (c.in_ok-runs-in-Lists.ensures, c.len-n.ensures.len) (omega (
      arith,
      small,
      length-map (first_of (runs_at c.in_ok-items-in-Lists.items c.in-Lists.offsets)
          (size_of c.args.lists.now.starts)) (λ (k : ℕ). pos k),
    ))

pub returns-in-TooMany : goal.returns-in-TooMany
returns-in-TooMany g c =
    runs_spoilt c.args.lists.now.starts c.args.lists.now.stops c.args.lists.now.content
    (rw c.in-TooMany.is at c.in_ok-joined.ensures)

pub returns-in_ok-runs-in-Lists : goal.returns-in_ok-runs-in-Lists
returns-in_ok-runs-in-Lists g c =
    let j : IsJoined c.args.lists.now.starts c.args.lists.now.stops c.args.lists.now.content
    (Lists c.in-Lists.offsets c.in-Lists.content) =
    rw c.in-Lists.is at c.in_ok-joined.ensures in (
      runs_fine c.args.lists.now.starts c.args.lists.now.stops c.args.lists.now.content j.0,
      rw (
        c.numpy.ensures.node,
        c.in_ok-runs-in-Lists.ensures,
        c.in_ok-ends-in-Lists.ensures,
        c.len-n.ensures.len,
      ) (runs_given c.args.lists.now.starts c.args.lists.now.stops c.args.lists.now.content
          c.in-Lists.offsets c.in-Lists.content c.in_ok-items-in-Lists.items c.args.lists.now.class
          c.content.ensures.lists j.1 c.in_ok-items-in-Lists.ensures
          c.in_ok-items-in-Lists.ensures.fits),
    )
