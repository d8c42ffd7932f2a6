use Rattle.std.proofs.Common.{◌≡◌, ◌+◌, length, arith, ap, ap₂, sym, ◌∙◌}
use Rattle.std.specs.Prelude.{pos}
use Rattle.awk_lanes.specs.Numbers.{int_of}
use Rattle.awk_lanes.specs.declared.kind.Kind.TheVariants.{I64}
use Rattle.awk_counts.proofs.FirstPlaces.{length-first_of, first_of-mono}
use Rattle.awk_lanes.proofs.MadeLanes.{so_far_pushed, made_size}
use Rattle.awk_lists.specs.Runs.{runs_between, runs_at, runs_before}
use Rattle.awk_lists.proofs.runs.run_offsets.Goals as goal

pub overflow_add-end : goal.overflow_add-end
overflow_add-end g c =
    let here : length (runs_at c.args.items.now c.args.offsets.now c.loop-i.i)
    ≡ c.count_runs-end.result =
    sym (c.count_runs-end.ensures ∙ ap₂ (λ a b. length (runs_between c.args.items.now a b))
    c.place_in-start.ensures.value c.place_in-stop.ensures.value) in
    omega (
      arith,
      c.loop-i.invariant.end,
      here,
      length-first_of (runs_at c.args.items.now c.args.offsets.now) c.loop-i.i,
      first_of-mono (runs_at c.args.items.now c.args.offsets.now) (c.loop-i.i + 1) c.args.n
          (omega (arith, c.loop-i-test.true)),
      c.requires.few,
    )

pub number-requires-in-loop-i : goal.number-requires-in-loop-i
number-requires-in-loop-i g c =
    let here : length (runs_at c.args.items.now c.args.offsets.now c.loop-i.i)
    ≡ c.count_runs-end.result =
    sym (c.count_runs-end.ensures ∙ ap₂ (λ a b. length (runs_between c.args.items.now a b))
    c.place_in-start.ensures.value c.place_in-stop.ensures.value) in
    omega (
      arith,
      c.loop-i.invariant.end,
      here,
      length-first_of (runs_at c.args.items.now c.args.offsets.now) c.loop-i.i,
      first_of-mono (runs_at c.args.items.now c.args.offsets.now) (c.loop-i.i + 1) c.args.n
          (omega (arith, c.loop-i-test.true)),
      c.requires.few,
    )

pub push-requires-in-loop-i-clause-room : goal.push-requires-in-loop-i-clause-room
push-requires-in-loop-i-clause-room g c =
    omega (
      arith,
      made_size (λ j. pos (runs_before c.args.items.now c.args.offsets.now j))
          (c.loop-i.i + 1) c.loop-i.maker.items c.loop-i.invariant.made.items,
      c.loop-i.invariant.made.room,
      c.loop-i-test.true,
    )

pub loop-i-preserved : goal.loop-i-preserved
loop-i-preserved g c =
    let here : length (runs_at c.args.items.now c.args.offsets.now c.loop-i.i)
    ≡ c.count_runs-end.result =
    sym (c.count_runs-end.ensures ∙ ap₂ (λ a b. length (runs_between c.args.items.now a b))
    c.place_in-start.ensures.value c.place_in-stop.ensures.value) in
    let end : c.loop-i.end + c.count_runs-end.result
    ≡ runs_before c.args.items.now c.args.offsets.now (c.loop-i.i + 1) =
    omega (
      arith,
      c.loop-i.invariant.end,
      here,
      length-first_of (runs_at c.args.items.now c.args.offsets.now) c.loop-i.i,
    ) in
    record {
      end = end;
      made = so_far_pushed I64 (c.args.n + 1)
          (λ j. pos (runs_before c.args.items.now c.args.offsets.now j)) (c.loop-i.i + 1)
          (int_of c.number-in-loop-i.result) c.loop-i.maker c.push-in-loop-i.new.self
          c.push-in-loop-i.ensures (c.number-in-loop-i.ensures.number ∙ ap pos end)
          c.loop-i.invariant.made;
    }
