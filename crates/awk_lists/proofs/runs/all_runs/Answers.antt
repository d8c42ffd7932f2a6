use Rattle.std.proofs.Common.{◌≡◌, ◌++◌, length, map, arith, ap, ap₂, sym, ◌∙◌}
use Rattle.std.specs.Prelude.{ℕ, pos}
use Rattle.std.proofs.lemmas.List.{length-map, map-append}
use Rattle.awk_counts.specs.Counted.{first_of}
use Rattle.awk_counts.proofs.FirstPlaces.{first_of-room, first_of-more}
use Rattle.awk_lists.specs.Runs.{runs_between, runs_at}
use Rattle.awk_lists.proofs.runs.all_runs.Goals as goal

pub put_runs-requires-clause-room : goal.put_runs-requires-clause-room
put_runs-requires-clause-room g c =
    let here = ap₂ (λ a b. length (runs_between c.args.items.now a b))
    c.place_in-start.ensures.value c.place_in-stop.ensures.value in
    omega (
      arith,
      here,
      ap length c.loop-i.invariant.items,
      length-map (first_of (runs_at c.args.items.now c.args.offsets.now) c.loop-i.i)
          (λ (k : ℕ). pos k),
      first_of-room (runs_at c.args.items.now c.args.offsets.now) c.loop-i.i c.args.n
          (omega (arith, c.loop-i-test.true)),
      c.requires.count,
      c.loop-i.invariant.room,
    )

pub loop-i-preserved : goal.loop-i-preserved
loop-i-preserved g c =
    let here : runs_between c.args.items.now c.place_in-start.result c.place_in-stop.result
    ≡ runs_at c.args.items.now c.args.offsets.now c.loop-i.i =
    ap₂ (runs_between c.args.items.now) c.place_in-start.ensures.value
    c.place_in-stop.ensures.value in
    record {
      kind = c.put_runs.ensures.kind;
      room = c.put_runs.ensures.room ∙ c.loop-i.invariant.room;
      items = c.put_runs.ensures.items
          ∙ ap₂ (λ xs ns. xs ++ map (λ (k : ℕ). pos k) ns) c.loop-i.invariant.items here
          ∙ sym (map-append (λ (k : ℕ). pos k)
          (first_of (runs_at c.args.items.now c.args.offsets.now) c.loop-i.i)
          (runs_at c.args.items.now c.args.offsets.now c.loop-i.i))
          ∙ ap (map (λ (k : ℕ). pos k))
          (sym (first_of-more (runs_at c.args.items.now c.args.offsets.now) c.loop-i.i));
    }
