use Rattle.std.proofs.Common.{◌≡◌, ℕ, List, length, map, ap, ◌∙◌, arith}
use Rattle.std.specs.Prelude.{ℤ, pos}
use Rattle.awk_lanes.specs.Numbers.{int_of}
use Rattle.awk_lanes.proofs.MadeLanes.{made_size}
use Rattle.awk_parts.specs.Parts.{part_at}
use Rattle.awk_bins.specs.Bins.{count_under, count_over}
use Rattle.awk_bins.specs.Tallies.{tallies}
use Rattle.awk_bins.proofs.CountLaws.{counts_more, counts_room, middle_small, over_more, part_row}
use Rattle.awk_bins.proofs.CountLaws.{part_small, tally_small, under_more}
use Rattle.awk_bins.proofs.TallyLaws.{length-tallies}
use Rattle.awk_bins.proofs.bins.row_counts.Goals as goal

pub push-requires-clause-room : goal.push-requires-clause-room
push-requires-clause-room g c =
    let es = c.args.edges.now.all.now in
    let part : ℕ → List ℤ = part_at (map g.N.Number.number c.args.numbers.now) c.args.offsets.now in
    let made = c.loop-i.invariant.under in
    let size = made_size (λ i. pos (count_under es (part i))) c.loop-i.i c.loop-i.under.items
    made.items in
    omega (arith, size, made.room, c.loop-i-test.true)

pub push_tallies-requires-clause-room : goal.push_tallies-requires-clause-room
push_tallies-requires-clause-room g c =
    let es = c.args.edges.now.all.now in
    let f = g.N.Number.number in
    let xs = c.args.numbers.now in
    let o = c.args.offsets.now in
    let i = c.loop-i.i in
    let row = c.tally_row.new.tallies in
    let part : ℕ → List ℤ = part_at (map f xs) o in
    let is : row ≡ tallies es (part i) =
    part_row f xs o es i c.offset_at-start.result c.offset_at-stop.result row c.tally_row.ensures
    c.offset_at-start.ensures c.offset_at-stop.ensures in
    counts_room es c.requires.edges part c.args.n i row c.loop-i.counts is c.loop-i-test.true
    c.loop-i.invariant.counts

pub push_tallies-requires-clause-small : goal.push_tallies-requires-clause-small
push_tallies-requires-clause-small g c =
    let es = c.args.edges.now.all.now in
    let f = g.N.Number.number in
    let xs = c.args.numbers.now in
    let o = c.args.offsets.now in
    let i = c.loop-i.i in
    let row = c.tally_row.new.tallies in
    let part : ℕ → List ℤ = part_at (map f xs) o in
    let is : row ≡ tallies es (part i) =
    part_row f xs o es i c.offset_at-start.result c.offset_at-stop.result row c.tally_row.ensures
    c.offset_at-start.ensures c.offset_at-stop.ensures in
    let few = part_small (map f xs) o c.args.n i c.requires.parts in
    middle_small es c.requires.edges (part i) row is few

pub number-requires-in-loop-i : goal.number-requires-in-loop-i
number-requires-in-loop-i g c =
    let es = c.args.edges.now.all.now in
    let f = g.N.Number.number in
    let xs = c.args.numbers.now in
    let o = c.args.offsets.now in
    let i = c.loop-i.i in
    let row = c.tally_row.new.tallies in
    let part : ℕ → List ℤ = part_at (map f xs) o in
    let is : row ≡ tallies es (part i) =
    part_row f xs o es i c.offset_at-start.result c.offset_at-stop.result row c.tally_row.ensures
    c.offset_at-start.ensures c.offset_at-stop.ensures in
    let few = part_small (map f xs) o c.args.n i c.requires.parts in
    tally_small es (part i) row (length es) is few (omega arith)

pub push-requires-in-loop-i-clause-room : goal.push-requires-in-loop-i-clause-room
push-requires-in-loop-i-clause-room g c =
    let es = c.args.edges.now.all.now in
    let part : ℕ → List ℤ = part_at (map g.N.Number.number c.args.numbers.now) c.args.offsets.now in
    let made = c.loop-i.invariant.over in
    let size = made_size (λ i. pos (count_over es (part i))) c.loop-i.i c.loop-i.over.items
    made.items in
    omega (arith, size, made.room, c.loop-i-test.true)

pub loop-i-preserved : goal.loop-i-preserved
loop-i-preserved g c =
    let es = c.args.edges.now.all.now in
    let f = g.N.Number.number in
    let xs = c.args.numbers.now in
    let o = c.args.offsets.now in
    let i = c.loop-i.i in
    let row = c.tally_row.new.tallies in
    let part : ℕ → List ℤ = part_at (map f xs) o in
    let is : row ≡ tallies es (part i) =
    part_row f xs o es i c.offset_at-start.result c.offset_at-stop.result row c.tally_row.ensures
    c.offset_at-start.ensures c.offset_at-stop.ensures in
    record {
      size = ap length is ∙ length-tallies es (part i);
      counts = counts_more es c.requires.edges part c.args.n i row c.loop-i.counts
          c.push_tallies.new.maker is c.push_tallies.ensures.kind c.push_tallies.ensures.room
          c.push_tallies.ensures.items c.loop-i.invariant.counts;
      under = under_more es c.requires.edges part c.args.n i row (int_of c.number.result)
          c.loop-i.under c.push.new.self is c.push.ensures c.number.ensures.number
          c.loop-i.invariant.under;
      over = over_more es c.requires.edges part c.args.n i row (int_of c.number-in-loop-i.result)
          c.loop-i.over c.push-in-loop-i.new.self is c.push-in-loop-i.ensures
          c.number-in-loop-i.ensures.number c.loop-i.invariant.over;
    }
