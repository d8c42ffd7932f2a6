use Rattle.std.specs.Prelude.{Some, None, false, option_map}
use Rattle.std.proofs.Common.{◌≡◌, ◌+◌, arith, subst, true≢false}
use Rattle.awk_base.proofs.Results.{none_left}
use Rattle.awk_lanes.specs.Numbers.{int_of}
use Rattle.awk_lanes.specs.Places.{place_at}
use Rattle.awk_select.specs.Cells.{place_number}
use Rattle.awk_select.specs.Kept.{Puts}
use Rattle.awk_jagged_rows.specs.Levels.{row_at}
use Rattle.awk_columns.specs.Lists.{length_of}
use Rattle.awk_jagged_rows.proofs.FlatPlaces.{one_more}
use Rattle.awk_jagged_places.specs.Leaves.{take_at, is_outside_at}
use Rattle.awk_jagged_places.specs.Put.{IsGiven}
use Rattle.awk_jagged_places.proofs.PutLaws.{first_numbers, puts-next, next-room}
use Rattle.awk_jagged_places.proofs.places.TakenNumberLists.put_list.Goals as goal

pub push-requires-clause-room : goal.push-requires-clause-room
push-requires-clause-room g c =
    let xs = c.args.self.now.xs.now in
    let ws = c.args.self.now.ws.now in
    next-room (take_at xs ws c.args.i) (length_of ws c.args.i) c.loop-k.k
    c.args.maker.now c.loop-k.maker c.requires.room
    (omega (arith, c.loop-k-test.true, c.span_of-by.ensures.length)) c.loop-k.invariant.put

pub returns-in_default : goal.returns-in_default
returns-in_default g c =
    let xs = c.args.self.now.xs.now in
    let ws = c.args.self.now.ws.now in
    let none = none_left _ (λ o e. c.in_default.not-Some o e) in
    let outside : IsGiven (length_of xs c.args.i)
    (λ o. place_number (option_map (λ p. place_at xs.starts c.args.i + p) o))
    (row_at ws c.args.i c.loop-k.k) None =
    rw (
      c.span_of-from.ensures.start,
      c.span_of-from.ensures.length,
      c.span_of-by.ensures.start,
      none,
    ) at c.number.ensures.number in
    record {
      tested = (
        c.loop-k.k,
        omega (arith, c.loop-k-test.true, c.span_of-by.ensures.length),
        outside,
      );
      put = λ e. absurd (true≢false e);
    }

pub loop-k-preserved : goal.loop-k-preserved
loop-k-preserved g c =
    let xs = c.args.self.now.xs.now in
    let ws = c.args.self.now.ws.now in
    let given : IsGiven (length_of xs c.args.i)
    (λ o. place_number (option_map (λ p. place_at xs.starts c.args.i + p) o))
    (row_at ws c.args.i c.loop-k.k) (Some c.in-Some.x) =
    rw (
      c.span_of-from.ensures.start,
      c.span_of-from.ensures.length,
      c.span_of-by.ensures.start,
      c.in-Some.is,
    ) at c.number.ensures.number in
    record {
      put = puts-next (take_at xs ws c.args.i) c.loop-k.k (int_of c.in-Some.x)
          c.args.maker.now c.loop-k.maker c.push.new.self given.1 c.loop-k.invariant.put
          c.push.ensures;
      tested = one_more (λ j. is_outside_at xs ws c.args.i j ≡ false) c.loop-k.k
          c.loop-k.invariant.tested given.0;
    }

pub returns : goal.returns
returns g c =
    let xs = c.args.self.now.xs.now in
    let ws = c.args.self.now.ws.now in
    let all : c.loop-k.k ≡ length_of ws c.args.i =
    omega (arith, c.loop-k-test.false, c.loop-k.auto, c.span_of-by.ensures.length) in
    record {
      tested = λ j l. c.loop-k.invariant.tested j (omega (arith, l, all));
      put = λ e. subst
          (λ n. Puts (first_numbers (take_at xs ws c.args.i) n) c.args.maker.now
          c.loop-k.maker) all c.loop-k.invariant.put;
    }
