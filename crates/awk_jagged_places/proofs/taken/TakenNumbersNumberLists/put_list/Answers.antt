use Rattle.std.specs.Prelude.{Some, None, false, option_map}
use Rattle.std.proofs.Common.{◌≡◌, ◌+◌, arith, ap, subst, true≢false}
use Rattle.awk_base.proofs.Results.{none_left}
use Rattle.awk_lanes.specs.Numbers.{int_of}
use Rattle.awk_lanes.specs.Places.{size_of, place_at}
use Rattle.awk_layout.specs.Valid.{len}
use Rattle.awk_select.specs.Kept.{Puts}
use Rattle.awk_jagged_rows.specs.Levels.{row_at}
use Rattle.awk_columns.specs.Lists.{length_of}
use Rattle.awk_jagged_rows.proofs.FlatPlaces.{one_more}
use Rattle.awk_jagged_places.specs.Leaves.{number_or, number_taken, is_outside_at}
use Rattle.awk_jagged_places.specs.Put.{IsGiven}
use Rattle.awk_jagged_places.proofs.PutLaws.{first_numbers, puts-next, next-room}
use Rattle.awk_jagged_places.proofs.taken.TakenNumbersNumberLists.put_list.Goals as goal

pub number-requires-clause-list : goal.number-requires-clause-list
number-requires-clause-list g c =
    let size : len c.args.self.now.picks.now.xs.now.content ≡ size_of c.args.self.now.numbers.now =
    ap len c.requires.ready.1 in
    λ l. omega (arith, size, c.span_of-from.ensures.within l)

pub push-requires-clause-room : goal.push-requires-clause-room
push-requires-clause-room g c =
    let xs = c.args.self.now.picks.now.xs.now in
    let ws = c.args.self.now.picks.now.ws.now in
    let nums = c.args.self.now.numbers.now in
    next-room (number_taken xs ws nums c.args.i) (length_of ws c.args.i) c.loop-k.k
    c.args.maker.now c.loop-k.maker c.requires.room
    (omega (arith, c.loop-k-test.true, c.span_of-by.ensures.length)) c.loop-k.invariant.put

pub returns-in_default : goal.returns-in_default
returns-in_default g c =
    let xs = c.args.self.now.picks.now.xs.now in
    let ws = c.args.self.now.picks.now.ws.now in
    let nums = c.args.self.now.numbers.now in
    let none = none_left _ (λ o e. c.in_default.not-Some o e) in
    let outside : IsGiven (length_of xs c.args.i)
    (λ o. number_or nums (option_map (λ p. place_at xs.starts c.args.i + p) o))
    (row_at ws c.args.i c.loop-k.k) None =
    rw (
      c.span_of-from.ensures.start,
      c.span_of-from.ensures.length,
      c.span_of-by.ensures.start,
      none,
    ) at c.number.ensures.number in
    record {
      tested = (
        c.loop-k.k,
        omega (arith, c.loop-k-test.true, c.span_of-by.ensures.length),
        outside,
      );
      put = λ e. absurd (true≢false e);
    }

pub loop-k-preserved : goal.loop-k-preserved
loop-k-preserved g c =
    let xs = c.args.self.now.picks.now.xs.now in
    let ws = c.args.self.now.picks.now.ws.now in
    let nums = c.args.self.now.numbers.now in
    let given : IsGiven (length_of xs c.args.i)
    (λ o. number_or nums (option_map (λ p. place_at xs.starts c.args.i + p) o))
    (row_at ws c.args.i c.loop-k.k) (Some c.in-Some.x) =
    rw (
      c.span_of-from.ensures.start,
      c.span_of-from.ensures.length,
      c.span_of-by.ensures.start,
      c.in-Some.is,
    ) at c.number.ensures.number in
    record {
      put = puts-next (number_taken xs ws nums c.args.i) c.loop-k.k (int_of c.in-Some.x)
          c.args.maker.now c.loop-k.maker c.push.new.self given.1 c.loop-k.invariant.put
          c.push.ensures;
      tested = one_more (λ j. is_outside_at xs ws c.args.i j ≡ false) c.loop-k.k
          c.loop-k.invariant.tested given.0;
    }

pub returns : goal.returns
returns g c =
    let xs = c.args.self.now.picks.now.xs.now in
    let ws = c.args.self.now.picks.now.ws.now in
    let nums = c.args.self.now.numbers.now in
    let all : c.loop-k.k ≡ length_of ws c.args.i =
    omega (arith, c.loop-k-test.false, c.loop-k.auto, c.span_of-by.ensures.length) in
    record {
      tested = λ j l. c.loop-k.invariant.tested j (omega (arith, l, all));
      put = λ e. subst
          (λ n. Puts (first_numbers (number_taken xs ws nums c.args.i) n) c.args.maker.now
          c.loop-k.maker) all c.loop-k.invariant.put;
    }
