use Rattle.std.specs.Prelude.{◌≡◌, false}
use Rattle.std.proofs.Common.{arith, ap, ◌∙◌, subst}
use Rattle.std.specs.List.{range_with_len, flat_map}
use Rattle.awk_lanes.specs.declared.kind.Kind.TheVariants.{I64}
use Rattle.awk_jagged_rows.proofs.FlatPlaces.{one_more}
use Rattle.awk_jagged_places.proofs.PutLaws.{made-room, made-more}
use Rattle.awk_jagged_places.proofs.put.put_lane.Goals as goal

pub put_list-requires-clause-room : goal.put_list-requires-clause-room
put_list-requires-clause-room g c =
    made-room (g.S.NumberLists.numbers c.args.source.now) c.args.n c.args.total c.loop-i.i
    c.loop-i.maker c.requires.total (omega (arith, c.loop-i-test.true)) c.loop-i.invariant.made

pub returns-then-put_list : goal.returns-then-put_list
returns-then-put_list g c = (
  c.loop-i.i,
  omega (arith, c.loop-i-test.true),
  subst (g.S.NumberLists.IsTested c.args.source.now c.loop-i.i) c.if-put_list.true
      c.put_list.ensures.tested,
)

pub loop-i-preserved : goal.loop-i-preserved
loop-i-preserved g c = record {
  made = made-more (g.S.NumberLists.numbers c.args.source.now) c.args.total c.loop-i.i
      c.loop-i.maker c.put_list.new.maker c.loop-i.invariant.made
      (c.put_list.ensures.put c.if-put_list.false);
  tested = one_more (λ j. g.S.NumberLists.IsTested c.args.source.now j false) c.loop-i.i
      c.loop-i.invariant.tested
      (subst (g.S.NumberLists.IsTested c.args.source.now c.loop-i.i) c.if-put_list.false
      c.put_list.ensures.tested);
}

pub returns : goal.returns
returns g c =
    let all : c.loop-i.i ≡ c.args.n = omega (arith, c.loop-i-test.false, c.loop-i.auto) in (
      λ j l. c.loop-i.invariant.tested j (omega (arith, l, all)),
      c.finish.ensures
          ∙ ap (λ zs. record { kind = I64; items = zs }) c.loop-i.invariant.made.items
          ∙ ap (λ n. record {
            kind = I64;
            items = flat_map (g.S.NumberLists.numbers c.args.source.now) (range_with_len 0 n);
          }) all,
    )
