use Rattle.std.proofs.Common.{◌≡◌, ap, ap₂, sym, subst, ◌∙◌, map, arith, rules, w64, to_z, of_z}
use Rattle.std.specs.Prelude.{ℤ, pos, negsuc, Ok, FitsSigned}
use Rattle.std.specs.List.{range_with_len}
use Rattle.std.proofs.lemmas.Int.{to_z-of_z}
use Rattle.awk_kernels.specs.Operations.{leaf}
use Rattle.awk_lanes.specs.Making.{Making}
use Rattle.awk_lane_pairs.specs.Results.{leaf_at}
use Rattle.awk_lane_pairs.proofs.WideLaws.{made_long, made_more, made_all}
use Rattle.awk_lane_pairs.proofs.wide.wide_results.Goals as goal

pub push-requires-clause-room : goal.push-requires-clause-room
push-requires-clause-room g c =
    omega (
      arith,
      made_long g.O.Wide.op (g.A.Row.numbers c.args.a.now) (g.B.Row.numbers c.args.b.now)
          c.loop-i.maker.items c.loop-i.i c.loop-i.invariant.items,
      c.loop-i.invariant.room,
      c.loop-i-test.true,
    )

pub loop-i-preserved : goal.loop-i-preserved
loop-i-preserved g c =
    let op = g.O.Wide.op in
    let xs = g.A.Row.numbers c.args.a.now in
    let ys = g.B.Row.numbers c.args.b.now in
    let x = c.at.result in
    let y = c.at-in-loop-i.result in
    let fits_x : FitsSigned w64 x = search rules in
    let fits_y : FitsSigned w64 y = search rules in
    let z = c.in-Some.z in
    let fits_z : FitsSigned w64 z = search rules in
    let made : leaf_at op xs ys c.loop-i.i ≡ Ok (to_z w64 (of_z w64 z)) =
    sym (ap₂ (leaf op (negsuc 9223372036854775807) (pos 9223372036854775807))
    (to_z-of_z w64 x fits_x ∙ c.at.ensures) (to_z-of_z w64 y fits_y ∙ c.at-in-loop-i.ensures))
    ∙ c.in-Some.ensures ∙ ap (λ (z : ℤ). Ok z) (sym (to_z-of_z w64 z fits_z)) in
    record {
      kind = ap (λ (m : Making). m.kind) c.push.ensures ∙ c.loop-i.invariant.kind;
      room = ap (λ (m : Making). m.room) c.push.ensures ∙ c.loop-i.invariant.room;
      items = made_more op xs ys c.loop-i.i (to_z w64 (of_z w64 z)) c.loop-i.maker c.push.new.self
          c.push.ensures made c.loop-i.invariant.items;
    }

pub returns : goal.returns
returns g c =
    let op = g.O.Wide.op in
    let xs = g.A.Row.numbers c.args.a.now in
    let ys = g.B.Row.numbers c.args.b.now in
    let all : c.loop-i.i ≡ c.args.n =
    omega (arith, c.loop-i-test.false, c.loop-i.auto.i-end) in
    made_all op xs ys c.loop-i.maker.items c.args.n c.finish.result c.requires.first
    c.requires.second c.finish.ensures
    (subst (λ m. map (λ (z : ℤ). Ok z) c.loop-i.maker.items
    ≡ map (leaf_at op xs ys) (range_with_len 0 m)) all c.loop-i.invariant.items)
