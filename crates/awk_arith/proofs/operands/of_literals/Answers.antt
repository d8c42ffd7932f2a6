use Rattle.std.specs.Int.{w128}
use Rattle.std.proofs.lemmas.Int.{to_z-of_z}
use Rattle.std.proofs.Common.{◌≡◌, ◌∙◌, ap, sym, arith}
use Rattle.std.specs.Prelude.{Ok, Err}
use Rattle.awk_types.specs.Datum.{one}
use Rattle.awk_types.specs.Faults.{fault_told}
use Rattle.awk_types.proofs.RefusalLaws.{Gives-Err}
use Rattle.awk_layout.specs.Datum.{datum_of, first_item}
use Rattle.awk_layout.specs.Filler.{literal}
use Rattle.awk_layout.specs.Layout.{flat}
use Rattle.awk_layout.specs.Typing.{array_type}
use Rattle.awk_layout.specs.Valid.{len}
use Rattle.awk_arith.specs.Binary.{judged_binary}
use Rattle.awk_arith.proofs.LiteralLaws.{literals_told, literals_size, literals_made}
use Rattle.awk_arith.proofs.operands.of_literals.Goals as goal

pub returns-in_err-lane-clause-answer : goal.returns-in_err-lane-clause-answer
returns-in_err-lane-clause-answer g c =
    let e = c.in_err-lane.field-0.0 in
    let failed : c.from_residual.result ≡ Err e = grind arith in
    Gives-Err datum_of fault_told c.from_residual.result e
    (judged_binary c.args.op (literal c.args.z) (literal c.args.w)) failed
    (literals_told c.args.op c.args.z c.args.w (fault_told e)
    (simp (to_z-of_z w128 c.args.z c.ranges.z, to_z-of_z w128 c.args.w c.ranges.w)
    at c.in_err-lane.ensures.answer))

pub numpy-requires : goal.numpy-requires
numpy-requires g c =
    let one_leaf : len (flat c.in_ok-lane.lane) ≡ 1 =
    literals_size c.args.op c.args.z c.args.w c.in_ok-lane.lane
    (simp (to_z-of_z w128 c.args.z c.ranges.z, to_z-of_z w128 c.args.w c.ranges.w)
    at c.in_ok-lane.ensures.answer) in
    omega (arith, one_leaf)

pub returns-clause-answer : goal.returns-clause-answer
returns-clause-answer g c =
    literals_made c.args.op c.args.z c.args.w c.in_ok-lane.lane
    (simp (to_z-of_z w128 c.args.z c.ranges.z, to_z-of_z w128 c.args.w c.ranges.w)
    at c.in_ok-lane.ensures.answer)
    (simp (to_z-of_z w128 c.args.z c.ranges.z, to_z-of_z w128 c.args.w c.ranges.w)
    at c.in_ok-lane.ensures.kind)
    ∙ ap (λ y. Ok (one (array_type y) (first_item y)))
    (sym (c.in_ok-only.ensures ∙ c.numpy.ensures.node))

pub returns-clause-datum : goal.returns-clause-datum
returns-clause-datum g c =
    ap len (c.in_ok-only.ensures ∙ c.numpy.ensures.node)
    ∙ literals_size c.args.op c.args.z c.args.w c.in_ok-lane.lane
    (simp (to_z-of_z w128 c.args.z c.ranges.z, to_z-of_z w128 c.args.w c.ranges.w)
    at c.in_ok-lane.ensures.answer)
