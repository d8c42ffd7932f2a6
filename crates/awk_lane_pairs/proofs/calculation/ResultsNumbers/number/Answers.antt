use Rattle.std.proofs.Common.{sym, subst, ◌∙◌, rules, w64, to_z, of_z}
use Rattle.std.specs.Prelude.{FitsSigned}
use Rattle.std.proofs.lemmas.Int.{to_z-of_z}
use Rattle.awk_types.specs.Has.{Holds}
use Rattle.awk_layout.specs.Kinds.{kind_of}
use Rattle.awk_lane_pairs.specs.Results.{exact_at}
use Rattle.awk_lane_pairs.proofs.calculation.ResultsNumbers.number.Goals as goal

pub num-requires : goal.num-requires
num-requires g c =
    let p = g.N.Narrow.prim in
    let z = c.result_at.result in
    let fits : FitsSigned w64 z = search rules in
    let r = c.args.self.now in
    let exact = exact_at g.O.Exact.op (kind_of p) r.a.now r.b.now c.args.i in
    subst (Holds p) {x = z} {y = to_z w64 (of_z w64 z)}
    (sym {a = to_z w64 (of_z w64 z)} {b = z} (to_z-of_z w64 z fits))
    (subst (Holds p) {x = exact} {y = z} (sym {a = z} {b = exact} c.result_at.ensures.value)
    (c.requires.ready.2 c.args.i c.requires.within).held)

pub returns-clause-number : goal.returns-clause-number
returns-clause-number g c =
    let z = c.result_at.result in
    let fits : FitsSigned w64 z = search rules in
    c.num.ensures.number ∙ to_z-of_z w64 z fits ∙ c.result_at.ensures.value
