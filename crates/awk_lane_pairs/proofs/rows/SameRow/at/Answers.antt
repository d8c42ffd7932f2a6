use Rattle.std.proofs.Common.{sym, ◌∙◌, arith, rules, w64}
use Rattle.std.specs.Prelude.{pos, FitsSigned}
use Rattle.std.proofs.lemmas.Int.{to_z-of_z}
use Rattle.std.proofs.lemmas.Simd.{get_or-replicate, length-replicate}
use Rattle.awk_lane_pairs.proofs.rows.SameRow.at.Goals as goal

pub returns : goal.returns
returns c =
    let r = c.args.self.now in
    let fits : FitsSigned w64 r.number = search rules in
    to_z-of_z w64 r.number fits
    ∙ sym (get_or-replicate r.n c.args._i r.number (pos 0)
    (omega (arith, c.requires, length-replicate r.n r.number)))
