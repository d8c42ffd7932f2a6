-- The kernel's greatest number is the greatest index.
use Rattle.std.proofs.Common.{ap, ◌∙◌, w64, rules, FitsSigned}
use Rattle.std.proofs.lemmas.Int.{to_z-of_z}
use Rattle.awk_valid.proofs.LengthLaws.{behind_greatest, index_length-greatest}
use Rattle.awk_valid.proofs.lengths.places_length.Goals as goal

pub returns-in-None : goal.returns-in-None
returns-in-None g c = ap behind_greatest c.in-None.ensures ∙ index_length-greatest c.args.index.now

pub returns-in-Some : goal.returns-in-Some
returns-in-Some g c =
    let fits : FitsSigned w64 c.in-Some.most = search rules in
    let same = rw (to_z-of_z w64 c.in-Some.most fits) at c.behind.ensures in
    same ∙ ap behind_greatest c.in-Some.ensures ∙ index_length-greatest c.args.index.now
