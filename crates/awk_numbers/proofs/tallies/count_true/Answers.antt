use Rattle.std.proofs.Common.{◌∙◌}
use Rattle.awk_numbers.proofs.TallyLaws.{truths_counted}
use Rattle.awk_numbers.proofs.tallies.count_true.Goals as goal

pub returns : goal.returns
returns g c = c.count_true.ensures ∙ truths_counted c.args.bytes.now
