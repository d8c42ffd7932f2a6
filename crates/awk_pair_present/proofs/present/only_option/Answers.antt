use Rattle.std.proofs.Common.{◌∙◌, sym}
use Rattle.awk_pair_present.proofs.OneOption.{only_one}
use Rattle.awk_pair_present.proofs.present.only_option.Goals as goal

pub returns-then-is_optional-clause-only : goal.returns-then-is_optional-clause-only
returns-then-is_optional-clause-only c =
    only_one c.args.xs.now c.get-x.result.now (sym c.len.ensures ∙ c.if-len-ne1.false)
    c.get-x.ensures
