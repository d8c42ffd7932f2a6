use Rattle.std.proofs.Common.{length, ap, ◌∙◌}
use Rattle.awk_counts.specs.Counted.{present_place}
use Rattle.awk_counts.proofs.presence.one_if_place.Goals as goal

pub returns : goal.returns
returns c = c.one_if.ensures ∙ ap (λ o. length (present_place o)) c.option_place.ensures
