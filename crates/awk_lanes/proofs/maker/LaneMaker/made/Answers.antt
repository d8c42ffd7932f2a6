-- The view has as many numbers as the maker counts.
use Rattle.std.proofs.Common.{length, sym, ap, ◌∙◌}
use Rattle.awk_lanes.specs.Making.{Making}
use Rattle.awk_lanes.proofs.NumberParts.{length-numbers}
use Rattle.awk_lanes.proofs.maker.LaneMaker.made.Goals as goal

pub returns : goal.returns
returns c = sym (length-numbers _ _ _) ∙ ap (λ (v : Making). length v.items) c.self.view_is
