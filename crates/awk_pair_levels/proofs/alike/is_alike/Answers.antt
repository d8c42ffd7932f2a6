use Rattle.std.proofs.Common.{◌≡◌, true, refl, subst, sym}
use Rattle.awk_lanes.specs.Places.{size_of}
use Rattle.awk_columns.specs.Lists.{length_of}
use Rattle.awk_pair_levels.specs.Shares.{is_alike}
use Rattle.awk_pair_levels.proofs.EvenLaws.{all_equal}
use Rattle.awk_pair_levels.proofs.alike.is_alike.Goals as goal

pub returns-then-i-lead : goal.returns-then-i-lead
returns-then-i-lead g c =
    subst (λ p. true ≡ is_alike (length_of c.args.lead.now.lists.now)
    (size_of c.args.lead.now.lists.now.starts) p) (sym (c.requires.lead c.if-i-lead.true))
    (all_equal c.args.lead.now.lists.now c.args.lead.now.lists.now (λ i h. refl))
