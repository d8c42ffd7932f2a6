use Rattle.std.proofs.Common.{ap, sym, ◌∙◌}
use Rattle.awk_lanes.specs.Making.{Making}
use Rattle.awk_lanes.proofs.MadeLanes.{made_size}
use Rattle.awk_parts.proofs.totals.fitting_numbers.Goals as goal

pub finish-requires : goal.finish-requires
finish-requires g c =
    let made = c.if-push_totals.ensures.made in
    let new = c.push_totals.new.maker in
    made_size (g.S.Totals.at c.args.source.now) c.args.n new.items made.items
    ∙ sym (made.room ∙ ap (λ (m : Making). m.room) {y = _} c.in_ok-maker.ensures.begun)
