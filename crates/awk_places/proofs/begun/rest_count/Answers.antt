use Rattle.std.proofs.Common.{◌-◌, length, ap, sym, ◌∙◌}
use Rattle.awk_places.specs.Places.{rising_places}
use Rattle.awk_places.proofs.Paths.{one_place}
use Rattle.awk_places.proofs.begun.rest_count.Goals as goal

pub returns-then-left-eq1 : goal.returns-then-left-eq1
returns-then-left-eq1 c =
    c.saturating_sub-room.ensures
    ∙ sym (one_place c.args.replacement (c.args.begun.stop - c.args.begun.least))
    ∙ ap (λ n. length (rising_places c.args.replacement n
    (c.args.begun.stop - c.args.begun.least))) (sym c.if-left-eq1.true)
