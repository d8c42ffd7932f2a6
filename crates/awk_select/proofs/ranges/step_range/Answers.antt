use Rattle.std.proofs.Common.{Ok, ap, ap₂, sym, ◌∙◌}
use Rattle.std.specs.Int.{w64}
use Rattle.std.proofs.lemmas.Int.{to_z-of_z}
use Rattle.awk_types.specs.Datum.{arr}
use Rattle.awk_layout.specs.Datum.{datum_of}
use Rattle.awk_layout.specs.Typing.{array_items}
use Rattle.awk_layout.specs.Valid.{len}
use Rattle.awk_layout.proofs.ArrayItems.{length-array_items}
use Rattle.awk_select.specs.Picks.{step_range_of, items_at}
use Rattle.awk_select.specs.Places.{range_places}
use Rattle.awk_select.proofs.ranges.step_range.Goals as goal

pub returns-in_ok-stepped-in-Arr-clause-answer : goal.returns-in_ok-stepped-in-Arr-clause-answer
returns-in_ok-stepped-in-Arr-clause-answer g c =
    ap (λ d. step_range_of c.args.lo c.args.hi c.args.step (datum_of d)) c.in-Arr.is
    ∙ ap₂ (λ t vs. Ok (arr t vs)) (sym c.in_ok-stepped-in-Arr.ensures.typ)
    (ap (λ n. items_at (array_items c.in-Arr.x) (range_places n c.args.lo c.args.hi c.args.step))
    (length-array_items c.in-Arr.x)
    ∙ ap (λ s. items_at (array_items c.in-Arr.x)
    (range_places (len c.in-Arr.x) c.args.lo c.args.hi s))
    (sym (to_z-of_z w64 c.args.step c.ranges.step))
    ∙ sym c.in_ok-stepped-in-Arr.ensures.items)
