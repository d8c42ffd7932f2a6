use Rattle.std.proofs.Common.{◌≡◌, ◌∙◌, ap, sym, subst, length, arith}
use Rattle.std.specs.Prelude.{pos}
use Rattle.awk_lanes.specs.Counted.{items_lane}
use Rattle.awk_lanes.specs.declared.kind.Kind.TheVariants.{I64}
use Rattle.awk_lanes.specs.Places.{size_of, IsIndex}
use Rattle.awk_layout.specs.Typing.{array_items}
use Rattle.awk_layout.proofs.ArrayItems.{length-array_items}
use Rattle.awk_put_field.specs.There.{there_length}
use Rattle.awk_put_field.proofs.ThereLaws.{all_taken, some_taken, there_places}
use Rattle.awk_put_field.proofs.ends.items_there.Goals as goal

pub returns-then-n-len-clause-items : goal.returns-then-n-len-clause-items
returns-then-n-len-clause-items g c vs e =
    let ws = array_items c.args.column.now in
    let long : length ws ≡ size_of c.args.index.now =
    length-array_items c.args.column.now ∙ c.requires.long in
    let all : c.args.n ≡ size_of c.args.index.now =
    omega (arith, c.if-n-len.true, c.len-2.ensures.len) in
    ap array_items c.in_ok-all.ensures
    ∙ all_taken c.args.index.now c.args.n vs ws e long c.requires.count all

pub gather-requires-clause-places : goal.gather-requires-clause-places
gather-requires-clause-places g c =
    subst (IsIndex c.in_ok-places.places) (c.len-3.ensures.len ∙ sym c.requires.long)
    (there_places (there_length c.args.index.now) c.len-3.result c.in_ok-places.places
    c.in_ok-places.ensures)

pub returns-clause-items : goal.returns-clause-items
returns-clause-items g c vs e =
    let j = c.args.index.now in
    let ws = array_items c.args.column.now in
    let long : length ws ≡ size_of j = length-array_items c.args.column.now ∙ c.requires.long in
    c.in_ok-items.ensures.gathered.items
    ∙ some_taken j c.in_ok-places.places vs ws e long (c.in_ok-places.ensures
    ∙ ap (items_lane I64 (there_length j) (λ i k. pos i)) c.len-3.ensures.len)
