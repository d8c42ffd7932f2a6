use Rattle.std.proofs.Common.{◌≡◌, arith, ap, refl, subst, sym, ◌∙◌}
use Rattle.std.proofs.lemmas.List.{length-map}
use Rattle.std.specs.Prelude.{None, get_or, pos}
use Rattle.awk_types.specs.Limit.{limit}
use Rattle.awk_lanes.specs.Counted.{before}
use Rattle.awk_lanes.specs.Places.{size_of}
use Rattle.awk_layout.specs.Layout.{Layout, flat}
use Rattle.awk_layout.specs.Typing.{array_type}
use Rattle.awk_counts.specs.Counted.{numbers_at}
use Rattle.awk_list_numbers.specs.ListPlaces.{list_places}
use Rattle.awk_list_numbers.proofs.ListNumbers.{length-list_places}
use Rattle.awk_columns.specs.Lists.{length_of}
use Rattle.awk_pair_levels.specs.Shares.{IsNext}
use Rattle.awk_pair_levels.specs.declared.shares.Share.TheVariants.{Items}
use Rattle.awk_pair_levels.proofs.NextLaws.{next_repeats}
use Rattle.awk_pair_levels.proofs.below.repeated_numbers.Goals as goal

pub list_numbers-requires-clause-total : goal.list_numbers-requires-clause-total
list_numbers-requires-clause-total g c =
    c.requires.count ∙ ap (before (length_of c.args.level.now.lead.now)) (sym c.len-n.ensures.len)

pub list_numbers-requires-clause-places : goal.list_numbers-requires-clause-places
list_numbers-requires-clause-places g c i k a b =
    omega (arith, a, c.requires.long, c.len-n.ensures.len)

pub numpy-requires : goal.numpy-requires
numpy-requires g c =
    let m = length_of c.args.level.now.lead.now in
    let ks = list_places m (λ i k. i) c.len-n.result in
    let e : size_of c.in_ok-numbers.numbers ≡ before m c.len-n.result =
    ap size_of c.in_ok-numbers.ensures
    ∙ length-map ks (λ k. get_or c.args.lane.now.items k (pos 0))
    ∙ length-list_places m (λ i k. i) c.len-n.result in
    omega (arith, e, ap (before m) c.len-n.ensures.len, c.requires.count, c.requires.few)

pub of_node-requires : goal.of_node-requires
of_node-requires g c =
    subst (λ (x : Layout). limit (array_type x) ≡ None) (sym c.numpy.ensures.node) refl

pub returns : goal.returns
returns g c =
    let l = c.args.level.now.lead.now in
    let m = length_of l in
    let e = c.in_ok-numbers.ensures
    ∙ ap (λ n. numbers_at c.args.lane.now (list_places m (λ i k. i) n)) c.len-n.ensures.len in
    subst (λ (z : Layout). IsNext m (size_of l.starts) (Items (flat c.args.lane.now)) z)
    (sym (c.in_ok-array.ensures ∙ c.numpy.ensures.node))
    (next_repeats (size_of l.starts) m c.args.lane.now c.in_ok-numbers.numbers e)
