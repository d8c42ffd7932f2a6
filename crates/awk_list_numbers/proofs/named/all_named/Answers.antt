use Rattle.std.proofs.Common.{◌≡◌, arith, refl, sym, ap, subst, ◌∙◌}
use Rattle.std.specs.Prelude.{None, get_or, pos, length}
use Rattle.std.proofs.lemmas.List.{length-map}
use Rattle.awk_types.specs.Limit.{limit}
use Rattle.awk_lanes.specs.Counted.{before}
use Rattle.awk_lanes.specs.Places.{size_of, place_at}
use Rattle.awk_layout.specs.Layout.{Layout, flat}
use Rattle.awk_layout.specs.Typing.{array_type}
use Rattle.awk_counts.specs.Counted.{first_of, present_at, numbers_at}
use Rattle.awk_counts.proofs.FirstPlaces.{present-few}
use Rattle.awk_list_numbers.specs.ListPlaces.{list_places}
use Rattle.awk_list_numbers.proofs.named.all_named.Goals as goal
use Rattle.awk_list_numbers.proofs.NamedPlaces.{named_at, places-read, count-read, are_places}

pub list_numbers-requires-clause-total : goal.list_numbers-requires-clause-total
list_numbers-requires-clause-total g c =
    let j = g.P.OptionIndex.lane c.args.index.now in
    count-read j (size_of j) c.args.total c.requires.total
    ∙ ap (before (named_at j)) (sym c.size-n.ensures)

pub list_numbers-requires-clause-places : goal.list_numbers-requires-clause-places
list_numbers-requires-clause-places g c i k a b =
    are_places (g.P.OptionIndex.lane c.args.index.now) (size_of c.args.lane.now)
    c.requires.index i k (omega (arith, a, c.size-n.ensures)) b

pub numpy-requires : goal.numpy-requires
numpy-requires g c =
    let j = g.P.OptionIndex.lane c.args.index.now in
    let ks = list_places (named_at j) (λ i k. place_at j i) c.size-n.result in
    let e : ks ≡ first_of (present_at j) c.size-n.result = places-read j c.size-n.result in
    let size : size_of c.in_ok-numbers.numbers ≡ length (first_of (present_at j) c.size-n.result) =
    ap size_of c.in_ok-numbers.ensures
    ∙ length-map ks (λ k. get_or c.args.lane.now.items k (pos 0)) ∙ ap length e in
    omega (arith, size, present-few j c.size-n.result, c.size-n.ensures, c.requires.small)

pub of_node-requires : goal.of_node-requires
of_node-requires g c =
    subst (λ (x : Layout). limit (array_type x) ≡ None) (sym c.numpy.ensures.node) refl

pub returns : goal.returns
returns g c =
    let j = g.P.OptionIndex.lane c.args.index.now in
    c.in_ok-array.ensures ∙ c.numpy.ensures.node
    ∙ ap flat (c.in_ok-numbers.ensures
    ∙ ap (numbers_at c.args.lane.now) (places-read j c.size-n.result
    ∙ ap (first_of (present_at j)) c.size-n.ensures))
