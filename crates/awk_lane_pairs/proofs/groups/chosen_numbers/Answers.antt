use Rattle.std.proofs.Common.{◌≡◌, ◌/◌, length, ap, ◌∙◌, arith}
use Rattle.awk_lanes.specs.Numbers.{width, numbers}
use Rattle.awk_lanes.proofs.MadeLanes.{lane_is}
use Rattle.awk_lane_pairs.proofs.GroupLaws.{chosen_all, chunks_long, numbers-chosen}
use Rattle.awk_lane_pairs.proofs.groups.chosen_numbers.Goals as goal

pub chosen_groups-requires : goal.chosen_groups-requires
chosen_groups-requires g c =
    let first = chunks_long g.row.W c.args.first.now c.in_ok-ones.ones.now c.as_chunks.result.0.now
    c.as_chunks.ensures.front c.requires.width c.in_ok-ones.ensures.size
    c.in_ok-ones.ensures.numbers
    ∙ c.requires.first in
    let second = chunks_long g.row.W c.args.second.now c.in_ok-others.others.now
    c.as_chunks-2.result.0.now c.as_chunks-2.ensures.front
    (ap width c.requires.kinds ∙ c.requires.width) c.in_ok-others.ensures.size
    c.in_ok-others.ensures.numbers
    ∙ c.requires.second in
    (omega (arith, c.requires.small), (first, second))

pub returns : goal.returns
returns g c =
    let a = c.as_chunks.result.0.now in
    let b = c.as_chunks-2.result.0.now in
    let ms = c.args.mask.now in
    let first : length a ≡ length ms = chunks_long g.row.W c.args.first.now c.in_ok-ones.ones.now a
    c.as_chunks.ensures.front c.requires.width c.in_ok-ones.ensures.size
    c.in_ok-ones.ensures.numbers
    ∙ c.requires.first in
    let second : length b ≡ length ms =
    chunks_long g.row.W c.args.second.now c.in_ok-others.others.now b c.as_chunks-2.ensures.front
    (ap width c.requires.kinds ∙ c.requires.width) c.in_ok-others.ensures.size
    c.in_ok-others.ensures.numbers
    ∙ c.requires.second in
    let items = numbers-chosen c.args.first.now c.args.second.now ms
    c.in_ok-ones.ones.now c.in_ok-others.others.now c.requires.kinds c.in_ok-ones.ensures.size
    c.in_ok-ones.ensures.numbers c.in_ok-others.ensures.size c.in_ok-others.ensures.numbers g.row.W
    c.in_ok-groups.groups.now c.as_flattened.result.now c.requires.width c.requires.some
    (rw (← c.as_chunks.ensures.front, ← c.as_chunks-2.ensures.front)
    (c.in_ok-groups.ensures ∙ chosen_all ms a b first second))
    c.as_flattened.ensures.value c.as_flattened.ensures.len in
    lane_is _ _ (c.new.ensures.kind ∙ c.kind.ensures)
    (◌∙◌ {b = numbers c.kind.result (length c.as_flattened.result.now / width c.kind.result)
    c.as_flattened.result.now} c.new.ensures.items
    (ap (λ k. numbers k (length c.as_flattened.result.now / width k) c.as_flattened.result.now)
    c.kind.ensures ∙ items))
