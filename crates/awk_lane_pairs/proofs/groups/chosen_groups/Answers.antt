use Rattle.std.proofs.Common.{◌<◌, ◌==◌, ℕ, List, [], cond, get_or, length, refl, ap₂, ◌∙◌, arith}
use Rattle.std.proofs.lemmas.List.{get_or_read}
use Rattle.awk_lane_pairs.specs.Groups.{chosen_item}
use Rattle.awk_lane_pairs.proofs.GroupLaws.{item_pushed}
use Rattle.awk_lane_pairs.proofs.groups.chosen_groups.Goals as goal

pub loop-i-preserved : goal.loop-i-preserved
loop-i-preserved g c =
    let i = c.loop-i.i in
    let ms = c.args.mask.now in
    let xs = c.args.first.now in
    let ys = c.args.second.now in
    let in_first : i < length xs = omega (arith, c.loop-i-test.true, c.requires.first) in
    let in_second : i < length ys = omega (arith, c.loop-i-test.true, c.requires.second) in
    let group = c.group_by.ensures
    ∙ ap₂ (λ y x. cond (get_or ms i 0 == 0) y x)
    (get_or_read ys i c.index-second-i.result in_second c.index-second-i.is [])
    (get_or_read xs i c.index-first-i.result in_first c.index-first-i.is []) in
    record {
      end = refl;
      count = omega (arith, c.push_reserved.ensures.len, c.loop-i.invariant.count);
      room = c.push_reserved.ensures.capacity ∙ c.loop-i.invariant.room;
      items = item_pushed {A = List ℕ} (chosen_item ms xs ys []) i c.group_by.result
          c.loop-i.groups.items _ c.push_reserved.ensures.items group c.loop-i.invariant.items;
    }
