use Rattle.std.proofs.Common.{◌≤◌, ◌∙◌, ap, sym, subst}
use Rattle.std.specs.Prelude.{Ok}
use Rattle.std.proofs.lemmas.List.{length-map}
use Rattle.awk_lanes.specs.Column.{Column}
use Rattle.awk_leaves.specs.Values.{chosen_values}
use Rattle.awk_pointwise.specs.Sides.{leaf_type, lane_values, side_values}
use Rattle.awk_pointwise.proofs.BlockLaws.{past, part_size}
use Rattle.awk_pointwise.proofs.SelectLaws.{selection_size, first_leaves, second_leaves}
use Rattle.awk_pointwise.proofs.SelectLaws.{selection_part, mask_size}
use Rattle.awk_pointwise.proofs.selection.SelectionBlocks.block.Goals as goal

pub cut-mask-requires-clause-within : goal.cut-mask-requires-clause-within
cut-mask-requires-clause-within g c =
    let s = c.args.self.now in
    let h = c.requires.ready in
    let inside = subst (λ n. c.args.hi ≤ n) (length-map (chosen_values (lane_values s.mask.now)
    (side_values s.n s.x.now) (side_values s.n s.y.now)) (λ v. Ok v)
    ∙ selection_size s.prim s.n s.mask.now s.x.now s.y.now h) c.requires.within in
    subst (λ n. c.args.hi ≤ n) (sym h.size) inside

pub see_part-requires-clause-side : goal.see_part-requires-clause-side
see_part-requires-clause-side g c =
    let s = c.args.self.now in
    let h = c.requires.ready in
    let inside = subst (λ n. c.args.hi ≤ n) (length-map (chosen_values (lane_values s.mask.now)
    (side_values s.n s.x.now) (side_values s.n s.y.now)) (λ v. Ok v)
    ∙ selection_size s.prim s.n s.mask.now s.x.now s.y.now h) c.requires.within in
    past s.n s.x.now c.args.hi inside h.first

pub see_part-requires-2-clause-side : goal.see_part-requires-2-clause-side
see_part-requires-2-clause-side g c =
    let s = c.args.self.now in
    let h = c.requires.ready in
    let inside = subst (λ n. c.args.hi ≤ n) (length-map (chosen_values (lane_values s.mask.now)
    (side_values s.n s.x.now) (side_values s.n s.y.now)) (λ v. Ok v)
    ∙ selection_size s.prim s.n s.mask.now s.x.now s.y.now h) c.requires.within in
    past s.n s.y.now c.args.hi inside h.second

pub selected-requires-clause-a : goal.selected-requires-clause-a
selected-requires-clause-a g c =
    let s = c.args.self.now in
    let h = c.requires.ready in
    let inside = subst (λ n. c.args.hi ≤ n) (length-map (chosen_values (lane_values s.mask.now)
    (side_values s.n s.x.now) (side_values s.n s.y.now)) (λ v. Ok v)
    ∙ selection_size s.prim s.n s.mask.now s.x.now s.y.now h) c.requires.within in
    first_leaves s.prim s.n s.mask.now s.x.now s.y.now h c.args.lo c.args.hi c.requires.order
    inside (leaf_type s.x.now) c.in_ok-a.a c.in_ok-a.ensures

pub selected-requires-clause-b : goal.selected-requires-clause-b
selected-requires-clause-b g c =
    let s = c.args.self.now in
    let h = c.requires.ready in
    let inside = subst (λ n. c.args.hi ≤ n) (length-map (chosen_values (lane_values s.mask.now)
    (side_values s.n s.x.now) (side_values s.n s.y.now)) (λ v. Ok v)
    ∙ selection_size s.prim s.n s.mask.now s.x.now s.y.now h) c.requires.within in
    second_leaves s.prim s.n s.mask.now s.x.now s.y.now h c.args.lo c.args.hi c.requires.order
    inside (leaf_type s.y.now) c.in_ok-b.b c.in_ok-b.ensures

pub selected-requires-clause-first : goal.selected-requires-clause-first
selected-requires-clause-first g c =
    let s = c.args.self.now in
    let h = c.requires.ready in
    let inside = subst (λ n. c.args.hi ≤ n) (length-map (chosen_values (lane_values s.mask.now)
    (side_values s.n s.x.now) (side_values s.n s.y.now)) (λ v. Ok v)
    ∙ selection_size s.prim s.n s.mask.now s.x.now s.y.now h) c.requires.within in
    part_size s.n s.x.now c.args.lo c.args.hi (leaf_type s.x.now) c.in_ok-a.a c.requires.order
    inside h.first c.in_ok-a.ensures
    ∙ sym (mask_size s.mask.now c.args.lo c.args.hi c.cut-mask.result
    c.byte_numbers-bytes.result.now c.requires.order
    (subst (λ n. c.args.hi ≤ n) (sym h.size) inside) c.cut-mask.ensures.value
    c.byte_numbers-bytes.ensures.numbers)

pub selected-requires-clause-second : goal.selected-requires-clause-second
selected-requires-clause-second g c =
    let s = c.args.self.now in
    let h = c.requires.ready in
    let inside = subst (λ n. c.args.hi ≤ n) (length-map (chosen_values (lane_values s.mask.now)
    (side_values s.n s.x.now) (side_values s.n s.y.now)) (λ v. Ok v)
    ∙ selection_size s.prim s.n s.mask.now s.x.now s.y.now h) c.requires.within in
    part_size s.n s.y.now c.args.lo c.args.hi (leaf_type s.y.now) c.in_ok-b.b c.requires.order
    inside h.second c.in_ok-b.ensures
    ∙ sym (mask_size s.mask.now c.args.lo c.args.hi c.cut-mask.result
    c.byte_numbers-bytes.result.now c.requires.order
    (subst (λ n. c.args.hi ≤ n) (sym h.size) inside) c.cut-mask.ensures.value
    c.byte_numbers-bytes.ensures.numbers)

pub returns-clause-answer : goal.returns-clause-answer
returns-clause-answer g c =
    let s = c.args.self.now in
    let h = c.requires.ready in
    let inside = subst (λ n. c.args.hi ≤ n) (length-map (chosen_values (lane_values s.mask.now)
    (side_values s.n s.x.now) (side_values s.n s.y.now)) (λ v. Ok v)
    ∙ selection_size s.prim s.n s.mask.now s.x.now s.y.now h) c.requires.within in
    selection_part s.prim s.n s.mask.now s.x.now s.y.now h c.args.lo c.args.hi c.requires.order
    inside (leaf_type s.x.now) (leaf_type s.y.now) c.cut-mask.result c.byte_numbers-bytes.result.now
    c.in_ok-a.a c.in_ok-b.b c.in_ok-lane.lane c.cut-mask.ensures.value
    c.byte_numbers-bytes.ensures.numbers c.in_ok-a.ensures c.in_ok-b.ensures c.in_ok-lane.ensures

pub returns-clause-kind : goal.returns-clause-kind
returns-clause-kind g c = ap (λ (r : Column). r.kind) c.in_ok-lane.ensures
