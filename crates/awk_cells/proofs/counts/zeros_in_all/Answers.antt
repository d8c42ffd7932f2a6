use Rattle.std.proofs.Common.{◌≡◌, ◌≤◌, ◌*◌, ◌/◌, length, map, take, drop, ap, sym, ◌∙◌, arith}
use Rattle.std.specs.Prelude.{cond}
use Rattle.std.specs.List.{count_by, flat_map}
use Rattle.std.proofs.lemmas.List.{take-map, drop-map, length-take-le}
use Rattle.std.proofs.lemmas.List.Sums.{sum_by-take-drop}
use Rattle.awk_lanes.specs.Numbers.{is_nonzero}
use Rattle.awk_cells.proofs.BlockLaws.{joined_chunks}
use Rattle.awk_cells.proofs.counts.zeros_in_all.Goals as goal

pub returns : goal.returns
returns g c =
    let f = g.C.Cell.number in
    let gs = c.args.groups.now in
    let n = length gs / 8 * 8 in
    let blocks = flat_map (λ b. b) c.as_chunks.result.0.now in
    let joined : blocks ≡ take n gs =
    ap (flat_map (λ b. b)) c.as_chunks.ensures.front ∙ joined_chunks 8 (length gs / 8) gs in
    let front : count_by is_nonzero (map f blocks) ≡ count_by is_nonzero (take n (map f gs)) =
    ap (count_by is_nonzero) (ap (map f) joined ∙ sym (take-map f n gs)) in
    let back : count_by is_nonzero (map f c.as_chunks.result.1.now)
    ≡ count_by is_nonzero (drop n (map f gs)) =
    ap (count_by is_nonzero) (ap (map f) c.as_chunks.ensures.back ∙ sym (drop-map f n gs)) in
    let within : n ≤ length gs = omega arith in
    let long : length blocks ≡ n = ap length joined ∙ length-take-le n gs within in
    let split = sum_by-take-drop (λ z. cond (is_nonzero z) 1 0) (map f gs) n in
    omega (
      arith,
      c.zeros_in_blocks.ensures,
      c.zeros_in-2.ensures,
      c.as_chunks.ensures.back_len,
      front,
      back,
      long,
      split,
    )

pub overflow_add-result : goal.overflow_add-result
overflow_add-result g c =
    let gs = c.args.groups.now in
    let n = length gs / 8 * 8 in
    let blocks = flat_map (λ b. b) c.as_chunks.result.0.now in
    let joined : blocks ≡ take n gs =
    ap (flat_map (λ b. b)) c.as_chunks.ensures.front ∙ joined_chunks 8 (length gs / 8) gs in
    let within : n ≤ length gs = omega arith in
    let long : length blocks ≡ n = ap length joined ∙ length-take-le n gs within in
    omega (
      arith,
      c.requires.few,
      c.zeros_in_blocks.ensures,
      c.zeros_in-2.ensures,
      c.as_chunks.ensures.back_len,
      long,
    )
