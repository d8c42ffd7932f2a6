use Rattle.std.proofs.Common.{◌≡◌, map, ap, ◌∙◌, sym, subst}
use Rattle.std.specs.Prelude.{pos, IfOk}
use Rattle.awk_numbers.specs.Folds.{lane_numbers}
use Rattle.awk_numbers.proofs.PartLaws.{element-other}
use Rattle.std.proofs.lemmas.List.{map-id}
use Rattle.awk_parts.specs.Parts.{part_at}
use Rattle.awk_bins.specs.Bins.{AreBinned}
use Rattle.awk_bins.proofs.bins.read_counts.Goals as goal

pub returns-in_ok-nats : goal.returns-in_ok-nats
returns-in_ok-nats g c =
    let x = c.args.lane.now in
    let other = element-other x.kind x.items (λ e. c.requires.kind e) in
    let same : map pos c.deref.result.now ≡ lane_numbers x =
    ap (map pos) c.deref.ensures.value ∙ c.in_ok-nats.ensures.numbers ∙ sym other in
    subst (λ zs. IfOk c.part_counts.result
    (AreBinned c.args.edges.now (part_at zs c.args.offsets.now) c.args.n))
    same c.part_counts.ensures

pub returns-in_ok-numbers : goal.returns-in_ok-numbers
returns-in_ok-numbers g c =
    let x = c.args.lane.now in
    let ns = c.deref-else-eq.result.now in
    let other = element-other x.kind x.items (λ e. c.requires.kind e) in
    let same : map (λ z. z) ns ≡ lane_numbers x =
    map-id ns ∙ c.deref-else-eq.ensures.value ∙ c.in_ok-numbers.ensures.numbers ∙ sym other in
    subst (λ zs. IfOk c.part_counts-else-eq.result
    (AreBinned c.args.edges.now (part_at zs c.args.offsets.now) c.args.n))
    same c.part_counts-else-eq.ensures
