use Rattle.std.proofs.Common.{◌≡◌, List, ◌<◌, length, get_or, map, ap, sym, ◌∙◌, arith}
use Rattle.std.specs.Prelude.{ℤ, pos}
use Rattle.std.proofs.lemmas.List.{get_or-map}
use Rattle.awk_bins.proofs.EvenLaws.{steps_apart}
use Rattle.awk_bins.proofs.even.even_edges.Goals as goal

pub returns-then-are_apart : goal.returns-then-are_apart
returns-then-are_apart g c =
    let near = c.args.near.now in
    let f = g.N.Number.number in
    let ks : List ℤ = map f near in
    let some : 0 < length near = omega (arith, c.if-near-lt2.false) in
    let first : get_or ks 0 (pos 0) ≡ f c.index-near-0-2.result =
    get_or-map f near 0 c.index-near-0-2.result (pos 0) some ∙ ap f (sym c.index-near-0-2.is) in
    record {
      some = c.if-step-gt0.true;
      apart = steps_apart (f c.in_ok-base.base) c.above-step.result ks c.if-step-gt0.true
          (first ∙ c.in_ok-base.ensures) (c.are_apart.ensures c.if-are_apart.true);
    }
