use Rattle.std.proofs.Common.{◌/◌, ◌∙◌, ap, ap₂, sym, map}
use Rattle.std.specs.Prelude.{min}
use Rattle.std.proofs.lemmas.List.{length-map}
use Rattle.awk_bins.proofs.EvenLaws.{divided}
use Rattle.awk_bins.proofs.edges.divide_edges.Goals as goal

pub returns : goal.returns
returns g c =
    let f = g.N.Number.number in
    let near = c.args.edges.now.near.now in
    c.lesser.ensures
    ∙ ap₂ min (ap (λ d. d / c.args.even.now.step) c.above.ensures) (sym (length-map near f))
    ∙ divided g.N.Number.least g.N.Number.greatest (f c.args.even.now.base)
    c.args.even.now.step c.args.edges.now.all.now (map f near) (f c.args.z.now) c.requires.near
    c.requires.even c.show_range.ensures.least c.show_range.ensures.greatest
