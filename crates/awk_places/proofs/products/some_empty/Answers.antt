use Rattle.std.proofs.Common.{◌<◌, length, sym, ◌∙◌, arith}
use Rattle.std.proofs.lemmas.List.{length-map}
use Rattle.awk_lanes.specs.Places.{place_at}
use Rattle.awk_places.specs.Products.{lengths_at}
use Rattle.awk_places.proofs.PlaceLists.{none_of_empty}
use Rattle.awk_places.proofs.products.some_empty.Goals as goal

pub returns-then-length_by-eq0-clause-empty : goal.returns-then-length_by-eq0-clause-empty
returns-then-length_by-eq0-clause-empty g c =
    let ms = lengths_at c.args.lengths.now c.args.i in
    let n = length-map c.args.lengths.now (λ s. place_at s c.args.i) in
    let l : c.loop-j.j < length ms =
    omega (arith, c.loop-j-test.true, c.len-j-end.ensures, n) in
    λ h. none_of_empty ms c.loop-j.j l (sym c.length_by.ensures ∙ c.if-length_by-eq0.true)
