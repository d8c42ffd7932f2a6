use Rattle.std.proofs.Common.{ap₂, arith}
use Rattle.awk_places.proofs.SlotLaws.{ordered-places}
use Rattle.awk_places.proofs.begun.begun_at.Goals as goal

pub returns-clause-begun : goal.returns-clause-begun
returns-clause-begun g c =
    ap₂ (λ x y. record { least = x; stop = y }) c.place_of-least.ensures.value
    c.place_of-stop.ensures.value

pub returns-clause-fits : goal.returns-clause-fits
returns-clause-fits g c = (
  omega (
    arith,
    ordered-places c.args.firsts.now c.args.ends.now c.requires.places c.args.i
        c.requires.within,
    c.place_of-least.ensures.value,
    c.place_of-stop.ensures.value,
  ),
  c.place_of-stop.ensures.fits,
)
