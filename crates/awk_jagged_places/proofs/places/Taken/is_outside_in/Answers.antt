use Rattle.std.specs.Prelude.{false}
use Rattle.std.proofs.Common.{◌≡◌, sym, ◌∙◌}
use Rattle.awk_jagged_places.specs.Leaves.{is_outside_at}
use Rattle.awk_jagged_rows.proofs.FlatPlaces.{one_more}
use Rattle.awk_jagged_places.proofs.places.Taken.is_outside_in.Goals as goal

pub loop-k-preserved : goal.loop-k-preserved
loop-k-preserved g c =
    let z : c.is_outside.result
    ≡ is_outside_at c.args.self.now.xs.now c.args.self.now.ws.now c.args.i c.loop-k.k =
    rw (c.span_of-from.ensures.length, c.span_of-by.ensures.start) at c.is_outside.ensures in
    one_more (λ j. is_outside_at c.args.self.now.xs.now c.args.self.now.ws.now c.args.i j ≡ false)
    c.loop-k.k c.loop-k.invariant (sym z ∙ c.if-is_outside.false)
