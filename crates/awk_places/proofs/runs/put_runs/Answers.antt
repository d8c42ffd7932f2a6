use Rattle.std.specs.Prelude.{◌-◌}
use Rattle.awk_places.specs.Products.{each_times}
use Rattle.awk_places.proofs.RunLaws.{times_put}
use Rattle.awk_places.proofs.runs.put_runs.Goals as goal

pub loop-i-preserved : goal.loop-i-preserved
loop-i-preserved c =
    times_put c.loop-i.i (each_times c.args.after c.args.first (c.args.end - c.args.first))
    c.args.made.now c.loop-i.made c.put_span.new.made c.loop-i.invariant
    c.in_ok-put_span.ensures
