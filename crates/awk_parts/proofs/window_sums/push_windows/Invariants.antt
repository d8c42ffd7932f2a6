use Rattle.std.proofs.Common.{◌≡◌, ◌-◌, ◌≤◌}
use Rattle.awk_layout.specs.Kinds.{kind_of}
use Rattle.awk_numbers.specs.Folds.{whole_numbers}
use Rattle.awk_numbers.specs.declared.folds.Fold.TheVariants as fold
use Rattle.awk_parts.specs.Fits.{AreFirst}
use Rattle.awk_parts.specs.Lanes.{folded_at}
use Rattle.awk_parts.specs.Spans.{span_count}
use Rattle.awk_parts.proofs.window_sums.push_windows.Given as goal

abbrev pub invariant-loop-from : goal.invariant-loop-from
invariant-loop-from g l = record {
  order : l.from ≤ l.count;
  kind : g.M.NumberMaker.kind l.maker ≡ kind_of l.prim;
  made : AreFirst l.prim (folded_at fold.Sum (whole_numbers l.parts.numbers.now) l.parts.spans.now)
      (span_count l.parts.spans.now) l.from (g.M.NumberMaker.making l.maker);
}

abbrev pub decreases-loop-from : goal.decreases-loop-from
decreases-loop-from g l = l.count - l.from
