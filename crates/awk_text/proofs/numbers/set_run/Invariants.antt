use Rattle.std.proofs.Common.{◌≡◌, ◌+◌, ◌-◌, ◌*◌, ◌≤◌, drop}
use Rattle.awk_layout.specs.Layout.{flat}
use Rattle.awk_text.specs.LayoutText.{run_text}
use Rattle.awk_text.proofs.numbers.set_run.Given as goal

-- the numbers from place k on are set, and there is room for those before
abbrev pub invariant-loop-k : goal.invariant-loop-k
invariant-loop-k g l = record {
  ahead : l.j ≤ l.k;
  fits : 21 * (l.k - l.j) ≤ l.start;
  within : l.start ≤ 252;
  text : drop l.start l.room ≡ run_text (flat l.lane) l.first l.k l.stop;
  cost : l.steps ≡ l.fn.steps + (l.stop - l.k);
}
