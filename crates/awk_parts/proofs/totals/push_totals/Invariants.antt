use Rattle.std.proofs.Common.{◌≡◌}
use Rattle.awk_layout.specs.Kinds.{kind_of}
use Rattle.awk_parts.specs.Fits.{AreFirst}
use Rattle.awk_parts.proofs.totals.push_totals.Given as goal

abbrev pub invariant-loop-i : goal.invariant-loop-i
invariant-loop-i g l = record {
  kind : g.M.NumberMaker.kind l.maker ≡ kind_of l.prim;
  made : AreFirst l.prim (g.S.Totals.at l.source) (g.M.NumberMaker.making l.fn.maker).room l.i
      (g.M.NumberMaker.making l.maker);
}
