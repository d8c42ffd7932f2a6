use Rattle.std.proofs.Common.{◌≡◌, refl, sym, subst, arith, length, take}
use Rattle.awk_merge_operands.specs.Operands.{IndexesAll}
use Rattle.awk_base.proofs.Lists.{take-get}
use Rattle.awk_base.proofs.Every.{all-get}
use Rattle.awk_cartesian.specs.Sources.{rows_in, IsListed, AreRows}
use Rattle.awk_cartesian.proofs.RowLaws.{no_rows, more_rows, all_of_no_more}
use Rattle.awk_cartesian.proofs.rows.opened_rows.Goals as goal

pub loop-j-init : goal.loop-j-init
loop-j-init g c = no_rows c.args.axis c.args.n _ c.new.ensures refl

pub opened-requires : goal.opened-requires
opened-requires g c = record {
  lists = all-get (IsListed c.args.axis) c.args.xs.now c.loop-j.j c.get.result.now
      c.get.ensures.item c.requires.lists;
}

pub more_rows-requires-clause-rows : goal.more_rows-requires-clause-rows
more_rows-requires-clause-rows g c = c.loop-j.invariant.index

pub more_rows-requires-clause-index : goal.more_rows-requires-clause-index
more_rows-requires-clause-index g c =
    subst (IndexesAll c.in_ok-source.source.index)
    (all-get (λ d. length (rows_in c.args.axis d) ≡ c.args.n) c.args.xs.now c.loop-j.j
    c.get.result.now c.get.ensures.item c.requires.long)
    c.in_ok-source.ensures.index

pub loop-j-preserved : goal.loop-j-preserved
loop-j-preserved g c =
    subst (λ ds. AreRows c.args.axis c.args.n ds c.in_ok-rows.rows)
    (sym (take-get c.args.xs.now c.loop-j.j c.get.result.now c.get.ensures.item))
    (more_rows c.args.axis c.args.n (take c.loop-j.j c.args.xs.now) c.get.result.now
    c.loop-j.rows c.in_ok-rows.rows c.in_ok-source.source c.loop-j.invariant
    c.in_ok-source.ensures
    (all-get (λ d. length (rows_in c.args.axis d) ≡ c.args.n) c.args.xs.now c.loop-j.j
    c.get.result.now c.get.ensures.item c.requires.long)
    c.in_ok-rows.ensures.sources c.in_ok-rows.ensures.index)

pub returns : goal.returns
returns g c =
    all_of_no_more c.args.axis c.args.n c.args.xs.now c.loop-j.j c.loop-j.rows
    (omega (arith, c.loop-j-test.false, c.len-j-end.ensures)) c.loop-j.invariant
