use Rattle.std.proofs.Common.{ap, sym, subst}
use Rattle.std.proofs.lemmas.Result.{IfOk-weaker}
use Rattle.awk_lanes.specs.Column.{Column}
use Rattle.awk_lanes.specs.Places.{IsOptionalIndex}
use Rattle.awk_layout.specs.Valid.{len}
use Rattle.awk_gather.specs.Peeled.{IsPeeled}
use Rattle.awk_open.proofs.whole_index.peel_index.Goals as goal

pub peel-requires-clause-kind : goal.peel-requires-clause-kind
peel-requires-clause-kind g c = ap (λ (q : Column). q.kind) c.in_ok-index.ensures.lane

pub peel-requires-clause-index : goal.peel-requires-clause-index
peel-requires-clause-index g c =
    subst (λ (q : Column). IsOptionalIndex q (len c.args.content.now))
    (sym c.in_ok-index.ensures.lane) c.requires.index

pub returns : goal.returns
returns g c = record {
  peeled = IfOk-weaker c.peel.result _ _
      (λ r h. subst (λ (q : Column). IsPeeled c.args.content.now q r.index r.content)
      c.in_ok-index.ensures.lane h) c.peel.ensures.peeled;
}
