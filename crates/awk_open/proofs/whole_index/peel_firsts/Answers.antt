use Rattle.std.proofs.Common.{◌≡◌, ap, subst, arith, ◌∙◌}
use Rattle.std.specs.Prelude.{pos}
use Rattle.std.proofs.lemmas.Result.{IfOk-weaker}
use Rattle.awk_lanes.specs.declared.kind.Kind.TheVariants.{I64}
use Rattle.awk_lanes.specs.Column.{Column}
use Rattle.awk_lanes.specs.Made.{lane_of}
use Rattle.awk_layout.specs.Laws.{len-fits}
use Rattle.awk_layout.specs.Valid.{len}
use Rattle.awk_gather.specs.Peeled.{IsPeeled}
use Rattle.awk_open.proofs.OpenedArrays.{all_optional}
use Rattle.awk_open.proofs.whole_index.peel_firsts.Goals as goal

pub ordinals-requires : goal.ordinals-requires
ordinals-requires g c =
    omega (arith, c.len.ensures.len, len-fits c.args.x.now c.len.ensures.valid)

pub peel-requires-clause-kind : goal.peel-requires-clause-kind
peel-requires-clause-kind g c = ap (λ (q : Column). q.kind) c.in_ok-index.ensures

pub peel-requires-clause-index : goal.peel-requires-clause-index
peel-requires-clause-index g c =
    all_optional (len c.args.x.now) c.in_ok-index.index
    (c.in_ok-index.ensures ∙ ap (λ n. lane_of I64 n (λ i. pos i)) c.len.ensures.len)

pub returns : goal.returns
returns g c =
    let e : c.in_ok-index.index ≡ lane_of I64 (len c.args.x.now) (λ i. pos i) =
    c.in_ok-index.ensures ∙ ap (λ n. lane_of I64 n (λ i. pos i)) c.len.ensures.len in
    record {
      peeled = IfOk-weaker c.peel.result _ _
          (λ r h. subst (λ (q : Column). IsPeeled c.args.x.now q r.index r.content) e h)
          c.peel.ensures.peeled;
    }
