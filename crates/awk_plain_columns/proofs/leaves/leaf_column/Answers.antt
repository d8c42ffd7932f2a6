use Rattle.std.proofs.Common.{◌∙◌, ap, arith, length, map, sym}
use Rattle.std.proofs.lemmas.List.{length-map}
use Rattle.serde_json.specs.Data.{null}
use Rattle.serde_json.specs.View.{view}
use Rattle.std.specs.Prelude.{get_or}
use Rattle.awk_lanes.proofs.MadeLanes.{size-lane_of}
use Rattle.awk_lanes.specs.Made.{lane_of}
use Rattle.awk_lanes.specs.Places.{size_of}
use Rattle.awk_layout.specs.Kinds.{kind_of}
use Rattle.awk_layout.specs.Layout.{flat}
use Rattle.awk_plain_columns.proofs.SuitedLaws.{leaf_made}
use Rattle.awk_plain_columns.specs.Suited.{lane_number}
use Rattle.awk_plain_columns.proofs.leaves.leaf_column.Goals as goal

pub numpy-requires : goal.numpy-requires
numpy-requires g c =
    let xs = c.args.values.now in
    omega (
      arith,
      ap size_of c.in_ok-lane.ensures.lane,
      size-lane_of (kind_of c.args.prim) (length xs)
          (λ i. lane_number (get_or (map (λ v. view v.now) xs) i null)),
    )

pub returns : goal.returns
returns g c =
    let xs = c.args.values.now in
    leaf_made c.args.prim (map (λ v. view v.now) xs) (length xs) c.numpy.result c.requires
    (sym (length-map xs (λ v. view v.now)))
    (c.numpy.ensures.node ∙ ap flat c.in_ok-lane.ensures.lane
    ∙ ap (λ k. flat (lane_of k (length xs)
    (λ i. lane_number (get_or (map (λ v. view v.now) xs) i null)))) c.kind_of.ensures)
