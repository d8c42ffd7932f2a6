use Rattle.std.proofs.Common.{◌≡◌, ◌∙◌, ap, subst, false}
use Rattle.std.specs.Prelude.{[], length, map}
use Rattle.awk_types.specs.Faults.{fault_told}
use Rattle.awk_types.specs.Gives.{Told}
use Rattle.awk_columns.specs.Parts.{AreParts}
use Rattle.awk_frames.specs.Framed.{IsFrame}
use Rattle.awk_frames.specs.Shape.{shape}
use Rattle.awk_frames.specs.View.{shape_of}
use Rattle.awk_pair_operands.specs.Answer.{shared_ends, shared_shape, single_or_fault}
use Rattle.awk_pair_operands.specs.First.{all_data}
use Rattle.awk_pair_operands.specs.Pairs.{has_wrong_end}
use Rattle.awk_pair_types.specs.Emptied.{emptied}
use Rattle.awk_pair_types.proofs.EmptyLaws.{data_some, emptied_some, no_columns, no_fault}
use Rattle.awk_pair_types.proofs.EmptyLaws.{no_rows, no_shape}
use Rattle.awk_pair_types.proofs.pairing.pair_types.Goals as goal

pub pair_either-requires : goal.pair_either-requires
pair_either-requires g c = record {
  some = emptied_some c.args.xs.now c.in_ok-none.none c.in_ok-none.ensures.data c.requires.some;
}

pub want_of_memory-requires : goal.want_of_memory-requires
want_of_memory-requires g c =
    let d = c.reach_as_arrays-reach.result in
    let xs = c.args.xs.now in
    let ys = c.in_ok-none.none in
    let right : has_wrong_end d (map emptied (all_data xs)) ≡ false =
    c.reach_as_arrays-reach.ensures.right ∙ c.requires.right in
    let told : Told (fault_told c.in-Err.fault) (single_or_fault c.args.keep d (all_data ys)) =
    rw c.in-Err.is at c.pair_either.ensures.answer in
    no_fault c.args.keep d xs ys c.in_ok-none.ensures.data (data_some xs c.requires.some)
    (fault_told c.in-Err.fault) right told

pub returns-in-Ok-clause-shape : goal.returns-in-Ok-clause-shape
returns-in-Ok-clause-shape g c =
    let d = c.reach_as_arrays-reach.result in
    let xs = c.args.xs.now in
    let ys = c.in_ok-none.none in
    let s : shape_of c.in-Ok.paired.shape ≡ shared_shape c.args.keep d (all_data ys) =
    rw c.in-Ok.is at c.pair_either.ensures.shape in
    no_shape c.args.keep d xs ys c.in_ok-none.ensures.data (data_some xs c.requires.some)
    (shape_of c.in-Ok.paired.shape) s
    ∙ ap (λ t. shape t []) (c.reach_as_arrays-reach.ensures.typ c.args.keep)

pub returns-in-Ok-clause-long : goal.returns-in-Ok-clause-long
returns-in-Ok-clause-long g c =
    let d = c.reach_as_arrays-reach.result in
    let xs = c.args.xs.now in
    let ys = c.in_ok-none.none in
    let h : AreParts 0 (shared_ends c.args.keep d (all_data ys)) c.in-Ok.paired.leaves =
    rw c.in-Ok.is at c.pair_either.ensures.leaves in
    no_columns 0 (shared_ends c.args.keep d (all_data ys)) c.in-Ok.paired.leaves h
    (no_rows c.args.keep d xs ys c.in_ok-none.ensures.data (data_some xs c.requires.some))

pub returns-in-Ok-clause-frame : goal.returns-in-Ok-clause-frame
returns-in-Ok-clause-frame g c =
    let d = c.reach_as_arrays-reach.result in
    let xs = c.args.xs.now in
    let ys = c.in_ok-none.none in
    let h : IsFrame (shape_of c.in-Ok.paired.shape)
    (length (shared_ends c.args.keep d (all_data ys))) =
    rw c.in-Ok.is at c.pair_either.ensures.frame in
    subst (IsFrame (shape_of c.in-Ok.paired.shape))
    (ap length (no_rows c.args.keep d xs ys c.in_ok-none.ensures.data
    (data_some xs c.requires.some))) h
