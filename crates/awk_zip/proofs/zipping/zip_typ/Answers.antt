use Rattle.std.proofs.Common.{◌≡◌, ◌∙◌, ap, sym, subst, arith, false, Some}
use Rattle.std.specs.Prelude.{option_map, []}
use Rattle.awk_types.specs.DataType.{row_type, types_from}
use Rattle.awk_types.specs.Faults.{fault_told, limit_refused}
use Rattle.awk_types.specs.Gives.{Gives, refused_or}
use Rattle.awk_types.specs.View.{typ_of}
use Rattle.awk_layout.specs.Typing.{array_type}
use Rattle.awk_layout.specs.Valid.{len, AreNames}
use Rattle.awk_frames.specs.Framed.{IsFrame, over_type}
use Rattle.awk_frames.specs.View.{shape_of}
use Rattle.awk_open.proofs.OpenedKinds.{type-rows}
use Rattle.awk_pair_operands.specs.First.{all_data}
use Rattle.awk_pair_operands.specs.Pairs.{pair_type}
use Rattle.awk_pair_operands.proofs.TypeLaws.{columns-length}
use Rattle.awk_pair_types.proofs.DepthLaws.{never_wrong}
use Rattle.awk_zip.specs.Zip.{zip_type}
use Rattle.awk_zip.proofs.zipping.zip_typ.Goals as goal

pub pair_types-requires : goal.pair_types-requires
pair_types-requires g c = record {
  some = c.requires.some;
  right = never_wrong c.args.depth (all_data c.args.xs.now);
}

pub row_node-requires : goal.row_node-requires
row_node-requires g c = record {
  long = c.in_ok-none.ensures.long;
  few = omega arith;
  names = subst (λ m. AreNames (option_map (λ names. names.now) c.args.names) m)
      (sym (columns-length c.args.depth c.args.xs.now c.in_ok-none.none.leaves
      c.in_ok-none.ensures.types)) c.requires.names;
}

pub framed-requires : goal.framed-requires
framed-requires g c = record {
  frame = subst (λ m. IsFrame (shape_of c.in_ok-none.none.shape) m)
      (sym (ap len c.in_ok-rows.ensures)) c.in_ok-none.ensures.frame;
}

pub returns-clause-answer : goal.returns-clause-answer
returns-clause-answer g c =
    let ds = all_data c.args.xs.now in
    let named = option_map (λ names. names.now) c.args.names in
    let t = pair_type false (Some c.args.depth) ds in
    let is : array_type c.in_ok-node.node ≡ zip_type c.args.depth named ds =
    c.in_ok-node.ensures.typ t [] c.in_ok-none.ensures.shape
    ∙ ap (over_type t) (ap array_type c.in_ok-rows.ensures
    ∙ type-rows named 0 c.in_ok-none.none.leaves
    ∙ ap (λ us. row_type named (types_from us)) c.in_ok-none.ensures.types) in
    subst (λ u. Gives typ_of fault_told c.typ_within.result (refused_or (limit_refused u) u)) is
    c.typ_within.ensures.answer
