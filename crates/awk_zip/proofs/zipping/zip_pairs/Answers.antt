use Rattle.std.proofs.Common.{◌≡◌, ◌∙◌, ap, sym, subst, arith, false, length, map, Some}
use Rattle.std.specs.Prelude.{option_map}
use Rattle.std.proofs.lemmas.List.{map-id}
use Rattle.awk_types.specs.DataType.{row_type, types_from}
use Rattle.awk_layout.specs.Typing.{array_type, array_items}
use Rattle.awk_layout.specs.Valid.{len, AreNames}
use Rattle.awk_frames.specs.Framed.{IsFrame, over_type}
use Rattle.awk_frames.specs.View.{shape_of}
use Rattle.awk_open.proofs.OpenedKinds.{type-rows}
use Rattle.awk_open.specs.Opened.{AreLong}
use Rattle.awk_pair_operands.specs.Answer.{shared_ends}
use Rattle.awk_pair_operands.specs.First.{all_data}
use Rattle.awk_pair_operands.specs.Pairs.{leaf_types, pair_type, pair_values}
use Rattle.awk_pair_operands.proofs.TypeLaws.{columns-length}
use Rattle.awk_zip.proofs.OverLaws.{overs-same}
use Rattle.awk_zip.proofs.RowLaws.{types_length, first_long, columns_long, rows_items, ends_typed}
use Rattle.awk_zip.proofs.zipping.zip_pairs.Goals as goal

pub get-requires : goal.get-requires
get-requires g c =
    let e = columns-length c.args.depth c.args.xs.now c.in_ok-paired.paired.leaves
    c.in_ok-paired.ensures.types in
    omega (arith, e, c.requires.some)

pub row_node-requires-clause-long : goal.row_node-requires-clause-long
row_node-requires-clause-long g c =
    let vs = shared_ends false (Some c.args.depth) (all_data c.args.xs.now) in
    let h = columns_long vs c.in_ok-paired.paired.leaves c.in_ok-paired.ensures.leaves in
    let e : c.len-n.result ≡ length vs =
    c.len-n.ensures.len
    ∙ first_long (length vs) c.in_ok-paired.paired.leaves c.get.result.now h c.get.ensures in
    subst (λ m. AreLong m c.in_ok-paired.paired.leaves) (sym e) h

pub row_node-requires-clause-names : goal.row_node-requires-clause-names
row_node-requires-clause-names g c =
    subst (λ m. AreNames (option_map (λ names. names.now) c.args.names) m)
    (sym (columns-length c.args.depth c.args.xs.now c.in_ok-paired.paired.leaves
    c.in_ok-paired.ensures.types)) c.requires.names

pub framed-requires : goal.framed-requires
framed-requires g c =
    let vs = shared_ends false (Some c.args.depth) (all_data c.args.xs.now) in
    let h = columns_long vs c.in_ok-paired.paired.leaves c.in_ok-paired.ensures.leaves in
    let e : c.len-n.result ≡ length vs =
    c.len-n.ensures.len
    ∙ first_long (length vs) c.in_ok-paired.paired.leaves c.get.result.now h c.get.ensures in
    record {
      frame = subst (λ m. IsFrame (shape_of c.in_ok-paired.paired.shape) m)
          (sym e ∙ sym (ap len c.in_ok-rows.ensures)) c.in_ok-paired.ensures.frame;
    }

pub returns-clause-items : goal.returns-clause-items
returns-clause-items g c =
    let ds = all_data c.args.xs.now in
    let named = option_map (λ names. names.now) c.args.names in
    let vs = shared_ends false (Some c.args.depth) ds in
    let h = columns_long vs c.in_ok-paired.paired.leaves c.in_ok-paired.ensures.leaves in
    let e : c.len-n.result ≡ length vs =
    c.len-n.ensures.len
    ∙ first_long (length vs) c.in_ok-paired.paired.leaves c.get.result.now h c.get.ensures in
    let made : array_items c.in_ok-rows.rows ≡ map (λ w. w) vs =
    ap array_items c.in_ok-rows.ensures
    ∙ rows_items named c.len-n.result (leaf_types (Some c.args.depth) ds) vs
    c.in_ok-paired.paired.leaves c.in_ok-paired.ensures.leaves
    (types_length c.args.depth ds c.in_ok-paired.paired.leaves c.in_ok-paired.ensures.types) e
    (ends_typed c.args.depth ds c.in_ok-paired.ensures.typed)
    ∙ sym (map-id vs) in
    c.in_ok-node.ensures.items (pair_type false (Some c.args.depth) ds) (λ w. w)
    (pair_values false (Some c.args.depth) ds) c.in_ok-paired.ensures.typed
    c.in_ok-paired.ensures.shape made
    ∙ overs-same (pair_type false (Some c.args.depth) ds)
    (pair_values false (Some c.args.depth) ds)

pub returns-clause-typ : goal.returns-clause-typ
returns-clause-typ g c =
    let ds = all_data c.args.xs.now in
    let named = option_map (λ names. names.now) c.args.names in
    let t = pair_type false (Some c.args.depth) ds in
    c.in_ok-node.ensures.typ t (pair_values false (Some c.args.depth) ds)
    c.in_ok-paired.ensures.shape
    ∙ ap (over_type t) (ap array_type c.in_ok-rows.ensures
    ∙ type-rows named c.len-n.result c.in_ok-paired.paired.leaves
    ∙ ap (λ us. row_type named (types_from us)) c.in_ok-paired.ensures.types)
