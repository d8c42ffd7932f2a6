use Rattle.std.specs.Prelude.{true, Err}
use Rattle.std.proofs.Common.{◌≡◌, arith, ap, ap₂, sym, ◌∙◌}
use Rattle.awk_types.specs.Faults.{fault_told}
use Rattle.awk_types.specs.Simple.{simple, simple_value}
use Rattle.awk_types.proofs.RefusalLaws.{Gives-Err}
use Rattle.awk_layout.specs.Typing.{array_type, array_datum}
use Rattle.awk_layout.specs.Valid.{len}
use Rattle.awk_frames.specs.Framed.{over_type}
use Rattle.awk_frames.specs.View.{shape_of}
use Rattle.awk_pair_operands.specs.Answer.{shared_ends}
use Rattle.awk_pair_operands.specs.Pairs.{pair_values}
use Rattle.awk_mask_pairs.specs.MaskTypes.{mask_levels, under, classed, shared_type, masked_row}
use Rattle.awk_mask_pairs.specs.MaskValues.{masked_type}
use Rattle.awk_mask.specs.MaskedArrays.{depth_under, both, masked_array}
use Rattle.awk_mask.proofs.MadeLaws.{two-long, first-type, second-type, first-items, second-items}
use Rattle.awk_mask.proofs.MadeLaws.{part-long, leaf-types, leaf-mask, told-pair, frame-under}
use Rattle.awk_mask.proofs.MadeLaws.{shape-under, typed-under, ends-made, told-made}
use Rattle.awk_mask.proofs.masking.paired_mask.Goals as goal

pub returns-in_err-paired : goal.returns-in_err-paired
returns-in_err-paired g c =
    let e = c.in_err-paired.field-0.0 in
    let failed : c.from_residual.result ≡ Err e = grind arith in
    Gives-Err array_datum fault_told c.from_residual.result e
    (masked_array c.args.m.now c.args.x.now c.args.keep) failed
    (told-pair c.args.keep c.args.m.now c.args.x.now c.typ.ensures.lawful.is_simple
    c.requires.sized c.requires.masks c.len.ensures.items c.len-2.ensures.items (fault_told e)
    c.in_err-paired.ensures.answer)

pub get-items-requires : goal.get-items-requires
get-items-requires g c =
    omega (
      arith,
      two-long c.in_ok-paired.paired.leaves _ _ (c.in_ok-paired.ensures.types
          ∙ leaf-types c.args.keep c.args.m.now c.args.x.now c.typ.ensures.lawful.is_simple
          c.requires.sized c.requires.masks c.len.ensures.items c.len-2.ensures.items),
    )

pub get-mask-requires : goal.get-mask-requires
get-mask-requires g c =
    omega (
      arith,
      two-long c.in_ok-paired.paired.leaves _ _ (c.in_ok-paired.ensures.types
          ∙ leaf-types c.args.keep c.args.m.now c.args.x.now c.typ.ensures.lawful.is_simple
          c.requires.sized c.requires.masks c.len.ensures.items c.len-2.ensures.items),
    )

pub masked_items-requires-clause-mask : goal.masked_items-requires-clause-mask
masked_items-requires-clause-mask g c =
    leaf-mask c.args.keep c.args.m.now c.args.x.now c.typ.ensures.lawful.is_simple
    c.requires.sized c.requires.masks c.len.ensures.items c.len-2.ensures.items
    (array_type c.get-mask.result.now)
    (second-type c.in_ok-paired.paired.leaves c.get-mask.result.now _ _
    (c.in_ok-paired.ensures.types
    ∙ leaf-types c.args.keep c.args.m.now c.args.x.now c.typ.ensures.lawful.is_simple
    c.requires.sized c.requires.masks c.len.ensures.items c.len-2.ensures.items)
    c.get-mask.ensures)

pub masked_items-requires-clause-lengths : goal.masked_items-requires-clause-lengths
masked_items-requires-clause-lengths g c =
    let vs = shared_ends true (depth_under c.args.m.now) (both c.args.m.now c.args.x.now) in
    let ys = c.in_ok-paired.paired.leaves in
    part-long 1 vs c.get-mask.result.now
    (second-items vs ys c.get-mask.result.now c.in_ok-paired.ensures.leaves c.get-mask.ensures)
    ∙ sym (part-long 0 vs c.get-items.result.now
    (first-items vs ys c.get-items.result.now c.in_ok-paired.ensures.leaves c.get-items.ensures))

pub framed-requires : goal.framed-requires
framed-requires g c =
    let vs = shared_ends true (depth_under c.args.m.now) (both c.args.m.now c.args.x.now) in
    let ys = c.in_ok-paired.paired.leaves in
    record {
      frame = frame-under c.args.keep c.args.m.now c.args.x.now
          c.typ.ensures.lawful.is_simple c.requires.sized c.requires.masks
          c.len.ensures.items c.len-2.ensures.items c.in_ok-paired.paired.single
          c.in_ok-paired.ensures.answer (shape_of c.in_ok-shape.shape) (len c.in_ok-ends.ends)
          (c.in_ok-shape.ensures
          ∙ ap₂ (λ w y. classed w y) c.typ-t.ensures.typ c.in_ok-paired.ensures.shape)
          (c.in_ok-ends.ensures.items.size
          ∙ part-long 0 vs c.get-items.result.now
          (first-items vs ys c.get-items.result.now c.in_ok-paired.ensures.leaves
          c.get-items.ensures));
    }

pub returns : goal.returns
returns g c =
    let s = c.typ.ensures.lawful.is_simple in
    let t = array_type c.args.x.now in
    let u = array_type c.args.m.now in
    let n = mask_levels u in
    let vs = shared_ends true (depth_under c.args.m.now) (both c.args.m.now c.args.x.now) in
    let ys = c.in_ok-paired.paired.leaves in
    let types = c.in_ok-paired.ensures.types
    ∙ leaf-types c.args.keep c.args.m.now c.args.x.now s c.requires.sized c.requires.masks
    c.len.ensures.items c.len-2.ensures.items in
    let tx = first-type ys c.get-items.result.now _ _ types c.get-items.ensures in
    let tm = second-type ys c.get-mask.result.now _ _ types c.get-mask.ensures in
    let shape = shape-under c.args.keep c.args.m.now c.args.x.now s c.requires.sized
    c.requires.masks c.len.ensures.items c.len-2.ensures.items
    c.in_ok-paired.paired.single c.in_ok-paired.ensures.answer
    (shape_of c.in_ok-shape.shape)
    (c.in_ok-shape.ensures
    ∙ ap₂ (λ w y. classed w y) c.typ-t.ensures.typ c.in_ok-paired.ensures.shape) in
    let ends = ends-made c.args.keep c.args.m.now c.args.x.now s c.requires.sized
    c.requires.masks c.len.ensures.items c.len-2.ensures.items
    c.in_ok-paired.paired.single c.in_ok-paired.ensures.answer c.get-items.result.now
    c.get-mask.result.now c.in_ok-ends.ends tx tm
    (first-items vs ys c.get-items.result.now c.in_ok-paired.ensures.leaves c.get-items.ensures)
    (second-items vs ys c.get-mask.result.now c.in_ok-paired.ensures.leaves c.get-mask.ensures)
    c.in_ok-ends.ensures.items in
    told-made c.args.keep c.args.m.now c.args.x.now s c.requires.sized c.requires.masks
    c.len.ensures.items c.len-2.ensures.items c.in_ok-paired.paired.single
    c.in_ok-paired.ensures.answer c.in_ok-node.node
    (c.in_ok-node.ensures.items (shared_type n t u)
    (λ w. simple_value (masked_type (under n u) (under n t))
    (masked_row c.args.keep (under n u) w))
    (pair_values true (depth_under c.args.m.now) (both c.args.m.now c.args.x.now))
    (typed-under c.args.keep c.args.m.now c.args.x.now s c.requires.sized c.requires.masks
    c.len.ensures.items c.len-2.ensures.items c.in_ok-paired.paired.single
    c.in_ok-paired.ensures.answer) shape ends)
    (c.in_ok-node.ensures.typ (shared_type n t u)
    (pair_values true (depth_under c.args.m.now) (both c.args.m.now c.args.x.now)) shape
    ∙ ap (over_type (shared_type n t u)) (c.in_ok-ends.ensures.items.typ
    ∙ ap₂ (λ a b. simple (masked_type a b)) tm tx))
