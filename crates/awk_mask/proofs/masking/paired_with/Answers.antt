use Rattle.std.proofs.Common.{◌≡◌, ◌+◌, arith, ap, ◌∙◌, length}
use Rattle.std.proofs.lemmas.List.{length-map}
use Rattle.awk_types.specs.Limit.{limit}
use Rattle.awk_layout.specs.Single.{own_datum}
use Rattle.awk_layout.specs.Typing.{array_type}
use Rattle.awk_pair_operands.specs.First.{all_data}
use Rattle.awk_mask_pairs.specs.MaskTypes.{mask_levels}
use Rattle.awk_mask.proofs.masking.paired_with.Goals as goal

pub depth_of-depth-requires : goal.depth_of-depth-requires
depth_of-depth-requires g c = ap limit c.typ.ensures.typ ∙ c.typ.ensures.lawful.within_limits

pub pair_keeping-requires : goal.pair_keeping-requires
pair_keeping-requires g c =
    let n : length (all_data c.in_ok-operands.operands) ≡ 2 =
    ap length c.in_ok-operands.ensures in
    record { some = omega (arith, n, length-map c.in_ok-operands.operands own_datum) }

pub returns-clause-answer : goal.returns-clause-answer
returns-clause-answer g c =
    let k : c.depth_of-depth.result ≡ mask_levels (array_type c.args.m.now) + 1 =
    c.depth_of-depth.ensures ∙ ap (λ t. mask_levels t + 1) c.typ.ensures.typ in
    rw (c.in_ok-operands.ensures, k) at c.pair_keeping.ensures.answer

pub returns-clause-shape : goal.returns-clause-shape
returns-clause-shape g c =
    let k : c.depth_of-depth.result ≡ mask_levels (array_type c.args.m.now) + 1 =
    c.depth_of-depth.ensures ∙ ap (λ t. mask_levels t + 1) c.typ.ensures.typ in
    rw (c.in_ok-operands.ensures, k) at c.pair_keeping.ensures.shape

pub returns-clause-leaves : goal.returns-clause-leaves
returns-clause-leaves g c =
    let k : c.depth_of-depth.result ≡ mask_levels (array_type c.args.m.now) + 1 =
    c.depth_of-depth.ensures ∙ ap (λ t. mask_levels t + 1) c.typ.ensures.typ in
    rw (c.in_ok-operands.ensures, k) at c.pair_keeping.ensures.leaves

pub returns-clause-types : goal.returns-clause-types
returns-clause-types g c =
    let k : c.depth_of-depth.result ≡ mask_levels (array_type c.args.m.now) + 1 =
    c.depth_of-depth.ensures ∙ ap (λ t. mask_levels t + 1) c.typ.ensures.typ in
    rw (c.in_ok-operands.ensures, k) at c.pair_keeping.ensures.types
