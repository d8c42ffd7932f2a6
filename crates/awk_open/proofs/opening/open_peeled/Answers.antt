use Rattle.std.proofs.Common.{◌≡◌, ap, sym, refl, arith, ◌∙◌}
use Rattle.std.specs.Prelude.{true, false}
use Rattle.std.proofs.lemmas.Result.{IfOk-weaker}
use Rattle.awk_types.specs.Simple.{is_option}
use Rattle.awk_layout.specs.Laws.{len-fits}
use Rattle.awk_layout.specs.Typing.{array_type}
use Rattle.awk_open.proofs.FirstIndexes.{all_of, same_peeled}
use Rattle.awk_open.proofs.OpenedArrays.{peeled_size, peeled_places, opened_option, opened_through}
use Rattle.awk_open.proofs.opening.open_peeled.Goals as goal

pub returns-then-is_optional : goal.returns-then-is_optional
returns-then-is_optional g c =
    let k = c.in_ok-index.field-0.index in
    let y = c.in_ok-index.field-0.content in
    let h = same_peeled c.node.result.now c.args.x.now k y c.node.ensures
    c.in_ok-index.ensures.peeled in
    let o : is_option (array_type c.args.x.now) ≡ true =
    ap is_option (sym c.typ.ensures.typ) ∙ sym c.if-is_optional.ensures in
    record {
      opened = opened_option c.args.x.now y c.in_ok-content.content (all_of c.args.x.now) k refl
          (len-fits c.args.x.now c.len.ensures.valid) h c.in_ok-content.ensures
          c.len-then-is_optional.ensures.valid c.requires o;
    }

pub open_plain-requires-clause-small : goal.open_plain-requires-clause-small
open_plain-requires-clause-small g c =
    let k = c.in_ok-index.field-0.index in
    let y = c.in_ok-index.field-0.content in
    let h = same_peeled c.node.result.now c.args.x.now k y c.node.ensures
    c.in_ok-index.ensures.peeled in
    omega (
      arith,
      peeled_size c.args.x.now y (all_of c.args.x.now) k refl h,
      len-fits c.args.x.now c.len.ensures.valid,
    )

pub open_plain-requires-clause-places : goal.open_plain-requires-clause-places
open_plain-requires-clause-places g c =
    let k = c.in_ok-index.field-0.index in
    let y = c.in_ok-index.field-0.content in
    let h = same_peeled c.node.result.now c.args.x.now k y c.node.ensures
    c.in_ok-index.ensures.peeled in
    let o : is_option (array_type c.args.x.now) ≡ false =
    ap is_option (sym c.typ.ensures.typ) ∙ sym c.if-is_optional.ensures in
    peeled_places c.args.x.now y (all_of c.args.x.now) k refl h o

pub returns : goal.returns
returns g c =
    let k = c.in_ok-index.field-0.index in
    let y = c.in_ok-index.field-0.content in
    let h = same_peeled c.node.result.now c.args.x.now k y c.node.ensures
    c.in_ok-index.ensures.peeled in
    let o : is_option (array_type c.args.x.now) ≡ false =
    ap is_option (sym c.typ.ensures.typ) ∙ sym c.if-is_optional.ensures in
    record {
      opened = IfOk-weaker c.open_plain.result _ _
          (λ r w. opened_through c.args.x.now y (all_of c.args.x.now) k r refl h c.requires o w)
          c.open_plain.ensures.opened;
    }
