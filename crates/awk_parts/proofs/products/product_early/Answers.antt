use Rattle.std.proofs.Common.{◌≡◌, ◌≤◌, ap, sym, ◌∙◌, length, arith, subst}
use Rattle.std.specs.Prelude.{pos, IfSome}
use Rattle.std.specs.List.{slice_range}
use Rattle.std.proofs.lemmas.List.{length-map}
use Rattle.awk_lanes.specs.Numbers.{element, number}
use Rattle.awk_lanes.specs.declared.kind.Kind.TheVariants as Kind
use Rattle.awk_numbers.specs.Folds.{product, whole_numbers}
use Rattle.awk_parts.proofs.products.product_early.Goals as goal

pub cell_product-requires : goal.cell_product-requires
cell_product-requires c =
    let bytes = c.in-Truths.bytes.now in
    let groups = c.truth_groups.result.now in
    let within : c.args.span.stop ≤ length groups = omega (
      arith,
      c.requires.within,
      ap (λ w. length (whole_numbers w)) c.in-Truths.is,
      length-map bytes (λ b. element Kind.Bool (pos b)),
      ap length c.truth_groups.ensures,
      length-map groups (λ g. element Kind.Bool (number Kind.Bool g)),
    ) in (omega arith, (c.requires.order, within))

pub returns-in-Truths : goal.returns-in-Truths
returns-in-Truths c =
    let span = c.args.span in
    subst (λ ys. IfSome c.cell_product.result
    (λ z. z ≡ product (slice_range ys span.start span.stop)))
    (c.truth_groups.ensures ∙ sym (ap whole_numbers c.in-Truths.is)) c.cell_product.ensures

pub cell_product-requires-in-I8 : goal.cell_product-requires-in-I8
cell_product-requires-in-I8 c =
    let within : c.args.span.stop ≤ length c.in-I8.groups.now = omega (
      arith,
      c.requires.within,
      ap (λ w. length (whole_numbers w)) c.in-I8.is,
      length-map c.in-I8.groups.now (number Kind.I8),
    ) in (omega arith, (c.requires.order, within))

pub returns-in-I8 : goal.returns-in-I8
returns-in-I8 c =
    let span = c.args.span in
    subst (λ ys. IfSome c.cell_product-in-I8.result
    (λ z. z ≡ product (slice_range ys span.start span.stop)))
    (sym (ap whole_numbers c.in-I8.is)) c.cell_product-in-I8.ensures

pub cell_product-requires-in-I16 : goal.cell_product-requires-in-I16
cell_product-requires-in-I16 c =
    let within : c.args.span.stop ≤ length c.in-I16.groups.now = omega (
      arith,
      c.requires.within,
      ap (λ w. length (whole_numbers w)) c.in-I16.is,
      length-map c.in-I16.groups.now (number Kind.I16),
    ) in (omega arith, (c.requires.order, within))

pub returns-in-I16 : goal.returns-in-I16
returns-in-I16 c =
    let span = c.args.span in
    subst (λ ys. IfSome c.cell_product-in-I16.result
    (λ z. z ≡ product (slice_range ys span.start span.stop)))
    (sym (ap whole_numbers c.in-I16.is)) c.cell_product-in-I16.ensures

pub cell_product-requires-in-I32 : goal.cell_product-requires-in-I32
cell_product-requires-in-I32 c =
    let within : c.args.span.stop ≤ length c.in-I32.groups.now = omega (
      arith,
      c.requires.within,
      ap (λ w. length (whole_numbers w)) c.in-I32.is,
      length-map c.in-I32.groups.now (number Kind.I32),
    ) in (omega arith, (c.requires.order, within))

pub returns-in-I32 : goal.returns-in-I32
returns-in-I32 c =
    let span = c.args.span in
    subst (λ ys. IfSome c.cell_product-in-I32.result
    (λ z. z ≡ product (slice_range ys span.start span.stop)))
    (sym (ap whole_numbers c.in-I32.is)) c.cell_product-in-I32.ensures

pub cell_product-requires-in-I64 : goal.cell_product-requires-in-I64
cell_product-requires-in-I64 c =
    let within : c.args.span.stop ≤ length c.in-I64.groups.now = omega (
      arith,
      c.requires.within,
      ap (λ w. length (whole_numbers w)) c.in-I64.is,
      length-map c.in-I64.groups.now (number Kind.I64),
    ) in (omega arith, (c.requires.order, within))

pub returns-in-I64 : goal.returns-in-I64
returns-in-I64 c =
    let span = c.args.span in
    subst (λ ys. IfSome c.cell_product-in-I64.result
    (λ z. z ≡ product (slice_range ys span.start span.stop)))
    (sym (ap whole_numbers c.in-I64.is)) c.cell_product-in-I64.ensures

pub cell_product-requires-in-U8 : goal.cell_product-requires-in-U8
cell_product-requires-in-U8 c =
    let within : c.args.span.stop ≤ length c.in-U8.groups.now = omega (
      arith,
      c.requires.within,
      ap (λ w. length (whole_numbers w)) c.in-U8.is,
      length-map c.in-U8.groups.now (number Kind.U8),
    ) in (omega arith, (c.requires.order, within))

pub returns-in-U8 : goal.returns-in-U8
returns-in-U8 c =
    let span = c.args.span in
    subst (λ ys. IfSome c.cell_product-in-U8.result
    (λ z. z ≡ product (slice_range ys span.start span.stop)))
    (sym (ap whole_numbers c.in-U8.is)) c.cell_product-in-U8.ensures

pub cell_product-requires-in-U16 : goal.cell_product-requires-in-U16
cell_product-requires-in-U16 c =
    let within : c.args.span.stop ≤ length c.in-U16.groups.now = omega (
      arith,
      c.requires.within,
      ap (λ w. length (whole_numbers w)) c.in-U16.is,
      length-map c.in-U16.groups.now (number Kind.U16),
    ) in (omega arith, (c.requires.order, within))

pub returns-in-U16 : goal.returns-in-U16
returns-in-U16 c =
    let span = c.args.span in
    subst (λ ys. IfSome c.cell_product-in-U16.result
    (λ z. z ≡ product (slice_range ys span.start span.stop)))
    (sym (ap whole_numbers c.in-U16.is)) c.cell_product-in-U16.ensures

pub cell_product-requires-in-U32 : goal.cell_product-requires-in-U32
cell_product-requires-in-U32 c =
    let within : c.args.span.stop ≤ length c.in-U32.groups.now = omega (
      arith,
      c.requires.within,
      ap (λ w. length (whole_numbers w)) c.in-U32.is,
      length-map c.in-U32.groups.now (number Kind.U32),
    ) in (omega arith, (c.requires.order, within))

pub returns-in-U32 : goal.returns-in-U32
returns-in-U32 c =
    let span = c.args.span in
    subst (λ ys. IfSome c.cell_product-in-U32.result
    (λ z. z ≡ product (slice_range ys span.start span.stop)))
    (sym (ap whole_numbers c.in-U32.is)) c.cell_product-in-U32.ensures
