use Rattle.std.proofs.Common.{◌≤◌, ap, sym, ◌∙◌, length, arith}
use Rattle.std.specs.Prelude.{pos}
use Rattle.std.specs.List.{slice_range}
use Rattle.std.proofs.lemmas.List.{length-map}
use Rattle.awk_lanes.specs.Numbers.{element, number}
use Rattle.awk_lanes.specs.declared.kind.Kind.TheVariants as kind
use Rattle.awk_numbers.specs.Folds.{first_extreme, whole_numbers}
use Rattle.awk_parts.proofs.wide.first_place.Goals as goal

pub short_cell_place-requires : goal.short_cell_place-requires
short_cell_place-requires c =
    let bytes = c.in-Truths.bytes.now in
    let groups = c.truth_groups.result.now in
    let within : c.args.span.stop ≤ length groups = omega (
      arith,
      c.requires.within,
      ap (λ w. length (whole_numbers w)) c.in-Truths.is,
      length-map bytes (λ b. element kind.Bool (pos b)),
      ap length c.truth_groups.ensures,
      length-map groups (λ g. element kind.Bool (number kind.Bool g)),
    ) in (omega arith, (omega arith, (c.requires.order, (within, c.requires.few))))

pub returns-in-Truths-clause-place : goal.returns-in-Truths-clause-place
returns-in-Truths-clause-place c =
    let span = c.args.span in
    c.short_cell_place.ensures.place
    ∙ ap (λ zs. first_extreme c.args.how (slice_range zs span.start span.stop))
    (c.truth_groups.ensures ∙ sym (ap whole_numbers c.in-Truths.is))

pub short_cell_place-requires-in-I8 : goal.short_cell_place-requires-in-I8
short_cell_place-requires-in-I8 c =
    let within : c.args.span.stop ≤ length c.in-I8.groups.now = omega (
      arith,
      c.requires.within,
      ap (λ w. length (whole_numbers w)) c.in-I8.is,
      length-map c.in-I8.groups.now (number kind.I8),
    ) in (omega arith, (omega arith, (c.requires.order, (within, c.requires.few))))

pub returns-in-I8-clause-place : goal.returns-in-I8-clause-place
returns-in-I8-clause-place c =
    let span = c.args.span in
    c.short_cell_place-in-I8.ensures.place
    ∙ ap (λ zs. first_extreme c.args.how (slice_range zs span.start span.stop))
    (sym (ap whole_numbers c.in-I8.is))

pub short_cell_place-requires-in-I16 : goal.short_cell_place-requires-in-I16
short_cell_place-requires-in-I16 c =
    let within : c.args.span.stop ≤ length c.in-I16.groups.now = omega (
      arith,
      c.requires.within,
      ap (λ w. length (whole_numbers w)) c.in-I16.is,
      length-map c.in-I16.groups.now (number kind.I16),
    ) in (omega arith, (omega arith, (c.requires.order, (within, c.requires.few))))

pub returns-in-I16-clause-place : goal.returns-in-I16-clause-place
returns-in-I16-clause-place c =
    let span = c.args.span in
    c.short_cell_place-in-I16.ensures.place
    ∙ ap (λ zs. first_extreme c.args.how (slice_range zs span.start span.stop))
    (sym (ap whole_numbers c.in-I16.is))

pub cell_place-requires : goal.cell_place-requires
cell_place-requires c =
    let within : c.args.span.stop ≤ length c.in-I32.groups.now = omega (
      arith,
      c.requires.within,
      ap (λ w. length (whole_numbers w)) c.in-I32.is,
      length-map c.in-I32.groups.now (number kind.I32),
    ) in (omega arith, (c.requires.order, within))

pub returns-in-I32-clause-place : goal.returns-in-I32-clause-place
returns-in-I32-clause-place c =
    let span = c.args.span in
    c.cell_place.ensures.place
    ∙ ap (λ zs. first_extreme c.args.how (slice_range zs span.start span.stop))
    (sym (ap whole_numbers c.in-I32.is))

pub cell_place-requires-in-I64 : goal.cell_place-requires-in-I64
cell_place-requires-in-I64 c =
    let within : c.args.span.stop ≤ length c.in-I64.groups.now = omega (
      arith,
      c.requires.within,
      ap (λ w. length (whole_numbers w)) c.in-I64.is,
      length-map c.in-I64.groups.now (number kind.I64),
    ) in (omega arith, (c.requires.order, within))

pub returns-in-I64-clause-place : goal.returns-in-I64-clause-place
returns-in-I64-clause-place c =
    let span = c.args.span in
    c.cell_place-in-I64.ensures.place
    ∙ ap (λ zs. first_extreme c.args.how (slice_range zs span.start span.stop))
    (sym (ap whole_numbers c.in-I64.is))

pub short_cell_place-requires-in-U8 : goal.short_cell_place-requires-in-U8
short_cell_place-requires-in-U8 c =
    let within : c.args.span.stop ≤ length c.in-U8.groups.now = omega (
      arith,
      c.requires.within,
      ap (λ w. length (whole_numbers w)) c.in-U8.is,
      length-map c.in-U8.groups.now (number kind.U8),
    ) in (omega arith, (omega arith, (c.requires.order, (within, c.requires.few))))

pub returns-in-U8-clause-place : goal.returns-in-U8-clause-place
returns-in-U8-clause-place c =
    let span = c.args.span in
    c.short_cell_place-in-U8.ensures.place
    ∙ ap (λ zs. first_extreme c.args.how (slice_range zs span.start span.stop))
    (sym (ap whole_numbers c.in-U8.is))

pub short_cell_place-requires-in-U16 : goal.short_cell_place-requires-in-U16
short_cell_place-requires-in-U16 c =
    let within : c.args.span.stop ≤ length c.in-U16.groups.now = omega (
      arith,
      c.requires.within,
      ap (λ w. length (whole_numbers w)) c.in-U16.is,
      length-map c.in-U16.groups.now (number kind.U16),
    ) in (omega arith, (omega arith, (c.requires.order, (within, c.requires.few))))

pub returns-in-U16-clause-place : goal.returns-in-U16-clause-place
returns-in-U16-clause-place c =
    let span = c.args.span in
    c.short_cell_place-in-U16.ensures.place
    ∙ ap (λ zs. first_extreme c.args.how (slice_range zs span.start span.stop))
    (sym (ap whole_numbers c.in-U16.is))

pub cell_place-requires-in-U32 : goal.cell_place-requires-in-U32
cell_place-requires-in-U32 c =
    let within : c.args.span.stop ≤ length c.in-U32.groups.now = omega (
      arith,
      c.requires.within,
      ap (λ w. length (whole_numbers w)) c.in-U32.is,
      length-map c.in-U32.groups.now (number kind.U32),
    ) in (omega arith, (c.requires.order, within))

pub returns-in-U32-clause-place : goal.returns-in-U32-clause-place
returns-in-U32-clause-place c =
    let span = c.args.span in
    c.cell_place-in-U32.ensures.place
    ∙ ap (λ zs. first_extreme c.args.how (slice_range zs span.start span.stop))
    (sym (ap whole_numbers c.in-U32.is))
