use Rattle.std.proofs.Common.{ap, sym, ◌∙◌, map, subst}
use Rattle.std.specs.Prelude.{pos}
use Rattle.std.specs.List.{slice_range}
use Rattle.awk_lanes.specs.Numbers.{element, number}
use Rattle.awk_lanes.specs.declared.kind.Kind.TheVariants as kind
use Rattle.awk_numbers.specs.Folds.{whole_numbers}
use Rattle.awk_numbers.proofs.PartLaws.{slice_range-map, truth_cells}
use Rattle.awk_numbers.proofs.whole.Whole.told.Goals as goal

pub returns-in-Truths : goal.returns-in-Truths
returns-in-Truths g c =
    let bytes = c.in-Truths.bytes.now in
    let part = slice_range bytes c.args.start c.args.stop in
    subst (λ zs. g.P.Pass.tells c.args.pass.now zs c.over.result)
    (ap (map (λ b. element kind.Bool (number kind.Bool b)))
    (c.new.ensures ∙ c.as_chunks.ensures.front)
    ∙ truth_cells part
    ∙ sym (slice_range-map (λ n. element kind.Bool (pos n)) bytes c.args.start c.args.stop)
    ∙ sym (ap (λ w. slice_range (whole_numbers w) c.args.start c.args.stop) c.in-Truths.is))
    c.over.ensures

pub returns-in-I8 : goal.returns-in-I8
returns-in-I8 g c =
    subst (λ zs. g.P.Pass.tells c.args.pass.now zs c.over-in-I8.result)
    (ap (map (number kind.I8)) c.new-in-I8.ensures
    ∙ sym (slice_range-map (number kind.I8) c.in-I8.groups.now c.args.start c.args.stop)
    ∙ sym (ap (λ w. slice_range (whole_numbers w) c.args.start c.args.stop) c.in-I8.is))
    c.over-in-I8.ensures

pub returns-in-I16 : goal.returns-in-I16
returns-in-I16 g c =
    subst (λ zs. g.P.Pass.tells c.args.pass.now zs c.over-in-I16.result)
    (ap (map (number kind.I16)) c.new-in-I16.ensures
    ∙ sym (slice_range-map (number kind.I16) c.in-I16.groups.now c.args.start c.args.stop)
    ∙ sym (ap (λ w. slice_range (whole_numbers w) c.args.start c.args.stop) c.in-I16.is))
    c.over-in-I16.ensures

pub returns-in-I32 : goal.returns-in-I32
returns-in-I32 g c =
    subst (λ zs. g.P.Pass.tells c.args.pass.now zs c.over-in-I32.result)
    (ap (map (number kind.I32)) c.new-in-I32.ensures
    ∙ sym (slice_range-map (number kind.I32) c.in-I32.groups.now c.args.start c.args.stop)
    ∙ sym (ap (λ w. slice_range (whole_numbers w) c.args.start c.args.stop) c.in-I32.is))
    c.over-in-I32.ensures

pub returns-in-I64 : goal.returns-in-I64
returns-in-I64 g c =
    subst (λ zs. g.P.Pass.tells c.args.pass.now zs c.over-in-I64.result)
    (ap (map (number kind.I64)) c.new-in-I64.ensures
    ∙ sym (slice_range-map (number kind.I64) c.in-I64.groups.now c.args.start c.args.stop)
    ∙ sym (ap (λ w. slice_range (whole_numbers w) c.args.start c.args.stop) c.in-I64.is))
    c.over-in-I64.ensures

pub returns-in-U8 : goal.returns-in-U8
returns-in-U8 g c =
    subst (λ zs. g.P.Pass.tells c.args.pass.now zs c.over-in-U8.result)
    (ap (map (number kind.U8)) c.new-in-U8.ensures
    ∙ sym (slice_range-map (number kind.U8) c.in-U8.groups.now c.args.start c.args.stop)
    ∙ sym (ap (λ w. slice_range (whole_numbers w) c.args.start c.args.stop) c.in-U8.is))
    c.over-in-U8.ensures

pub returns-in-U16 : goal.returns-in-U16
returns-in-U16 g c =
    subst (λ zs. g.P.Pass.tells c.args.pass.now zs c.over-in-U16.result)
    (ap (map (number kind.U16)) c.new-in-U16.ensures
    ∙ sym (slice_range-map (number kind.U16) c.in-U16.groups.now c.args.start c.args.stop)
    ∙ sym (ap (λ w. slice_range (whole_numbers w) c.args.start c.args.stop) c.in-U16.is))
    c.over-in-U16.ensures

pub returns-in-U32 : goal.returns-in-U32
returns-in-U32 g c =
    subst (λ zs. g.P.Pass.tells c.args.pass.now zs c.over-in-U32.result)
    (ap (map (number kind.U32)) c.new-in-U32.ensures
    ∙ sym (slice_range-map (number kind.U32) c.in-U32.groups.now c.args.start c.args.stop)
    ∙ sym (ap (λ w. slice_range (whole_numbers w) c.args.start c.args.stop) c.in-U32.is))
    c.over-in-U32.ensures

pub returns-in-U64 : goal.returns-in-U64
returns-in-U64 g c =
    subst (λ zs. g.P.Pass.tells c.args.pass.now zs c.over-in-U64.result)
    (ap (map (number kind.U64)) c.new-in-U64.ensures
    ∙ sym (slice_range-map (number kind.U64) c.in-U64.groups.now c.args.start c.args.stop)
    ∙ sym (ap (λ w. slice_range (whole_numbers w) c.args.start c.args.stop) c.in-U64.is))
    c.over-in-U64.ensures
