-- Each content is as long as the node.
use Rattle.std.proofs.Common.{◌≡◌, replicate, arith, sym, ap, ◌∙◌, refl}
use Rattle.awk_types.proofs.RefusalLaws.{refused_or-Ok}
use Rattle.awk_form.specs.FormTree.{row}
use Rattle.awk_form.specs.Lawful.{count}
use Rattle.awk_valid.specs.Broken.{size_break}
use Rattle.awk_valid.specs.Walked.{container_in}
use Rattle.awk_valid.specs.declared.own.Own.TheVariants.{Rows}
use Rattle.awk_valid.proofs.PartLaws.{same_lengths, part-made, own-places}
use Rattle.awk_valid.proofs.parts.row.Goals as goal

pub returns : goal.returns
returns c key fs t counted =
    let n = c.args.spot.n in
    let small = (refused_or-Ok (size_break n) tt tt c.in_ok-judged_size.ensures).0 in
    let long : c.in_ok-lengths.lengths.items ≡ replicate c.args.contents n =
    first_of (cc, grind arith) in
    part-made (row key c.args.names.now fs) c.args.spot.node n t (Rows c.in_ok-copied.field-0)
    c.in_ok-lengths.lengths
    (own-places (row key c.args.names.now fs) c.args.spot.node n (container_in t) small refl refl)
    (ap Rows (sym c.in_ok-copied.ensures))
    (same_lengths n 0 (count fs) ∙ ap (λ k. replicate k n) counted ∙ sym long)
