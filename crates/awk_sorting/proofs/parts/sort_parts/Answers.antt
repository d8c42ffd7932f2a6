use Rattle.std.proofs.Common.{◌∙◌, sym, ap, subst, length}
use Rattle.std.proofs.lemmas.List.Sorted.{length_permutation}
use Rattle.awk_sorting.specs.Parts.{SortsParts}
use Rattle.awk_sorting.proofs.PartLaws.{written_back}
use Rattle.awk_sorting.proofs.parts.sort_parts.Goals as goal

pub returns : goal.returns
returns g c =
    let was = c.args.numbers.now.items in
    let now = c.sort_slice_parts.new.numbers in
    let done : SortsParts g.N.Number.number c.args.up c.args.offsets.now c.args.n was now =
    subst (λ l. SortsParts g.N.Number.number c.args.up c.args.offsets.now c.args.n l now)
    c.deref_mut.ensures.value c.sort_slice_parts.ensures in
    rw (written_back was now c.args.numbers.now.len (length_permutation was now done.same)
    (ap length (sym c.deref_mut.ensures.value) ∙ c.deref_mut.ensures.len)) done
