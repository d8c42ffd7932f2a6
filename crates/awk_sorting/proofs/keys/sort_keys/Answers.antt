use Rattle.std.proofs.Common.{◌≡◌, ◌∙◌, ap, sym, subst, length, map}
use Rattle.std.proofs.lemmas.List.Sorted.{length_permutation}
use Rattle.std.specs.List.Sorted.{IsPermutation}
use Rattle.std.specs.Prelude.{true}
use Rattle.awk_sorting.specs.Order.{sort_numbers}
use Rattle.awk_sorting.proofs.PartLaws.{written_back}
use Rattle.awk_sorting.proofs.keys.sort_keys.Goals as goal

pub returns : goal.returns
returns g c =
    let f = g.K.Number.number in
    let was = c.args.keys.now.items in
    let now = c.sort.new.numbers in
    let same : IsPermutation was now =
    subst (λ l. IsPermutation l now) c.deref_mut.ensures.value c.sort.ensures.same in
    let order : map f now ≡ sort_numbers true (map f was) =
    subst (λ l. map f now ≡ sort_numbers true (map f l)) c.deref_mut.ensures.value
    c.sort.ensures.order in
    rw (written_back was now c.args.keys.now.len (length_permutation was now same)
    (ap length (sym c.deref_mut.ensures.value) ∙ c.deref_mut.ensures.len)) order
