use Rattle.std.proofs.Common.{sym, subst}
use Rattle.std.specs.Prelude.{Some}
use Rattle.awk_layout.specs.Layout.{unmasked}
use Rattle.awk_layout.specs.Valid.{IsValid}
use Rattle.awk_nullable_lists.specs.Nullable.{AreLeaves}
use Rattle.awk_nullable_lists.proofs.NullableLaws.{all_leaves}
use Rattle.awk_nullable_lists.proofs.opening.by_none.Goals as goal

pub returns-in-Some : goal.returns-in-Some
returns-in-Some c =
    let n = c.args.count in
    let lane = c.in-Some.lane in
    subst (λ y. AreLeaves (unmasked n y) (λ i. Some i) n lane) (sym c.in-Some.ensures)
    (all_leaves lane n (subst (λ y. IsValid (unmasked n y)) c.in-Some.ensures c.requires))
