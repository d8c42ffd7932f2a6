-- One list has the places below its length.
use Rattle.std.proofs.Common.{◌≡◌, arith, subst}
use Rattle.std.specs.Prelude.{IfOk}
use Rattle.awk_lists.proofs.LocalLaws.{local-one}
use Rattle.awk_lists.proofs.indexes.local_items.Goals as goal

pub returns-then-n-eq1 : goal.returns-then-n-eq1
returns-then-n-eq1 g c =
    let l = c.args.places.now.lists.now in
    subst (λ v. IfOk c.ordinals.result (λ r. r ≡ v))
    (local-one l.starts l.stops c.args.n c.args.total (omega (arith, c.if-n-eq1.true))
    c.requires.total)
    c.ordinals.ensures
