use Rattle.std.proofs.Common.{◌≡◌, ◌∷◌, [], sym, subst}
use Rattle.std.proofs.lemmas.Result.{IfOk-weaker}
use Rattle.awk_pair_present.specs.Presence.{AreAsLong, ArePresences}
use Rattle.awk_pair_present.proofs.OneOption.{of_only}
use Rattle.awk_pair_present.proofs.PresenceLaws.{presences_long}
use Rattle.awk_pair_present.proofs.present.present_rows.Goals as goal

pub returns-in-Some : goal.returns-in-Some
returns-in-Some g c =
    let e : c.args.xs.now ≡ c.in-Some.x.now ∷ [] = rw c.in-Some.is at c.only_option.ensures.only in
    IfOk-weaker c.present_items.result _ _
    (λ r h. of_only c.args.n c.args.xs.now c.in-Some.x.now r.index r.count r.arrays e h)
    c.present_items.ensures

pub kept_rows-requires-clause-long : goal.kept_rows-requires-clause-long
kept_rows-requires-clause-long g c =
    subst (AreAsLong c.args.n) (sym c.deref.ensures.value)
    (presences_long c.args.n c.args.xs.now c.in_ok-presences.presences.items
    c.in_ok-presences.ensures)

pub returns : goal.returns
returns g c =
    c.in_ok-rows.ensures c.args.xs.now
    (subst (ArePresences c.args.n c.args.xs.now) (sym c.deref.ensures.value)
    c.in_ok-presences.ensures)
