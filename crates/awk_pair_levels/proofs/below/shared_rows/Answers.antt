use Rattle.std.proofs.Common.{◌≡◌, arith, sym, subst, refl, true, ◌∙◌}
use Rattle.std.specs.Prelude.{IfOk}
use Rattle.std.proofs.lemmas.Option.{slice_get_within}
use Rattle.awk_lanes.specs.Places.{size_of}
use Rattle.awk_columns.specs.Lists.{length_of}
use Rattle.awk_pair_levels.specs.Shares.{any_differ, AreAsLong, IsShared}
use Rattle.awk_pair_levels.specs.declared.shares.Share.TheVariants.{Lists}
use Rattle.awk_pair_levels.proofs.EvenLaws.{among_get, among_long, rows_differ, alike_even}
use Rattle.awk_pair_levels.proofs.InRowLaws.{of_get, some_ends}
use Rattle.awk_pair_levels.proofs.below.shared_rows.Goals as goal

pub get-requires : goal.get-requires
get-requires g c =
    omega (
      arith,
      c.requires.same,
      slice_get_within c.args.shares.now c.lead_in-lead.result.place
          (Lists c.lead_in-lead.result.lists.now) c.lead_in-lead.ensures,
    )

pub are_alike-requires-clause-ends : goal.are_alike-requires-clause-ends
are_alike-requires-clause-ends g c =
    let l = c.lead_in-lead.result.lists.now in
    some_ends c.get.result.now l c.own_ends-ends.result c.own_ends-ends.ensures
    (of_get c.args.xs.now c.args.shares.now c.lead_in-lead.result.place c.get.result.now
    (Lists l) c.get.ensures c.lead_in-lead.ensures c.requires.of)

pub are_alike-requires-clause-long : goal.are_alike-requires-clause-long
are_alike-requires-clause-long g c =
    let l = c.lead_in-lead.result.lists.now in
    let a = among_get c.args.shares.now c.lead_in-lead.result.place (Lists l) l
    c.lead_in-lead.ensures refl in
    subst (λ n. AreAsLong n c.args.shares.now)
    (sym (among_long c.args.n l c.args.shares.now a c.requires.long)) c.requires.long

pub returns-then-not-are_alike : goal.returns-then-not-are_alike
returns-then-not-are_alike g c =
    let l = c.lead_in-lead.result.lists.now in
    let a = among_get c.args.shares.now c.lead_in-lead.result.place (Lists l) l
    c.lead_in-lead.ensures refl in
    subst (λ n. any_differ c.args.shares.now n ≡ true)
    (among_long c.args.n l c.args.shares.now a c.requires.long)
    (rows_differ l (size_of l.starts) c.args.shares.now a
    (sym c.are_alike.ensures ∙ c.if-not-are_alike.true))

pub rows_by-requires-clause-ends : goal.rows_by-requires-clause-ends
rows_by-requires-clause-ends g c =
    let l = c.lead_in-lead.result.lists.now in
    some_ends c.get.result.now l c.own_ends-ends.result c.own_ends-ends.ensures
    (of_get c.args.xs.now c.args.shares.now c.lead_in-lead.result.place c.get.result.now
    (Lists l) c.get.ensures c.lead_in-lead.ensures c.requires.of)

pub rows_by-requires-clause-long : goal.rows_by-requires-clause-long
rows_by-requires-clause-long g c =
    let l = c.lead_in-lead.result.lists.now in
    let a = among_get c.args.shares.now c.lead_in-lead.result.place (Lists l) l
    c.lead_in-lead.ensures refl in
    subst (λ n. AreAsLong n c.args.shares.now)
    (sym (among_long c.args.n l c.args.shares.now a c.requires.long)) c.requires.long

pub rows_by-requires-clause-lead : goal.rows_by-requires-clause-lead
rows_by-requires-clause-lead g c =
    among_get c.args.shares.now c.lead_in-lead.result.place
    (Lists c.lead_in-lead.result.lists.now) c.lead_in-lead.result.lists.now
    c.lead_in-lead.ensures refl

pub rows_by-requires-clause-even : goal.rows_by-requires-clause-even
rows_by-requires-clause-even g c =
    let l = c.lead_in-lead.result.lists.now in
    alike_even (length_of l) (size_of l.starts) c.args.shares.now
    (sym c.are_alike.ensures ∙ c.if-not-are_alike.false)

pub returns : goal.returns
returns g c =
    let l = c.lead_in-lead.result.lists.now in
    let a = among_get c.args.shares.now c.lead_in-lead.result.place (Lists l) l
    c.lead_in-lead.ensures refl in
    subst (λ n. IfOk c.rows_by.result (IsShared n c.args.shares.now))
    (among_long c.args.n l c.args.shares.now a c.requires.long) c.rows_by.ensures
