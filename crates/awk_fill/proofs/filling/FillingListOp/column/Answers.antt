use Rattle.std.proofs.Common.{◌≡◌, None, subst, sym}
use Rattle.awk_columns.specs.Joined.{IsJoined}
use Rattle.awk_columns.specs.declared.lists.Joined.TheVariants.{Lists}
use Rattle.awk_layout.specs.Filler.{filler_of}
use Rattle.awk_layout.specs.Typing.{array_type}
use Rattle.awk_fill.specs.Filled.{IsFilled}
use Rattle.awk_fill.specs.FillNone.{filler_refusal}
use Rattle.awk_fill.proofs.FillLaws.{filled_given, filled_spoilt, filled_fine}
use Rattle.awk_fill.proofs.filling.FillingListOp.column.Goals as goal

pub returns-then-lie_still : goal.returns-then-lie_still
returns-then-lie_still g c = c.in_ok-made.ensures (filler_of c.args.self.now)

pub returns-in-TooMany : goal.returns-in-TooMany
returns-in-TooMany g c = filled_spoilt (filler_of c.args.self.now) c.args.lists.now.starts
    c.args.lists.now.stops c.args.lists.now.content (rw c.in-TooMany.is at c.in_ok-joined.ensures)

pub filled-requires-clause-accepted : goal.filled-requires-clause-accepted
filled-requires-clause-accepted g c =
    let j : IsJoined c.args.lists.now.starts c.args.lists.now.stops c.args.lists.now.content
    (Lists c.in-Lists.offsets c.in-Lists.content) =
    rw c.in-Lists.is at c.in_ok-joined.ensures in
    let h = subst (λ t. filler_refusal (filler_of c.args.self.now) t ≡ None) (sym (j.1).typ)
    c.requires.accepted in
    subst (λ v. filler_refusal (filler_of v) (array_type c.in-Lists.content) ≡ None)
    (sym c.self.view_is) h

pub returns-in_ok-items-in-Lists : goal.returns-in_ok-items-in-Lists
returns-in_ok-items-in-Lists g c =
    let j : IsJoined c.args.lists.now.starts c.args.lists.now.stops c.args.lists.now.content
    (Lists c.in-Lists.offsets c.in-Lists.content) =
    rw c.in-Lists.is at c.in_ok-joined.ensures in
    let f = filler_of c.args.self.now in
    let h : IsFilled f c.in-Lists.content c.in_ok-items-in-Lists.items =
    subst (λ v. IsFilled (filler_of v) c.in-Lists.content c.in_ok-items-in-Lists.items)
    c.self.view_is c.in_ok-items-in-Lists.ensures in (
      filled_fine f c.args.lists.now.starts c.args.lists.now.stops c.args.lists.now.content j.0,
      filled_given f c.args.lists.now.class c.args.lists.now.starts c.args.lists.now.stops
          c.args.lists.now.content
          c.in-Lists.offsets c.in-Lists.content c.in_ok-items-in-Lists.items c.content.ensures.lists
          j.1 h,
    )
