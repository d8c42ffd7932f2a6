use Rattle.std.proofs.Common.{◌≡◌, ◌+◌, ◌-◌, arith, ap, sym, ◌∙◌, subst, length}
use Rattle.std.specs.Prelude.{true}
use Rattle.std.proofs.lemmas.Result.{IfOk-weaker}
use Rattle.awk_types.specs.DataType.{depth}
use Rattle.awk_types.specs.Predicates.{is_leaf}
use Rattle.awk_types.specs.Simple.{present}
use Rattle.awk_types.proofs.TypeShapes.{depth-option}
use Rattle.awk_layout.specs.Typing.{array_type, array_items}
use Rattle.awk_layout.proofs.ArrayItems.{length-array_items}
use Rattle.awk_columns.specs.Joined.{IsJoined}
use Rattle.awk_columns.specs.declared.lists.Joined.TheVariants as joined
use Rattle.awk_hist.specs.Hist.{has_numbers}
use Rattle.awk_hist.specs.Lists.{IsInnermost}
use Rattle.awk_hist.specs.declared.innermost.Innermost.TheVariants as innermost
use Rattle.awk_hist.proofs.InnermostLaws.{innermost_here, lists_many, lists_inner, option_fewer}
use Rattle.awk_hist.proofs.InnermostLaws.{option_inner, option_falls}
use Rattle.awk_hist.proofs.innermost.+innermost.Goals as goal

pub below_lists-returns-in-TooMany : goal.below_lists-returns-in-TooMany
below_lists-returns-in-TooMany g t c =
    let l = c.args.lists.now in
    lists_many l.class l.starts l.stops l.content c.args.x.now c.requires.opens
    (subst (IsJoined l.starts l.stops l.content) c.in-TooMany.is c.in_ok-joined.ensures)

pub below_lists-returns-in-Lists : goal.below_lists-returns-in-Lists
below_lists-returns-in-Lists g t c =
    let l = c.args.lists.now in
    let z = c.in-Lists.content in
    let x = c.args.x.now in
    let j : IsJoined l.starts l.stops l.content (joined.Lists c.in-Lists.offsets z) =
    subst (IsJoined l.starts l.stops l.content) c.in-Lists.is c.in_ok-joined.ensures in
    IfOk-weaker c.innermost_of.result (IsInnermost (array_type z) (array_items z))
    (IsInnermost (array_type x) (array_items x))
    (λ m h. lists_inner l.class l.starts l.stops l.content x c.requires.opens
    c.in-Lists.offsets z j m h) c.innermost_of.ensures

pub below_option-overflow_sub-nulls : goal.below_option-overflow_sub-nulls
below_option-overflow_sub-nulls g t c =
    let x = c.args.x.now in
    let y = c.args.content.now in
    omega (
      arith,
      option_fewer c.args.index.now y x c.requires.opens,
      c.len.ensures.len,
      c.len-2.ensures.len,
      length-array_items x,
      length-array_items y,
    )

pub below_option-innermost_of-requires : goal.below_option-innermost_of-requires
below_option-innermost_of-requires g t c κs within =
    let x = c.args.x.now in
    let y = c.args.content.now in (
      omega (
        arith,
        option_falls (depth (array_type x)) (depth (array_type y))
            (ap depth c.requires.opens.typ ∙ depth-option (array_type y)),
        c.decreases,
      ),
      (
        within,
        (
          ap has_numbers (sym c.requires.opens.typ) ∙ c.requires.numbers,
          omega (
            arith,
            option_fewer c.args.index.now y x c.requires.opens,
            c.requires.few,
          ),
        ),
      ),
    )

pub below_option-returns-in-Column : goal.below_option-returns-in-Column
below_option-returns-in-Column g t c =
    let x = c.args.x.now in
    let y = c.args.content.now in
    let counted : c.len.result - c.len-2.result + length (array_items y) ≡ length (array_items x) =
    omega (
      arith,
      option_fewer c.args.index.now y x c.requires.opens,
      c.len.ensures.len,
      c.len-2.ensures.len,
      length-array_items x,
      length-array_items y,
    ) in
    option_inner c.args.index.now y x c.requires.opens c.in-Column.column c.in-Column.more
    (c.len.result - c.len-2.result) counted c.requires.few
    (subst (IsInnermost (array_type y) (array_items y)) c.in-Column.is
    c.in_ok-innermost_of.ensures)

pub innermost_of-returns-then-are_leaves : goal.innermost_of-returns-then-are_leaves
innermost_of-returns-then-are_leaves g t c =
    let x = c.args.x.now in
    let leaf : is_leaf (present (array_type x)) ≡ true =
    ap (λ t. is_leaf (present t)) (sym c.typ.ensures.typ) ∙ sym c.are_leaves.ensures
    ∙ c.if-are_leaves.true in
    subst (λ q. IsInnermost (array_type x) (array_items x) (innermost.Column q 0))
    (sym c.in_ok-copy.ensures) (innermost_here x leaf c.requires.numbers c.requires.few)
