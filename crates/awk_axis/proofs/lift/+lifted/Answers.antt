use Rattle.std.proofs.Common.{◌+◌, arith, rules, ◌≡◌, sym, true, false, ap, ◌∙◌, map, Some}
use Rattle.awk_base.proofs.Results.{if_ok}
use Rattle.awk_layout.specs.Typing.{array_type}
use Rattle.awk_open.specs.Opens.{Opens}
use Rattle.awk_list_functions.proofs.KindLaws.{unknown_accepted, unknown_refused, leaf_refused}
use Rattle.awk_list_functions.specs.Reach.{here, inner}
use Rattle.awk_list_functions.specs.Lift.{refusal_at}
use Rattle.awk_columns.specs.Joined.{IsJoined}
use Rattle.awk_axis.specs.Mapped.{IsAtAxis, IsLifted, AreLifted}
use Rattle.awk_axis.specs.Over.{IsOver}
use Rattle.awk_types.specs.View.{typ_of}
use Rattle.awk_axis.proofs.LiftLaws.{here_told, refusal-list, refusal-list_here, refusal-row}
use Rattle.awk_axis.proofs.LiftLaws.{count_mapped}
use Rattle.awk_axis.proofs.LiftLaws.{reach_mapped, refusal-union, union_mapped}
use Rattle.awk_columns.proofs.ListNodes.{joined_even}
use Rattle.awk_axis.proofs.LiftedLaws.{lists_here, lists_too_many, lists_many_told, lists_spoiled}
use Rattle.awk_axis.proofs.LiftedLaws.{lists_above, option_lifted, option_spoiled, row_lifted}
use Rattle.awk_axis.proofs.LiftedLaws.{row_spoiled, union_lifted, union_spoiled, refusal-get}
use Rattle.awk_axis.proofs.LiftedLaws.{depth-get}
use Rattle.awk_types.specs.DataType.{types_from, depth, depths, greatest}
use Rattle.awk_types.proofs.TypeShapes.{depth-row, depth-option, depth-union}
use Rattle.awk_axis.proofs.Falls.{falls_kind, falls_item, falls_all, falls_each}
use Rattle.awk_layout.specs.Valid.{len}
use Rattle.awk_axis.proofs.AllLaws.{so_far_taken}
use Rattle.awk_open.specs.declared.opening.Opened.TheVariants as opened
use Rattle.awk_columns.specs.declared.lists.Joined.TheVariants as joined
use Rattle.awk_columns.proofs.ListTypes.{depth-list}
use Rattle.awk_axis.specs.declared.lift.Mapped.TheVariants as mapped
use Rattle.awk_axis.specs.declared.lift.AllMapped.TheVariants as all_mapped
use Rattle.awk_axis.proofs.lift.+lifted.Goals as goal

pub lifted-returns-in_err-open_array : goal.lifted-returns-in_err-open_array
lifted-returns-in_err-open_array g t c = search rules

pub lifted-below_unknown-requires-clause-accepted :
    goal.lifted-below_unknown-requires-clause-accepted
lifted-below_unknown-requires-clause-accepted g t c =
    let o : Opens c.args.x.now opened.Empty =
    rw c.in-Empty.is at c.in_ok-open_array.ensures in
    unknown_accepted (g.F.ListOp.function c.args.f.now) c.args.k c.in-Axis.k
    (array_type c.args.x.now) c.in-Axis.is o.typ c.requires

pub lifted-below_unknown-requires-clause-nothing : goal.lifted-below_unknown-requires-clause-nothing
lifted-below_unknown-requires-clause-nothing g t c =
    rw c.in-Empty.is at c.in_ok-open_array.ensures

pub lifted-unreachable-requires : goal.lifted-unreachable-requires
lifted-unreachable-requires g t c =
    let o : Opens c.args.x.now opened.Empty =
    rw c.in-Empty.is at c.in_ok-open_array.ensures in
    unknown_refused (g.F.ListOp.function c.args.f.now) c.args.k (array_type c.args.x.now)
    c.in-Innermost.is o.typ c.requires

pub lifted-unreachable-unreachable : goal.lifted-unreachable-unreachable
lifted-unreachable-unreachable g t c = c.unreachable.result

pub lifted-unreachable-requires-in-Leaf : goal.lifted-unreachable-requires-in-Leaf
lifted-unreachable-requires-in-Leaf g t c =
    let o : Opens c.args.x.now (opened.Leaf c.in-Leaf.field-0) =
    rw c.in-Leaf.is at c.in_ok-open_array.ensures in
    leaf_refused (g.F.ListOp.function c.args.f.now) c.args.k _ (array_type c.args.x.now) o.typ
    c.requires

pub lifted-unreachable-unreachable-in-Leaf : goal.lifted-unreachable-unreachable-in-Leaf
lifted-unreachable-unreachable-in-Leaf g t c = c.unreachable-in-Leaf.result

pub lifted-returns-in-Axis : goal.lifted-returns-in-Axis
lifted-returns-in-Axis g t c = rw c.in-Axis.is c.below_unknown.ensures

pub lifted-returns-in-Items : goal.lifted-returns-in-Items
lifted-returns-in-Items g t c = c.lifted_lists.ensures

pub lifted-returns-in-Row : goal.lifted-returns-in-Row
lifted-returns-in-Row g t c = c.lifted_row.ensures

pub lifted-returns-in-Option : goal.lifted-returns-in-Option
lifted-returns-in-Option g t c = c.lifted_option.ensures

pub lifted-returns-in-Union : goal.lifted-returns-in-Union
lifted-returns-in-Union g t c = c.lifted_union.ensures

pub lifted_lists-at_axis-requires :
    goal.lifted_lists-at_axis-requires
lifted_lists-at_axis-requires g t c =
    let f = g.F.ListOp.function c.args.f.now in
    let e : here c.args.k (array_type c.args.lists.now.content) ≡ true =
    here_told c.args.k (array_type c.args.lists.now.content) (typ_of c.typ.result.now)
    c.is_here.result true (c.typ.ensures.typ ∙ ap array_type c.content.ensures.content)
    c.is_here.ensures c.if-is_here.true in
    record {
      accepted =
          sym (refusal-list_here f c.args.k c.args.lists.now.class
          (array_type c.args.lists.now.content) e)
          ∙ ap (refusal_at f c.args.k) (sym c.requires.opens.typ) ∙ c.requires.accepted;
    }

pub lifted_lists-returns-then-is_here : goal.lifted_lists-returns-then-is_here
lifted_lists-returns-then-is_here g t c =
    let f = g.F.ListOp.function c.args.f.now in
    let e : here c.args.k (array_type c.args.lists.now.content) ≡ true =
    here_told c.args.k (array_type c.args.lists.now.content) (typ_of c.typ.result.now)
    c.is_here.result true (c.typ.ensures.typ ∙ ap array_type c.content.ensures.content)
    c.is_here.ensures c.if-is_here.true in
    if_ok (IsAtAxis f c.args.lists.now.class c.args.lists.now.starts c.args.lists.now.stops
    c.args.lists.now.content)
    (IsLifted f c.args.k c.args.x.now) c.at_axis.result
    (λ m. lists_here f c.args.k c.args.lists.now.class c.args.lists.now.starts
    c.args.lists.now.stops c.args.lists.now.content
    c.args.x.now m e c.requires.opens) c.at_axis.ensures

pub lifted_lists-over_content-requires-clause-accepted :
    goal.lifted_lists-over_content-requires-clause-accepted
lifted_lists-over_content-requires-clause-accepted g t c =
    let f = g.F.ListOp.function c.args.f.now in
    let l = c.args.lists.now in
    let e : here c.args.k (array_type l.content) ≡ false =
    here_told c.args.k (array_type c.args.lists.now.content) (typ_of c.typ.result.now)
    c.is_here.result false (c.typ.ensures.typ ∙ ap array_type c.content.ensures.content)
    c.is_here.ensures c.if-is_here.false in
    sym (refusal-list f c.args.k l.class (array_type l.content) e)
    ∙ ap (refusal_at f c.args.k) (sym c.requires.opens.typ) ∙ c.requires.accepted

pub lifted_lists-over_content-requires-clause-above :
    goal.lifted_lists-over_content-requires-clause-above
lifted_lists-over_content-requires-clause-above g t c =
    here_told c.args.k (array_type c.args.lists.now.content) (typ_of c.typ.result.now)
    c.is_here.result false (c.typ.ensures.typ ∙ ap array_type c.content.ensures.content)
    c.is_here.ensures c.if-is_here.false

pub lifted_lists-returns-in_err-made : goal.lifted_lists-returns-in_err-made
lifted_lists-returns-in_err-made g t c = search rules

pub lifted_lists-returns-in-Some : goal.lifted_lists-returns-in-Some
lifted_lists-returns-in-Some g t c =
    let h : IsOver (g.F.ListOp.function c.args.f.now) c.args.k c.args.lists.now
    (Some c.in-Some.made) = rw c.in-Some.is at c.in_ok-made.ensures in
    h c.args.x.now c.requires.opens

pub lifted_lists-returns-in_err-joined : goal.lifted_lists-returns-in_err-joined
lifted_lists-returns-in_err-joined g t c = search rules

pub lifted_lists-lifted_many-requires : goal.lifted_lists-lifted_many-requires
lifted_lists-lifted_many-requires g t c κs within =
    let e : here c.args.k (array_type c.args.lists.now.content) ≡ false =
    here_told c.args.k (array_type c.args.lists.now.content) (typ_of c.typ.result.now)
    c.is_here.result false (c.typ.ensures.typ ∙ ap array_type c.content.ensures.content)
    c.is_here.ensures c.if-is_here.false in
    let j : IsJoined c.args.lists.now.starts c.args.lists.now.stops c.args.lists.now.content
    joined.TooMany = rw c.in-TooMany.is at c.in_ok-joined.ensures in
    let d : depth (array_type c.args.x.now)
    ≡ depth (array_type c.args.lists.now.content) + 1 =
    ap depth c.requires.opens.typ
    ∙ depth-list c.args.lists.now.class (array_type c.args.lists.now.content) in (
      omega (
        arith,
        falls_all (depth (array_type c.args.x.now))
            (depth (array_type c.args.lists.now.content)) d,
        c.decreases,
      ),
      (
        within.0,
        (within.1, (c.requires.accepted, (c.requires.opens, (e, j)))),
      ),
    )

pub lifted_many-returns-in_err-content : goal.lifted_many-returns-in_err-content
lifted_many-returns-in_err-content g t c = search rules

pub lifted_many-lifted-requires : goal.lifted_many-lifted-requires
lifted_many-lifted-requires g t c κs within =
    let f = g.F.ListOp.function c.args.f.now in
    let u : array_type c.in_ok-content.content ≡ array_type c.args.lists.now.content =
    c.in_ok-content.ensures.typ in (
      omega (
        arith,
        falls_each (depth (array_type c.in_ok-content.content))
            (depth (array_type c.args.lists.now.content)) (omega (arith, ap depth u)),
        c.decreases,
      ),
      (
        within.0,
        (
          within.1,
          ap (λ k. refusal_at f k (array_type c.in_ok-content.content)) c.inner.ensures
              ∙ ap (refusal_at f (inner c.args.k)) u
              ∙ sym (refusal-list f c.args.k c.args.lists.now.class
              (array_type c.args.lists.now.content) c.requires.above)
              ∙ ap (refusal_at f c.args.k) (sym c.requires.opens.typ) ∙ c.requires.accepted,
        ),
      ),
    )

pub lifted_many-returns-in_err-inside : goal.lifted_many-returns-in_err-inside
lifted_many-returns-in_err-inside g t c = search rules

pub lifted_many-returns-in_ok-inside : goal.lifted_many-returns-in_ok-inside
lifted_many-returns-in_ok-inside g t c =
    let f = g.F.ListOp.function c.args.f.now in
    let l = c.args.lists.now in
    lists_many_told f c.args.k l.class l.starts l.stops l.content c.args.x.now
    c.in_ok-content.content c.in_ok-inside.inside c.told_of_many.result c.requires.above
    c.requires.opens c.requires.many c.in_ok-content.ensures
    (rw c.inner.ensures at c.in_ok-inside.ensures) c.told_of_many.ensures

pub lifted_many-returns-else-tells_index : goal.lifted_many-returns-else-tells_index
lifted_many-returns-else-tells_index g t c =
    let f = g.F.ListOp.function c.args.f.now in
    let l = c.args.lists.now in
    lists_too_many f c.args.k l.class l.starts l.stops l.content c.args.x.now
    (c.tells_index.ensures c.if-tells_index.false) c.requires.above c.requires.opens
    c.requires.many

pub lifted_lists-returns-in-TooMany : goal.lifted_lists-returns-in-TooMany
lifted_lists-returns-in-TooMany g t c = c.lifted_many.ensures

pub lifted_lists-lifted-requires : goal.lifted_lists-lifted-requires
lifted_lists-lifted-requires g t c κs within =
    let f = g.F.ListOp.function c.args.f.now in
    let e : here c.args.k (array_type c.args.lists.now.content) ≡ false =
    here_told c.args.k (array_type c.args.lists.now.content) (typ_of c.typ.result.now)
    c.is_here.result false (c.typ.ensures.typ ∙ ap array_type c.content.ensures.content)
    c.is_here.ensures c.if-is_here.false in
    let j : IsJoined c.args.lists.now.starts c.args.lists.now.stops c.args.lists.now.content
    (joined.Lists c.in-Lists.offsets c.in-Lists.content) =
    rw c.in-Lists.is at c.in_ok-joined.ensures in
    let r : refusal_at f (inner c.args.k) (array_type c.args.lists.now.content) ≡ refusal_at f
    c.args.k
    (array_type c.args.x.now) =
    sym (refusal-list f c.args.k c.args.lists.now.class (array_type c.args.lists.now.content) e)
    ∙ ap (refusal_at f c.args.k) (sym c.requires.opens.typ) in
    let d : depth (array_type c.args.x.now) ≡ depth (array_type c.in-Lists.content) + 1 =
    ap depth c.requires.opens.typ ∙ depth-list c.args.lists.now.class
    (array_type c.args.lists.now.content)
    ∙ ap (λ u. depth u + 1) (sym j.1.typ) in (
      omega (
        arith,
        falls_item (depth (array_type c.args.x.now))
            (depth (array_type c.in-Lists.content)) d,
        c.decreases,
      ),
      (
        within.0,
        (
          within.1,
          ap (λ k. refusal_at f k (array_type c.in-Lists.content)) c.inner.ensures
              ∙ ap (refusal_at f (inner c.args.k)) j.1.typ ∙ r ∙ c.requires.accepted,
        ),
      ),
    )

pub lifted_lists-returns-in_err-why-in-Lists : goal.lifted_lists-returns-in_err-why-in-Lists
lifted_lists-returns-in_err-why-in-Lists g t c = search rules

pub lifted_lists-returns-in-Spoiled : goal.lifted_lists-returns-in-Spoiled
lifted_lists-returns-in-Spoiled g t c =
    let f = g.F.ListOp.function c.args.f.now in
    let e : here c.args.k (array_type c.args.lists.now.content) ≡ false =
    here_told c.args.k (array_type c.args.lists.now.content) (typ_of c.typ.result.now)
    c.is_here.result false (c.typ.ensures.typ ∙ ap array_type c.content.ensures.content)
    c.is_here.ensures c.if-is_here.false in
    let j : IsJoined c.args.lists.now.starts c.args.lists.now.stops c.args.lists.now.content
    (joined.Lists c.in-Lists.offsets c.in-Lists.content) =
    rw c.in-Lists.is at c.in_ok-joined.ensures in
    let h : IsLifted f (inner c.args.k) c.in-Lists.content (mapped.Spoiled c.in-Spoiled.why) =
    rw (c.inner.ensures, c.in-Spoiled.is) at c.in_ok-why-in-Lists.ensures in
    lists_spoiled f c.args.k c.args.lists.now.class c.args.lists.now.starts c.args.lists.now.stops
    c.in-Lists.offsets
    c.args.lists.now.content c.in-Lists.content c.args.x.now c.in-Spoiled.why e c.requires.opens j.0
    j.1 h

pub lifted_lists-list_node-requires-clause-offsets :
    goal.lifted_lists-list_node-requires-clause-offsets
lifted_lists-list_node-requires-clause-offsets g t c =
    let f = g.F.ListOp.function c.args.f.now in
    let j : IsJoined c.args.lists.now.starts c.args.lists.now.stops c.args.lists.now.content
    (joined.Lists c.in-Lists.offsets c.in-Lists.content) =
    rw c.in-Lists.is at c.in_ok-joined.ensures in
    let h : IsLifted f (inner c.args.k) c.in-Lists.content (mapped.Column c.in-Column.node) =
    rw (c.inner.ensures, c.in-Column.is) at c.in_ok-why-in-Lists.ensures in
    rw (c.len-n.ensures.len, h.1.size) j.1.offsets

pub lifted_lists-list_node-requires-clause-even : goal.lifted_lists-list_node-requires-clause-even
lifted_lists-list_node-requires-clause-even g t c =
    let j : IsJoined c.args.lists.now.starts c.args.lists.now.stops c.args.lists.now.content
    (joined.Lists c.in-Lists.offsets c.in-Lists.content) =
    rw c.in-Lists.is at c.in_ok-joined.ensures in
    rw (c.class.ensures, c.len-n.ensures.len) (joined_even c.args.lists.now.class
    c.args.lists.now.starts c.args.lists.now.stops
    c.args.lists.now.content c.in-Lists.offsets c.in-Lists.content c.requires.opens.lists.same_class
    j.1)

pub lifted_lists-returns-in_err-node-in-Column : goal.lifted_lists-returns-in_err-node-in-Column
lifted_lists-returns-in_err-node-in-Column g t c = search rules

pub lifted_lists-returns : goal.lifted_lists-returns
lifted_lists-returns g t c =
    let f = g.F.ListOp.function c.args.f.now in
    let e : here c.args.k (array_type c.args.lists.now.content) ≡ false =
    here_told c.args.k (array_type c.args.lists.now.content) (typ_of c.typ.result.now)
    c.is_here.result false (c.typ.ensures.typ ∙ ap array_type c.content.ensures.content)
    c.is_here.ensures c.if-is_here.false in
    let j : IsJoined c.args.lists.now.starts c.args.lists.now.stops c.args.lists.now.content
    (joined.Lists c.in-Lists.offsets c.in-Lists.content) =
    rw c.in-Lists.is at c.in_ok-joined.ensures in
    let h : IsLifted f (inner c.args.k) c.in-Lists.content (mapped.Column c.in-Column.node) =
    rw (c.inner.ensures, c.in-Column.is) at c.in_ok-why-in-Lists.ensures in
    rw (c.in_ok-node-in-Column.ensures, c.class.ensures, c.len-n.ensures.len)
    (lists_above f c.args.k c.args.lists.now.class c.args.lists.now.starts c.args.lists.now.stops
    c.in-Lists.offsets
    c.args.lists.now.content c.in-Lists.content c.args.x.now c.in-Column.node e c.requires.opens j.0
    j.1 h)

pub lifted_option-lifted-requires : goal.lifted_option-lifted-requires
lifted_option-lifted-requires g t c κs within =
    let d : depth (array_type c.args.x.now) ≡ depth (array_type c.args.content.now) + 1 =
    ap depth c.requires.opens.typ ∙ depth-option (array_type c.args.content.now) in (
      omega (
        arith,
        falls_item (depth (array_type c.args.x.now))
            (depth (array_type c.args.content.now)) d,
        c.decreases,
      ),
      (
        within.0,
        (
          within.1,
          ap (refusal_at (g.F.ListOp.function c.args.f.now) c.args.k)
              (sym c.requires.opens.typ) ∙ c.requires.accepted,
        ),
      ),
    )

pub lifted_option-returns-in_err-why : goal.lifted_option-returns-in_err-why
lifted_option-returns-in_err-why g t c = search rules

pub lifted_option-returns-in-Spoiled : goal.lifted_option-returns-in-Spoiled
lifted_option-returns-in-Spoiled g t c =
    let h : IsLifted (g.F.ListOp.function c.args.f.now) c.args.k c.args.content.now
    (mapped.Spoiled c.in-Spoiled.why) = rw c.in-Spoiled.is at c.in_ok-why.ensures in
    option_spoiled (g.F.ListOp.function c.args.f.now) c.args.k c.args.index.now c.args.content.now
    c.args.x.now c.in-Spoiled.why c.requires.opens h

pub lifted_option-returns-in_err-node-in-Column : goal.lifted_option-returns-in_err-node-in-Column
lifted_option-returns-in_err-node-in-Column g t c = search rules

pub lifted_option-indexed_option-requires-clause-length :
    goal.lifted_option-indexed_option-requires-clause-length
lifted_option-indexed_option-requires-clause-length g t c = rw c.copy.ensures c.requires.opens.fits

pub lifted_option-indexed_option-requires-clause-valid :
    goal.lifted_option-indexed_option-requires-clause-valid
lifted_option-indexed_option-requires-clause-valid g t c =
    let h : IsLifted (g.F.ListOp.function c.args.f.now) c.args.k c.args.content.now
    (mapped.Column c.in-Column.node) = rw c.in-Column.is at c.in_ok-why.ensures in
    rw (c.copy.ensures, c.in_ok-node-in-Column.ensures.ok, h.1.size) c.requires.opens.index

pub lifted_option-returns-in_ok-node-in-Column : goal.lifted_option-returns-in_ok-node-in-Column
lifted_option-returns-in_ok-node-in-Column g t c =
    let h : IsLifted (g.F.ListOp.function c.args.f.now) c.args.k c.args.content.now
    (mapped.Column c.in-Column.node) = rw c.in-Column.is at c.in_ok-why.ensures in
    rw (c.indexed_option.ensures.node, c.copy.ensures, c.in_ok-node-in-Column.ensures.ok)
    (option_lifted (g.F.ListOp.function c.args.f.now) c.args.k c.args.index.now
    c.args.content.now c.args.x.now c.in-Column.node c.requires.opens h)

pub lifted_row-lifted_all-requires : goal.lifted_row-lifted_all-requires
lifted_row-lifted_all-requires g t c κs within =
    let ts = types_from (map array_type c.args.columns) in
    let d : depth (array_type c.args.x.now) ≡ greatest (depths ts) + 1 =
    ap depth c.requires.opens.typ ∙ depth-row c.args.names ts in (
      omega (
        arith,
        falls_all (depth (array_type c.args.x.now)) (greatest (depths ts)) d,
        c.decreases,
      ),
      (
        within.0,
        (
          within.1,
          refusal-row (g.F.ListOp.function c.args.f.now) c.args.k c.args.names ts
              (ap (refusal_at (g.F.ListOp.function c.args.f.now) c.args.k)
              (sym c.requires.opens.typ)
              ∙ c.requires.accepted),
        ),
      ),
    )

pub lifted_row-returns-in_err-why : goal.lifted_row-returns-in_err-why
lifted_row-returns-in_err-why g t c = search rules

pub lifted_row-returns-in-Spoiled : goal.lifted_row-returns-in-Spoiled
lifted_row-returns-in-Spoiled g t c =
    let h : AreLifted (g.F.ListOp.function c.args.f.now) c.args.k c.args.columns
    (all_mapped.Spoiled c.in-Spoiled.why) = rw c.in-Spoiled.is at c.in_ok-why.ensures in
    row_spoiled (g.F.ListOp.function c.args.f.now) c.args.k c.args.names c.args.columns c.args.x.now
    c.in-Spoiled.why c.requires.opens h

pub lifted_row-row-requires-clause-length : goal.lifted_row-row-requires-clause-length
lifted_row-row-requires-clause-length g t c = rw c.len.ensures.len c.requires.opens.fits

pub lifted_row-row-requires-clause-names : goal.lifted_row-row-requires-clause-names
lifted_row-row-requires-clause-names g t c =
    let h : AreLifted (g.F.ListOp.function c.args.f.now) c.args.k c.args.columns
    (all_mapped.Columns c.in-Columns.nodes) = rw c.in-Columns.is at c.in_ok-why.ensures in
    rw (count_mapped (g.F.ListOp.function c.args.f.now) c.args.k c.args.columns c.in-Columns.nodes
    h.1) c.requires.opens.are_names

pub lifted_row-row-requires-clause-valid : goal.lifted_row-row-requires-clause-valid
lifted_row-row-requires-clause-valid g t c =
    let h : AreLifted (g.F.ListOp.function c.args.f.now) c.args.k c.args.columns
    (all_mapped.Columns c.in-Columns.nodes) = rw c.in-Columns.is at c.in_ok-why.ensures in
    rw c.len.ensures.len (reach_mapped (g.F.ListOp.function c.args.f.now) c.args.k
    (len c.args.x.now) c.args.columns c.in-Columns.nodes c.requires.opens.lens h.1)

pub lifted_row-returns : goal.lifted_row-returns
lifted_row-returns g t c =
    let h : AreLifted (g.F.ListOp.function c.args.f.now) c.args.k c.args.columns
    (all_mapped.Columns c.in-Columns.nodes) = rw c.in-Columns.is at c.in_ok-why.ensures in
    rw (c.row.ensures.node, c.len.ensures.len)
    (row_lifted (g.F.ListOp.function c.args.f.now) c.args.k c.args.names c.args.columns
    c.in-Columns.nodes c.args.x.now c.requires.opens h.0 h.1)

pub lifted_union-lifted_all-requires : goal.lifted_union-lifted_all-requires
lifted_union-lifted_all-requires g t c κs within =
    let ts = types_from (map array_type c.args.contents.now) in
    let d : depth (array_type c.args.x.now) ≡ greatest (depths ts) + 1 =
    ap depth c.requires.opens.typ ∙ depth-union ts in (
      omega (
        arith,
        falls_all (depth (array_type c.args.x.now)) (greatest (depths ts)) d,
        c.decreases,
      ),
      (
        within.0,
        (
          within.1,
          refusal-union (g.F.ListOp.function c.args.f.now) c.args.k ts
              (ap (refusal_at (g.F.ListOp.function c.args.f.now) c.args.k)
              (sym c.requires.opens.typ)
              ∙ c.requires.accepted),
        ),
      ),
    )

pub lifted_union-returns-in_err-why : goal.lifted_union-returns-in_err-why
lifted_union-returns-in_err-why g t c = search rules

pub lifted_union-returns-in-Spoiled : goal.lifted_union-returns-in-Spoiled
lifted_union-returns-in-Spoiled g t c =
    let h : AreLifted (g.F.ListOp.function c.args.f.now) c.args.k c.args.contents.now
    (all_mapped.Spoiled c.in-Spoiled.why) = rw c.in-Spoiled.is at c.in_ok-why.ensures in
    union_spoiled (g.F.ListOp.function c.args.f.now) c.args.k c.args.tags.now c.args.index.now
    c.args.contents.now c.args.x.now c.in-Spoiled.why c.requires.opens h

pub lifted_union-union-node-requires-clause-length :
    goal.lifted_union-union-node-requires-clause-length
lifted_union-union-node-requires-clause-length g t c = rw c.copy.ensures c.requires.opens.fits

pub lifted_union-union-node-requires-clause-valid :
    goal.lifted_union-union-node-requires-clause-valid
lifted_union-union-node-requires-clause-valid g t c =
    let h : AreLifted (g.F.ListOp.function c.args.f.now) c.args.k c.args.contents.now
    (all_mapped.Columns c.in-Columns.nodes) = rw c.in-Columns.is at c.in_ok-why.ensures in
    rw (c.copy.ensures, c.copy-in-Columns.ensures)
    (union_mapped (g.F.ListOp.function c.args.f.now) c.args.k c.args.tags.now c.args.index.now
    c.args.contents.now c.in-Columns.nodes c.requires.opens.union h.1)

pub lifted_union-returns-in-Columns : goal.lifted_union-returns-in-Columns
lifted_union-returns-in-Columns g t c =
    let h : AreLifted (g.F.ListOp.function c.args.f.now) c.args.k c.args.contents.now
    (all_mapped.Columns c.in-Columns.nodes) = rw c.in-Columns.is at c.in_ok-why.ensures in
    rw (c.union-node.ensures.node, c.copy.ensures, c.copy-in-Columns.ensures)
    (union_lifted (g.F.ListOp.function c.args.f.now) c.args.k c.args.tags.now c.args.index.now
    c.args.contents.now c.in-Columns.nodes c.args.x.now c.requires.opens h.0 h.1)

pub lifted_all-loop-i-preserved : goal.lifted_all-loop-i-preserved
lifted_all-loop-i-preserved g t c =
    so_far_taken (g.F.ListOp.function c.args.f.now) c.args.k c.args.xs.now c.loop-i.i
    c.get.result.now c.in_ok-made.made c.loop-i.first c.in_ok-first.first c.loop-i.nodes
    c.taken.new.nodes c.get.ensures c.in_ok-made.ensures c.in_ok-first.ensures c.loop-i.invariant

pub lifted-lifted_lists-requires : goal.lifted-lifted_lists-requires
lifted-lifted_lists-requires g t c κs within = (
  omega (arith, falls_kind (depth (array_type c.args.x.now)), c.decreases),
  (within.0, (within.1, (c.requires, rw c.in-Items.is at c.in_ok-open_array.ensures))),
)

pub lifted-lifted_row-requires : goal.lifted-lifted_row-requires
lifted-lifted_row-requires g t c κs within = (
  omega (arith, falls_kind (depth (array_type c.args.x.now)), c.decreases),
  (within.0, (within.1, (c.requires, rw c.in-Row.is at c.in_ok-open_array.ensures))),
)

pub lifted-lifted_option-requires : goal.lifted-lifted_option-requires
lifted-lifted_option-requires g t c κs within = (
  omega (arith, falls_kind (depth (array_type c.args.x.now)), c.decreases),
  (within.0, (within.1, (c.requires, rw c.in-Option.is at c.in_ok-open_array.ensures))),
)

pub lifted-lifted_union-requires : goal.lifted-lifted_union-requires
lifted-lifted_union-requires g t c κs within = (
  omega (arith, falls_kind (depth (array_type c.args.x.now)), c.decreases),
  (within.0, (within.1, (c.requires, rw c.in-Union.is at c.in_ok-open_array.ensures))),
)

pub lifted_all-lifted-requires : goal.lifted_all-lifted-requires
lifted_all-lifted-requires g t c κs within = (
  omega (
    arith,
    falls_each (depth (array_type c.get.result.now))
        (greatest (depths (types_from (map array_type c.args.xs.now))))
        (depth-get c.args.xs.now c.loop-i.i c.get.result.now c.get.ensures),
    c.decreases,
  ),
  (
    within.0,
    (
      within.1,
      refusal-get (g.F.ListOp.function c.args.f.now) c.args.k c.args.xs.now
          c.loop-i.i c.get.result.now c.get.ensures c.requires.accepted,
    ),
  ),
)
