use Rattle.std.proofs.Common.{◌≡◌, ◌+◌, ◌==◌, ◌∙◌, false, ap, sym, arith, map}
use Rattle.awk_base.proofs.Results.{if_ok}
use Rattle.awk_types.specs.DataType.{depth, depths, greatest, types_from}
use Rattle.awk_types.proofs.TypeShapes.{depth-row, depth-option, depth-union}
use Rattle.awk_layout.specs.Typing.{array_type, array_items}
use Rattle.awk_columns.specs.Joined.{IsJoined}
use Rattle.awk_columns.specs.ListClass.{list_type}
use Rattle.awk_open.specs.Opens.{Opens}
use Rattle.awk_columns.specs.declared.lists.Joined.TheVariants as joined
use Rattle.awk_columns.proofs.ListTypes.{depth-list}
use Rattle.awk_open.specs.declared.opening.Opened.TheVariants as opened
use Rattle.awk_zip.specs.Counted.{lists_refused, all_refused, size_if}
use Rattle.awk_zip.proofs.CountLaws.{row_counted, union_counted, option_counted, leaf_counted}
use Rattle.awk_zip.proofs.CountLaws.{nothing_counted, none-refused, many_counted, lists_counted}
use Rattle.awk_zip.proofs.CountLaws.{all_next, all_found, all_end, depth-get}
use Rattle.awk_zip.proofs.counted.+counted.Goals as goal

pub is_large-returns-then-k-eq0 : goal.is_large-returns-then-k-eq0
is_large-returns-then-k-eq0 g t c =
    let e : c.args.k ≡ 0 = grind (arith, c.if-k-eq0.true) in
    ap (λ k. lists_refused k (array_type c.args.x.now) (array_items c.args.x.now)) e
    ∙ none-refused (array_type c.args.x.now) (array_items c.args.x.now)

pub is_large-opened_large-requires : goal.is_large-opened_large-requires
is_large-opened_large-requires g t c κs within = (
  omega (arith, c.decreases),
  (
    within,
    (c.in_ok-opened.ensures, omega (arith, c.if-k-eq0.false)),
  ),
)

-- ---- lists

pub lists_large-is_large-requires : goal.lists_large-is_large-requires
lists_large-is_large-requires g t c κs within =
    let j : IsJoined c.args.lists.now.starts c.args.lists.now.stops c.args.lists.now.content
    (joined.Lists c.in-Lists.offsets c.in-Lists.content) =
    rw c.in-Lists.is at c.in_ok-joined.ensures in
    let d : depth (array_type c.args.x.now) ≡ depth (array_type c.in-Lists.content) + 1 =
    ap depth (c.requires.opens.typ ∙ ap (list_type c.args.lists.now.class) (sym j.1.typ))
    ∙ depth-list c.args.lists.now.class (array_type c.in-Lists.content) in
    (omega (arith, c.decreases, d), within)

pub lists_large-returns-in-TooMany : goal.lists_large-returns-in-TooMany
lists_large-returns-in-TooMany g t c =
    let e : (c.args.k == 0) ≡ false = grind (arith, c.requires.levels) in
    let j : IsJoined c.args.lists.now.starts c.args.lists.now.stops c.args.lists.now.content
    joined.TooMany = rw c.in-TooMany.is at c.in_ok-joined.ensures in
    many_counted c.args.k c.args.lists.now.class c.args.lists.now.starts c.args.lists.now.stops
    c.args.lists.now.content c.args.x.now c.requires.opens e j

pub lists_large-returns-in_ok-large-in-Lists : goal.lists_large-returns-in_ok-large-in-Lists
lists_large-returns-in_ok-large-in-Lists g t c =
    let e : (c.args.k == 0) ≡ false = grind (arith, c.requires.levels) in
    let j : IsJoined c.args.lists.now.starts c.args.lists.now.stops c.args.lists.now.content
    (joined.Lists c.in-Lists.offsets c.in-Lists.content) =
    rw c.in-Lists.is at c.in_ok-joined.ensures in
    lists_counted c.args.k c.args.lists.now.class c.args.lists.now.starts c.args.lists.now.stops
    c.args.lists.now.content c.args.x.now c.in-Lists.content c.in-Lists.offsets
    c.in_ok-large-in-Lists.large c.requires.opens e j.0 j.1 c.in_ok-large-in-Lists.ensures

-- ---- kinds

pub opened_large-lists_large-requires : goal.opened_large-lists_large-requires
opened_large-lists_large-requires g t c κs within =
    let h : Opens c.args.x.now (opened.Items c.in-Items.lists) =
    rw c.in-Items.is at c.requires.opens in
    (omega (arith, c.decreases), (within, (h, c.requires.levels)))

pub opened_large-any_large-requires : goal.opened_large-any_large-requires
opened_large-any_large-requires g t c κs within =
    let h : Opens c.args.x.now (opened.Row c.in-Row.names c.in-Row.columns) =
    rw c.in-Row.is at c.requires.opens in
    let d : depth (array_type c.args.x.now)
    ≡ greatest (depths (types_from (map array_type c.in-Row.columns))) + 1 =
    ap depth h.typ ∙ depth-row c.in-Row.names (types_from (map array_type c.in-Row.columns)) in
    (omega (arith, c.decreases, d), within)

pub opened_large-is_large-requires : goal.opened_large-is_large-requires
opened_large-is_large-requires g t c κs within =
    let h : Opens c.args.x.now (opened.Option c.in-Option.index c.in-Option.content) =
    rw c.in-Option.is at c.requires.opens in
    let d : depth (array_type c.args.x.now) ≡ depth (array_type c.in-Option.content) + 1 =
    ap depth h.typ ∙ depth-option (array_type c.in-Option.content) in
    (omega (arith, c.decreases, d), within)

pub opened_large-any_large-requires-in-Union : goal.opened_large-any_large-requires-in-Union
opened_large-any_large-requires-in-Union g t c κs within =
    let h : Opens c.args.x.now (opened.Union c.in-Union.tags c.in-Union.index
    c.in-Union.contents) = rw c.in-Union.is at c.requires.opens in
    let d : depth (array_type c.args.x.now)
    ≡ greatest (depths (types_from (map array_type c.in-Union.contents))) + 1 =
    ap depth h.typ ∙ depth-union (types_from (map array_type c.in-Union.contents)) in
    (omega (arith, c.decreases, d), within)

pub opened_large-returns-in-Empty : goal.opened_large-returns-in-Empty
opened_large-returns-in-Empty g t c =
    let h : Opens c.args.x.now opened.Empty = rw c.in-Empty.is at c.requires.opens in
    nothing_counted c.args.k c.args.x.now h

pub opened_large-returns-in-Leaf : goal.opened_large-returns-in-Leaf
opened_large-returns-in-Leaf g t c =
    let h : Opens c.args.x.now (opened.Leaf c.in-Leaf.field-0) =
    rw c.in-Leaf.is at c.requires.opens in
    leaf_counted c.args.k c.in-Leaf.field-0 c.args.x.now h

pub opened_large-returns-in-Row : goal.opened_large-returns-in-Row
opened_large-returns-in-Row g t c =
    let h : Opens c.args.x.now (opened.Row c.in-Row.names c.in-Row.columns) =
    rw c.in-Row.is at c.requires.opens in
    if_ok (λ b. all_refused c.args.k c.in-Row.columns ≡ size_if b)
    (λ b. lists_refused c.args.k (array_type c.args.x.now) (array_items c.args.x.now) ≡ size_if b)
    c.any_large.result
    (λ b r. row_counted c.args.k c.in-Row.names c.in-Row.columns c.args.x.now b h r)
    c.any_large.ensures

pub opened_large-returns-in-Option : goal.opened_large-returns-in-Option
opened_large-returns-in-Option g t c =
    let h : Opens c.args.x.now (opened.Option c.in-Option.index c.in-Option.content) =
    rw c.in-Option.is at c.requires.opens in
    if_ok (λ b. lists_refused c.args.k (array_type c.in-Option.content)
    (array_items c.in-Option.content) ≡ size_if b)
    (λ b. lists_refused c.args.k (array_type c.args.x.now) (array_items c.args.x.now) ≡ size_if b)
    c.is_large.result
    (λ b r. option_counted c.args.k c.in-Option.index c.in-Option.content c.args.x.now b h r)
    c.is_large.ensures

pub opened_large-returns-in-Union : goal.opened_large-returns-in-Union
opened_large-returns-in-Union g t c =
    let h : Opens c.args.x.now (opened.Union c.in-Union.tags c.in-Union.index
    c.in-Union.contents) = rw c.in-Union.is at c.requires.opens in
    if_ok (λ b. all_refused c.args.k c.in-Union.contents ≡ size_if b)
    (λ b. lists_refused c.args.k (array_type c.args.x.now) (array_items c.args.x.now) ≡ size_if b)
    c.any_large-in-Union.result
    (λ b r. union_counted c.args.k c.in-Union.tags c.in-Union.index c.in-Union.contents
    c.args.x.now b h r)
    c.any_large-in-Union.ensures

-- ---- columns

pub any_large-is_large-requires : goal.any_large-is_large-requires
any_large-is_large-requires g t c κs within =
    let p = depth-get c.loop-i.i c.get.result.now c.args.columns.now c.get.ensures in
    (omega (arith, c.decreases, p), within)

pub any_large-returns-then-large : goal.any_large-returns-then-large
any_large-returns-then-large g t c =
    all_found c.args.k c.loop-i.i c.get.result.now c.args.columns.now c.in_ok-large.large
    c.get.ensures c.in_ok-large.ensures c.if-large.true c.loop-i.invariant

pub any_large-loop-i-preserved : goal.any_large-loop-i-preserved
any_large-loop-i-preserved g t c =
    all_next c.args.k c.loop-i.i c.get.result.now c.args.columns.now c.in_ok-large.large
    c.get.ensures c.in_ok-large.ensures c.if-large.false c.loop-i.invariant

pub any_large-returns : goal.any_large-returns
any_large-returns g t c =
    all_end c.args.k c.loop-i.i c.args.columns.now
    (omega (arith, c.loop-i-test.false, c.len-i-end.ensures)) c.loop-i.invariant
