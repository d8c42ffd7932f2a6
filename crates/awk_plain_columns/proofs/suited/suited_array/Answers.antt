use Rattle.std.proofs.Common.{◌≡◌, ◌∙◌, ◌++◌, ap, map, subst, sym}
use Rattle.serde_json.specs.View.{view}
use Rattle.awk_types.specs.View.{typ_of}
use Rattle.awk_plain_columns.proofs.RecordColumns.{columns_of}
use Rattle.awk_plain_columns.proofs.SuitedLaws.{views_suit}
use Rattle.awk_plain_columns.specs.Suited.{AllSuit}
use Rattle.awk_plain_columns.proofs.suited.suited_array.Goals as goal

pub column-requires-clause-values : goal.column-requires-clause-values
column-requires-clause-values g c =
    let vs = c.args.items.now.items in
    let t = typ_of c.args.item.now in
    let all : map (λ v. view v.now) c.deref-2.result.now ≡ map view vs =
    ap (map (λ v. view v.now)) c.deref-2.ensures.value
    ∙ c.in_ok-push_all.ensures
    ∙ ap (λ ws. map (λ v. view v.now) ws ++ map view c.deref.result.now) c.new-values.ensures.items
    ∙ ap (map view) c.deref.ensures.value in
    subst (AllSuit t) (sym all) (views_suit t vs c.requires.plain c.requires.suited)

pub column-requires-clause-typ : goal.column-requires-clause-typ
column-requires-clause-typ g c =
    columns_of (typ_of c.args.item.now) c.requires.columns c.requires.typ.is_simple
    c.requires.typ.is_type
