use Rattle.std.proofs.Common.{◌≡◌, ◌∙◌, ◌+◌, List, ◌∷◌, [], ap, arith, drop, length}
use Rattle.std.proofs.Common.{length-append, map, subst, sym}
use Rattle.std.specs.Prelude.{filter, IfOk}
use Rattle.std.specs.List.{AllByRecursion}
use Rattle.serde_json.specs.Data.{Data}
use Rattle.serde_json.specs.View.{view}
use Rattle.awk_base.proofs.Results.{IfOk-both}
use Rattle.awk_types.proofs.Views.{field_of-out, typ_of-Rec}
use Rattle.awk_types.specs.DataType.{DataType, depth, opt, rec, unknown, var}
use Rattle.awk_types.specs.Parts.{IsList}
use Rattle.awk_types.specs.Simple.{option_of}
use Rattle.awk_types.specs.View.{NamedType, field_of, fields_of, names_of, typ_of, types_of}
use Rattle.awk_columns.specs.Columns.{is_present, joined_items}
use Rattle.awk_layout.specs.Typing.{array_type, array_items}
use Rattle.awk_plain.proofs.TypeSteps.{typ_of-Unknown, typ_of-Var}
use Rattle.awk_plain.specs.Suits.{own_value}
use Rattle.awk_plain_columns.proofs.OptionColumns.{option_typed, own_there, there_suit}
use Rattle.awk_plain_columns.proofs.RecordColumns.{columns_more}
use Rattle.awk_plain_columns.proofs.RecordLaws.{field_columns_at, field_depth, fields_wide}
use Rattle.awk_plain_columns.proofs.RecordLaws.{members_suit_at, types_next}
use Rattle.awk_plain_columns.proofs.SuitedLaws.{all_lists, joined_suit, own_joined, own_views}
use Rattle.awk_plain_columns.proofs.SuitedLaws.{typ_of-Opt, unknown_made}
use Rattle.awk_plain_columns.specs.Suited.{AllSuit, AreColumnsOf, HasColumns, IsColumnOf}
use Rattle.awk_plain_columns.specs.Suited.{joined_data, joined_members, members_at, there}
use Rattle.awk_plain_columns.proofs.suited.+column.Goals as goal

pub column-column-requires : goal.column-column-requires
column-column-requires g t c κs within =
    let ds = map (λ v. view v.now) c.args.values.now in
    let u = typ_of c.in-Var.item.value in
    let typ : typ_of c.args.typ.now ≡ var u = ap typ_of c.in-Var.is ∙ typ_of-Var c.in-Var.item in
    let same : u ≡ typ_of c.deref.result.now = sym (ap typ_of c.deref.ensures) in
    let items : joined_data ds ≡ map (λ v. view v.now) c.deref-in-Var.result.now =
    sym (ap (map (λ v. view v.now)) c.deref-in-Var.ensures.value ∙ c.in_ok-items-in-Var.ensures) in
    let has : HasColumns (typ_of c.deref.result.now) =
    subst HasColumns same (subst HasColumns typ c.requires.typ) in
    let suited : AllSuit (typ_of c.deref.result.now)
    (map (λ v. view v.now) c.deref-in-Var.result.now) =
    subst (λ es. AllSuit (typ_of c.deref.result.now) es) items
    (subst (λ w. AllSuit w (joined_data ds)) same
    (joined_suit u ds (subst (λ w. AllSuit w ds) typ c.requires.values))) in
    (omega (arith, c.decreases, ap depth typ, ap depth same), (within, (has, suited)))

pub column-list_column-requires-clause-lists : goal.column-list_column-requires-clause-lists
column-list_column-requires-clause-lists g t c =
    let xs = c.args.values.now in
    let ds = map (λ v. view v.now) xs in
    let u = typ_of c.in-Var.item.value in
    let typ : typ_of c.args.typ.now ≡ var u = ap typ_of c.in-Var.is ∙ typ_of-Var c.in-Var.item in
    subst (AllByRecursion IsList) (sym (own_views (λ v. view v.now) xs))
    (all_lists u ds (subst (λ w. AllSuit w ds) typ c.requires.values))

pub column-list_column-requires-clause-items : goal.column-list_column-requires-clause-items
column-list_column-requires-clause-items g t c =
    let xs = c.args.values.now in
    let ds = map (λ v. view v.now) xs in
    c.in_ok-content-in-Var.ensures.items
    ∙ ap (λ vs. map own_value (map (λ v. view v.now) vs)) c.deref-in-Var.ensures.value
    ∙ ap (map own_value) c.in_ok-items-in-Var.ensures ∙ sym (own_joined ds)
    ∙ ap joined_items (sym (own_views (λ v. view v.now) xs))

pub column-returns-in-Unknown : goal.column-returns-in-Unknown
column-returns-in-Unknown g t c =
    let ds = map (λ v. view v.now) c.args.values.now in
    let typ : typ_of c.args.typ.now ≡ unknown = ap typ_of c.in-Unknown.is ∙ typ_of-Unknown in
    subst (λ w. IsColumnOf w ds c.empty.result) (sym typ)
    (unknown_made ds c.empty.result (subst (λ w. AllSuit w ds) typ c.requires.values)
    c.empty.ensures.node)

pub column-returns-in_ok-content-in-Var : goal.column-returns-in_ok-content-in-Var
column-returns-in_ok-content-in-Var g t c =
    let xs = c.args.values.now in
    let ds = map (λ v. view v.now) xs in
    let u = typ_of c.in-Var.item.value in
    let z = c.in_ok-content-in-Var.content in
    let typ : typ_of c.args.typ.now ≡ var u = ap typ_of c.in-Var.is ∙ typ_of-Var c.in-Var.item in
    subst (λ w. IfOk c.list_column.result (IsColumnOf w ds)) (sym typ)
    (IfOk-both c.list_column.result (λ y. array_type y ≡ var (array_type z))
    (λ y. array_items y ≡ map (λ v. own_value (view v.now)) xs) (IsColumnOf (var u) ds)
    (λ y e f. record {
      typ =
          e ∙ ap var (c.in_ok-content-in-Var.ensures.typ ∙ ap typ_of c.deref.ensures);
      items = f ∙ own_views (λ v. view v.now) xs;
    }) c.list_column.ensures.typ c.list_column.ensures.items)

-- ---- options

pub column-column-requires-in-Opt : goal.column-column-requires-in-Opt
column-column-requires-in-Opt g t c κs within =
    let ds = map (λ v. view v.now) c.args.values.now in
    let u = typ_of c.in-Opt.item.value in
    let typ : typ_of c.args.typ.now ≡ opt u = ap typ_of c.in-Opt.is ∙ typ_of-Opt c.in-Opt.item in
    let same : u ≡ typ_of c.deref-in-Opt.result.now = sym (ap typ_of c.deref-in-Opt.ensures) in
    let items : there ds ≡ map (λ v. view v.now) c.deref-in-Opt-2.result.now =
    sym (ap (map (λ v. view v.now)) c.deref-in-Opt-2.ensures.value
    ∙ c.in_ok-present-in-Opt.ensures) in
    let has : HasColumns (opt u) = subst HasColumns typ c.requires.typ in
    let suited : AllSuit (typ_of c.deref-in-Opt.result.now)
    (map (λ v. view v.now) c.deref-in-Opt-2.result.now) =
    subst (λ es. AllSuit (typ_of c.deref-in-Opt.result.now) es) items
    (subst (λ w. AllSuit w (there ds)) same
    (there_suit u ds has.0 (subst (λ w. AllSuit w ds) typ c.requires.values))) in (
      omega (arith, c.decreases, ap depth typ, ap depth same),
      (within, (subst HasColumns same has.1, suited)),
    )

pub column-option_column-requires : goal.column-option_column-requires
column-option_column-requires g t c =
    let xs = c.args.values.now in
    let ds = map (λ v. view v.now) xs in
    record {
      items =
          c.in_ok-content-in-Opt.ensures.items
          ∙ ap (λ vs. map own_value (map (λ v. view v.now) vs)) c.deref-in-Opt-2.ensures.value
          ∙ ap (map own_value) c.in_ok-present-in-Opt.ensures ∙ sym (own_there ds)
          ∙ ap (filter is_present) (sym (own_views (λ v. view v.now) xs));
    }

pub column-returns-in_ok-content-in-Opt : goal.column-returns-in_ok-content-in-Opt
column-returns-in_ok-content-in-Opt g t c =
    let xs = c.args.values.now in
    let ds = map (λ v. view v.now) xs in
    let u = typ_of c.in-Opt.item.value in
    let z = c.in_ok-content-in-Opt.content in
    let typ : typ_of c.args.typ.now ≡ opt u = ap typ_of c.in-Opt.is ∙ typ_of-Opt c.in-Opt.item in
    let has : HasColumns (opt u) = subst HasColumns typ c.requires.typ in
    subst (λ w. IfOk c.option_column.result (IsColumnOf w ds)) (sym typ)
    (IfOk-both c.option_column.result (λ y. array_type y ≡ option_of (array_type z))
    (λ y. array_items y ≡ map (λ v. own_value (view v.now)) xs) (IsColumnOf (opt u) ds)
    (λ y e f. record {
      typ =
          e
          ∙ ap option_of (c.in_ok-content-in-Opt.ensures.typ ∙ ap typ_of c.deref-in-Opt.ensures)
          ∙ option_typed u has.0;
      items = f ∙ own_views (λ v. view v.now) xs;
    }) c.option_column.ensures.typ c.option_column.ensures.items)

-- ---- records

pub column-field_columns-requires : goal.column-field_columns-requires
column-field_columns-requires g t c κs within =
    let ds = map (λ v. view v.now) c.args.values.now in
    let fs = fields_of c.in-Rec.fields in
    let r = rec (names_of fs) (types_of fs) in
    let typ : typ_of c.args.typ.now ≡ r = ap typ_of c.in-Rec.is ∙ typ_of-Rec c.in-Rec.fields in
    let has : HasColumns r = subst HasColumns typ c.requires.typ in
    let suited : AllSuit r ds = subst (λ w. AllSuit w ds) typ c.requires.values in
    let parts : map (λ v. view v.now) c.deref-in-Rec.result.now ≡ joined_members ds =
    ap (map (λ v. view v.now)) c.deref-in-Rec.ensures.value ∙ c.in_ok-parts-in-Rec.ensures in
    (omega (arith, c.decreases, ap depth typ), (within, (has.1, (suited, parts))))

pub column-record_column-requires-clause-names : goal.column-record_column-requires-clause-names
column-record_column-requires-clause-names g t c =
    let fs = fields_of c.in-Rec.fields in
    let r = rec (names_of fs) (types_of fs) in
    let typ : typ_of c.args.typ.now ≡ r = ap typ_of c.in-Rec.is ∙ typ_of-Rec c.in-Rec.fields in
    let has : HasColumns r = subst HasColumns typ c.requires.typ in
    has.0.1

pub column-record_column-requires-clause-values : goal.column-record_column-requires-clause-values
column-record_column-requires-clause-values g t c =
    let ds = map (λ v. view v.now) c.args.values.now in
    subst (λ w. AllSuit w ds) (ap typ_of c.in-Rec.is ∙ typ_of-Rec c.in-Rec.fields)
    c.requires.values

pub column-returns-in_ok-columns-in-Rec : goal.column-returns-in_ok-columns-in-Rec
column-returns-in_ok-columns-in-Rec g t c =
    let ds = map (λ v. view v.now) c.args.values.now in
    subst (λ w. IfOk c.record_column.result (IsColumnOf w ds))
    (sym (ap typ_of c.in-Rec.is ∙ typ_of-Rec c.in-Rec.fields)) c.record_column.ensures

-- ---- the columns of fields

suited_like : (t u : DataType) (ds es : List Data) → t ≡ u → es ≡ ds → AllSuit t ds → AllSuit u es
suited_like t u ds es e f a = subst (AllSuit u) (sym f) (subst (λ w. AllSuit w ds) e a)

pub field_columns-members_at-requires-clause-wide :
    goal.field_columns-members_at-requires-clause-wide
field_columns-members_at-requires-clause-wide g t c =
    fields_wide (fields_of c.args.fields.now) c.len.result
    (map (λ v. view v.now) c.args.values.now) c.len.ensures c.requires.values

pub field_columns-column-requires : goal.field_columns-column-requires
field_columns-column-requires g t c κs within =
    let ds = map (λ v. view v.now) c.args.values.now in
    let fs = fields_of c.args.fields.now in
    let k = c.loop-k.k in
    let x = c.get.result.now in
    let f = field_of x in
    let same : f.typ ≡ typ_of x.typ = ap (λ (h : NamedType). h.typ) (field_of-out x) in
    let members : map (λ v. view v.now) c.deref.result.now ≡ members_at k ds =
    ap (map (λ v. view v.now)) c.deref.ensures.value ∙ c.in_ok-members.ensures in
    let suited : AllSuit (typ_of x.typ) (map (λ v. view v.now) c.deref.result.now) =
    suited_like f.typ (typ_of x.typ) (members_at k ds) (map (λ v. view v.now) c.deref.result.now)
    same members (members_suit_at fs k f ds c.requires.values c.get.ensures.item) in
    let has : HasColumns (typ_of x.typ) =
    subst HasColumns same (field_columns_at fs k f c.requires.typ c.get.ensures.item) in (
      omega (arith, c.decreases, field_depth fs k f c.get.ensures.item, ap depth same),
      (within, (has, suited)),
    )

pub field_columns-loop-k-preserved : goal.field_columns-loop-k-preserved
field_columns-loop-k-preserved g t c =
    let ds = map (λ v. view v.now) c.args.values.now in
    let fs = fields_of c.args.fields.now in
    let ts = map (λ (h : NamedType). h.typ) fs in
    let k = c.loop-k.k in
    let x = c.get.result.now in
    let f = field_of x in
    let xs = c.loop-k.columns in
    let z = c.in_ok-column.field-0 in
    let left = map (λ (h : NamedType). h.typ) (drop (k + 1) fs) in
    let same : f.typ ≡ typ_of x.typ = ap (λ (h : NamedType). h.typ) (field_of-out x) in
    let members : map (λ v. view v.now) c.deref.result.now ≡ members_at k ds =
    ap (map (λ v. view v.now)) c.deref.ensures.value ∙ c.in_ok-members.ensures in
    let made : IsColumnOf f.typ (members_at k ds) z =
    subst (λ es. IsColumnOf f.typ es z) members
    (subst (λ w. IsColumnOf w (map (λ v. view v.now) c.deref.result.now) z) (sym same)
    c.in_ok-column.ensures) in
    let before : AreColumnsOf 0 ts ds xs (f.typ ∷ left) =
    subst (AreColumnsOf 0 ts ds xs) (types_next fs k f c.get.ensures.item) c.loop-k.invariant.0 in (
      subst (λ ys. AreColumnsOf 0 ts ds ys left) (sym c.in_ok-push.ensures.ok)
          (columns_more 0 k ts ds xs f.typ left z (omega (arith, c.loop-k.invariant.1)) before
          made),
      omega (
        arith,
        c.loop-k.invariant.1,
        ap length c.in_ok-push.ensures.ok,
        length-append xs (z ∷ []),
      ),
    )
