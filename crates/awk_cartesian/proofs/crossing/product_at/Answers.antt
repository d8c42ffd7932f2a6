use Rattle.std.proofs.Common.{◌≡◌, ◌∙◌, Some, Err, ap, sym, subst, map, arith}
use Rattle.std.specs.Option.{option_map}
use Rattle.std.specs.Prelude.{⊤}
use Rattle.std.proofs.lemmas.Option.{MatchOption-at_some}
use Rattle.awk_types.proofs.RefusalLaws.{Gives-Err, refused_or-Ok}
use Rattle.awk_types.specs.DataType.{DataType}
use Rattle.awk_types.specs.Faults.{fault_told}
use Rattle.awk_types.specs.Gives.{Gives}
use Rattle.awk_types.specs.Simple.{IsSimple}
use Rattle.awk_types.specs.View.{typ_of}
use Rattle.awk_layout.specs.Datum.{datum_of}
use Rattle.awk_layout.specs.Typing.{array_datum}
use Rattle.awk_merge_operands.specs.Operands.{column_in}
use Rattle.awk_cartesian.specs.Cartesian.{product_type, item_types}
use Rattle.awk_cartesian.specs.Products.{rows_fault, count_of}
use Rattle.awk_cartesian.proofs.WholeLaws.{limit_gives, type_fine, rows_told, counted_is}
use Rattle.awk_cartesian.proofs.WholeLaws.{listed_by, rows_long}
use Rattle.awk_cartesian.proofs.crossing.product_at.Goals as goal

pub returns-in_err-typ-2 : goal.returns-in_err-typ-2
returns-in_err-typ-2 g c =
    let ds = c.args.xs.now in
    let u : DataType = typ_of c.in-Some.typ in
    let e : Some u ≡ option_map (product_type c.args.axis c.args.places (map datum_of ds))
    (item_types c.args.axis (map datum_of ds)) =
    ap (option_map typ_of) (sym c.in-Some.is) ∙ c.in_ok-typ.ensures.typ in
    limit_gives c.args.axis c.args.places ds u e
    (MatchOption-at_some ⊤ (λ t. IsSimple (typ_of t)) c.in-Some.typ c.in-Some.is
    c.in_ok-typ.ensures.simple) c.in_err-typ-2.field-0.0 c.from_residual-in_err-typ-2.result
    c.from_residual-in_err-typ-2.ensures.1 c.in_err-typ-2.ensures.gives

pub returns-in_err-n : goal.returns-in_err-n
returns-in_err-n g c =
    let ds = c.args.xs.now in
    let u : DataType = typ_of c.in-Some.typ in
    let t : DataType = typ_of c.in_ok-typ-2.typ in
    let f = type_fine u t
    (MatchOption-at_some ⊤ (λ t. IsSimple (typ_of t)) c.in-Some.typ c.in-Some.is
    c.in_ok-typ.ensures.simple) c.in_ok-typ-2.ensures.gives in
    let e : Some t ≡ option_map (product_type c.args.axis c.args.places (map datum_of ds))
    (item_types c.args.axis (map datum_of ds)) =
    ap Some (sym f.1) ∙ ap (option_map typ_of) (sym c.in-Some.is) ∙ c.in_ok-typ.ensures.typ in
    let failed : c.from_residual-in_err-n.result ≡ Err c.in_err-n.field-0.0 = grind arith in
    Gives-Err array_datum fault_told c.from_residual-in_err-n.result c.in_err-n.field-0.0 _ failed
    (rows_told c.args.axis c.args.places ds t e f.0 (fault_told c.in_err-n.field-0.0)
    c.in_err-n.ensures)

pub counted-requires-clause-lists : goal.counted-requires-clause-lists
counted-requires-clause-lists g c =
    listed_by c.args.axis c.args.places c.args.xs.now (typ_of c.in-Some.typ)
    (ap (option_map typ_of) (sym c.in-Some.is) ∙ c.in_ok-typ.ensures.typ)

pub counted-requires-clause-long : goal.counted-requires-clause-long
counted-requires-clause-long g c =
    let vss = map column_in c.args.xs.now in
    let both = refused_or-Ok (rows_fault c.args.axis vss) (count_of c.args.axis vss) c.in_ok-n.n
    c.in_ok-n.ensures in
    rows_long c.in_ok-n.n c.args.xs.now c.args.axis both.0 both.1

pub returns : goal.returns
returns g c =
    let ds = c.args.xs.now in
    let vss = map column_in ds in
    let u : DataType = typ_of c.in-Some.typ in
    let t : DataType = typ_of c.in_ok-typ-2.typ in
    let f = type_fine u t
    (MatchOption-at_some ⊤ (λ t. IsSimple (typ_of t)) c.in-Some.typ c.in-Some.is
    c.in_ok-typ.ensures.simple) c.in_ok-typ-2.ensures.gives in
    let e : Some t ≡ option_map (product_type c.args.axis c.args.places (map datum_of ds))
    (item_types c.args.axis (map datum_of ds)) =
    ap Some (sym f.1) ∙ ap (option_map typ_of) (sym c.in-Some.is) ∙ c.in_ok-typ.ensures.typ in
    let both = refused_or-Ok (rows_fault c.args.axis vss) (count_of c.args.axis vss) c.in_ok-n.n
    c.in_ok-n.ensures in
    subst (Gives array_datum fault_told c.counted.result)
    (counted_is c.args.axis c.args.places ds t e f.0 both.0) c.counted.ensures
