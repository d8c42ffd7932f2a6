use Rattle.std.proofs.Common.{None, ap, sym, ◌∙◌}
use Rattle.awk_types.specs.Limit.{limit}
use Rattle.awk_types.specs.View.{typ_of}
use Rattle.awk_layout.specs.Typing.{array_type}
use Rattle.awk_products.specs.Sources.{AreTuplesOf, AreProducts}
use Rattle.awk_cartesian.proofs.AnswerLaws.{rows_index, offsets_fit, offsets_few, made_type}
use Rattle.awk_cartesian.proofs.AnswerLaws.{made_datum, too_many_made}
use Rattle.awk_cartesian.proofs.crossing.counted.Goals as goal

pub tuples_of-requires-clause-sources : goal.tuples_of-requires-clause-sources
tuples_of-requires-clause-sources g c = c.in_ok-rows.ensures.sources

pub returns-in-None : goal.returns-in-None
returns-in-None g c =
    let m : AreProducts c.args.places c.args.n c.in_ok-rows.rows.sources None =
    rw c.in-None.is at c.in_ok-tuples_of.ensures in
    too_many_made c.args.axis c.args.places c.args.n c.args.xs.now _ c.in_ok-rows.rows
    c.in_ok-rows.ensures c.requires.some c.requires.long m

pub product_node-requires-clause-fits : goal.product_node-requires-clause-fits
product_node-requires-clause-fits g c =
    let s : AreTuplesOf c.args.places c.args.n c.in_ok-rows.rows.sources c.in-Some.tuples =
    rw c.in-Some.is at c.in_ok-tuples_of.ensures in
    offsets_few c.args.places c.args.n c.in_ok-rows.rows.sources c.in-Some.tuples s c.requires.fits

pub product_node-requires-clause-offsets : goal.product_node-requires-clause-offsets
product_node-requires-clause-offsets g c =
    let s : AreTuplesOf c.args.places c.args.n c.in_ok-rows.rows.sources c.in-Some.tuples =
    rw c.in-Some.is at c.in_ok-tuples_of.ensures in
    offsets_fit c.args.places c.args.n c.in_ok-rows.rows.sources c.in-Some.tuples s c.requires.fits

pub product_node-requires-clause-index : goal.product_node-requires-clause-index
product_node-requires-clause-index g c =
    let s : AreTuplesOf c.args.places c.args.n c.in_ok-rows.rows.sources c.in-Some.tuples =
    rw c.in-Some.is at c.in_ok-tuples_of.ensures in
    rows_index c.args.axis c.args.places c.args.n c.args.xs.now c.in_ok-rows.rows c.in-Some.tuples
    c.in_ok-rows.ensures s

pub within_limits-requires-clause-typ : goal.within_limits-requires-clause-typ
within_limits-requires-clause-typ g c =
    let s : AreTuplesOf c.args.places c.args.n c.in_ok-rows.rows.sources c.in-Some.tuples =
    rw c.in-Some.is at c.in_ok-tuples_of.ensures in
    sym (ap array_type c.in_ok-node-in-Some.ensures
    ∙ made_type c.args.axis c.args.places c.args.n c.args.xs.now (typ_of c.args.typ)
    c.requires.typ c.in_ok-rows.rows c.in-Some.tuples c.in_ok-rows.ensures s c.requires.some
    c.requires.long)

pub within_limits-requires-clause-limit : goal.within_limits-requires-clause-limit
within_limits-requires-clause-limit g c =
    let s : AreTuplesOf c.args.places c.args.n c.in_ok-rows.rows.sources c.in-Some.tuples =
    rw c.in-Some.is at c.in_ok-tuples_of.ensures in
    ap limit (ap array_type c.in_ok-node-in-Some.ensures
    ∙ made_type c.args.axis c.args.places c.args.n c.args.xs.now (typ_of c.args.typ)
    c.requires.typ c.in_ok-rows.rows c.in-Some.tuples c.in_ok-rows.ensures s c.requires.some
    c.requires.long) ∙ c.requires.limit

pub returns : goal.returns
returns g c =
    let s : AreTuplesOf c.args.places c.args.n c.in_ok-rows.rows.sources c.in-Some.tuples =
    rw c.in-Some.is at c.in_ok-tuples_of.ensures in
    made_datum c.args.axis c.args.places c.args.n c.args.xs.now (typ_of c.args.typ)
    c.requires.typ c.in_ok-rows.rows c.in-Some.tuples c.in_ok-rows.ensures s c.requires.some
    c.requires.long c.within_limits.result
    (c.within_limits.ensures ∙ c.in_ok-node-in-Some.ensures)
