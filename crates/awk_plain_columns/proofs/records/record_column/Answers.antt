use Rattle.std.proofs.Common.{length, map, sym}
use Rattle.std.proofs.lemmas.List.{length-map}
use Rattle.serde_json.specs.View.{view}
use Rattle.awk_types.specs.View.{NamedType, fields_of}
use Rattle.awk_plain_columns.proofs.RecordColumns.{columns_named, columns_reach, record_made}
use Rattle.awk_plain_columns.proofs.records.record_column.Goals as goal

pub row-requires-clause-names : goal.row-requires-clause-names
row-requires-clause-names g c =
    columns_named (fields_of c.args.fields.now) c.in_ok-names.names
    (map (λ v. view v.now) c.args.values.now) c.args.columns c.in_ok-names.ensures
    c.requires.names c.requires.columns

pub row-requires-clause-valid : goal.row-requires-clause-valid
row-requires-clause-valid g c =
    let xs = c.args.values.now in
    columns_reach 0 (length xs) (map (λ (f : NamedType). f.typ) (fields_of c.args.fields.now))
    (map (λ v. view v.now) xs) c.args.columns c.requires.columns
    (sym (length-map xs (λ v. view v.now)))

pub returns : goal.returns
returns g c =
    let xs = c.args.values.now in
    record_made (fields_of c.args.fields.now) c.in_ok-names.names (length xs)
    (map (λ v. view v.now) xs) c.args.columns c.row.result c.in_ok-names.ensures
    c.requires.values c.requires.columns (sym (length-map xs (λ v. view v.now)))
    c.row.ensures.node
