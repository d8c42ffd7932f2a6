use Rattle.awk_open.proofs.OpenedKinds.{opened_rows, row_places}
use Rattle.awk_open.proofs.opening.open_rows.Goals as goal

pub gather_all-requires-clause-places : goal.gather_all-requires-clause-places
gather_all-requires-clause-places g c =
    row_places c.args.n c.args.places.now c.args.contents.now c.requires.valid.2 c.requires.places

pub returns : goal.returns
returns g c = record {
  opened =
      opened_rows _ c.in_ok-names.names c.args.n c.args.places.now c.args.contents.now
      c.in_ok-columns.columns c.in_ok-names.ensures c.requires.valid.1 c.requires.small
      c.in_ok-columns.ensures.columns;
}
