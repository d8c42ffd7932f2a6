use Rattle.awk_nulls.proofs.rows.opened_rows.Goals as goal

pub rows_over-requires : goal.rows_over-requires
rows_over-requires g c = record {
  opened = rw (c.in-Option.is, c.content.ensures.content) at c.in_ok-index.ensures.opened;
}
