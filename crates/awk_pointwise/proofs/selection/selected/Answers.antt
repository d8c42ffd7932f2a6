use Rattle.awk_pointwise.proofs.selection.selected.Goals as goal

pub selected_ints-requires : goal.selected_ints-requires
selected_ints-requires g c = record {
  other = c.in_default.not-U64;
  a = c.requires.a;
  b = c.requires.b;
  first = c.requires.first;
  second = c.requires.second;
}
