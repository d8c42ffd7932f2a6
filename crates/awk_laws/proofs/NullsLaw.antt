-- The laws of operations on nulls, together.
use Rattle.awk_laws.specs.Nulls.{NullLaws}
use Rattle.awk_laws.proofs.AxisNulls.{fill_none_at}
use Rattle.awk_laws.proofs.FirstNulls.{null_firsts, null_where_num_is_zero}
use Rattle.awk_laws.proofs.ListsInPlace.{lists_in_place}
use Rattle.awk_laws.proofs.NullLaws.{drop_none_of_pad_none, drop_none_of_pad_none_at, unpadded}
use Rattle.awk_laws.proofs.NullLaws.{fill_none_leaves_no_null}
use Rattle.awk_laws.proofs.NullLaws.{flatten_of_singletons, flatten_of_singletons_at}

pub null_laws : NullLaws
null_laws = record {
  drop_none_of_pad_none = drop_none_of_pad_none;
  drop_none_of_pad_none_at = drop_none_of_pad_none_at;
  unpadded = unpadded;
  fill_none_leaves_no_null = fill_none_leaves_no_null;
  fill_none_at = fill_none_at;
  lists_in_place = lists_in_place;
  null_firsts = null_firsts;
  null_where_num_is_zero = null_where_num_is_zero;
  flatten_of_singletons = flatten_of_singletons;
  flatten_of_singletons_at = flatten_of_singletons_at;
}
