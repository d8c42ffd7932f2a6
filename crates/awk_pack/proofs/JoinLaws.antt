-- What joining lists tells, as packing needs it.
use Rattle.std.proofs.Common.{◌≡◌, List, length, Ok, sym}
use Rattle.awk_types.specs.DataType.{DataType}
use Rattle.awk_types.specs.Datum.{arr}
use Rattle.awk_types.specs.Value.{Value}
use Rattle.awk_types.specs.ItemLimit.{too_many}
use Rattle.awk_types.proofs.RefusalLaws.{refused_or-Ok}
use Rattle.awk_lanes.specs.Column.{Column}
use Rattle.awk_layout.specs.Layout.{Layout}
use Rattle.awk_layout.specs.Typing.{array_type, array_datum}
use Rattle.awk_lanes.specs.declared.kind.Kind.TheVariants as kind
use Rattle.awk_columns.specs.Columns.{joined_items, offsets}
use Rattle.awk_columns.specs.ListValues.{joined_datum}
use Rattle.awk_pack.specs.Lanes.{lane_of}
use Rattle.awk_pack.specs.Packing.{IsJoined}

pub joined-is : (y : Layout) (vs : List Value) (o : Column) (z : Layout)
    → joined_datum (array_type y) vs ≡ Ok (array_datum z) → o ≡ lane_of kind.I64 (offsets 0 vs)
    → IsJoined y vs o z
joined-is y vs o z e l =
    let same : arr (array_type y) (joined_items vs) ≡ array_datum z =
    (refused_or-Ok (too_many (length (joined_items vs))) (arr (array_type y) (joined_items vs))
    (array_datum z) e).1 in
    record {
      typ = sym (typ_part same);
      items = sym (items_part same);
      offsets = l;
    }
  where
    typ_part : {t u : DataType} {vs ws : List Value} → arr t vs ≡ arr u ws → t ≡ u
    typ_part e = cc

    items_part : {t u : DataType} {vs ws : List Value} → arr t vs ≡ arr u ws → vs ≡ ws
    items_part e = cc
