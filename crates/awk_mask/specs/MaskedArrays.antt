-- An array where a mask is over it, after what types tell.
use Rattle.std.specs.Prelude.{ℕ, ◌+◌, Bool, List, [], ◌∷◌, map, Option, Some, Result}
use Rattle.awk_types.specs.Datum.{Datum, arr}
use Rattle.awk_types.specs.Gives.{refused_or, ◌or◌}
use Rattle.awk_types.specs.Simple.{simple, simple_value}
use Rattle.awk_types.specs.declared.fault.Fault.{Fault}
use Rattle.awk_layout.specs.Layout.{Layout}
use Rattle.awk_layout.specs.Typing.{array_type, array_items, array_datum}
use Rattle.awk_mask_pairs.specs.MaskTypes.{mask_levels, levels_refused}
use Rattle.awk_mask_pairs.specs.MaskValues.{masked_type, masked_value, in_pairs, lists_differ}
use Rattle.awk_mask_pairs.specs.MaskValues.{differs}
use Rattle.awk_mask.specs.PutMask.{lengths_refused}

-- how deep an array is paired with m: the arrays are a level themselves
abbrev pub depth_under : Layout → Option ℕ
depth_under m = Some (mask_levels (array_type m) + 1)

-- an array and a mask over it
abbrev pub both : Layout → Layout → List Datum
both m x = array_datum x ∷ array_datum m ∷ []

-- x under m, or that lengths differ, or that some level has too many items
abbrev pub masked_array : Layout → Layout → Bool → Result Datum Fault
masked_array m x keep =
    let made = in_pairs (masked_value (array_type m) keep) (array_items m) (array_items x) in
    let typ = masked_type (array_type m) (array_type x) in
    refused_or (lengths_refused (lists_differ (differs (array_type m)) (array_items m)
    (array_items x)) or levels_refused (array_type m) made)
    (arr (simple typ) (map (simple_value typ) made))
