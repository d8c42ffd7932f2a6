-- A worked range: of a bit mask, within a byte.
use Rattle.std.specs.Prelude.{◌≡◌, [], ◌∷◌, slice_range, false, pos, refl}
use Rattle.awk_types.specs.Value.{int, null}
use Rattle.awk_bits.specs.Bits.{bits}
use Rattle.awk_lanes.specs.declared.kind.Kind.TheVariants.{I8}
use Rattle.awk_layout.specs.Layout.{Layout, flat, bit_masked}
use Rattle.awk_layout.specs.Typing.{array_items}

-- the numbers 0 to 10, masked by 11 bits from the most significant, where 0 says that a number is
-- there
masked : Layout
masked =
    bit_masked (bits false (66 ∷ 160 ∷ []) 0 11) false
    (flat (record {
      kind = I8;
      items =
          pos 0 ∷ pos 1 ∷ pos 2 ∷ pos 3 ∷ pos 4 ∷ pos 5 ∷ pos 6 ∷ pos 7 ∷ pos 8 ∷ pos 9 ∷ pos 10 ∷
          [];
    }))

three_to_ten : slice_range (array_items masked) 3 10 ≡ int (pos 3) ∷ int (pos 4) ∷ int (pos 5) ∷
    null ∷ int (pos 7) ∷ null ∷ int (pos 9) ∷ []
unfolding masked
three_to_ten = refl
