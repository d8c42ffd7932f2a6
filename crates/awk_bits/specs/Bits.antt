-- Bits of bytes.
use Rattle.std.specs.Prelude.{ℕ, ◌-◌, ◌/◌, ◌%◌, ◌^◌, List, map, slice_index, Bool, ◌==◌}
use Rattle.std.specs.Prelude.{if◌then◌else◌}
use Rattle.std.specs.List.{range_with_len}

-- bit i of the bytes, from the least significant bit of each byte or from the most significant
abbrev pub bit : Bool → List ℕ → ℕ → Bool
bit lsb_order bytes i =
    (slice_index bytes (i / 8) / 2 ^ (if lsb_order then i % 8 else 7 - i % 8)) % 2 == 1

-- n bits, from bit `first` on
abbrev pub bits : Bool → List ℕ → ℕ → ℕ → List Bool
bits lsb_order bytes first n = map (bit lsb_order bytes) (range_with_len first n)
