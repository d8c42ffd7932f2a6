-- Indexes of options that are composed with the options and indexes below them.
use Rattle.awk_layout.specs.Layout.{Layout, empty, flat, regular, lists, offset_lists, rows}
use Rattle.awk_layout.specs.Layout.{indexed, optional, byte_masked, bit_masked, unmasked, union}
use Rattle.awk_gather.specs.Peeled.{IsBare}

-- an index of an option over what is neither an option nor an index
abbrev pub IsComposed : Layout → Type 0
IsComposed (optional j x) = IsBare x
IsComposed empty = ⊥
IsComposed (flat c) = ⊥
IsComposed (regular size n x) = ⊥
IsComposed (lists s t x) = ⊥
IsComposed (offset_lists o x) = ⊥
IsComposed (rows names n xs) = ⊥
IsComposed (indexed j x) = ⊥
IsComposed (byte_masked m v x) = ⊥
IsComposed (bit_masked m v x) = ⊥
IsComposed (unmasked n x) = ⊥
IsComposed (union t j xs) = ⊥
