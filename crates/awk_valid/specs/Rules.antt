-- The rules over lists of numbers, place by place.
use Rattle.std.specs.Prelude.{ℕ, List, Option, get_or, ℤ, pos}
use Rattle.awk_valid.specs.Broken.{list_rule, index_rule, tag_rule}
use Rattle.awk_valid.specs.declared.fault.Rule.{Rule}

-- of lists from a start below a stop
abbrev pub list_rules : List ℤ → List ℤ → ℕ → Option Rule
list_rules starts stops i = list_rule (get_or starts i (pos 0)) (get_or stops i (pos 0))

-- of indexes
abbrev pub index_rules : List ℤ → ℕ → Option Rule
index_rules index i = index_rule (get_or index i (pos 0))

-- of tags, and of the index beside each
abbrev pub tag_rules : ℕ → List ℤ → List ℤ → ℕ → Option Rule
tag_rules alternatives tags index i =
    tag_rule alternatives (get_or tags i (pos 0)) (get_or index i (pos 0))
