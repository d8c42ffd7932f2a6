-- Numbers in groups of four bytes.
use Rattle.std.specs.Prelude.{◌≡◌, ℕ, ◌*◌, ◌/◌, ◌<◌, List, [], length, map, get_or, pos}
use Rattle.std.specs.Simd.{first_chunks}
use Rattle.std.proofs.Common.{arith, ap, sym, ◌∙◌}
use Rattle.std.proofs.lemmas.List.{length-map, get_or-map}
use Rattle.awk_lanes.specs.declared.kind.Kind.TheVariants.{I32}
use Rattle.awk_lanes.specs.Column.{Column}
use Rattle.awk_lanes.specs.Numbers.{width, number, numbers}
use Rattle.awk_lanes.specs.Places.{size_of, at}
use Rattle.awk_index.proofs.IndexLaws.{kind_numbers-groups}

-- the numbers of a lane of 32 bits by its groups
pub numbers-groups : (c : Column) (b : List ℕ) → c.kind ≡ I32
    → length b ≡ size_of c * width c.kind → numbers c.kind (size_of c) b ≡ c.items
    → map (number I32) (first_chunks 4 (length b / 4) b) ≡ c.items
numbers-groups = kind_numbers-groups I32

-- the lane that groups of four bytes show
abbrev Seen : List (List ℕ) → Column
Seen gs = record { kind = I32; items = map (number I32) gs }

pub within-groups : (gs : List (List ℕ)) (v : Column) (i : ℕ) → Seen gs ≡ v → i < size_of v
    → i < length gs
within-groups gs v i e l = omega (arith, l, ap size_of e, length-map gs (number I32))

pub number-at : (gs : List (List ℕ)) (v : Column) (i : ℕ) → Seen gs ≡ v → i < size_of v
    → number I32 (get_or gs i []) ≡ at v i
number-at gs v i e l =
    sym (get_or-map (number I32) gs i [] (pos 0) (within-groups gs v i e l))
    ∙ ap (λ (c : Column). at c i) e
