-- The numbers of the groups of bytes that were kept.
use Rattle.std.specs.Prelude.{◌≡◌, ◌≢◌, ℕ, ◌*◌, ◌/◌, ◌<◌, List, [], length, map, get_or, ℤ}
use Rattle.std.specs.Prelude.{pos}
use Rattle.std.specs.List.{range_with_len, flat_map}
use Rattle.std.specs.Simd.{first_chunks}
use Rattle.std.proofs.Common.{arith, ap, sym, ◌∙◌}
use Rattle.std.proofs.lemmas.List.{ext_get_or, get_or-map, length-map}
use Rattle.std.proofs.lemmas.List.FromFn.{length-map-range_with_len, get_or-map-range_with_len}
use Rattle.std.proofs.Math.Nat.{mul-div_left, div-mul-le_self}
use Rattle.awk_base.proofs.Lists.{length-chunk}
use Rattle.awk_lanes.specs.declared.kind.Kind.TheVariants.{Bool as Truths, I64}
use Rattle.awk_lanes.specs.Column.{Column}
use Rattle.awk_lanes.specs.Numbers.{width, number, numbers}
use Rattle.awk_lanes.specs.Places.{size_of, at, place_at, IsIndex}
use Rattle.awk_lanes.proofs.PlaceLaws.{element-same}
use Rattle.awk_gather_lanes.specs.Lanes.{picked}
use Rattle.awk_gather_lanes.proofs.MovedGroups.{number-group, numbers-flat}
use Rattle.awk_jagged_places.specs.Beside.{group_at}

module _ (c : Column) (b : List ℕ) (w : ℕ) (plain : c.kind ≢ Truths) (wide : width c.kind ≡ w)
    (some : 0 < w) (size : length b ≡ size_of c * width c.kind)
    (same : numbers c.kind (size_of c) b ≡ c.items) (zs : List ℤ)
    (index : IsIndex (record { kind = I64; items = zs }) (size_of c)) where
  abbrev places : Column
  places = record { kind = I64; items = zs }

  abbrev gs : List (List ℕ)
  gs = first_chunks (width c.kind) (length b / width c.kind) b

  abbrev group : ℕ → List ℕ
  group j = group_at gs (get_or zs j (pos 0))

  number-kept : (j : ℕ) → j < length zs → number c.kind (group j) ≡ at c (place_at places j)
  number-kept j l =
      number-group c b size same (place_at places j) (index.places j l).1
      ∙ sym (element-same c.kind (get_or c.items (place_at places j) (pos 0)) plain)

  count : length b / width c.kind ≡ size_of c
  count = ap (λ m. m / width c.kind) size ∙ mul-div_left (size_of c) (rw wide some)

  group-wide : (j : ℕ) → j < length zs → length (group j) ≡ width c.kind
  group-wide j l =
      length-chunk (width c.kind) (length b / width c.kind) b (place_at places j)
      (div-mul-le_self (length b) (width c.kind)) (omega (arith, count, (index.places j l).1))

  listed : map (group_at gs) zs ≡ map group (range_with_len 0 (length zs))
  listed =
      ext_get_or [] _ _
      (length-map zs (group_at gs) ∙ sym (length-map-range_with_len group 0 (length zs)))
      (λ i p.
      let q : i < length zs = omega (arith, p, length-map zs (group_at gs)) in
      get_or-map (group_at gs) zs i (pos 0) [] q
      ∙ sym (get_or-map-range_with_len group 0 (length zs) i i [] q (omega arith)))

  -- kept groups make the lane of the numbers at the places
  pub numbers-kept : (moved : List (List ℕ))
      → moved ≡ map (group_at (first_chunks w (length b / w) b)) zs
      → (flat : List ℕ) → flat ≡ flat_map (λ x. x) moved → length flat ≡ length moved * w
      → numbers c.kind (length flat / width c.kind) flat ≡ (picked c places).items
  numbers-kept moved h =
      numbers-flat c.kind w (length zs) group (λ j. at c (place_at places j)) wide some group-wide
      number-kept moved
      (h ∙ ap (λ v. map (group_at (first_chunks v (length b / v) b)) zs) (sym wide) ∙ listed)
