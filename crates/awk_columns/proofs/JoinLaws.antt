-- Lists joined, or refused, as operations take them.
use Rattle.std.specs.Prelude.{◌≡◌, ℕ, ◌+◌, ◌-◌, ◌<◌, ◌≤◌, List, length, Some, Ok}
use Rattle.std.proofs.Common.{arith, ap, sym, ◌∙◌, subst}
use Rattle.std.specs.List.{range_with_len, flat_map}
use Rattle.std.proofs.lemmas.List.Folds.{flat_map-map}
use Rattle.std.proofs.lemmas.List.FromFn.{length-range_with_len}
use Rattle.awk_types.specs.DataType.{DataType}
use Rattle.awk_types.specs.Datum.{arr}
use Rattle.awk_types.specs.Gives.{Told}
use Rattle.awk_types.specs.Value.{Value, Values, list}
use Rattle.awk_types.specs.ItemLimit.{item_limit, too_many}
use Rattle.awk_types.specs.declared.fault.Fault.TheVariants.{Size}
use Rattle.awk_types.proofs.RefusalLaws.{refused_or-Ok, refused_or-Err}
use Rattle.awk_types.proofs.ItemLimits.{limit_kept}
use Rattle.awk_lanes.specs.Column.{Column}
use Rattle.awk_lanes.specs.Numbers.{nat_of}
use Rattle.awk_lanes.specs.declared.kind.Kind.TheVariants.{I64}
use Rattle.awk_lanes.specs.Places.{size_of, place_at}
use Rattle.awk_lanes.proofs.MadeLanes.{at-lane_of}
use Rattle.awk_layout.specs.Layout.{Layout}
use Rattle.awk_layout.specs.Valid.{len}
use Rattle.awk_layout.specs.Typing.{array_type, array_items, array_datum}
use Rattle.awk_counts.specs.Counted.{first_of, span_at, spans, offset_at, offsets_lane}
use Rattle.awk_counts.proofs.FirstPlaces.{length-first_of, first_of-mono}
use Rattle.awk_columns.specs.Columns.{joined_items, list_items, offsets}
use Rattle.awk_columns.specs.ListValues as gathered
use Rattle.awk_columns.specs.Joined.{IsJoined}
use Rattle.awk_columns.specs.Lists.{items_at}
use Rattle.awk_columns.specs.Reached.{IsReached}
use Rattle.awk_columns.specs.declared.lists.Joined.TheVariants as joined
use Rattle.awk_columns.proofs.JoinedLists.{offsets_lane-is, joined_items-is}

joined-total : (s t : Column) (y : Layout)
    → joined_items (gathered.list_values s t y) ≡ flat_map (items_at s t y)
    (range_with_len 0 (size_of s))
joined-total s t y = flat_map-map list_items (gathered.list_at s t y) (range_with_len 0 (size_of s))

-- what holds the items of all lists holds them one list after another
pub reached-items : (s t : Column) (y z : Layout) → IsReached y (spans s t) z
    → array_items z ≡ flat_map (items_at s t y) (range_with_len 0 (size_of s))
reached-items s t y z h = h.items ∙ sym (joined_items-is s t y) ∙ joined-total s t y

limit_passed : (n : ℕ) → too_many n ≡ Some Size → item_limit < n
limit_passed n h = grind arith

pub join_refused : (s t : Column) (y : Layout)
    → Told (Some Size) (gathered.joined_datum (array_type y) (gathered.list_values s t y))
    → IsJoined s t y joined.TooMany
join_refused s t y h =
    let e = refused_or-Err (too_many (length (joined_items (gathered.list_values s t y))))
    (arr (array_type y) (joined_items (gathered.list_values s t y))) Size h in
    subst (λ n. item_limit < n) (ap length (joined-total s t y))
    (limit_passed (length (joined_items (gathered.list_values s t y))) e)

place_of_offset : (s t o : Column) (i : ℕ) → o ≡ offsets_lane s t → i ≤ size_of s
    → place_at o i ≡ length (first_of (span_at s t) i)
place_of_offset s t o i e p =
    ap (λ c. place_at c i) e ∙ ap nat_of (at-lane_of I64 (size_of s + 1) (offset_at s t) i
    (omega (arith, p)))

offset_grows : (s t o : Column) (i : ℕ) → o ≡ offsets_lane s t → i < size_of s
    → place_at o (i + 1) ≡ place_at o i + (place_at t i - place_at s i)
offset_grows s t o i e p =
    let a = place_of_offset s t o i e (omega (arith, p)) in
    let b = place_of_offset s t o (i + 1) e (omega (arith, p)) in
    let l : length (span_at s t i) ≡ place_at t i - place_at s i =
    length-range_with_len (place_at s i) (place_at t i - place_at s i) in
    omega (arith, a, b, l, length-first_of (span_at s t) i)

offset_within : (s t o : Column) (i whole : ℕ) → o ≡ offsets_lane s t → i < size_of s
    → place_at o (size_of s) ≡ whole → place_at o i + (place_at o (i + 1) - place_at o i) ≤ whole
offset_within s t o i whole e p l =
    let a = place_of_offset s t o i e (omega (arith, p)) in
    let b = place_of_offset s t o (i + 1) e (omega (arith, p)) in
    let c = place_of_offset s t o (size_of s) e (omega arith) in
    let m = first_of-mono (span_at s t) i (i + 1) (omega arith) in
    let n = first_of-mono (span_at s t) (i + 1) (size_of s) (omega (arith, p)) in
    omega (arith, a, b, c, m, n, l)

same_run : (a b : Values) → list a ≡ list b → a ≡ b
same_run a b e = cc

datum_type : (t u : DataType) (vs ws : List Value) → arr t vs ≡ arr u ws → t ≡ u
datum_type t u vs ws e = cc

datum_items : (t u : DataType) (vs ws : List Value) → arr t vs ≡ arr u ws → vs ≡ ws
datum_items t u vs ws e = cc

pub join_given : (s t : Column) (y : Layout) (o : Column) (z : Layout)
    → gathered.joined_datum (array_type y) (gathered.list_values s t y) ≡ Ok (array_datum z)
    → o ≡ record { kind = I64; items = offsets 0 (gathered.list_values s t y) }
    → gathered.AreJoined s t y o z → IsJoined s t y (joined.Lists o z)
join_given s t y o z h is j =
    let vs = gathered.list_values s t y in
    let both = refused_or-Ok (too_many (length (joined_items vs)))
    (arr (array_type y) (joined_items vs)) (array_datum z) h in
    let e : o ≡ offsets_lane s t = is ∙ sym (offsets_lane-is s t y) in (
      subst (λ n. n ≤ item_limit) (ap length (joined-total s t y))
          (limit_kept (length (joined_items vs)) both.0),
      record {
        typ = sym (datum_type _ _ _ _ both.1);
        valid = j.valid.2;
        offsets = record {
          offsets = j.valid.1;
          fits = j.valid.0;
          size = j.size;
          first = j.first;
          last = j.last;
          within = λ i p. offset_within s t o i (len z) e p j.last;
        };
        lane = e;
        lengths = λ i p. offset_grows s t o i e p;
        lists = λ i p. same_run _ _ (j.each i p);
        column = sym (datum_items _ _ _ _ both.1) ∙ joined-total s t y;
      },
    )
