-- Laws of ranges and of fields.
use Rattle.std.specs.Prelude.{◌≡◌, ◌≢◌, ◌*ℤ◌, ℕ, ◌+◌, ℤ, pos, true, false, List, [], ◌∷◌, length}
use Rattle.std.specs.Prelude.{map}
use Rattle.std.specs.Prelude.{Option, Some}
use Rattle.std.specs.Prelude.{None, Ok, if◌then◌else◌}
use Rattle.std.specs.List.{AllByRecursion}
use Rattle.awk_types.specs.DataType.{Name, DataType, DataTypes, rec}
use Rattle.awk_types.specs.Datum.{Datum, arr, one}
use Rattle.awk_types.specs.IsType.{IsType}
use Rattle.awk_types.specs.Limit.{limit}
use Rattle.awk_types.specs.Names.{is_among}
use Rattle.awk_types.specs.Predicates.{is_null}
use Rattle.awk_types.specs.Simple.{is_option, option_if, present, simple, simple_value}
use Rattle.awk_types.specs.Value.{Value, null}
use Rattle.awk_columns.specs.Columns.{part_at}
use Rattle.awk_frames.specs.Framed.{over, over_type}
use Rattle.awk_lists.specs.WithoutField.{choice_of, without_field_of}
use Rattle.awk_pair_operands.specs.Pairs.{datum_from, pair_type, pair_values, some_array}
use Rattle.awk_pair_operands.specs.Typed.{IsTyped}
use Rattle.awk_select.specs.Picks.{step_range_of}
use Rattle.awk_select.specs.Places.{bound_up}
use Rattle.awk_view.specs.Choice.{field}
use Rattle.awk_with_field.specs.WithField.{both, end_of, levels_of, with_field_of}
use Rattle.awk_law_chains.specs.Arrays.{AreItems}

-- where a range of n items begins, and where it ends: a bound that is not given is an end, and a
-- negative one counts from the end
abbrev pub start : ℕ → Option ℤ → ℕ
start n lo = bound_up n 0 lo

abbrev pub stop : ℕ → Option ℤ → ℕ
stop n hi = bound_up n n hi

-- the part at place k of a record and what is put beside it, and null where the record is null
abbrev pub part_beside : ℕ → Value → Value
part_beside k v = if is_null (part_at 0 v) then null else part_at k v

-- records and what is put beside them are paired as far as the records are lists: what the one at
-- place k gives there, under the lists and nulls that both share, optional where the records are
abbrev pub part_type : ℕ → Datum → Datum → DataType
part_type k e v =
    let d = levels_of e in
    let ds = both e v in
    over_type (pair_type true (Some d) ds)
    (option_if (is_option (end_of 0 d ds)) (end_of k d ds))

abbrev pub paired_part : ℕ → Datum → Datum → Datum
paired_part k e v =
    let d = levels_of e in
    let ds = both e v in
    let t = part_type k e v in
    datum_from (some_array ds) (simple t)
    (map (λ w. simple_value t (over (pair_type true (Some d) ds) (part_beside k) w))
    (pair_values true (Some d) ds))

pub record ViewLaws : Type 0 where
  -- a range of a range is one range
  pub range_of_range : (t : DataType) (vs ws : List Value) (lo hi first last : Option ℤ)
      → step_range_of lo hi (pos 1) (arr t vs) ≡ Ok (arr t ws)
      → let from = start (length vs) lo in step_range_of first last (pos 1) (arr t ws)
      ≡ step_range_of (Some (pos (from + start (length ws) first)))
      (Some (pos (from + stop (length ws) last))) (pos 1) (arr t vs)
  -- so it is of ranges by any steps, by the product of both
  pub range_by_steps : (t : DataType) (vs ws : List Value) (lo hi first last : Option ℤ)
      (step second : ℤ) → step ≢ pos 0 → second ≢ pos 0
      → step_range_of lo hi step (arr t vs) ≡ Ok (arr t ws)
      → (a : Option ℤ) × (b : Option ℤ) × (step_range_of first last second (arr t ws)
      ≡ step_range_of a b (step *ℤ second) (arr t vs))
  -- field after with_field of that name is the value paired: each item of an array
  pub field_of_with_field : (n : Name) (ns : List Name) (ts : DataTypes) (rs : List Value)
      (u : DataType) (ws : List Value) (whole : Datum) → IsType (rec ns ts)
      → AreItems (rec ns ts) rs → AreItems u ws → limit u ≡ None
      → with_field_of n (arr (rec ns ts) rs) (arr u ws) ≡ Ok whole
      → choice_of (field n) whole ≡ Ok (arr u ws)
  -- the same of a single value, which stands beside each record
  pub field_of_with_value : (n : Name) (ns : List Name) (ts : DataTypes) (rs : List Value)
      (u : DataType) (w : Value) (whole : Datum) → IsType (rec ns ts)
      → AreItems (rec ns ts) rs → AreItems u (w ∷ []) → limit u ≡ None
      → with_field_of n (arr (rec ns ts) rs) (one u w) ≡ Ok whole
      → choice_of (field n) whole ≡ Ok (arr u (map (λ r. w) rs))
  -- without_field after with_field of a new name is the records
  pub without_field_of_with_field : (n : Name) (ns : List Name) (ts : DataTypes) (rs : List Value)
      (v whole : Datum) → IsType (rec ns ts) → AreItems (rec ns ts) rs → limit (rec ns ts) ≡ None
      → is_among n ns ≡ false → with_field_of n (arr (rec ns ts) rs) v ≡ Ok whole
      → without_field_of n whole ≡ Ok (arr (rec ns ts) rs)
  -- at any depth field after with_field of that name is the value paired, null where a record is
  pub field_at_ends : (n : Name) (ns : List Name) (ts : DataTypes) (e v whole : Datum)
      → IsType (rec ns ts) → present (end_of 0 (levels_of e) (both e v)) ≡ rec ns ts
      → AllByRecursion IsTyped (both e v) → limit (simple (part_type 1 e v)) ≡ None
      → with_field_of n e v ≡ Ok whole → choice_of (field n) whole ≡ Ok (paired_part 1 e v)
  -- and without_field of a new name is the records paired
  pub without_at_ends : (n : Name) (ns : List Name) (ts : DataTypes) (e v whole : Datum)
      → IsType (rec ns ts) → present (end_of 0 (levels_of e) (both e v)) ≡ rec ns ts
      → AllByRecursion IsTyped (both e v) → limit (simple (part_type 0 e v)) ≡ None
      → is_among n ns ≡ false → with_field_of n e v ≡ Ok whole
      → without_field_of n whole ≡ Ok (paired_part 0 e v)
