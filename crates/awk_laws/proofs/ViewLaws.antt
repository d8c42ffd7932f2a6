-- The laws of ranges and of fields.
use Rattle.std.specs.Prelude.{◌≡◌, ℕ, ◌+◌, ◌-◌, ◌<◌, ◌≤◌, ◌==◌, ◌&&◌, ◌||◌, not, Bool, true, false}
use Rattle.std.specs.Prelude.{ℤ, pos, negsuc, List, [], ◌∷◌, length, map, take, drop, get_or}
use Rattle.std.specs.Prelude.{Option, Some, None, option_map, Ok, refl, if◌then◌else◌}
use Rattle.std.specs.List.{AllByRecursion, range_with_len}
use Rattle.std.proofs.Common.{arith, ap, ap₂, sym, subst, ◌∙◌, length-take, length-drop}
use Rattle.std.proofs.lemmas.List.FromFn.{fill_by_all}
use Rattle.std.proofs.lemmas.Simd.{map-map}
use Rattle.awk_base.proofs.Truths.{eq_is}
use Rattle.awk_base.proofs.Ranges.{map-in}
use Rattle.awk_base.proofs.Every.{all-at}
use Rattle.awk_types.specs.DataType.{Name, DataType, DataTypes, unknown, leaf, var, reg, rec, tup}
use Rattle.awk_types.specs.DataType.{opt, uni, type_list, types_from}
use Rattle.awk_types.specs.Datum.{Datum, arr, one, datum_type}
use Rattle.awk_types.specs.Faults.{limit_fault, limit_refused}
use Rattle.awk_types.specs.Gives.{◌or◌}
use Rattle.awk_types.specs.Has.{Has}
use Rattle.awk_types.specs.IsType.{IsType}
use Rattle.awk_types.specs.Limit.{limit}
use Rattle.awk_types.specs.Names.{is_among}
use Rattle.awk_types.specs.Parts.{names_of_fields}
use Rattle.awk_types.specs.Simple.{IsSimple, simple, simple_value, is_option, option_if, present}
use Rattle.awk_types.specs.Value.{Value, int, truth, null, list, row, alt, values_from, no_values}
use Rattle.awk_types.specs.Value.{value}
use Rattle.awk_types.specs.declared.fault.Fault.{Fault}
use Rattle.awk_types.specs.declared.fault.Fault.TheVariants.{NoField, WrongType, Lengths}
use Rattle.awk_types.proofs.RefusalLaws.{refused_or-Ok, refused_or-None, or-both}
use Rattle.awk_types.proofs.SimpleLaws.{simple_stays, value_stays}
use Rattle.awk_lists.specs.WithoutField.{choice_of, without_field_of}
use Rattle.awk_pair_operands.specs.Pairs.{pair_refused, pair_type, pair_values, are_uneven}
use Rattle.awk_pair_operands.specs.Pairs.{lengths_refused, type_refused, typs, first_rows}
use Rattle.awk_pair_operands.specs.Pairs.{datum_side, below, datum_from, some_array, single_value}
use Rattle.awk_pair_operands.specs.Paired.{any_uneven, paired_value, to_depth}
use Rattle.awk_frames.specs.Sizes.{sizes_refused}
use Rattle.awk_pair_sides.specs.Sides.{side_at, rows_of}
use Rattle.awk_select.specs.Picks.{step_range_of, items_at}
use Rattle.awk_select.specs.Places.{range_places}
use Rattle.awk_view.specs.Answer.{choice_fault}
use Rattle.awk_view.specs.Choice.{field, without, chosen_type, chosen_value, Choice, absent}
use Rattle.awk_view.specs.Choice.{has_field, type_of_choice, value_of_choice}
use Rattle.awk_put_field.specs.Field.{put, named, field_value, end_value, field_type}
use Rattle.awk_with_field.specs.WithField.{with_field_of, with_refused, with_type, with_values}
use Rattle.awk_with_field.specs.WithField.{both, beside as beside_records, end_of, levels_of}
use Rattle.awk_with_field.specs.WithField.{is_wrong}
use Rattle.awk_frames.specs.Framed.{over, over_type}
use Rattle.awk_columns.specs.Columns.{part_at}
use Rattle.awk_pair_operands.specs.Typed.{IsTyped}
use Rattle.awk_pair_operands.proofs.TypedLaws.{typed_pairs}
use Rattle.awk_types.proofs.NullLaws.{in_option-simple}
use Rattle.awk_law_chains.specs.Arrays.{AreItems}
use Rattle.awk_laws.specs.Viewing.{ViewLaws, start, stop, part_type, paired_part, part_beside}
use Rattle.awk_laws.proofs.Fields.{field_type-with, field-raw, type_without, without-raw}
use Rattle.awk_laws.proofs.PutNames.{among-named}
use Rattle.awk_laws.proofs.PairedFields.{IsPaired, paired, record_with, chosen-over}
use Rattle.awk_laws.proofs.Slices.{range-cut, range-places, cut-cut}
use Rattle.awk_laws.proofs.StepRanges.{range_by_steps}

-- ---- ranges

start-within : (n : ℕ) (b : Option ℤ) → start n b ≤ n
start-within n None = omega arith
start-within n (Some (pos k)) = omega arith
start-within n (Some (negsuc k)) = omega arith

stop-within : (n : ℕ) (b : Option ℤ) → stop n b ≤ n
stop-within n None = omega arith
stop-within n (Some (pos k)) = omega arith
stop-within n (Some (negsuc k)) = omega arith

-- the cut that a range of a cut is
cut-range_of : (vs ws : List Value) (a n : ℕ) (first last : Option ℤ)
    → take n (drop a vs) ≡ ws → a ≤ length vs → n ≤ length vs - a
    → items_at ws (range_places (length ws) first last (pos 1))
    ≡ items_at vs (range_places (length vs) (Some (pos (a + start (length ws) first)))
    (Some (pos (a + stop (length ws) last))) (pos 1))
cut-range_of vs ws a n first last e q p =
    let b = start (length ws) first in
    let c = stop (length ws) last in
    let low : b ≤ length ws = start-within (length ws) first in
    let top : c ≤ length ws = stop-within (length ws) last in
    let size : length ws ≡ n = count_taken in
    range-cut ws first last
    ∙ ap (λ xs. take (c - b) (drop b xs)) (sym e)
    ∙ cut-cut vs a n b (c - b) (inside b c (length ws) n low top size)
    ∙ ap (λ (k : ℕ). take k (drop (a + b) vs)) (span a b c)
    ∙ sym (range-places vs (a + b) (a + c) (within a c (length ws) n (length vs) top size q p))
  where
    count_taken : length ws ≡ n
    count_taken =
        sym (ap length e) ∙ omega (arith, length-take n (drop a vs), length-drop a vs, p)

    inside : (b c m k : ℕ) → b ≤ m → c ≤ m → m ≡ k → b + (c - b) ≤ k
    inside b c m k l t s = omega (arith, l, t, s)

    span : (x y z : ℕ) → z - y ≡ x + z - (x + y)
    span x y z = omega arith

    within : (x z m k len : ℕ) → z ≤ m → m ≡ k → x ≤ len → k ≤ len - x → x + z ≤ len
    within x z m k len t s u w = omega (arith, t, s, u, w)

range_of_range : (t : DataType) (vs ws : List Value) (lo hi first last : Option ℤ)
    → step_range_of lo hi (pos 1) (arr t vs) ≡ Ok (arr t ws)
    → let from = start (length vs) lo in step_range_of first last (pos 1) (arr t ws)
    ≡ step_range_of (Some (pos (from + start (length ws) first)))
    (Some (pos (from + stop (length ws) last))) (pos 1) (arr t vs)
range_of_range t vs ws lo hi first last e =
    let a = start (length vs) lo in
    let n = stop (length vs) hi - start (length vs) lo in
    let items : items_at vs (range_places (length vs) lo hi (pos 1)) ≡ ws = cc in
    let cut : take n (drop a vs) ≡ ws = sym (range-cut vs lo hi) ∙ items in
    ap (λ xs. Ok (arr t xs))
    (cut-range_of vs ws a n first last cut (start-within (length vs) lo)
    (less (stop (length vs) hi) (length vs) a (stop-within (length vs) hi)))
  where
    less : (x y z : ℕ) → x ≤ y → x - z ≤ y - z
    less x y z p = omega (arith, p)

-- ---- records with a field

abbrev pub row_side : Datum → ℕ → Value
row_side v k = side_at k (datum_side v)

module _ (n : Name) (ns : List Name) (ts : DataTypes) (rs : List Value) (v : Datum) where
  abbrev parts : List Datum
  parts = arr (rec ns ts) rs ∷ v ∷ []

  -- the type and the items of the records with the field
  abbrev whole_type : DataType
  whole_type = rec (named n ns) (types_from (put n ns (datum_type v) (type_list ts)))

  abbrev whole_item : ℕ → Value
  whole_item k = field_value n ns (get_or rs k null) (row_side v k)

  abbrev whole_items : List Value
  whole_items = map whole_item (range_with_len 0 (length rs))

  values-are : with_values n 1 parts ≡ whole_items
  values-are =
      let row_at = λ (k : ℕ). get_or rs k null ∷ row_side v k ∷ [] in
      let one_row = λ (ws : List Value). row (values_from ws) in
      ap (map (λ w. end_value n ns w)) (map-map one_row row_at (range_with_len 0 (length rs)))
      ∙ map-map (λ w. end_value n ns w) (λ k. one_row (row_at k)) (range_with_len 0 (length rs))

  with-is : (whole : Datum) → with_field_of n (arr (rec ns ts) rs) v ≡ Ok whole
      → whole ≡ arr whole_type whole_items
  with-is whole e =
      let r = refused_or-Ok (with_refused n 1 parts)
      (datum_from (some_array parts) (with_type n 1 parts) (with_values n 1 parts)) whole e in
      sym r.1 ∙ ap (arr whole_type) values-are

  even-with : (whole : Datum) → with_field_of n (arr (rec ns ts) rs) v ≡ Ok whole
      → are_uneven true (Some 1) parts ≡ false
  even-with whole e =
      let r = refused_or-Ok (with_refused n 1 parts)
      (datum_from (some_array parts) (with_type n 1 parts) (with_values n 1 parts)) whole e in
      let a = or-both (if is_wrong 1 parts then Some WrongType else None)
      (limit_refused (with_type n 1 parts) or pair_refused true (Some 1) parts) r.0 in
      let b = or-both (limit_refused (with_type n 1 parts)) (pair_refused true (Some 1) parts)
      a.1 in
      let c = or-both (type_refused (Some 1) parts)
      (lengths_refused true (Some 1) parts
      or sizes_refused (pair_type true (Some 1) parts) (pair_values true (Some 1) parts)) b.1 in
      let d = or-both (lengths_refused true (Some 1) parts)
      (sizes_refused (pair_type true (Some 1) parts) (pair_values true (Some 1) parts)) c.1 in
      even (are_uneven true (Some 1) parts) d.0
    where
      even : (b : Bool) → ◌≡◌ {A = Option Fault} (if b then Some Lengths else None) None
          → b ≡ false
      even true h = cc
      even false h = refl

not_first : (a b : Bool) → (not a || b) ≡ false → a ≡ true
not_first true b e = refl
not_first false b e = cc

and_first : (a : Bool) → (a && true) ≡ true → a ≡ true
and_first true e = refl
and_first false e = cc

-- arrays are equally long
equal_lengths : (n : Name) (ns : List Name) (ts : DataTypes) (rs : List Value) (u : DataType)
    (ws : List Value) (whole : Datum)
    → with_field_of n (arr (rec ns ts) rs) (arr u ws) ≡ Ok whole → length rs ≡ length ws
equal_lengths n ns ts rs u ws whole e =
    let ds = parts n ns ts rs (arr u ws) in
    eq_is (length rs) (length ws)
    (and_first (length rs == length ws)
    (not_first ((length rs == length ws) && true)
    (any_uneven true (below (Some 1) ds) (typs ds) (first_rows ds))
    (even-with n ns ts rs (arr u ws) whole e)))

-- ---- the field

field-of : (n : Name) (ns : List Name) (ts : DataTypes) (rs : List Value) (v : Datum)
    → IsType (rec ns ts) → AllByRecursion (Has (rec ns ts)) rs → IsSimple (datum_type v)
    → limit (datum_type v) ≡ None
    → ((k : ℕ) → k < length rs → Has (datum_type v) (row_side v k))
    → choice_of (field n) (arr (whole_type n ns ts rs v) (whole_items n ns ts rs v))
    ≡ Ok (arr (datum_type v) (map (row_side v) (range_with_len 0 (length rs))))
field-of n ns ts rs v h k s l p =
    let u = datum_type v in
    let t = whole_type n ns ts rs v in
    let vs = whole_items n ns ts rs v in
    let type : chosen_type (field n) t ≡ u =
    ap simple (field_type-with n ns ts u h) ∙ simple_stays u s in
    refused_or-None (choice_fault (field n) t)
    (arr (chosen_type (field n) t) (map (chosen_value (field n) t) vs))
    (arr u (map (row_side v) (range_with_len 0 (length rs))))
    (ap₂ (λ (b : Bool) (w : DataType). option_map NoField (if b then None else Some n)
    or option_map limit_fault (limit w)) (among-named n ns) type
    ∙ ap (option_map limit_fault) l)
    (ap₂ arr type
    (map-map (chosen_value (field n) t) (whole_item n ns ts rs v) (range_with_len 0 (length rs))
    ∙ map-in (λ i. chosen_value (field n) t (whole_item n ns ts rs v i)) (row_side v) 0
    (length rs)
    (λ i q. let r : i < length rs = omega (arith, q) in
    field-raw n ns ts u (get_or rs i null) (row_side v i) h (all-at (Has (rec ns ts)) rs i null k r)
    ∙ value_stays u (row_side v i) s (p i r))))

field_of_with_field : (n : Name) (ns : List Name) (ts : DataTypes) (rs : List Value)
    (u : DataType) (ws : List Value) (whole : Datum) → IsType (rec ns ts)
    → AreItems (rec ns ts) rs → AreItems u ws → limit u ≡ None
    → with_field_of n (arr (rec ns ts) rs) (arr u ws) ≡ Ok whole
    → choice_of (field n) whole ≡ Ok (arr u ws)
field_of_with_field n ns ts rs u ws whole h k w l e =
    let size = equal_lengths n ns ts rs u ws whole e in
    ap (choice_of (field n)) (with-is n ns ts rs (arr u ws) whole e)
    ∙ field-of n ns ts rs (arr u ws) h k.items w.simple l
    (λ i q. all-at (Has u) ws i null w.items (omega (arith, q, size)))
    ∙ ap (λ xs. Ok (arr u xs))
    (sym (fill_by_all (λ i. get_or ws i null) ws (length rs) null (sym size) (λ i q. refl)))

map-constant : (w : Value) (rs : List Value) (a : ℕ)
    → map (λ (i : ℕ). w) (range_with_len a (length rs)) ≡ map (λ (r : Value). w) rs
map-constant w [] a = refl
map-constant w (r ∷ rs) a = ap (λ xs. w ∷ xs) (map-constant w rs (a + 1))

field_of_with_value : (n : Name) (ns : List Name) (ts : DataTypes) (rs : List Value)
    (u : DataType) (w : Value) (whole : Datum) → IsType (rec ns ts)
    → AreItems (rec ns ts) rs → AreItems u (w ∷ []) → limit u ≡ None
    → with_field_of n (arr (rec ns ts) rs) (one u w) ≡ Ok whole
    → choice_of (field n) whole ≡ Ok (arr u (map (λ r. w) rs))
field_of_with_value n ns ts rs u w whole h k x l e =
    ap (choice_of (field n)) (with-is n ns ts rs (one u w) whole e)
    ∙ field-of n ns ts rs (one u w) h k.items x.simple l (λ i q. x.items.0)
    ∙ ap (λ xs. Ok (arr u xs)) (map-constant w rs 0)

-- ---- without the field

without_field_of_with_field : (n : Name) (ns : List Name) (ts : DataTypes) (rs : List Value)
    (v whole : Datum) → IsType (rec ns ts) → AreItems (rec ns ts) rs → limit (rec ns ts) ≡ None
    → is_among n ns ≡ false → with_field_of n (arr (rec ns ts) rs) v ≡ Ok whole
    → without_field_of n whole ≡ Ok (arr (rec ns ts) rs)
without_field_of_with_field n ns ts rs v whole h k l f e =
    let u = datum_type v in
    let t = whole_type n ns ts rs v in
    let vs = whole_items n ns ts rs v in
    let type : chosen_type (without n) t ≡ rec ns ts =
    ap simple (type_without n ns ts u h f) ∙ simple_stays (rec ns ts) k.simple in
    ap (without_field_of n) (with-is n ns ts rs v whole e)
    ∙ refused_or-None (choice_fault (without n) t)
    (arr (chosen_type (without n) t) (map (chosen_value (without n) t) vs)) (arr (rec ns ts) rs)
    (ap₂ (λ (b : Bool) (w : DataType). option_map NoField (if b then None else Some n)
    or option_map limit_fault (limit w)) (among-named n ns) type
    ∙ ap (option_map limit_fault) l)
    (ap₂ arr type
    (map-map (chosen_value (without n) t) (whole_item n ns ts rs v) (range_with_len 0 (length rs))
    ∙ map-in (λ i. chosen_value (without n) t (whole_item n ns ts rs v i))
    (λ i. get_or rs i null) 0 (length rs)
    (λ i q. let typed = all-at (Has (rec ns ts)) rs i null k.items (omega (arith, q)) in
    without-raw n ns ts u (get_or rs i null) (row_side v i) h f typed
    ∙ value_stays (rec ns ts) (get_or rs i null) k.simple typed)
    ∙ sym (fill_by_all (λ i. get_or rs i null) rs (length rs) null refl (λ i q. refl))))

-- ---- at any depth

-- what is given where nothing is refused
even-pairs : (n : Name) (e v whole : Datum) → with_field_of n e v ≡ Ok whole
    → are_uneven true (Some (levels_of e)) (both e v) ≡ false
even-pairs n e v whole h =
    let d = levels_of e in
    let ds = both e v in
    let r = refused_or-Ok (with_refused n d ds)
    (datum_from (some_array ds) (with_type n d ds) (with_values n d ds)) whole h in
    let a = or-both (if is_wrong d ds then Some WrongType else None)
    (limit_refused (with_type n d ds) or pair_refused true (Some d) ds) r.0 in
    let b = or-both (limit_refused (with_type n d ds)) (pair_refused true (Some d) ds) a.1 in
    let c = or-both (type_refused (Some d) ds)
    (lengths_refused true (Some d) ds
    or sizes_refused (pair_type true (Some d) ds) (pair_values true (Some d) ds)) b.1 in
    let f = or-both (lengths_refused true (Some d) ds)
    (sizes_refused (pair_type true (Some d) ds) (pair_values true (Some d) ds)) c.1 in
    even (are_uneven true (Some d) ds) f.0
  where
    even : (b : Bool) → ◌≡◌ {A = Option Fault} (if b then Some Lengths else None) None
        → b ≡ false
    even true h = cc
    even false h = refl

single-pair : (d : ℕ) (ds : List Datum) → some_array ds ≡ false
    → (v : Value) × (pair_values true (Some d) ds ≡ v ∷ [])
single-pair d ds h =
    let t = below (Some d) ds in (
      paired_value true to_depth t (typs ds) (map single_value ds),
      ap (λ (b : Bool). map (paired_value true to_depth t (typs ds))
          (if b then rows_of (map datum_side ds) else map single_value ds ∷ [])) h,
    )

abbrev looks_for : Choice → Name → Type 0
looks_for c n = (s : DataType) → absent c s ≡ (if has_field n s then None else Some n)

-- ---- records that are optional or not

optional : (t x : DataType) → present t ≡ x → t ≡ option_if (is_option t) x
optional (opt t) x e = ap opt e
optional unknown x e = e
optional (leaf p) x e = e
optional (var t) x e = e
optional (reg k t) x e = e
optional (rec ms us) x e = e
optional (tup us) x e = e
optional (uni us) x e = e

-- a record with its field
abbrev with_it : Bool → Name → List Name → DataTypes → DataType → DataType
with_it o n ns ts y = option_if o (record_with n ns ts y)

has_it : (o : Bool) (n : Name) (ns : List Name) (ts : DataTypes) (y : DataType)
    → has_field n (with_it o n ns ts y) ≡ true
has_it true n ns ts y = among-named n ns
has_it false n ns ts y = among-named n ns

typed_with : (o : Bool) (n : Name) (ns : List Name) (ts : DataTypes) (y : DataType)
    → field_type n (option_if o (rec ns ts)) y ≡ with_it o n ns ts y
typed_with true n ns ts y = refl
typed_with false n ns ts y = refl

types_if : (o : Bool) (c : Choice) (w u : DataType) → type_of_choice c w ≡ u
    → simple (type_of_choice c (option_if o w)) ≡ simple (option_if o u)
types_if true c w u e = ap (λ t. simple (opt t)) e
types_if false c w u e = ap simple e

-- the part at place j of a record with its field
abbrev pair_row : Value → Value → Value
pair_row r w = row (value r (value w no_values))

-- what is so of each record that is not null is so of each
values_if : (o : Bool) (n : Name) (ns : List Name) (ts : DataTypes) (y : DataType) (c : Choice)
    (u : DataType) (j : ℕ)
    → ((r w : Value) → Has (rec ns ts) r → Has y w
    → chosen_value c (record_with n ns ts y) (field_value n ns r w)
    ≡ simple_value u (part_at j (pair_row r w)))
    → (r w : Value) → Has (option_if o (rec ns ts)) r → Has y w
    → chosen_value c (with_it o n ns ts y) (end_value n ns (pair_row r w))
    ≡ simple_value (option_if o u) (part_beside j (pair_row r w))
values_if true n ns ts y c u j e null w h k = refl
values_if true n ns ts y c u j e (row vs) w h k =
    in_option-simple (type_of_choice c (record_with n ns ts y))
    (value_of_choice c (record_with n ns ts y) (field_value n ns (row vs) w))
    ∙ e (row vs) w h k
    ∙ sym (in_option-simple u (part_at j (pair_row (row vs) w)))
values_if true n ns ts y c u j e (int z) w h k = absurd h
values_if true n ns ts y c u j e (truth b) w h k = absurd h
values_if true n ns ts y c u j e (list vs) w h k = absurd h
values_if true n ns ts y c u j e (alt i v) w h k = absurd h
values_if false n ns ts y c u j e (row vs) w h k = e (row vs) w h k
values_if false n ns ts y c u j e null w h k = absurd h
values_if false n ns ts y c u j e (int z) w h k = absurd h
values_if false n ns ts y c u j e (truth b) w h k = absurd h
values_if false n ns ts y c u j e (list vs) w h k = absurd h
values_if false n ns ts y c u j e (alt i v) w h k = absurd h

part-of : (n : Name) (ns : List Name) (ts : DataTypes) (e v whole : Datum) (c : Choice) (j : ℕ)
    (u : DataType)
    → present (end_of 0 (levels_of e) (both e v)) ≡ rec ns ts → AllByRecursion IsTyped (both e v)
    → limit (simple (part_type j e v)) ≡ None → with_field_of n e v ≡ Ok whole → looks_for c n
    → simple (option_if (is_option (end_of 0 (levels_of e) (both e v))) u)
    ≡ simple (option_if (is_option (end_of 0 (levels_of e) (both e v)))
    (end_of j (levels_of e) (both e v)))
    → type_of_choice c (record_with n ns ts (end_of 1 (levels_of e) (both e v))) ≡ u
    → ((r w : Value) → Has (option_if (is_option (end_of 0 (levels_of e) (both e v))) (rec ns ts)) r
    → Has (end_of 1 (levels_of e) (both e v)) w
    → chosen_value c (with_it (is_option (end_of 0 (levels_of e) (both e v))) n ns ts
    (end_of 1 (levels_of e) (both e v))) (end_value n ns (pair_row r w))
    ≡ simple_value (option_if (is_option (end_of 0 (levels_of e) (both e v)))
    (end_of j (levels_of e) (both e v))) (part_beside j (pair_row r w)))
    → choice_of c whole ≡ Ok (paired_part j e v)
part-of n ns ts e v whole c j u f typed l h looks same types values =
    let d = levels_of e in
    let ds = both e v in
    let t = pair_type true (Some d) ds in
    let vs = pair_values true (Some d) ds in
    let x = end_of 0 d ds in
    let y = end_of 1 d ds in
    let o = is_option x in
    let record_is : x ≡ option_if o (rec ns ts) = optional x (rec ns ts) f in
    let r = refused_or-Ok (with_refused n d ds)
    (datum_from (some_array ds) (with_type n d ds) (with_values n d ds)) whole h in
    let is : whole ≡ datum_from (some_array ds) (over_type t (with_it o n ns ts y))
    (map (over t (end_value n ns)) vs) =
    sym r.1
    ∙ ap₂ (λ z ms. datum_from (some_array ds) (over_type t z) (map (over t (end_value n ms)) vs))
    (ap (λ z. field_type n z y) record_is ∙ typed_with o n ns ts y) (ap names_of_fields f) in
    let pairs : IsPaired (option_if o (rec ns ts)) y t =
    subst (λ z. IsPaired z y t) record_is
    (paired (below (Some d) ds) (datum_type e) (datum_type (beside_records e v))) in
    ap (choice_of c) is
    ∙ chosen-over n c (option_if o (rec ns ts)) y (with_it o n ns ts y)
    (option_if o (end_of j d ds)) (end_value n ns) (part_beside j) (has_it o n ns ts y)
    (types_if o c (record_with n ns ts y) u types ∙ same) values (some_array ds) t vs looks pairs
    (typed_pairs true (Some d) ds typed (even-pairs n e v whole h)) (single-pair d ds) l

field_at_ends : (n : Name) (ns : List Name) (ts : DataTypes) (e v whole : Datum)
    → IsType (rec ns ts) → present (end_of 0 (levels_of e) (both e v)) ≡ rec ns ts
    → AllByRecursion IsTyped (both e v) → limit (simple (part_type 1 e v)) ≡ None
    → with_field_of n e v ≡ Ok whole → choice_of (field n) whole ≡ Ok (paired_part 1 e v)
field_at_ends n ns ts e v whole h f k l r =
    let y = end_of 1 (levels_of e) (both e v) in
    part-of n ns ts e v whole (field n) 1 y f k l r (λ s. refl) refl (field_type-with n ns ts y h)
    (values_if (is_option (end_of 0 (levels_of e) (both e v))) n ns ts y (field n) y 1
    (λ a b p q. field-raw n ns ts y a b h p))

-- records, which may be optional themselves
record_same : (o : Bool) (x r : DataType) → x ≡ option_if o r
    → simple (option_if o r) ≡ simple (option_if o x)
record_same true x r e = sym (ap (λ t. simple (opt t)) e)
record_same false x r e = sym (ap simple e)

record_value_same : (o : Bool) (x r : DataType) (ts : DataTypes) (ns : List Name) (w : Value)
    → r ≡ rec ns ts → x ≡ option_if o r → Has (option_if o (rec ns ts)) w
    → (z : Value) → simple_value (option_if o r) (part_beside 0 (pair_row w z))
    ≡ simple_value (option_if o x) (part_beside 0 (pair_row w z))
record_value_same true x r ts ns null e f h z = refl
record_value_same true x r ts ns (row vs) e f h z =
    sym (ap (λ t. simple_value (opt t) (row vs)) f)
record_value_same true x r ts ns (int n) e f h z = absurd h
record_value_same true x r ts ns (truth b) e f h z = absurd h
record_value_same true x r ts ns (list vs) e f h z = absurd h
record_value_same true x r ts ns (alt i v) e f h z = absurd h
record_value_same false x r ts ns w e f h z =
    sym (ap (λ t. simple_value t (part_beside 0 (pair_row w z))) f)

without_at_ends : (n : Name) (ns : List Name) (ts : DataTypes) (e v whole : Datum)
    → IsType (rec ns ts) → present (end_of 0 (levels_of e) (both e v)) ≡ rec ns ts
    → AllByRecursion IsTyped (both e v) → limit (simple (part_type 0 e v)) ≡ None
    → is_among n ns ≡ false → with_field_of n e v ≡ Ok whole
    → without_field_of n whole ≡ Ok (paired_part 0 e v)
without_at_ends n ns ts e v whole h f k l m r =
    let x = end_of 0 (levels_of e) (both e v) in
    let y = end_of 1 (levels_of e) (both e v) in
    let o = is_option x in
    let record_is : x ≡ option_if o (rec ns ts) = optional x (rec ns ts) f in
    part-of n ns ts e v whole (without n) 0 (rec ns ts) f k l r (λ s. refl)
    (record_same o x (rec ns ts) record_is) (type_without n ns ts y h m)
    (λ a b p q. values_if o n ns ts y (without n) (rec ns ts) 0
    (λ a b p q. without-raw n ns ts y a b h m p) a b p q
    ∙ record_value_same o x (rec ns ts) ts ns a refl record_is p b)

pub view_laws : ViewLaws
view_laws = record {
  range_of_range = range_of_range;
  range_by_steps = range_by_steps;
  field_of_with_field = field_of_with_field;
  field_of_with_value = field_of_with_value;
  without_field_of_with_field = without_field_of_with_field;
  field_at_ends = field_at_ends;
  without_at_ends = without_at_ends;
}
