-- The laws of picks.
use Rattle.std.specs.Prelude.{◌≡◌, ℕ, ◌≤◌, List, [], ◌∷◌, length, map, get_or, Option, None}
use Rattle.std.specs.Prelude.{option_map, true, Ok, pos, refl}
use Rattle.std.specs.List.{AllByRecursion}
use Rattle.std.proofs.Common.{arith, ap, ap₂, sym, subst, ◌∙◌}
use Rattle.std.proofs.lemmas.List.{length-map}
use Rattle.std.proofs.lemmas.List.FromFn.{length-map-range_with_len}
use Rattle.awk_types.specs.DataType.{DataType, leaf, var}
use Rattle.awk_types.specs.Datum.{Datum, arr, one}
use Rattle.awk_types.specs.Faults.{limit_fault, wrong_unless, limit_refused}
use Rattle.awk_types.specs.Gives.{refused_or, ◌or◌}
use Rattle.awk_types.specs.ItemLimit.{item_limit, too_many}
use Rattle.awk_types.specs.Limit.{limit}
use Rattle.awk_types.specs.Settle.{settle}
use Rattle.awk_types.specs.Simple.{simple, simple_value}
use Rattle.awk_types.specs.Value.{Value, int, null, list, value_list, values_from}
use Rattle.awk_types.specs.declared.fault.Fault.{Fault}
use Rattle.awk_types.specs.declared.primitive.Primitive.TheVariants.{I64}
use Rattle.awk_types.proofs.RefusalLaws.{refused_or-Ok, refused_or-None, or-both, or-last}
use Rattle.awk_types.proofs.Trees.{value_list-from}
use Rattle.awk_types.proofs.ItemLimits.{within_limit, limit_kept}
use Rattle.awk_layout.specs.Item.{at_option}
use Rattle.awk_list_functions.specs.Counted.{counted}
use Rattle.awk_list_functions.specs.Lifting.{first_told}
use Rattle.awk_lists.specs.LocalIndex.{local_index_of}
use Rattle.awk_select.specs.Cells.{IsBelow}
use Rattle.awk_select.specs.Picks.{mask_of, take_of, take_refused, mask_refused, picked}
use Rattle.awk_select.specs.Picks.{picked_type, take_places, mask_places, lengths_refused}
use Rattle.awk_select.specs.Picks.{index_refused, is_index, is_mask}
use Rattle.awk_laws.specs.Picking.{PickingLaws}
use Rattle.awk_laws.proofs.JaggedPicks.{jagged_twice}
use Rattle.awk_law_chains.proofs.Limits.{counted-limit}
use Rattle.awk_law_chains.proofs.Places.{all_places, take_places-all, none_outside, picked-all}
use Rattle.awk_law_chains.proofs.Places.{mask_places_below, take_places-picked, picked_inside}
use Rattle.awk_law_chains.proofs.Places.{picked-taken, picked-map_taken, inside_picked, taken_item}
use Rattle.awk_laws.proofs.PickTypes.{allowed, inside, not_outside, same_length, places_index}
use Rattle.awk_laws.proofs.PickTypes.{kept_numbers, picked_type-places, picked_index}
use Rattle.awk_laws.proofs.PickTypes.{picked_type-picked}
use Rattle.awk_laws.proofs.LocalRows.{rows_by_places, rows_masked}
use Rattle.awk_laws.proofs.Told.{none_told}

-- ---- local_index of an array

settled_numbers : (ws : List Value)
    → settle (simple (var (leaf I64))) (simple_value (var (leaf I64)) (list (values_from ws)))
    ≡ arr (leaf I64) ws
settled_numbers ws =
    ap (arr (leaf I64))
    (value_list-from (map (simple_value (leaf I64)) (value_list (values_from ws)))
    ∙ kept_numbers (value_list (values_from ws)) ∙ value_list-from ws)

abbrev numbers_of : DataType → List Value → List Value
numbers_of t vs = all_places (length vs)

local-given : (t : DataType) (vs : List Value) (index : Datum)
    → local_index_of (pos 0) (arr t vs) ≡ Ok index
    → (length vs ≤ item_limit) × (index ≡ arr (leaf I64) (all_places (length vs)))
local-given t vs index e =
    let ws = all_places (length vs) in
    let spoil = counted numbers_of t (vs ∷ []) in
    let r = refused_or-Ok (first_told None None spoil)
    (settle (simple (var (leaf I64))) (simple_value (var (leaf I64)) (list (values_from ws))))
    index e in
    let n = none_told None spoil r.0 in
    let size : length ws ≡ length vs =
    length-map-range_with_len (λ (i : ℕ). int (pos i)) 0 (length vs) in (
      omega (arith, size, counted-limit numbers_of t vs n.1),
      sym r.1 ∙ settled_numbers ws,
    )

-- ---- the laws

abbrev four : Option Fault → Option Fault → Option Fault → Option Fault → Option Fault
four a b c d = a or (b or (c or d))

all_none : (a b c d : Option Fault) → a ≡ None → b ≡ None → c ≡ None → d ≡ None
    → four a b c d ≡ None
all_none a b c d e f g h = ap₂ (λ x y. x or y) e (ap₂ (λ x y. x or y) f (ap₂ (λ x y. x or y) g h))

-- where all but the limit are none
limit_alone : (a b c d : Option Fault) → a ≡ None → c ≡ None → d ≡ None → four a b c d ≡ b
limit_alone a b c d e g h =
    ap₂ (λ x y. x or (b or y)) e (ap₂ (λ x y. x or y) g h) ∙ or-last b

take_of_local_index : (t : DataType) (vs : List Value) (index : Datum) → limit t ≡ None
    → local_index_of (pos 0) (arr t vs) ≡ Ok index → take_of (arr t vs) index ≡ Ok (arr t vs)
take_of_local_index t vs index l e =
    let k = local-given t vs index e in
    let ws = all_places (length vs) in
    let size : length ws ≡ length vs =
    length-map-range_with_len (λ (i : ℕ). int (pos i)) 0 (length vs) in
    ap (take_of (arr t vs)) k.1
    ∙ refused_or-None (take_refused t vs (leaf I64) ws)
    (arr t (picked vs (take_places (length vs) ws))) (arr t vs)
    (all_none None (limit_refused t) (index_refused (length vs) ws) (too_many (length ws)) refl
    (ap (option_map limit_fault) l) (not_outside (length vs) ws (none_outside (length vs)))
    (within_limit (length ws) (omega (arith, size, k.0))))
    (ap (arr t) (ap (picked vs) (take_places-all (length vs)) ∙ picked-all vs))

-- what is not refused
record IsMasked (t : DataType) (vs : List Value) (u : DataType) (ms : List Value) (d : Datum)
    : Type 0 where
  mask : is_mask u ≡ true
  size : length vs ≡ length ms
  few : length (mask_places ms) ≤ item_limit
  is : arr (picked_type u t) (picked vs (mask_places ms)) ≡ d

is_masked : (t : DataType) (vs : List Value) (u : DataType) (ms : List Value) (d : Datum)
    → mask_of (arr t vs) (arr u ms) ≡ Ok d → IsMasked t vs u ms d
is_masked t vs u ms d e =
    let r = refused_or-Ok (mask_refused t vs u ms)
    (arr (picked_type u t) (picked vs (mask_places ms))) d e in
    let a = or-both (wrong_unless (is_mask u))
    (limit_refused (picked_type u t)
    or (lengths_refused (length vs) (length ms) or too_many (length (mask_places ms)))) r.0 in
    let b = or-both (limit_refused (picked_type u t))
    (lengths_refused (length vs) (length ms) or too_many (length (mask_places ms))) a.1 in
    let c = or-both (lengths_refused (length vs) (length ms))
    (too_many (length (mask_places ms))) b.1 in
    record {
      mask = allowed (is_mask u) a.0;
      size = same_length (length vs) (length ms) c.0;
      few = limit_kept (length (mask_places ms)) c.1;
      is = r.1;
    }

record IsTaken (t : DataType) (vs : List Value) (u : DataType) (ws : List Value) (d : Datum)
    : Type 0 where
  index : is_index u ≡ true
  within : index_refused (length vs) ws ≡ None
  few : too_many (length ws) ≡ None
  is : arr (picked_type u t) (picked vs (take_places (length vs) ws)) ≡ d

is_taken : (t : DataType) (vs : List Value) (u : DataType) (ws : List Value) (d : Datum)
    → take_of (arr t vs) (arr u ws) ≡ Ok d → IsTaken t vs u ws d
is_taken t vs u ws d e =
    let r = refused_or-Ok (take_refused t vs u ws)
    (arr (picked_type u t) (picked vs (take_places (length vs) ws))) d e in
    let a = or-both (wrong_unless (is_index u))
    (limit_refused (picked_type u t) or (index_refused (length vs) ws or too_many (length ws)))
    r.0 in
    let b = or-both (limit_refused (picked_type u t))
    (index_refused (length vs) ws or too_many (length ws)) a.1 in
    let c = or-both (index_refused (length vs) ws) (too_many (length ws)) b.1 in
    record { index = allowed (is_index u) a.0; within = c.0; few = c.1; is = r.1 }

same_answer : (a b : Option Fault) (x y : Datum) → a ≡ b → x ≡ y → refused_or a x ≡ refused_or b y
same_answer a b x y e f = ap₂ refused_or e f

by_places : (t : DataType) (vs : List Value) (u : DataType) (ms : List Value) (index places : Datum)
    → local_index_of (pos 0) (arr t vs) ≡ Ok index → mask_of index (arr u ms) ≡ Ok places
    → take_of (arr t vs) places ≡ mask_of (arr t vs) (arr u ms)
by_places t vs u ms index places e f =
    let n = length vs in
    let is = all_places n in
    let os = mask_places ms in
    let ws = picked is os in
    let k = local-given t vs index e in
    let m = is_masked (leaf I64) is u ms places (ap (λ d. mask_of d (arr u ms)) (sym k.1) ∙ f) in
    let size : length is ≡ n = length-map-range_with_len (λ (i : ℕ). int (pos i)) 0 n in
    let long : n ≡ length ms = sym size ∙ m.size in
    let below = subst (λ (j : ℕ). AllByRecursion (IsBelow j) os) (sym long)
    (mask_places_below ms) in
    let count : length ws ≡ length os = length-map os (λ o. at_option o (λ k. get_or is k null)) in
    let v = picked_type u (leaf I64) in
    let left : take_refused t vs v ws ≡ limit_refused (picked_type v t) =
    limit_alone (wrong_unless (is_index v)) (limit_refused (picked_type v t)) (index_refused n ws)
    (too_many (length ws)) (ap wrong_unless (places_index u))
    (not_outside n ws (picked_inside n os below))
    (within_limit (length ws) (omega (arith, count, m.few))) in
    let right : mask_refused t vs u ms ≡ limit_refused (picked_type u t) =
    limit_alone (wrong_unless (is_mask u)) (limit_refused (picked_type u t))
    (lengths_refused n (length ms)) (too_many (length os)) (ap wrong_unless m.mask)
    (equal_lengths n (length ms) long) (within_limit (length os) m.few) in
    let type : picked_type v t ≡ picked_type u t = picked_type-places u t in
    ap (take_of (arr t vs)) (sym m.is)
    ∙ same_answer (take_refused t vs v ws) (mask_refused t vs u ms)
    (arr (picked_type v t) (picked vs (take_places n ws))) (arr (picked_type u t) (picked vs os))
    (left ∙ ap limit_refused type ∙ sym right)
    (ap₂ arr type (ap (picked vs) (take_places-picked n os below)))
  where
    equal_lengths : (n m : ℕ) → n ≡ m → lengths_refused n m ≡ None
    equal_lengths n m h = grind arith

take_of_masked_places : (x mask index places : Datum)
    → local_index_of (pos 0) x ≡ Ok index → mask_of index mask ≡ Ok places
    → take_of x places ≡ mask_of x mask
take_of_masked_places (one t v) mask index places e f = refl
take_of_masked_places (arr t vs) (arr u ms) index places e f = by_places t vs u ms index places e f
take_of_masked_places (arr t vs) (one u m) (arr w ws) places e f = cc
take_of_masked_places (arr t vs) (one u m) (one w v) places e f = cc

by_index : (t : DataType) (vs : List Value) (u : DataType) (is : List Value) (w : DataType)
    (js : List Value) (picked index : Datum) → take_of (arr t vs) (arr u is) ≡ Ok picked
    → take_of (arr u is) (arr w js) ≡ Ok index
    → take_of picked (arr w js) ≡ take_of (arr t vs) index
by_index t vs u is w js y index e f =
    let n = length vs in
    let a = is_taken t vs u is y e in
    let b = is_taken u is w js index f in
    let ys = picked vs (take_places n is) in
    let ks = picked is (take_places (length is) js) in
    let v = picked_type u t in
    let k = picked_type w u in
    let items : ys ≡ map (taken_item vs) is = picked-taken vs is in
    let size : length ys ≡ length is = ap length items ∙ length-map is (taken_item vs) in
    let count : length ks ≡ length js =
    ap length (picked-taken is js) ∙ length-map js (taken_item is) in
    let left : take_refused v ys w js ≡ limit_refused (picked_type w v) =
    limit_alone (wrong_unless (is_index w)) (limit_refused (picked_type w v))
    (index_refused (length ys) js) (too_many (length js)) (ap wrong_unless b.index)
    (ap (λ (m : ℕ). index_refused m js) size ∙ b.within) b.few in
    let right : take_refused t vs k ks ≡ limit_refused (picked_type k t) =
    limit_alone (wrong_unless (is_index k)) (limit_refused (picked_type k t)) (index_refused n ks)
    (too_many (length ks)) (ap wrong_unless (picked_index w u a.index))
    (not_outside n ks (inside_picked n is (take_places (length is) js) (inside n is a.within)))
    (ap too_many count ∙ b.few) in
    let type : picked_type w v ≡ picked_type k t = picked_type-picked t u w in
    let values : picked ys (take_places (length ys) js) ≡ picked vs (take_places n ks) =
    ap₂ (λ xs (m : ℕ). picked xs (take_places m js)) items size
    ∙ picked-map_taken vs is (take_places (length is) js) ∙ sym (picked-taken vs ks) in
    ap (λ d. take_of d (arr w js)) (sym a.is)
    ∙ same_answer (take_refused v ys w js) (take_refused t vs k ks)
    (arr (picked_type w v) (picked ys (take_places (length ys) js)))
    (arr (picked_type k t) (picked vs (take_places n ks)))
    (left ∙ ap limit_refused type ∙ sym right) (ap₂ arr type values)
    ∙ ap (take_of (arr t vs)) b.is

take_of_take : (x i j picked index : Datum) → take_of x i ≡ Ok picked → take_of i j ≡ Ok index
    → take_of picked j ≡ take_of x index
take_of_take (arr t vs) (arr u is) (arr w js) y index e f = by_index t vs u is w js y index e f
take_of_take (arr t vs) (arr u is) (one w v) y index e f = cc
take_of_take (arr t vs) (one u v) j y index e f = cc
take_of_take (one t v) i j y index e f = cc

pub picking_laws : PickingLaws
picking_laws = record {
  take_of_local_index = take_of_local_index;
  take_of_masked_places = take_of_masked_places;
  take_of_take = take_of_take;
  jagged_of_local_index = rows_by_places;
  jagged_of_masked_places = rows_masked;
  jagged_of_jagged = jagged_twice;
}
