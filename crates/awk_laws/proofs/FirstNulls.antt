-- First items of the lists at an axis, and how many items they have.
use Rattle.std.specs.Prelude.{◌≡◌, ℕ, zero, suc, ℤ, pos, Bool, false, List, [], ◌∷◌, map}
use Rattle.std.specs.Prelude.{length, Ok, refl}
use Rattle.std.specs.List.{AllByRecursion}
use Rattle.std.proofs.Common.{ap, sym, ◌∙◌}
use Rattle.awk_types.specs.DataType.{DataType, DataTypes, unknown, leaf, var, reg, rec, tup, opt}
use Rattle.awk_types.specs.DataType.{uni, no_types, type}
use Rattle.awk_types.specs.Datum.{Datum, datum_type}
use Rattle.awk_types.specs.Has.{Has, HasAlternative}
use Rattle.awk_types.specs.Predicates.{is_null}
use Rattle.awk_types.specs.Settle.{settle, settle_alternative}
use Rattle.awk_types.specs.Simple.{IsSimple, ArePlain, is_option, option_of, simple, simple_value}
use Rattle.awk_types.specs.Simple.{in_option, present, value_after}
use Rattle.awk_types.specs.Value.{Value, Values, int, truth, null, list, row, alt, value_list}
use Rattle.awk_types.specs.Value.{no_values, value}
use Rattle.awk_types.specs.declared.primitive.Primitive.TheVariants.{I64}
use Rattle.awk_types.proofs.SimpleLaws.{in_option_stays, present_no_option, present_simple}
use Rattle.awk_types.proofs.SimpleLaws.{simple_stays, value_stays}
use Rattle.awk_types.proofs.Trees.{value_list-from}
use Rattle.awk_columns.specs.Columns.{list_items}
use Rattle.awk_lists.specs.Num.{length_function, num_of}
use Rattle.awk_nulls.specs.Firsts.{first_or_null, firsts_of, firsts_function}
use Rattle.awk_pair_operands.specs.Typed.{IsTyped}
use Rattle.awk_laws.specs.Axes.{TypedList, alternative_of, lists_of}
use Rattle.awk_laws.specs.InPlace.{datum_value, in_place}
use Rattle.awk_laws.specs.Nulls.{is_zero, is_zero_or_null, lacks_first}
use Rattle.awk_laws.proofs.InPlace.{told_in_place}
use Rattle.awk_laws.proofs.NullLaws.{head_null, no_items}
use Rattle.awk_laws.proofs.Present.{has_no_null, has_present}

-- ---- first items

-- as an alternative of a union a first item loses its own tag, or is null
no_null_among : (ts : DataTypes) (j : ℕ) (v : Value) → ArePlain ts → HasAlternative ts j v
    → is_null v ≡ false
no_null_among no_types j v s h = absurd h
no_null_among (type t ts) zero v s h = has_no_null t v s.0 h
no_null_among (type t ts) (suc j) v s h = no_null_among ts j v s.3 h

tagged_null : (b : ℕ) (t : DataType) (v : Value) → IsSimple t → Has t v
    → is_null (alternative_of (value_after b v)) ≡ is_null v
tagged_null b t null s h = refl
tagged_null b t (int z) s h = refl
tagged_null b t (truth c) s h = refl
tagged_null b t (list vs) s h = refl
tagged_null b t (row vs) s h = refl
tagged_null b (uni ts) (alt j v) s h = no_null_among ts j v s h
tagged_null b (opt t) (alt j v) s h = tagged_null b t (alt j v) s.1 h
tagged_null b unknown (alt j v) s h = absurd h
tagged_null b (leaf p) (alt j v) s h = absurd h
tagged_null b (var t) (alt j v) s h = absurd h
tagged_null b (reg n t) (alt j v) s h = absurd h
tagged_null b (rec ns ts) (alt j v) s h = absurd h
tagged_null b (tup ts) (alt j v) s h = absurd h

first_among : (b : ℕ) (t : DataType) (us : Values) → IsSimple t
    → AllByRecursion (Has t) (value_list us)
    → is_null (alternative_of (value_after b (in_option (simple_value t)
    (first_or_null (value_list us)))))
    ≡ lacks_first (value_list us)
first_among b t no_values s h = refl
first_among b t (value v vs) s h =
    ap (λ w. is_null (alternative_of (value_after b w)))
    (in_option_stays (simple_value t) v (value_stays t v s h.0))
    ∙ tagged_null b t v s h.0

-- ---- the first item of a whole array

mutual
  settled_there : (t : DataType) (v : Value) → is_option t ≡ false → IsSimple t → Has t v
      → is_null (datum_value (settle t v)) ≡ false
  settled_there unknown v o s h = absurd h
  settled_there (leaf p) (int z) o s h = refl
  settled_there (leaf p) (truth b) o s h = refl
  settled_there (leaf p) null o s h = absurd h
  settled_there (leaf p) (list vs) o s h = absurd h
  settled_there (leaf p) (row vs) o s h = absurd h
  settled_there (leaf p) (alt j v) o s h = absurd h
  settled_there (var t) (list vs) o s h = refl
  settled_there (var t) (int z) o s h = absurd h
  settled_there (var t) (truth b) o s h = absurd h
  settled_there (var t) null o s h = absurd h
  settled_there (var t) (row vs) o s h = absurd h
  settled_there (var t) (alt j v) o s h = absurd h
  settled_there (reg n t) (list vs) o s h = refl
  settled_there (reg n t) (int z) o s h = absurd h
  settled_there (reg n t) (truth b) o s h = absurd h
  settled_there (reg n t) null o s h = absurd h
  settled_there (reg n t) (row vs) o s h = absurd h
  settled_there (reg n t) (alt j v) o s h = absurd h
  settled_there (rec ns ts) (row vs) o s h = refl
  settled_there (rec ns ts) (int z) o s h = absurd h
  settled_there (rec ns ts) (truth b) o s h = absurd h
  settled_there (rec ns ts) null o s h = absurd h
  settled_there (rec ns ts) (list vs) o s h = absurd h
  settled_there (rec ns ts) (alt j v) o s h = absurd h
  settled_there (tup ts) (row vs) o s h = refl
  settled_there (tup ts) (int z) o s h = absurd h
  settled_there (tup ts) (truth b) o s h = absurd h
  settled_there (tup ts) null o s h = absurd h
  settled_there (tup ts) (list vs) o s h = absurd h
  settled_there (tup ts) (alt j v) o s h = absurd h
  settled_there (opt t) v o s h = cc
  settled_there (uni ts) (alt j v) o s h = alternative_there ts j v s h
  settled_there (uni ts) (int z) o s h = absurd h
  settled_there (uni ts) (truth b) o s h = absurd h
  settled_there (uni ts) null o s h = absurd h
  settled_there (uni ts) (list vs) o s h = absurd h
  settled_there (uni ts) (row vs) o s h = absurd h

  alternative_there : (ts : DataTypes) (j : ℕ) (v : Value) → ArePlain ts
      → HasAlternative ts j v → is_null (datum_value (settle_alternative ts j v)) ≡ false
  alternative_there no_types j v s h = absurd h
  alternative_there (type t ts) zero v s h = settled_there t v s.0 s.2 h
  alternative_there (type t ts) (suc j) v s h = alternative_there ts j v s.3 h

-- settled as an option, a value stays null, or stays one that is there
optional_there : (t : DataType) (v : Value) → is_option t ≡ false → IsSimple t
    → (is_null v ≡ false → Has t v)
    → is_null (datum_value (settle (opt t) v)) ≡ is_null v
optional_there t null o s h = refl
optional_there t (int z) o s h = settled_there t (int z) o s (h refl)
optional_there t (truth b) o s h = settled_there t (truth b) o s (h refl)
optional_there t (list vs) o s h = settled_there t (list vs) o s (h refl)
optional_there t (row vs) o s h = settled_there t (row vs) o s (h refl)
optional_there t (alt j v) o s h = settled_there t (alt j v) o s (h refl)

settled_null : (t : DataType) (v : Value) → IsSimple t → Has t v
    → is_null (datum_value (settle (option_of t) v)) ≡ is_null v
settled_null t v s h =
    optional_there (present t) v (present_no_option t s) (present_simple t s)
    (λ e. has_present t v e h)

first_whole : (t : DataType) (vs : List Value) → IsSimple t → AllByRecursion (Has t) vs
    → is_null (datum_value (settle (option_of (simple t)) (in_option (simple_value t)
    (first_or_null vs))))
    ≡ lacks_first vs
first_whole t [] s h = refl
first_whole t (v ∷ vs) s h =
    ap (λ w. is_null (datum_value (settle (option_of (simple t)) w)))
    (in_option_stays (simple_value t) v (value_stays t v s h.0))
    ∙ ap (λ u. is_null (datum_value (settle (option_of u) v))) (simple_stays t s)
    ∙ settled_null t v s h.0

-- ---- at each axis

abbrev lacks : Value → Bool
lacks v = lacks_first (list_items v)

all_of : (ls : List TypedList) → AllByRecursion (λ l. Unit {0}) ls
all_of [] = tt
all_of (l ∷ ls) = (tt, all_of ls)

pub null_firsts : (axis : ℤ) (d made : Datum) → IsSimple (datum_type d) → IsTyped d
    → firsts_of axis d ≡ Ok made
    → map is_null (in_place axis d made) ≡ map lacks (in_place axis d d)
null_firsts axis d made s h e =
    told_in_place (λ t. opt t) (λ t vs. first_or_null vs) is_null lacks (λ l. Unit {0})
    (λ t us s r h. head_null t (value_list us) s h) (λ b t us s r h. first_among b t us s h) refl
    firsts_function refl
    (λ t vs s r h. first_whole t vs s h ∙ ap lacks_first (sym (value_list-from vs)))
    axis d made s h (all_of (lists_of axis d)) e

-- ---- how many items they have

abbrev no_items_in : Value → Bool
no_items_in v = is_zero (int (pos (length (list_items v))))

abbrev HasPlainItems : TypedList → Type 0
HasPlainItems l = is_option l.0 ≡ false

zero_same : (n : ℕ) → is_zero_or_null (int (pos n)) ≡ is_zero (int (pos n))
zero_same zero = refl
zero_same (suc n) = refl

zero_counts : (axis : ℤ) (d counts : Datum) → IsSimple (datum_type d) → IsTyped d
    → num_of axis d ≡ Ok counts
    → map is_zero_or_null (in_place axis d counts) ≡ map no_items_in (in_place axis d d)
zero_counts axis d counts s h e =
    told_in_place (λ t. leaf I64) (λ t vs. int (pos (length vs))) is_zero_or_null no_items_in
    (λ l. Unit {0}) (λ t us s r h. zero_same (length (value_list us)))
    (λ b t us s r h. zero_same (length (value_list us))) refl length_function refl
    (λ t vs s r h. zero_same (length vs)
    ∙ ap (λ ws. is_zero (int (pos (length ws)))) (sym (value_list-from vs)))
    axis d counts s h (all_of (lists_of axis d)) e

no_items_first : (axis : ℤ) (d made : Datum) → IsSimple (datum_type d) → IsTyped d
    → AllByRecursion HasPlainItems (lists_of axis d) → firsts_of axis d ≡ Ok made
    → map is_null (in_place axis d made) ≡ map no_items_in (in_place axis d d)
no_items_first axis d made s h k e =
    told_in_place (λ t. opt t) (λ t vs. first_or_null vs) is_null no_items_in HasPlainItems
    (λ t us s r h. head_null t (value_list us) s h ∙ no_items t (value_list us) r h)
    (λ b t us s r h. first_among b t us s h ∙ no_items t (value_list us) r h) refl
    firsts_function refl
    (λ t vs s r h. first_whole t vs s h ∙ no_items t vs r h
    ∙ ap (λ ws. is_zero (int (pos (length ws)))) (sym (value_list-from vs)))
    axis d made s h k e

pub null_where_num_is_zero : (axis : ℤ) (d made counts : Datum) → IsSimple (datum_type d)
    → IsTyped d → AllByRecursion HasPlainItems (lists_of axis d)
    → firsts_of axis d ≡ Ok made → num_of axis d ≡ Ok counts
    → map is_null (in_place axis d made) ≡ map is_zero_or_null (in_place axis d counts)
null_where_num_is_zero axis d made counts s h k e f =
    no_items_first axis d made s h k e ∙ sym (zero_counts axis d counts s h f)
