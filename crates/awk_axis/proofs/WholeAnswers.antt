-- What is told of a function of one list, applied to a whole array as one list.
use Rattle.std.specs.Prelude.{◌≡◌, ℕ, ◌-◌, List, [], ◌∷◌, map}
use Rattle.std.specs.Prelude.{Option, Some, None, Ok, Err, option_map, pos}
use Rattle.std.proofs.Common.{arith, ap, ap₂, sym, ◌∙◌}
use Rattle.std.proofs.lemmas.List.{append-nil}
use Rattle.std.specs.List.{flat_map, range_with_len}
use Rattle.awk_types.specs.DataType.{DataType}
use Rattle.awk_types.specs.Datum.{Datum, arr}
use Rattle.awk_types.specs.Gives.{refused_or}
use Rattle.awk_types.specs.Limit.{limit}
use Rattle.awk_types.specs.Settle.{settle}
use Rattle.awk_types.specs.Simple.{simple, simple_value}
use Rattle.awk_types.specs.Value.{Value, list, value_list, values_from}
use Rattle.awk_types.proofs.Trees.{value_list-from}
use Rattle.awk_lanes.specs.Column.{Column}
use Rattle.awk_lanes.specs.Places.{place_at}
use Rattle.awk_lanes.specs.declared.kind.Kind.TheVariants.{I64}
use Rattle.awk_layout.specs.Datum.{first_item}
use Rattle.awk_layout.specs.Item.{run}
use Rattle.awk_layout.specs.Layout.{Layout}
use Rattle.awk_layout.specs.Valid.{len}
use Rattle.awk_layout.specs.Typing.{array_type, array_items}
use Rattle.awk_layout.proofs.Runs.{value_list-run}
use Rattle.awk_gather.specs.Arrays.{array_item}
use Rattle.awk_list_functions.specs.declared.causes.Spoil.{Spoil}
use Rattle.awk_list_functions.specs.declared.function.Made.TheVariants as made
use Rattle.awk_columns.specs.ListClass.{Class, list_type}
use Rattle.awk_list_functions.specs.ListFunction.{Giving, lists, singles, ListFunction}
use Rattle.awk_list_functions.specs.ListFunction.{made_type, given_class, given_type, given_value}
use Rattle.awk_list_functions.specs.Lifting.{spoil_fault, on_whole}
use Rattle.awk_list_functions.specs.Made.{AreGiven, GivesLists, GivesSpans, GivesSingles, IsMade}
use Rattle.awk_list_functions.specs.Made.{even_offsets}
use Rattle.awk_columns.specs.Lists.{AreLists, items_at, all_items_at}
use Rattle.awk_counts.specs.Counted.{spans}
use Rattle.awk_columns.specs.Reached.{IsReached}
use Rattle.awk_columns.proofs.ArrayLaws.{array_items-at}
use Rattle.awk_columns.proofs.JoinLaws.{reached-items}
use Rattle.awk_list_functions.proofs.JudgedTypes.{told_values}

-- a lane of one number
abbrev pub single : ℕ → Column
single n = record { kind = I64; items = pos n ∷ [] }

-- ---- the whole array as one list

all_items : (x : Layout) → value_list (run (array_item x) 0 (len x)) ≡ array_items x
all_items x = value_list-run (array_item x) 0 (len x) ∙ sym (array_items-at x)

whole_items : (x : Layout) → items_at (single 0) (single (len x)) x 0 ≡ array_items x
whole_items x =
    let e : place_at (single (len x)) 0 - place_at (single 0) 0 ≡ len x = omega arith in
    ap (λ n. value_list (run (array_item x) 0 n)) e ∙ all_items x

-- nothing is told by types
abbrev pub IsTaken : ListFunction → Layout → Type 0
IsTaken f x =
    (f.refusal (array_type x) ≡ None)
    × (limit (simple (made_type f.giving (array_type x))) ≡ None)

abbrev whole_datum : Giving → DataType → List Value → Datum
whole_datum g t vs = settle (simple (given_type g None t))
    (simple_value (given_type g None t) (given_value g t vs))

whole_told : (f : ListFunction) (x : Layout) (s : Option Spoil) → IsTaken f x
    → f.spoil (array_type x) (all_items_at (single 0) (single (len x)) x) ≡ s
    → on_whole f (array_type x) (array_items x)
    ≡ refused_or (option_map spoil_fault s) (whole_datum f.giving (array_type x) (array_items x))
whole_told f x s a h =
    let spoil : f.spoil (array_type x) (array_items x ∷ []) ≡ s =
    ap (λ vs. f.spoil (array_type x) (vs ∷ [])) (sym (whole_items x)) ∙ h in
    told_values _ _ _ (whole_datum f.giving (array_type x) (array_items x)) a.0 a.1
    ∙ ap (λ z. refused_or (option_map spoil_fault z)
    (whole_datum f.giving (array_type x) (array_items x))) spoil

pub whole_spoilt : (f : ListFunction) (x : Layout) (w : Spoil) → IsTaken f x
    → IsMade f None (single 0) (single (len x)) x (made.Spoiled w)
    → on_whole f (array_type x) (array_items x) ≡ Err (spoil_fault w)
whole_spoilt f x w a h = whole_told f x (Some w) a h

-- ---- lists

settle_list : (c : Class) (t : DataType) (vs : List Value)
    → settle (simple (list_type c t)) (simple_value (list_type c t) (list (values_from vs)))
    ≡ arr (simple t) (map (simple_value t) vs)
settle_list None t vs = ap (arr (simple t)) (value_list-from
    (map (simple_value t) (value_list (values_from vs)))
    ∙ ap (map (simple_value t)) (value_list-from vs))
settle_list (Some n) t vs = ap (arr (simple t))
    (value_list-from (map (simple_value t) (value_list (values_from vs)))
    ∙ ap (map (simple_value t)) (value_list-from vs))

given_whole : (c : Class) (t : DataType) (f : List Value → List Value) (x z : Layout) (o : Column)
    → AreGiven c t f (single 0) (single (len x)) x o z
    → array_items z ≡ map (simple_value t) (f (array_items x))
given_whole c t f x z o g =
    let a : place_at o 0 ≡ 0 = g.offsets.first in
    let b : place_at o 1 ≡ len z = g.offsets.last in
    let n : place_at o 1 - place_at o 0 ≡ len z = omega (arith, a, b) in
    sym (all_items z)
    ∙ sym (ap₂ (λ i m. value_list (run (array_item z) i m)) a n)
    ∙ g.lists 0 (omega arith)
    ∙ ap (λ vs. map (simple_value t) (f vs)) (whole_items x)

lists_datum : (g : Giving) (x z : Layout) (o : Column)
    → GivesLists g None (single 0) (single (len x)) x o z
    → whole_datum g (array_type x) (array_items x) ≡ arr (array_type z) (array_items z)
lists_datum (lists class typ items) x z o h =
    settle_list (class None) (typ (array_type x)) (items (array_type x) (array_items x))
    ∙ ap₂ arr (sym h.typ) (sym (given_whole (class None) (typ (array_type x)) (items (array_type x))
    x z o h))
lists_datum (singles typ value) x z o h = absurd h

pub whole_given : (f : ListFunction) (x z : Layout) (o : Column) → IsTaken f x
    → IsMade f None (single 0) (single (len x)) x (made.Lists o z)
    → on_whole f (array_type x) (array_items x) ≡ Ok (arr (array_type z) (array_items z))
whole_given f x z o a h = whole_told f x None a h.0 ∙ ap Ok (lists_datum f.giving x z o h.1)

-- lists of one size are lists by offsets that go without saying
pub even_lists : (f : ListFunction) (x z : Layout)
    → IsMade f None (single 0) (single (len x)) x (made.Even z)
    → IsMade f None (single 0) (single (len x)) x
    (made.Lists (even_offsets (given_class f.giving None) 1) z)
even_lists f x z h = (h.0, h.2)

-- ---- lists by their starts and stops

pub spans_lists : (f : ListFunction) (x z : Layout) (a b : Column)
    → IsMade f None (single 0) (single (len x)) x (made.Spans a b z) → AreLists None a b z
spans_lists f x z a b h = lists_of f.giving h.1
  where
    lists_of : (g : Giving) → GivesSpans g None (single 0) (single (len x)) x a b z
        → AreLists None a b z
    lists_of (lists class typ items) k = record {
      spans = k.1.spans;
      fits = k.1.fits;
      valid = k.1.valid;
      same_class = tt;
    }
    lists_of (singles typ value) k = absurd k

pub spans_within : (f : ListFunction) (x z : Layout) (a b : Column) → IsTaken f x
    → IsMade f None (single 0) (single (len x)) x (made.Spans a b z) → limit (array_type z) ≡ None
spans_within f x z a b t h = ap limit (spans_type f.giving h.1) ∙ t.1
  where
    spans_type : (g : Giving) → GivesSpans g None (single 0) (single (len x)) x a b z
        → array_type z ≡ simple (made_type g (array_type x))
    spans_type (lists class typ items) k = k.1.typ
    spans_type (singles typ value) k = absurd k

spans_datum : (g : Giving) (x z w : Layout) (a b : Column)
    → GivesSpans g None (single 0) (single (len x)) x a b z → IsReached z (spans a b) w
    → whole_datum g (array_type x) (array_items x) ≡ arr (array_type w) (array_items w)
spans_datum (lists class typ items) x z w a b h r =
    let t : DataType = typ (array_type x) in
    let f : List Value → List Value = items (array_type x) in
    let column : array_items w ≡ items_at a b z 0 =
    reached-items a b z w r
    ∙ ap (λ n. flat_map (items_at a b z) (range_with_len 0 n)) h.1.size
    ∙ append-nil (items_at a b z 0) in
    settle_list (class None) t (f (array_items x))
    ∙ ap₂ arr (sym (r.typ ∙ h.1.typ))
    (sym (column ∙ h.1.lists 0 (omega arith)
    ∙ ap (λ vs. map (simple_value t) (f vs)) (whole_items x)))
spans_datum (singles typ value) x z w a b h r = absurd h

pub whole_spanned : (f : ListFunction) (x z w : Layout) (a b : Column) → IsTaken f x
    → IsMade f None (single 0) (single (len x)) x (made.Spans a b z) → IsReached z (spans a b) w
    → on_whole f (array_type x) (array_items x) ≡ Ok (arr (array_type w) (array_items w))
whole_spanned f x z w a b t h r =
    whole_told f x None t h.0 ∙ ap Ok (spans_datum f.giving x z w a b h.1 r)

-- ---- single values

singles_datum : (g : Giving) (x z : Layout) → GivesSingles g (single 0) (single (len x)) x z
    → whole_datum g (array_type x) (array_items x) ≡ settle (array_type z) (first_item z)
singles_datum (lists class typ items) x z h = absurd h
singles_datum (singles typ value) x z h =
    ap₂ settle (sym h.typ)
    (sym (h.items 0 (omega arith)
    ∙ ap (λ vs. simple_value (typ (array_type x)) (value (array_type x) vs)) (whole_items x)))

pub whole_single : (f : ListFunction) (x z : Layout) (d : Datum) → IsTaken f x
    → IsMade f None (single 0) (single (len x)) x (made.Singles z)
    → d ≡ settle (array_type z) (first_item z)
    → on_whole f (array_type x) (array_items x) ≡ Ok d
whole_single f x z d a h e = whole_told f x None a h.0
    ∙ ap Ok (singles_datum f.giving x z h.1 ∙ sym e)
