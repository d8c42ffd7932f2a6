-- Steps of the tests, and what they find.
use Rattle.std.proofs.Common.{◌≡◌, ℕ, ◌+◌, ◌≤◌, ◌&&◌, Bool, true, false, List, [], ◌∷◌, length}
use Rattle.std.proofs.Common.{drop, slice_get, Option, Some, None, if◌then◌else◌, refl, ap, ◌∙◌}
use Rattle.std.proofs.Common.{sym}
use Rattle.std.proofs.lemmas.List.{drop_all}
use Rattle.std.specs.List.{AllByRecursion}
use Rattle.awk_types.specs.DataType.{Name, DataType, unknown, leaf, var, reg, rec, tup, opt, uni}
use Rattle.awk_types.specs.DataType.{DataTypes, no_types, type}
use Rattle.awk_types.specs.Names.{is_among}
use Rattle.awk_types.specs.IsType.{count}
use Rattle.awk_types.specs.Gives.{◌or◌}
use Rattle.awk_layout.specs.Layout.{Layout, layouts_from}
use Rattle.awk_layout.specs.Typing.{layout_type, layout_types}
use Rattle.awk_layout.specs.Contents.{height-get}
use Rattle.awk_view.specs.Choice.{Choice, field, fields, without, row_names, has_field}
use Rattle.awk_view.specs.Choice.{all_have_field, has_records, all_have_records, first_absent}
use Rattle.awk_view.specs.Choice.{absent}
use Rattle.awk_view.specs.Layouts.{AreAmong, IsFound, AreFound}
use Rattle.awk_base.proofs.Lists.{drop-get}
use Rattle.awk_layout.proofs.LayoutLists.{layout_list-from}
use Rattle.awk_view.proofs.ChoiceLayouts.{count-layout_types}

-- ---- loops over alternatives

pub records_step : (xs : List Layout) (i : ℕ) (y : Layout) → slice_get xs i ≡ Some y
    → all_have_records (layout_types (layouts_from (drop i xs))) ≡
    (has_records (layout_type y) && all_have_records
    (layout_types (layouts_from (drop (i + 1) xs))))
records_step xs i y e = ap (λ ys. all_have_records (layout_types (layouts_from ys)))
    (drop-get xs i y e)

pub records_end : (xs : List Layout) (i : ℕ) → length xs ≤ i
    → all_have_records (layout_types (layouts_from (drop i xs))) ≡ true
records_end xs i l = ap (λ ys. all_have_records (layout_types (layouts_from ys))) (drop_all i xs l)

pub records_no : (xs : List Layout) (i : ℕ) (y : Layout) → slice_get xs i ≡ Some y
    → has_records (layout_type y) ≡ false
    → all_have_records (layout_types (layouts_from xs)) ≡ all_have_records
    (layout_types (layouts_from (drop i xs))) → false ≡ all_have_records
    (layout_types (layouts_from xs))
records_no xs i y e f h = sym (h ∙ records_step xs i y e ∙ ap
    (λ b. b && all_have_records (layout_types (layouts_from (drop (i + 1) xs)))) f)

pub records_yes : (xs : List Layout) (i : ℕ) (y : Layout) → slice_get xs i ≡ Some y
    → has_records (layout_type y) ≡ true
    → all_have_records (layout_types (layouts_from xs)) ≡ all_have_records
    (layout_types (layouts_from (drop i xs))) → all_have_records (layout_types (layouts_from xs)) ≡
    all_have_records (layout_types (layouts_from (drop (i + 1) xs)))
records_yes xs i y e f h = h ∙ records_step xs i y e ∙ ap
    (λ b. b && all_have_records (layout_types (layouts_from (drop (i + 1) xs)))) f

-- the number of a tuple's places
pub tuple_count : (xs : List Layout) → count (layout_types (layouts_from xs)) ≡ length xs
tuple_count xs = count-layout_types (layouts_from xs) ∙ ap length (layout_list-from xs)

pub ruleset found_steps = (height-get, records_step, records_end, tuple_count)

-- ---- what is not absent is found

both_first : (a b : Bool) → (a && b) ≡ true → a ≡ true
both_first true b e = refl
both_first false b e = cc

both_second : (a b : Bool) → (a && b) ≡ true → b ≡ true
both_second true b e = e
both_second false b e = cc

mutual
  found_one : (c : Choice) (k : Name)
      → ((names : List Name) → is_among k names ≡ true → AreAmong c names) → (t : DataType)
      → has_field k t ≡ true → IsFound c t
  found_one c k a unknown e = cc
  found_one c k a (leaf p) e = cc
  found_one c k a (var t) e = found_one c k a t e
  found_one c k a (reg n t) e = found_one c k a t e
  found_one c k a (rec names ts) e = a names e
  found_one c k a (tup ts) e = a (row_names None (count ts)) e
  found_one c k a (opt t) e = found_one c k a t e
  found_one c k a (uni ts) e = found_ones c k a ts e

  found_ones : (c : Choice) (k : Name)
      → ((names : List Name) → is_among k names ≡ true → AreAmong c names) → (ts : DataTypes)
      → all_have_field k ts ≡ true → AreFound c ts
  found_ones c k a no_types e = tt
  found_ones c k a (type t ts) e = (
    found_one c k a t (both_first (has_field k t) _ e),
    found_ones c k a ts
        (both_second (has_field k t) _ e),
  )

each_first : (t : DataType) (ts : DataTypes) (ks : List Name)
    → AllByRecursion (λ k. (has_field k t && all_have_field k ts) ≡ true) ks
    → AllByRecursion (λ k. has_field k t ≡ true) ks
each_first t ts [] h = tt
each_first t ts (k ∷ ks) h = (both_first (has_field k t) _ h.0, each_first t ts ks h.1)

each_second : (t : DataType) (ts : DataTypes) (ks : List Name)
    → AllByRecursion (λ k. (has_field k t && all_have_field k ts) ≡ true) ks
    → AllByRecursion (λ k. all_have_field k ts ≡ true) ks
each_second t ts [] h = tt
each_second t ts (k ∷ ks) h = (both_second (has_field k t) _ h.0, each_second t ts ks h.1)

mutual
  found_all : (ks : List Name) (t : DataType) → has_records t ≡ true
      → AllByRecursion (λ k. has_field k t ≡ true) ks → IsFound (fields ks) t
  found_all ks unknown e h = cc
  found_all ks (leaf p) e h = cc
  found_all ks (var t) e h = found_all ks t e h
  found_all ks (reg n t) e h = found_all ks t e h
  found_all ks (rec names ts) e h = h
  found_all ks (tup ts) e h = h
  found_all ks (opt t) e h = found_all ks t e h
  found_all ks (uni ts) e h = found_alls ks ts e h

  found_alls : (ks : List Name) (ts : DataTypes) → all_have_records ts ≡ true
      → AllByRecursion (λ k. all_have_field k ts ≡ true) ks → AreFound (fields ks) ts
  found_alls ks no_types e h = tt
  found_alls ks (type t ts) e h = (
    found_all ks t (both_first (has_records t) _ e) (each_first t ts ks h),
    found_alls ks ts (both_second (has_records t) _ e) (each_second t ts ks h),
  )

none_here : (b : Bool) (n : Name) (o : Option Name) → (if b then o else Some n) ≡ None
    → (b ≡ true) × (o ≡ None)
none_here true n o e = (refl, e)
none_here false n o e = cc

none_absent : (ks : List Name) (t : DataType) → first_absent ks t ≡ None
    → AllByRecursion (λ k. has_field k t ≡ true) ks
none_absent [] t e = tt
none_absent (k ∷ ks) t e =
    let h = none_here (has_field k t) k (first_absent ks t) e in (h.0, none_absent ks t h.1)

none_of_two : (a b : Option Name) → (a or b) ≡ None → (a ≡ None) × (b ≡ None)
none_of_two None b e = (refl, e)
none_of_two (Some n) b e = cc

records_there : (b : Bool) (n : Name) → (if b then None else Some n) ≡ None → b ≡ true
records_there true n e = refl
records_there false n e = cc

pub found : (c : Choice) (t : DataType) → absent c t ≡ None → IsFound c t
found (field k) t e = found_one (field k) k (λ names h. h) t (none_absent (k ∷ []) t e).0
found (fields ks) t e =
    let h = none_of_two (first_absent ks t) (if has_records t then None else Some []) e in
    found_all ks t (records_there (has_records t) [] h.1) (none_absent ks t h.0)
found (without k) t e = found_one (without k) k (λ names h. h) t (none_absent (k ∷ []) t e).0
