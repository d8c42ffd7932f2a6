-- The text of an item is the text of its case.
use Rattle.std.proofs.Common.{◌≡◌, ℕ, zero, suc, ◌+◌, ◌-◌, ◌*◌, ◌<◌, ◌≤◌, ◌==◌, Bool, true, false}
use Rattle.std.proofs.Common.{List, [], ◌∷◌, ◌++◌, length, codes, decimal, map, get_or, Option}
use Rattle.std.proofs.Common.{Some, None, if◌then◌else◌, refl, ap, sym, ◌∙◌, subst, arith}
use Rattle.std.specs.List.{range_with_len}
use Rattle.std.specs.Ordering.{int_eq}
use Rattle.awk_types.specs.DataType.{Name, DataType, var, reg, opt, row_type}
use Rattle.awk_types.specs.Has.{Has}
use Rattle.awk_types.specs.Predicates.{is_null}
use Rattle.awk_types.specs.Value.{Value, null, row, value_list}
use Rattle.awk_json.specs.Text.{quoted, comma_joined, list_text}
use Rattle.awk_layout.specs.Layout.{Layout, Layouts, layout_list, count, empty, flat, regular}
use Rattle.awk_layout.specs.Layout.{lists, offset_lists, rows, indexed, optional, byte_masked}
use Rattle.awk_layout.specs.Layout.{bit_masked, unmasked, union, no_layouts, layout}
use Rattle.awk_layout.specs.Valid.{len, len_of, IsValid, AreNames}
use Rattle.awk_layout.specs.Item.{item, items_across, item_of, run, byte_shows, bit_shows}
use Rattle.awk_layout.specs.Place.{span, missing, through, case_of, value_of, through_option, nth}
use Rattle.awk_layout.specs.Place.{IsWithin}
use Rattle.awk_layout.specs.Laws.{item-case_of, case_of-within}
use Rattle.awk_layout.specs.Typing.{layout_type, layout_types}
use Rattle.awk_layout.specs.Numbered.{IsNumbered}
use Rattle.awk_lanes.specs.Numbers.{nat_of}
use Rattle.awk_lanes.specs.Places.{at, place_at, option_place_at}
use Rattle.awk_form.specs.FormText.{Text}
use Rattle.awk_text.specs.ValueText.{value_text, row_texts, alternative_text, members, place_names}
use Rattle.awk_text.specs.LayoutText.{layout_text, row_text, member_text, field_name, case_text}
use Rattle.awk_layout.proofs.TypedItems.{item_has}
use Rattle.std.proofs.lemmas.Simd.{map-map}
use Rattle.awk_base.proofs.Ranges.{map-same}
use Rattle.awk_layout.proofs.Runs.{value_list-run}
use Rattle.awk_layout.proofs.LayoutLists.{length-layout_list}
use Rattle.awk_text.proofs.Ranges.{map-shift}

-- ---- lists

run_text : (t : DataType) (y : Layout) (lo n : ℕ)
    → list_text (map (value_text t) (value_list (run (item y) lo n)))
    ≡ list_text (map (λ j. value_text t (item y j)) (range_with_len lo n))
run_text t y lo n = ap (λ vs. list_text (map (value_text t) vs)) (value_list-run (item y) lo n)
    ∙ ap list_text (map-map (value_text t) (item y) (range_with_len lo n))

between_case : (y : Layout) (e : Bool) (lo hi : ℕ)
    → value_text (var (layout_type y)) (value_of (if e then span y 0 0 else span y lo hi))
    ≡ case_text (if e then span y 0 0 else span y lo hi)
between_case y true lo hi = run_text (layout_type y) y 0 0
between_case y false lo hi = run_text (layout_type y) y lo (hi - lo)

-- ---- options

-- null is shown alike with its option and without
null_shown : (t : DataType) (v : Value) → Has t v → value_text (opt t) v ≡ value_text t v
null_shown (opt t) v h = same_twice (is_null v) (value_text t v)
  where
    same_twice : (b : Bool) (text : Text)
        → (if b then codes "null" else (if b then codes "null" else text))
        ≡ (if b then codes "null" else text)
    same_twice true text = refl
    same_twice false text = refl
null_shown t null h = absurd h
null_shown t v h = refl

option_case : (h : ℕ) (y : Layout) (o : Option ℕ)
    → ((k : ℕ) → k < len y → Has (layout_type y) (item y k)) → IsWithin h (through_option y o)
    → value_text (opt (layout_type y)) (value_of (through_option y o))
    ≡ case_text (through_option y o)
option_case h y None each w = refl
option_case h y (Some k) each w = null_shown (layout_type y) (item y k) (each k w.0)

mask_case : (h : ℕ) (y : Layout) (i : ℕ) (b : Bool)
    → ((k : ℕ) → k < len y → Has (layout_type y) (item y k))
    → IsWithin h (if b then through y i else missing)
    → value_text (opt (layout_type y)) (value_of (if b then through y i else missing))
    ≡ case_text (if b then through y i else missing)
mask_case h y i true each w = null_shown (layout_type y) (item y i) (each i w.0)
mask_case h y i false each w = refl

-- ---- unions

alternative_case : (xs : Layouts) (k i : ℕ) → i < len_of xs k
    → alternative_text (layout_types xs) k (item_of xs k i) ≡ layout_text (nth xs k) i
alternative_case no_layouts k i h = absurd (omega arith)
alternative_case (layout x xs) zero i h = refl
alternative_case (layout x xs) (suc k) i h = alternative_case xs k i h

-- ---- rows

members-places : (ns : List Name) (ts : List Text) → length ts ≤ length ns
    → members ns ts ≡ map (λ k. (quoted (get_or ns k []) ++ codes ":") ++ get_or ts k [])
    (range_with_len 0 (length ts))
members-places [] [] h = refl
members-places [] (t ∷ ts) h = absurd (omega arith)
members-places (n ∷ ns) [] h = refl
members-places (n ∷ ns) (t ∷ ts) h =
    ap (λ z. ((quoted n ++ codes ":") ++ t) ∷ z)
    (members-places ns ts (omega arith)
    ∙ sym
    (map-shift (λ k. (quoted (get_or (n ∷ ns) k []) ++ codes ":") ++ get_or (t ∷ ts) k []) 0
    (length ts)))

place_names-at : (j : ℕ) (xs : Layouts) (k : ℕ) → k < length (layout_list xs)
    → get_or (place_names j (layout_types xs)) k [] ≡ decimal (j + k)
place_names-at j no_layouts k h = absurd (omega arith)
place_names-at j (layout x xs) zero h = let e : j ≡ j + 0 = omega arith in ap decimal e
place_names-at j (layout x xs) (suc k) h = let e : suc j + k ≡ j + suc k = omega arith in
    place_names-at (suc j) xs k (omega arith) ∙ ap decimal e

length-place_names : (j : ℕ) (xs : Layouts)
    → length (place_names j (layout_types xs)) ≡ length (layout_list xs)
length-place_names j no_layouts = refl
length-place_names j (layout x xs) = omega (arith, length-place_names (suc j) xs)

row_texts-at : (xs : Layouts) (i k : ℕ) → k < length (layout_list xs)
    → get_or (row_texts (layout_types xs) (value_list (items_across xs i))) k []
    ≡ layout_text (get_or (layout_list xs) k empty) i
row_texts-at no_layouts i k h = absurd (omega arith)
row_texts-at (layout x xs) i zero h = refl
row_texts-at (layout x xs) i (suc k) h = row_texts-at xs i k (omega arith)

length-row_texts : (xs : Layouts) (i : ℕ)
    → length (row_texts (layout_types xs) (value_list (items_across xs i)))
    ≡ length (layout_list xs)
length-row_texts no_layouts i = refl
length-row_texts (layout x xs) i = omega (arith, length-row_texts xs i)

members_case : (names : Option (List Name)) (ns : List Name) (xs : Layouts) (i : ℕ)
    → length (layout_list xs) ≤ length ns
    → ((k : ℕ) → k < length (layout_list xs) → get_or ns k [] ≡ field_name names k)
    → members ns (row_texts (layout_types xs) (value_list (items_across xs i)))
    ≡ map (member_text names (layout_list xs) i) (range_with_len 0 (length (layout_list xs)))
members_case names ns xs i enough named =
    let texts : List Text = row_texts (layout_types xs) (value_list (items_across xs i)) in
    let many : length texts ≡ length (layout_list xs) = length-row_texts xs i in
    members-places ns texts (omega (arith, many))
    ∙ ap
    (λ n. map (λ k. (quoted (get_or ns k []) ++ codes ":") ++ get_or texts k [])
    (range_with_len 0 n)) many
    ∙ map-same _ (member_text names (layout_list xs) i) 0 (length (layout_list xs)) (λ k p q.
    let below : k < length (layout_list xs) = omega arith in
    ap (λ z. (quoted z ++ codes ":") ++ get_or texts k []) (named k below)
    ∙ ap (λ z. (quoted (field_name names k) ++ codes ":") ++ z) (row_texts-at xs i k below))

row_case : (names : Option (List Name)) (xs : Layouts) (i : ℕ) → AreNames names (count xs)
    → value_text (row_type names (layout_types xs)) (row (items_across xs i))
    ≡ row_text names (layout_list xs) i
row_case None xs i h =
    ap (λ z. codes "{" ++ (comma_joined z ++ codes "}"))
    (members_case None (place_names 0 (layout_types xs)) xs i
    (omega (arith, length-place_names 0 xs))
    (λ k p. let e : 0 + k ≡ k = omega arith in place_names-at 0 xs k p ∙ ap decimal e))
row_case (Some names) xs i h = ap (λ z. codes "{" ++ (comma_joined z ++ codes "}"))
    (members_case (Some names) names xs i (omega (arith, h.0, length-layout_list xs)) (λ k p. refl))

-- ---- each class

by_value : (x : Layout) (i : ℕ) (t : DataType) → t ≡ layout_type x
    → value_text t (value_of (case_of x i)) ≡ case_text (case_of x i)
    → layout_text x i ≡ case_text (case_of x i)
by_value x i t e h = ap (value_text (layout_type x)) (item-case_of x i)
    ∙ subst (λ u. value_text u (value_of (case_of x i)) ≡ case_text (case_of x i)) e h

block_case : (n : ℕ) (y : Layout) (e : Bool) (lo hi : ℕ)
    → value_text (reg n (layout_type y)) (value_of (if e then span y 0 0 else span y lo hi))
    ≡ case_text (if e then span y 0 0 else span y lo hi)
block_case n y true lo hi = run_text (layout_type y) y 0 0
block_case n y false lo hi = run_text (layout_type y) y lo (hi - lo)

pub layout_text-case : (x : Layout) (i : ℕ) → IsValid x → IsNumbered x → i < len x
    → layout_text x i ≡ case_text (case_of x i)
layout_text-case empty i v w p = refl
layout_text-case (flat c) i v w p = refl
layout_text-case (regular size n x) i v w p =
    by_value (regular size n x) i (reg size (layout_type x)) refl
    (block_case size x (size == 0) (i * size) (i * size + size))
layout_text-case (lists s t x) i v w p = by_value (lists s t x) i (var (layout_type x)) refl
    (between_case x (int_eq (at s i) (at t i)) (nat_of (at s i)) (nat_of (at t i)))
layout_text-case (offset_lists o x) i v w p = by_value (offset_lists o x) i (var (layout_type x))
    refl (between_case x (int_eq (at o i) (at o (i + 1))) (nat_of (at o i)) (nat_of (at o (i + 1))))
layout_text-case (rows names n xs) i v w p = row_case names xs i v.1
layout_text-case (indexed j x) i v w p = refl
layout_text-case (optional j x) i v w p =
    by_value (optional j x) i (opt (layout_type x)) refl
    (option_case _ x (option_place_at j i) (λ k q. item_has x k v.2 w q)
    (case_of-within (optional j x) i v p))
layout_text-case (byte_masked m b x) i v w p =
    by_value (byte_masked m b x) i (opt (layout_type x)) refl
    (mask_case _ x i (byte_shows m b i) (λ k q. item_has x k v.2 w q)
    (case_of-within (byte_masked m b x) i v p))
layout_text-case (bit_masked m b x) i v w p =
    by_value (bit_masked m b x) i (opt (layout_type x)) refl
    (mask_case _ x i (bit_shows m b i) (λ k q. item_has x k v.2 w q)
    (case_of-within (bit_masked m b x) i v p))
layout_text-case (unmasked n x) i v w p =
    null_shown (layout_type x) (item x i) (item_has x i v.2 w (omega (arith, v.1)))
layout_text-case (union t j xs) i v w p =
    alternative_case xs (place_at t i) (place_at j i) ((v.1.places i p).1)
