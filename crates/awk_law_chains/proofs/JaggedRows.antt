-- Picks row by row: one level of lists, optional or not.
use Rattle.std.specs.Prelude.{◌≡◌, ◌==◌, ◌||◌, not, Bool, true, false, List, [], ◌∷◌, length, map}
use Rattle.std.specs.Prelude.{Option, Some, None, option_map, refl}
use Rattle.std.specs.List.{AllByRecursion}
use Rattle.std.proofs.Common.{ap, ap₂, sym, ◌∙◌}
use Rattle.awk_types.specs.DataType.{DataType, var, opt}
use Rattle.awk_types.specs.Gives.{◌or◌}
use Rattle.awk_types.specs.Has.{Has}
use Rattle.awk_types.specs.ItemLimit.{too_many}
use Rattle.awk_types.specs.Simple.{option_if, simple}
use Rattle.awk_types.specs.Value.{Value, int, truth, null, list, row, alt, value_list, values_from}
use Rattle.awk_types.proofs.Trees.{value_list-from}
use Rattle.awk_list_functions.specs.Lift.{on_list}
use Rattle.awk_columns.specs.Columns.{list_items, joined_items}
use Rattle.awk_columns.specs.ListClass.{Class, list_type}
use Rattle.awk_jagged.specs.Jagged.{are_uneven, is_jagged, lacks_places, pick_type, picked_items}
use Rattle.awk_jagged.specs.Jagged.{row_any, row_by, rows_any, rows_by, rows_type, size_refused}
use Rattle.awk_jagged_rows.specs.RowTypes.{rows_of}
use Rattle.awk_law_chains.proofs.Chains.{is_lists}
use Rattle.awk_law_chains.proofs.ChainEnds.{list-at, option-at}

-- ---- types

pub rows_of-lists : (o : Bool) (c : Class) (t : DataType)
    → rows_of (option_if o (list_type c t)) ≡ Some (o, t)
rows_of-lists false None t = refl
rows_of-lists false (Some n) t = refl
rows_of-lists true None t = refl
rows_of-lists true (Some n) t = refl

pub jagged-lists : (o : Bool) (c : Class) (u : DataType)
    → is_jagged (option_if o (list_type c u)) ≡ true
jagged-lists false None u = refl
jagged-lists false (Some n) u = refl
jagged-lists true None u = refl
jagged-lists true (Some n) u = refl

-- lists by lists, where the rows o that are picked from or the rows p that pick are optional
pub pick_type-lists : (p : Bool) (c : Class) (u t : DataType) (o : Bool) (s r : DataType)
    → rows_of t ≡ Some (o, s) → pick_type u s ≡ Some r
    → pick_type (option_if p (list_type c u)) t ≡ Some (option_if p (option_if o (var r)))
pick_type-lists p c u t o s r e f =
    by p c
    (ap (λ q. rows_type q (pick_type u)) e ∙ ap (option_map (λ r. option_if o (var r))) f)
  where
    by : (p : Bool) (c : Class)
        → rows_type (rows_of t) (pick_type u) ≡ Some (option_if o (var r))
        → pick_type (option_if p (list_type c u)) t ≡ Some (option_if p (option_if o (var r)))
    by false None e = e
    by false (Some n) e = e
    by true None e = ap (option_map opt) e
    by true (Some n) e = ap (option_map opt) e

pub simple-options : (p o : Bool) (r : DataType)
    → simple (option_if p (option_if o (var r))) ≡ option_if (p || o) (var (simple r))
simple-options false false r = refl
simple-options false true r = refl
simple-options true false r = refl
simple-options true true r = refl

-- ---- lists by lists

pub picked_items-lists : (p : Bool) (c : Class) (u : DataType) (vs ws : List Value)
    → picked_items (option_if p (list_type c u)) vs ws ≡ rows_by (picked_items u) vs ws
picked_items-lists false None u vs ws = refl
picked_items-lists false (Some n) u vs ws = refl
picked_items-lists true None u vs ws = refl
picked_items-lists true (Some n) u vs ws = refl

pub uneven-lists : (p : Bool) (c : Class) (u : DataType) (vs ws : List Value)
    → are_uneven (option_if p (list_type c u)) vs ws
    ≡ (not (length vs == length ws) || rows_any (are_uneven u) vs ws)
uneven-lists false None u vs ws = refl
uneven-lists false (Some n) u vs ws = refl
uneven-lists true None u vs ws = refl
uneven-lists true (Some n) u vs ws = refl

pub lacking-lists : (p : Bool) (c : Class) (u : DataType) (vs ws : List Value)
    → lacks_places (option_if p (list_type c u)) vs ws ≡ rows_any (lacks_places u) vs ws
lacking-lists false None u vs ws = refl
lacking-lists false (Some n) u vs ws = refl
lacking-lists true None u vs ws = refl
lacking-lists true (Some n) u vs ws = refl

pub size-lists : (p : Bool) (c : Class) (u : DataType) (rs : List Value)
    → size_refused (option_if p (list_type c u)) rs
    ≡ (too_many (length rs) or size_refused u (joined_items rs))
size-lists false None u rs = refl
size-lists false (Some n) u rs = refl
size-lists true None u rs = refl
size-lists true (Some n) u rs = refl

-- ---- rows

-- a list by a function of its items, and null as it is
abbrev pub row_of : (List Value → List Value) → Value → Value
row_of F v = on_list (λ us. list (values_from (F us))) v

-- a list or null, with a property of each item
abbrev pub IsRow : (Value → Type 0) → Value → Type 0
IsRow P v = (is_lists true v ≡ true) × AllByRecursion P (list_items v)

pub is_row : (o : Bool) (c : Class) (t : DataType) (v : Value)
    → Has (option_if o (list_type c t)) v → IsRow (Has t) v
is_row false c t v h = list-at c t true v h
is_row true c t v h = option-at c t v h

pub are_rows : (o : Bool) (c : Class) (t : DataType) (vs : List Value)
    → AllByRecursion (Has (option_if o (list_type c t))) vs → AllByRecursion (IsRow (Has t)) vs
are_rows o c t [] h = tt
are_rows o c t (v ∷ vs) h = (is_row o c t v h.0, are_rows o c t vs h.1)

pub map-same : (f g : Value → Value) (vs : List Value) → ((v : Value) → f v ≡ g v)
    → map f vs ≡ map g vs
map-same f g [] e = refl
map-same f g (v ∷ vs) e = ap₂ (λ x xs. x ∷ xs) (e v) (map-same f g vs e)

module _ (P : Value → Type 0) (F : List Value → List Value) where
  by_row : (h : List Value → List Value → List Value) (G : List Value → List Value) (v : Value)
      → ((us : List Value) → AllByRecursion P us → h us (F us) ≡ G us) → IsRow P v
      → row_by h v (row_of F v) ≡ row_of G v
  by_row h G (list us) e i =
      ap (λ xs. list (values_from (h (value_list us) xs))) (value_list-from (F (value_list us)))
      ∙ ap (λ xs. list (values_from xs)) (e (value_list us) i.1)
  by_row h G null e i = refl
  by_row h G (int z) e i = let k = i.0 in cc
  by_row h G (truth b) e i = let k = i.0 in cc
  by_row h G (row vs) e i = let k = i.0 in cc
  by_row h G (alt j v) e i = let k = i.0 in cc

  pub rows_by-rows : (h : List Value → List Value → List Value) (G : List Value → List Value)
      (vs : List Value) → ((us : List Value) → AllByRecursion P us → h us (F us) ≡ G us)
      → AllByRecursion (IsRow P) vs → rows_by h vs (map (row_of F) vs) ≡ map (row_of G) vs
  rows_by-rows h G [] e i = refl
  rows_by-rows h G (v ∷ vs) e i =
      ap₂ (λ x xs. x ∷ xs) (by_row h G v e i.0) (rows_by-rows h G vs e i.1)

  any_row : (h : List Value → List Value → Bool) (v : Value)
      → ((us : List Value) → AllByRecursion P us → h us (F us) ≡ false) → IsRow P v
      → row_any h v (row_of F v) ≡ false
  any_row h (list us) e i =
      ap (h (value_list us)) (value_list-from (F (value_list us))) ∙ e (value_list us) i.1
  any_row h null e i = refl
  any_row h (int z) e i = refl
  any_row h (truth b) e i = refl
  any_row h (row vs) e i = refl
  any_row h (alt j v) e i = refl

  pub rows_any-rows : (h : List Value → List Value → Bool) (vs : List Value)
      → ((us : List Value) → AllByRecursion P us → h us (F us) ≡ false)
      → AllByRecursion (IsRow P) vs → rows_any h vs (map (row_of F) vs) ≡ false
  rows_any-rows h [] e i = refl
  rows_any-rows h (v ∷ vs) e i =
      ap₂ (λ a b. a || b) (any_row h v e i.0) (rows_any-rows h vs e i.1)

-- what lists by lists are picked from, and of which type
pub record IsInside (t u r : DataType) (q : Bool) : Type 0 where
  pub optional : Bool
  pub item : DataType
  pub made : DataType
  pub rows : rows_of t ≡ Some (optional, item)
  pub items : pick_type u item ≡ Some made
  pub is : r ≡ option_if q (option_if optional (var made))

pub pick_type-inside : (q : Bool) (d : Class) (u t r : DataType)
    → pick_type (option_if q (list_type d u)) t ≡ Some r → IsInside t u r q
pick_type-inside q d u t r e = by q d e
  where
    rows : (x : DataType) → rows_type (rows_of t) (pick_type u) ≡ Some x → IsInside t u x false
    rows x e = go (rows_of t) refl e
      where
        items : (o : Bool) (s : DataType) → rows_of t ≡ Some (o, s) → (m : Option DataType)
            → pick_type u s ≡ m → option_map (λ r. option_if o (var r)) m ≡ Some x
            → IsInside t u x false
        items o s f None g e = cc
        items o s f (Some m) g e =
            let same : option_if o (var m) ≡ x = cc in
            record {
              optional = o;
              item = s;
              made = m;
              rows = f;
              items = g;
              is = sym same;
            }

        go : (m : Option (Bool × DataType)) → rows_of t ≡ m
            → rows_type m (pick_type u) ≡ Some x → IsInside t u x false
        go None f e = cc
        go (Some p) f e = items p.0 p.1 f (pick_type u p.1) refl e

    optional_rows : (m : Option DataType) → rows_type (rows_of t) (pick_type u) ≡ m
        → option_map opt m ≡ Some r → IsInside t u r true
    optional_rows None f e = cc
    optional_rows (Some x) f e =
        let k = rows x f in
        let same : opt x ≡ r = cc in
        record {
          optional = k.optional;
          item = k.item;
          made = k.made;
          rows = k.rows;
          items = k.items;
          is = sym same ∙ ap opt k.is;
        }

    by : (q : Bool) (d : Class) → pick_type (option_if q (list_type d u)) t ≡ Some r
        → IsInside t u r q
    by false None e = rows r e
    by false (Some n) e = rows r e
    by true None e = optional_rows (rows_type (rows_of t) (pick_type u)) refl e
    by true (Some n) e = optional_rows (rows_type (rows_of t) (pick_type u)) refl e
