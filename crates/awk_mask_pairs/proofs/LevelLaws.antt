-- One level of the pairing of a mask with what it is over: lists of both, optional or not, none of
-- which are stretched.
use Rattle.std.specs.Prelude.{◌≡◌, ℕ, suc, refl, Bool, true, false, ◌||◌, ◌&&◌, not, ◌==◌}
use Rattle.std.specs.Prelude.{List, [], ◌∷◌, length, map, filter, Some, None, if◌then◌else◌}
use Rattle.std.specs.List.{list_any}
use Rattle.std.proofs.Common.{ap, ap₂, sym, ◌∙◌}
use Rattle.awk_types.specs.DataType.{DataType}
use Rattle.awk_types.specs.Gives.{◌or◌}
use Rattle.awk_types.specs.ItemLimit.{too_many}
use Rattle.awk_types.specs.Parts.{item_of}
use Rattle.awk_types.specs.Predicates.{is_list}
use Rattle.awk_types.specs.Simple.{present, option_if}
use Rattle.awk_types.specs.Value.{Value, null, list, values_from}
use Rattle.awk_columns.specs.Columns.{joined_items, is_present, list_items}
use Rattle.awk_columns.specs.ListClass.{Class, list_type}
use Rattle.awk_frames.specs.Shape.{shape, ends, items, missing, offsets_column, index_column}
use Rattle.awk_frames.specs.Sizes.{levels_refused as frame_refused, sizes_refused}
use Rattle.awk_pair_operands.specs.Paired.{to_depth, paired_type, paired_value, is_uneven}
use Rattle.awk_pair_operands.specs.Paired.{end_type, end_value}
use Rattle.awk_pair_sides.specs.Levels.{listed, role, roles, roles_by, stretches}
use Rattle.awk_pair_sides.specs.Levels.{opens, some_option, item_types, level_class}
use Rattle.awk_pair_sides.specs.Sides.{each, sides, level_sides, rows_of, inner_rows, differ}
use Rattle.awk_pair_sides.specs.Sides.{misses, is_whole, equally_long}
use Rattle.awk_mask_pairs.specs.MaskTypes.{is_unit, class_of, classed, shared_type, under}
use Rattle.awk_mask_pairs.specs.MaskTypes.{levels_refused}
use Rattle.awk_mask_pairs.proofs.TypeLaws.{present-level, option-level, item-level, class-level}
use Rattle.awk_mask_pairs.proofs.ValueLaws.{joined-present}

-- ---- roles

role-kept : (d : Class) (t : DataType) → role false (list_type d t) ≡ listed d
role-kept None t = refl
role-kept (Some n) t = refl

role-sized : (s : Bool) (c : Class) (u : DataType) → is_unit c ≡ false
    → role s (list_type c u) ≡ listed c
role-sized s None u h = refl
role-sized true (Some n) u h = let f : (n == 1) ≡ false = h in rw f refl
role-sized false (Some n) u h = refl

some-list : (c d : Class) (t u : DataType)
    → list_any is_list (list_type d t ∷ list_type c u ∷ []) ≡ true
some-list c None t u = refl
some-list c (Some n) t u = refl

-- ---- lists by the class of a type

sizes-list : (k : Class) (p : DataType) (vs : List Value)
    → frame_refused (list_type k p) vs
    ≡ too_many (length (joined_items vs)) or frame_refused p (joined_items vs)
sizes-list None p vs = refl
sizes-list (Some n) p vs = refl

pub sizes-level : (e : Bool) (k : Class) (p : DataType) (vs : List Value)
    → sizes_refused (option_if e (list_type k p)) vs
    ≡ too_many (length vs) or sizes_refused p (joined_items vs)
sizes-level true k p vs =
    ap (λ f. too_many (length vs) or f)
    (sizes-list k p (filter is_present vs)
    ∙ ap (λ us. too_many (length us) or frame_refused p us) (joined-present vs))
sizes-level false k p vs = ap (λ f. too_many (length vs) or f) (sizes-list k p vs)

pub refused-level : (a : Bool) (c : Class) (u : DataType) (vs : List Value)
    → levels_refused (option_if a (list_type c u)) vs
    ≡ too_many (length vs) or levels_refused u (joined_items vs)
refused-level true None u vs = refl
refused-level true (Some n) u vs = refl
refused-level false None u vs = refl
refused-level false (Some n) u vs = refl

shape-list : (k : Class) (p : DataType) (vs : List Value)
    → shape (list_type k p) vs ≡ items (offsets_column vs) k (shape p (joined_items vs))
shape-list None p vs = refl
shape-list (Some n) p vs = refl

-- a shape whose lists take the class of a type
module _ (b : Bool) (k d : Class) (p t s : DataType)
    (h : (vs : List Value) → classed t (shape p vs) ≡ shape s vs) where
  classed-list : (vs : List Value)
      → classed (option_if b (list_type d t)) (shape (list_type k p) vs)
      ≡ shape (list_type d s) vs
  classed-list vs =
      ap (classed (option_if b (list_type d t))) (shape-list k p vs)
      ∙ ap (λ w. items (offsets_column vs) (class_of w)
      (classed (item_of w) (shape p (joined_items vs)))) (present-level b d t)
      ∙ ap₂ (λ c w. items (offsets_column vs) c (classed w (shape p (joined_items vs))))
      (class-level d t) (item-level d t)
      ∙ ap (items (offsets_column vs) d) (h (joined_items vs))
      ∙ sym (shape-list d s vs)

  pub shape-level : (e : Bool) (vs : List Value)
      → classed (option_if b (list_type d t)) (shape (option_if e (list_type k p)) vs)
      ≡ shape (option_if e (list_type d s)) vs
  shape-level true vs = ap (missing (index_column vs)) (classed-list (filter is_present vs))
  shape-level false vs = classed-list vs

-- ---- what stands at the ends does not turn on classes

ends-list : (k d : Class) (p s : DataType) (vs : List Value)
    → ends p (joined_items vs) ≡ ends s (joined_items vs)
    → ends (list_type k p) vs ≡ ends (list_type d s) vs
ends-list None None p s vs h = h
ends-list None (Some n) p s vs h = h
ends-list (Some k) None p s vs h = h
ends-list (Some k) (Some n) p s vs h = h

pub ends-level : (e : Bool) (k d : Class) (p s : DataType)
    → ((vs : List Value) → ends p vs ≡ ends s vs) → (vs : List Value)
    → ends (option_if e (list_type k p)) vs ≡ ends (option_if e (list_type d s)) vs
ends-level true k d p s h vs =
    ends-list k d p s (filter is_present vs) (h (joined_items (filter is_present vs)))
ends-level false k d p s h vs = ends-list k d p s vs (h (joined_items vs))

-- ---- a level of lists of t, optional or not, under lists of u

module _ (a b : Bool) (c d : Class) (t u : DataType) (sized : is_unit c ≡ false) where
  abbrev pub item_type : DataType
  item_type = option_if b (list_type d t)

  abbrev pub mask_type : DataType
  mask_type = option_if a (list_type c u)

  abbrev pub level_types : List DataType
  level_types = item_type ∷ mask_type ∷ []

  -- whether one of both is optional
  abbrev pub is_either : Bool
  is_either = b || (a || false)

  presents : map present level_types ≡ list_type d t ∷ list_type c u ∷ []
  presents = ap₂ (λ x y. x ∷ y ∷ []) (present-level b d t) (present-level a c u)

  pub opens-level : opens level_types ≡ true
  opens-level = ap (list_any is_list) presents ∙ some-list c d t u

  pub items-level : item_types level_types ≡ t ∷ u ∷ []
  items-level = ap (map item_of) presents
      ∙ ap₂ (λ x y. x ∷ y ∷ []) (item-level d t) (item-level c u)

  nulls-level : some_option level_types ≡ is_either
  nulls-level = ap₂ (λ x y. x || (y || false)) (option-level b d t) (option-level a c u)

  misses-level : (v m : Value) → misses level_types (v ∷ m ∷ [])
      ≡ is_either && not (is_whole (v ∷ m ∷ []))
  misses-level v m = ap (λ o. o && not (is_whole (v ∷ m ∷ []))) nulls-level

  roles-two : (s : Bool) → roles_by true s (list_type d t ∷ list_type c u ∷ [])
      ≡ listed d ∷ listed c ∷ []
  roles-two s = ap₂ (λ p q. p ∷ q ∷ []) (role-kept d t) (role-sized s c u sized)

  roles-level : roles true level_types ≡ listed d ∷ listed c ∷ []
  roles-level =
      ap (λ us. roles_by true (stretches us) us) presents
      ∙ roles-two (stretches (list_type d t ∷ list_type c u ∷ []))

  sides-level : (v m : Value) → level_sides true level_types (v ∷ m ∷ [])
      ≡ each (list_items v) ∷ each (list_items m) ∷ []
  sides-level v m = ap (λ rs. sides rs (v ∷ m ∷ [])) roles-level

  abbrev below : Value → Value → List (List Value)
  below v m = rows_of (each (list_items v) ∷ each (list_items m) ∷ [])

  rows-level : (v m : Value) → inner_rows true level_types (v ∷ m ∷ []) ≡ below v m
  rows-level v m = ap rows_of (sides-level v m)

  differ-level : (v m : Value) → differ true level_types (v ∷ m ∷ [])
      ≡ not ((length (list_items v) == length (list_items m)) && true)
  differ-level v m = ap (λ ss. not (equally_long ss)) (sides-level v m)

  -- ---- by what is below

  pub uneven-level : (n : ℕ) (v m : Value) → is_uneven true (suc n) level_types (v ∷ m ∷ [])
      ≡ (if is_either && not (is_whole (v ∷ m ∷ [])) then false
      else not ((length (list_items v) == length (list_items m)) && true)
      || list_any (is_uneven true n (t ∷ u ∷ [])) (below v m))
  uneven-level n v m =
      let f : Bool → Bool → Bool → List DataType → List (List Value) → Bool =
      λ o w e us rs. if o then (if w then false else e || list_any (is_uneven true n us) rs)
      else false in
      ap (λ o. f o (misses level_types (v ∷ m ∷ [])) (differ true level_types (v ∷ m ∷ []))
      (item_types level_types) (inner_rows true level_types (v ∷ m ∷ []))) opens-level
      ∙ ap (λ w. f true w (differ true level_types (v ∷ m ∷ [])) (item_types level_types)
      (inner_rows true level_types (v ∷ m ∷ []))) (misses-level v m)
      ∙ ap (λ e. f true (is_either && not (is_whole (v ∷ m ∷ []))) e (item_types level_types)
      (inner_rows true level_types (v ∷ m ∷ []))) (differ-level v m)
      ∙ ap₂ (f true (is_either && not (is_whole (v ∷ m ∷ [])))
      (not ((length (list_items v) == length (list_items m)) && true))) items-level
      (rows-level v m)

  pub value-level : (n : ℕ) (v m : Value)
      → paired_value true to_depth (suc n) level_types (v ∷ m ∷ [])
      ≡ (if is_either && not (is_whole (v ∷ m ∷ [])) then null
      else list (values_from (map (paired_value true to_depth n (t ∷ u ∷ [])) (below v m))))
  value-level n v m =
      let f : Bool → Bool → List DataType → List (List Value) → Value =
      λ o w us rs. if o then (if w then null
      else list (values_from (map (paired_value true to_depth n us) rs)))
      else end_value to_depth level_types (v ∷ m ∷ []) in
      ap (λ o. f o (misses level_types (v ∷ m ∷ [])) (item_types level_types)
      (inner_rows true level_types (v ∷ m ∷ []))) opens-level
      ∙ ap (λ w. f true w (item_types level_types)
      (inner_rows true level_types (v ∷ m ∷ []))) (misses-level v m)
      ∙ ap₂ (f true (is_either && not (is_whole (v ∷ m ∷ [])))) items-level (rows-level v m)

  pub type-level : (n : ℕ) → paired_type true to_depth (suc n) level_types
      ≡ option_if is_either (list_type (level_class true level_types)
      (paired_type true to_depth n (t ∷ u ∷ [])))
  type-level n =
      let f : Bool → Bool → List DataType → DataType =
      λ o w us. if o then option_if w (list_type (level_class true level_types)
      (paired_type true to_depth n us)) else end_type to_depth level_types in
      ap (λ o. f o (some_option level_types) (item_types level_types)) opens-level
      ∙ ap₂ (f true) nulls-level items-level

  pub shared-level : (n : ℕ) → shared_type (suc n) item_type mask_type
      ≡ option_if is_either (list_type d (shared_type n t u))
  shared-level n =
      ap₂ (λ x y. option_if (some_option level_types)
      (list_type (class_of x) (shared_type n (item_of x) (item_of y))))
      (present-level b d t) (present-level a c u)
      ∙ ap (λ o. option_if o (list_type (class_of (list_type d t))
      (shared_type n (item_of (list_type d t)) (item_of (list_type c u))))) nulls-level
      ∙ ap (λ k. option_if is_either (list_type k
      (shared_type n (item_of (list_type d t)) (item_of (list_type c u))))) (class-level d t)
      ∙ ap₂ (λ x y. option_if is_either (list_type d (shared_type n x y))) (item-level d t)
      (item-level c u)

  pub under-items : (n : ℕ) → under (suc n) item_type ≡ under n t
  under-items n = ap (λ w. under n (item_of w)) (present-level b d t)
      ∙ ap (under n) (item-level d t)

  pub under-mask : (n : ℕ) → under (suc n) mask_type ≡ under n u
  under-mask n = ap (λ w. under n (item_of w)) (present-level a c u)
      ∙ ap (under n) (item-level c u)
