-- One operation after another at an axis of an array.
use Rattle.std.specs.Prelude.{◌≡◌, ℕ, suc, ◌≤◌, false, List, [], ◌∷◌, length, map, pos}
use Rattle.std.specs.Prelude.{None, Ok, refl}
use Rattle.std.specs.List.{AllByRecursion}
use Rattle.std.proofs.Common.{ap, ap₂, sym, ◌∙◌}
use Rattle.awk_types.specs.DataType.{DataType, var, opt}
use Rattle.awk_types.specs.Datum.{Datum, arr}
use Rattle.awk_types.specs.Has.{Has}
use Rattle.awk_types.specs.Limit.{limit}
use Rattle.awk_types.specs.Parts.{item_of}
use Rattle.awk_types.specs.Simple.{IsSimple, present, simple, simple_value}
use Rattle.awk_types.specs.Value.{Value}
use Rattle.awk_types.proofs.RefusalLaws.{refused_or-Ok}
use Rattle.awk_types.proofs.SimpleLaws.{simple_stays, value_stays, each_stays, present_simple}
use Rattle.awk_list_functions.specs.Causes.{first_spoil}
use Rattle.awk_list_functions.specs.Lift.{lifted_type, lifted_value, refusal_at}
use Rattle.awk_list_functions.specs.Lifting.{first_told, on_items}
use Rattle.awk_list_functions.specs.ListFunction.{Giving, ListFunction, lists}
use Rattle.awk_list_functions.specs.Spoils.{spoil_at, too_many}
use Rattle.awk_list_functions.specs.declared.place.Reach.TheVariants.{Axis}
use Rattle.awk_list_functions.specs.DropNone.{drop_none_function}
use Rattle.awk_columns.specs.Columns.{joined_items, present_values}
use Rattle.awk_columns.specs.ListClass.{Class, list_type}
use Rattle.awk_lists.specs.Flatten.{flatten_of, flatten_function}
use Rattle.awk_nulls.specs.DropNone.{drop_none_of}
use Rattle.awk_padding.specs.PadNone.{pad_none_of, pad_none_function, padded, padded_class}
use Rattle.awk_nulls.specs.Singletons.{singletons_of, singletons_function, single_list}
use Rattle.awk_law_chains.specs.Arrays.{AreItems}
use Rattle.awk_laws.proofs.Composed.{type-composed, value-composed}
use Rattle.awk_laws.proofs.Lifted.{normal_type, normal_value}
use Rattle.awk_laws.proofs.Present.{padded_stay, present-padded, joined-singles, singles_typed}

-- ---- what is given at an axis

abbrev pub lifted_item : Giving → ℕ → DataType → Value → Value
lifted_item g a t v =
    simple_value (lifted_type g (Axis a) t) (lifted_value g (Axis a) t v)

abbrev lifted_array : Giving → ℕ → DataType → List Value → Datum
lifted_array g a t vs =
    arr (simple (lifted_type g (Axis a) t)) (map (λ v. lifted_item g a t v) vs)

pub given-items : (f : ListFunction) (a : ℕ) (t : DataType) (vs : List Value) (d : Datum)
    → on_items f (Axis a) t vs ≡ Ok d → d ≡ lifted_array f.giving a t vs
given-items f a t vs d e =
    let spoil = first_spoil (too_many (length vs)) (spoil_at f (Axis a) t vs) in
    let r = refused_or-Ok
    (first_told (refusal_at f (Axis a) t) (limit (simple (lifted_type f.giving (Axis a) t))) spoil)
    (lifted_array f.giving a t vs) d e in
    sym r.1

-- ---- one function after another

module _ (cf cg ch : Class → Class) (tf tg th : DataType → DataType)
    (vf vg vh : DataType → List Value → List Value)
    (types : (c : Class) (t : DataType) → IsSimple t
    → list_type (cg (cf c)) (tg (simple (tf t))) ≡ list_type (ch c) (th t))
    (values : (t : DataType) (vs : List Value) → IsSimple t → AllByRecursion (Has t) vs
    → vg (simple (tf t)) (map (simple_value (tf t)) (vf t vs)) ≡ vh t vs) where
  abbrev f : Giving
  f = lists cf tf vf

  abbrev g : Giving
  g = lists cg tg vg

  abbrev h : Giving
  h = lists ch th vh

  abbrev made_type : DataType → DataType
  made_type t = simple (tf t)

  abbrev made_items : DataType → List Value → List Value
  made_items t vs = map (simple_value (tf t)) (vf t vs)

  type-both : (a : ℕ) (t : DataType) → a ≤ 61 → IsSimple t
      → lifted_type g (Axis a) (simple (lifted_type f (Axis a) t)) ≡ lifted_type h (Axis a) t
  type-both a t p s =
      ap (lifted_type g (Axis a)) (normal_type cf tf vf a t s)
      ∙ type-composed cf cg ch made_type tg th made_items vg vh types values a t p s

  item-both : (a : ℕ) (t : DataType) (v : Value) → a ≤ 61 → IsSimple t → Has t v
      → lifted_item g a (simple (lifted_type f (Axis a) t)) (lifted_item f a t v)
      ≡ lifted_item h a t v
  item-both a t v p s k =
      ap₂ simple_value (type-both a t p s)
      (ap₂ (lifted_value g (Axis a)) (normal_type cf tf vf a t s) (normal_value cf tf vf a t v s k)
      ∙ value-composed cf cg ch made_type tg th made_items vg vh types values a t v s k)

  items-both : (a : ℕ) (t : DataType) (vs : List Value) → a ≤ 61 → IsSimple t
      → AllByRecursion (Has t) vs
      → map (λ w. lifted_item g a (simple (lifted_type f (Axis a) t)) w)
      (map (λ v. lifted_item f a t v) vs)
      ≡ map (λ v. lifted_item h a t v) vs
  items-both a t [] p s k = refl
  items-both a t (v ∷ vs) p s k =
      ap₂ (λ x xs. x ∷ xs) (item-both a t v p s k.0) (items-both a t vs p s k.1)

  pub array-both : (a : ℕ) (t : DataType) (vs : List Value) → a ≤ 61 → AreItems t vs
      → lifted_array g a (simple (lifted_type f (Axis a) t)) (map (λ v. lifted_item f a t v) vs)
      ≡ lifted_array h a t vs
  array-both a t vs p k =
      ap₂ (λ u xs. arr (simple u) xs) (type-both a t p k.simple)
      (items-both a t vs p k.simple k.items)

-- ---- drop_none of pad_none

dropped : (n : ℕ) (t : DataType) (vs : List Value) → IsSimple t → AllByRecursion (Has t) vs
    → present_values (map (simple_value (opt t)) (padded n false vs)) ≡ present_values vs
dropped n t vs s h = ap present_values (padded_stay n t vs s h) ∙ present-padded n vs

pub drop_of_pad : (n a : ℕ) (t : DataType) (vs : List Value) (whole x y : Datum) → a ≤ 61
    → AreItems t vs → pad_none_of n (pos (suc a)) false (arr t vs) ≡ Ok whole
    → drop_none_of (pos (suc a)) whole ≡ Ok x → drop_none_of (pos (suc a)) (arr t vs) ≡ Ok y
    → x ≡ y
drop_of_pad n a t vs whole x y p k e d q =
    let pad = (pad_none_function n false).giving in
    let u = simple (lifted_type pad (Axis a) t) in
    let ws = map (λ v. lifted_item pad a t v) vs in
    let is : whole ≡ arr u ws = given-items (pad_none_function n false) a t vs whole e in
    given-items drop_none_function a u ws x (ap (drop_none_of (pos (suc a))) (sym is) ∙ d)
    ∙ array-both (λ c. padded_class n false) (λ c. None) (λ c. None) (λ v. opt v) present present
    (λ v xs. padded n false xs) (λ v xs. present_values xs) (λ v xs. present_values xs)
    (λ c v s. ap (λ w. var (present w)) (simple_stays v s))
    (λ v xs s h. dropped n v xs s h) a t vs p k
    ∙ sym (given-items drop_none_function a t vs y q)

-- ---- flatten of singletons

joined : (t : DataType) (vs : List Value) → IsSimple t → AllByRecursion (Has t) vs
    → joined_items (map (simple_value (var (present t))) (map single_list vs)) ≡ present_values vs
joined t vs s h =
    let u = var (present t) in
    ap joined_items
    (each_stays u (simple_value u) (λ v k. value_stays u v (present_simple t s) k)
    (map single_list vs) (singles_typed t vs h))
    ∙ joined-singles vs

pub flatten_of_singles : (a : ℕ) (t : DataType) (vs : List Value) (lists_of x y : Datum) → a ≤ 61
    → AreItems t vs → singletons_of (pos (suc a)) (arr t vs) ≡ Ok lists_of
    → flatten_of (pos (suc (suc a))) lists_of ≡ Ok x
    → drop_none_of (pos (suc a)) (arr t vs) ≡ Ok y → x ≡ y
flatten_of_singles a t vs whole x y p k e d q =
    let single = singletons_function.giving in
    let u = simple (lifted_type single (Axis a) t) in
    let ws = map (λ v. lifted_item single a t v) vs in
    let is : whole ≡ arr u ws = given-items singletons_function a t vs whole e in
    given-items flatten_function a u ws x (ap (flatten_of (pos (suc (suc a)))) (sym is) ∙ d)
    ∙ array-both (λ c. c) (λ c. None) (λ c. None) (λ v. var (present v))
    (λ v. item_of (present v)) present
    (λ v xs. map single_list xs) (λ v xs. joined_items xs) (λ v xs. present_values xs)
    (λ c v s. ap var (simple_stays (present v) (present_simple v s)))
    (λ v xs s h. joined v xs s h) a t vs p k
    ∙ sym (given-items drop_none_function a t vs y q)
