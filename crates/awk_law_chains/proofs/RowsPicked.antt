-- Lists that are picked row by row by places of their own items: at an axis, or the innermost ones.
use Rattle.std.specs.Prelude.{◌≡◌, ◌==◌, ◌||◌, ◌≤◌, not, ℕ, Bool, true, false, List, [], ◌∷◌}
use Rattle.std.specs.Prelude.{length, map, sum, Option, Some, None, option_map, Err, refl}
use Rattle.std.specs.Prelude.{if◌then◌else◌}
use Rattle.std.specs.List.{AllByRecursion, list_any}
use Rattle.std.proofs.Common.{arith, ap, ap₂, sym, ◌∙◌}
use Rattle.std.proofs.lemmas.List.{length-append, length-map}
use Rattle.awk_base.proofs.Truths.{or_later}
use Rattle.awk_base.proofs.Sums.{sum-cons}
use Rattle.awk_types.specs.DataType.{DataType, unknown, leaf, var, reg, rec, tup, opt, uni}
use Rattle.awk_types.specs.Limit.{limit}
use Rattle.awk_types.specs.Datum.{arr}
use Rattle.awk_types.specs.Faults.{limit_fault, limit_refused}
use Rattle.awk_types.specs.Gives.{refused_or, ◌or◌}
use Rattle.awk_types.specs.Has.{Has}
use Rattle.awk_types.specs.ItemLimit as items
use Rattle.awk_types.specs.ItemLimit.{item_limit}
use Rattle.awk_types.specs.Simple.{IsSimple, option_if, simple, simple_value, in_list, in_option}
use Rattle.awk_types.specs.Value.{Value, int, truth, null, list, row, alt, value_list}
use Rattle.awk_types.specs.declared.fault.Fault.{Fault}
use Rattle.awk_types.specs.declared.fault.Fault.TheVariants.{Lengths, Index, WrongType}
use Rattle.awk_types.specs.declared.primitive.Primitive.TheVariants.{I64}
use Rattle.awk_types.proofs.SimpleLaws.{simple_stays, in_option_stays}
use Rattle.awk_types.proofs.Trees.{value_list-from}
use Rattle.awk_types.proofs.ItemLimits.{within_limit}
use Rattle.awk_list_functions.specs.Causes.{first_spoil}
use Rattle.awk_list_functions.specs.Lift.{lifted_type, lifted_value, on_list}
use Rattle.awk_list_functions.specs.ListFunction.{Giving, ListFunction, given_value, lists}
use Rattle.awk_list_functions.specs.Reach.{here, inner}
use Rattle.awk_list_functions.specs.Spoils.{spoil_at, too_many}
use Rattle.awk_list_functions.specs.declared.causes.Refusal.{Refusal}
use Rattle.awk_list_functions.specs.declared.causes.Spoil.{Spoil}
use Rattle.awk_list_functions.specs.declared.place.Reach.{Reach}
use Rattle.awk_list_functions.proofs.CauseLaws.{first_spoil-both}
use Rattle.awk_columns.specs.Columns.{joined_items, lists_among, present_values}
use Rattle.awk_columns.specs.ListClass.{Class, list_type}
use Rattle.awk_jagged.specs.Jagged.{are_uneven, fault_if, is_jagged, jagged_of, lacks_places}
use Rattle.awk_jagged.specs.Jagged.{pick_type, picked_as, picked_items, size_refused}
use Rattle.awk_select.specs.Picks.{is_outside, picked, take_places}
use Rattle.awk_law_chains.specs.Arrays.{AreItems, any_length_at, is_lists_to, picks_by_place}
use Rattle.awk_law_chains.proofs.Chains.{in_list_stays, in_option-same, joined-in_list}
use Rattle.awk_law_chains.proofs.Chains.{joined-present}
use Rattle.awk_law_chains.proofs.JaggedRows.{are_rows, jagged-lists, lacking-lists, map-same}
use Rattle.awk_law_chains.proofs.JaggedRows.{pick_type-lists, picked_items-lists, row_of}
use Rattle.awk_law_chains.proofs.JaggedRows.{rows_any-rows, rows_by-rows, rows_of-lists}
use Rattle.awk_law_chains.proofs.JaggedRows.{simple-options, size-lists, uneven-lists}
use Rattle.awk_law_chains.proofs.Limits.{few_spoil-limit}
use Rattle.awk_law_chains.proofs.AnyLength.{any_limit}

pub any_length_at-lists : (k : Reach) (o : Bool) (c : Class) (t : DataType)
    → any_length_at k (option_if o (list_type c t))
    ≡ option_if o (var (if here k t then t else any_length_at (inner k) t))
any_length_at-lists k false None t = refl
any_length_at-lists k false (Some n) t = refl
any_length_at-lists k true None t = refl
any_length_at-lists k true (Some n) t = refl

-- ---- lists

list_if : (c : Class) (b : Bool) (t u : DataType)
    → (if b then list_type c t else list_type c u) ≡ list_type c (if b then t else u)
list_if c true t u = refl
list_if c false t u = refl

option_row : (F : List Value → List Value) (v : Value) → in_option (row_of F) v ≡ row_of F v
option_row F null = refl
option_row F (int z) = refl
option_row F (truth b) = refl
option_row F (list vs) = refl
option_row F (row vs) = refl
option_row F (alt j v) = refl

in_list-row : (f : Value → Value) (v : Value) → in_list f v ≡ row_of (map f) v
in_list-row f null = refl
in_list-row f (int z) = refl
in_list-row f (truth b) = refl
in_list-row f (list vs) = refl
in_list-row f (row vs) = refl
in_list-row f (alt j v) = refl

lists-present : (vs : List Value) → lists_among (present_values vs) ≡ lists_among vs
lists-present [] = refl
lists-present (null ∷ vs) = lists-present vs
lists-present (int z ∷ vs) = lists-present vs
lists-present (truth b ∷ vs) = lists-present vs
lists-present (list us ∷ vs) = ap (λ xs. value_list us ∷ xs) (lists-present vs)
lists-present (row us ∷ vs) = lists-present vs
lists-present (alt j u ∷ vs) = lists-present vs

joined-lengths : (vs : List Value) → length (joined_items vs) ≡ sum (map length (lists_among vs))
joined-lengths [] = refl
joined-lengths (list us ∷ vs) =
    omega (
      arith,
      length-append (value_list us) (joined_items vs),
      joined-lengths vs,
      sum-cons (length (value_list us)) (map length (lists_among vs)),
    )
joined-lengths (int z ∷ vs) = joined-lengths vs
joined-lengths (truth b ∷ vs) = joined-lengths vs
joined-lengths (null ∷ vs) = joined-lengths vs
joined-lengths (row us ∷ vs) = joined-lengths vs
joined-lengths (alt j u ∷ vs) = joined-lengths vs

by_place-lists : (o : Bool) (c : Class) (u : DataType)
    → picks_by_place (option_if o (list_type c u)) ≡ picks_by_place u
by_place-lists false None u = refl
by_place-lists false (Some n) u = refl
by_place-lists true None u = refl
by_place-lists true (Some n) u = refl

simple-lists : (o : Bool) (c : Class) (u : DataType)
    → simple (option_if o (list_type c u)) ≡ option_if o (list_type c (simple u))
simple-lists false None u = refl
simple-lists false (Some n) u = refl
simple-lists true None u = refl
simple-lists true (Some n) u = refl

simple_value-lists : (o : Bool) (c : Class) (u : DataType) (v : Value)
    → ((x : Value) → simple_value u x ≡ x) → simple_value (option_if o (list_type c u)) v ≡ v
simple_value-lists false None u v e = in_list_stays (simple_value u) v e
simple_value-lists false (Some n) u v e = in_list_stays (simple_value u) v e
simple_value-lists true None u v e =
    in_option_stays (in_list (simple_value u)) v (in_list_stays (simple_value u) v e)
simple_value-lists true (Some n) u v e =
    in_option_stays (in_list (simple_value u)) v (in_list_stays (simple_value u) v e)

module _ (F G : List Value → List Value)
    (gives : (us : List Value) → picked us (take_places (length us) (F us)) ≡ G us)
    (within_list : (us : List Value) → list_any (is_outside (length us)) (F us) ≡ false)
    (as_long : (us : List Value) → length (G us) ≡ length us)
    (refusal : DataType → Option Refusal) (spoil : DataType → List (List Value) → Option Spoil)
    (few_items : (t : DataType) (ls : List (List Value)) → spoil t ls ≡ None
    → sum (map length ls) ≤ item_limit) where
  -- the places of each list, and what they pick of it
  abbrev places_function : ListFunction
  places_function = record {
    refusal = refusal;
    giving = lists (λ class. class) (λ t. leaf I64) (λ t us. F us);
    spoil = spoil;
  }

  abbrev picks : Giving
  picks = lists (λ class. class) (λ t. t) (λ t us. G us)

  abbrev index_type : Reach → DataType → DataType
  index_type k t = lifted_type places_function.giving k t

  abbrev index_in : Reach → DataType → Value → Value
  index_in k t v = lifted_value places_function.giving k t v

  abbrev picked_in : Reach → DataType → Value → Value
  picked_in k t v = lifted_value picks k t v

  abbrev spoil_in : Reach → DataType → List Value → Option Spoil
  spoil_in k t vs = spoil_at places_function k t vs

  -- ---- the items of lists of a reach, or of lists above them

  abbrev places_type : Bool → Reach → DataType → DataType
  places_type b k t = if b then leaf I64 else index_type (inner k) t

  abbrev item_places : Bool → Reach → DataType → List Value → List Value
  item_places b k t us = if b then F us else map (index_in (inner k) t) us

  abbrev items_picked : Bool → Reach → DataType → List Value → List Value
  items_picked b k t us = if b then G us else map (picked_in (inner k) t) us

  abbrev any_items : Bool → Reach → DataType → DataType
  any_items b k t = if b then t else any_length_at (inner k) t

  abbrev spoil_items : Bool → Reach → DataType → List Value → Option Spoil
  spoil_items b k t vs =
      if b then spoil t (lists_among vs)
      else first_spoil (too_many (length (joined_items vs)))
      (spoil_in (inner k) t (joined_items vs))

  pub index-lists : (k : Reach) (o : Bool) (c : Class) (t : DataType)
      → index_type k (option_if o (list_type c t))
      ≡ option_if o (list_type c (places_type (here k t) k t))
  index-lists k false None t = list_if None (here k t) (leaf I64) (index_type (inner k) t)
  index-lists k false (Some n) t = list_if (Some n) (here k t) (leaf I64) (index_type (inner k) t)
  index-lists k true None t = ap opt (list_if None (here k t) (leaf I64) (index_type (inner k) t))
  index-lists k true (Some n) t =
      ap opt (list_if (Some n) (here k t) (leaf I64) (index_type (inner k) t))

  index_row : (b : Bool) (k : Reach) (t : DataType) (v : Value)
      → (if b then on_list (given_value places_function.giving t) v
      else in_list (index_in (inner k) t) v)
      ≡ row_of (item_places b k t) v
  index_row true k t v = refl
  index_row false k t v = in_list-row (index_in (inner k) t) v

  picked_row : (b : Bool) (k : Reach) (t : DataType) (v : Value)
      → (if b then on_list (given_value picks t) v else in_list (picked_in (inner k) t) v)
      ≡ row_of (items_picked b k t) v
  picked_row true k t v = refl
  picked_row false k t v = in_list-row (picked_in (inner k) t) v

  index-rows : (k : Reach) (o : Bool) (c : Class) (t : DataType) (v : Value)
      → index_in k (option_if o (list_type c t)) v ≡ row_of (item_places (here k t) k t) v
  index-rows k false None t v = index_row (here k t) k t v
  index-rows k false (Some n) t v = index_row (here k t) k t v
  index-rows k true None t v =
      in_option-same (index_in k (var t)) (row_of (item_places (here k t) k t)) v
      (λ x. index_row (here k t) k t x)
      ∙ option_row (item_places (here k t) k t) v
  index-rows k true (Some n) t v =
      in_option-same (index_in k (reg n t)) (row_of (item_places (here k t) k t)) v
      (λ x. index_row (here k t) k t x)
      ∙ option_row (item_places (here k t) k t) v

  picked-rows : (k : Reach) (o : Bool) (c : Class) (t : DataType) (v : Value)
      → picked_in k (option_if o (list_type c t)) v ≡ row_of (items_picked (here k t) k t) v
  picked-rows k false None t v = picked_row (here k t) k t v
  picked-rows k false (Some n) t v = picked_row (here k t) k t v
  picked-rows k true None t v =
      in_option-same (picked_in k (var t)) (row_of (items_picked (here k t) k t)) v
      (λ x. picked_row (here k t) k t x)
      ∙ option_row (items_picked (here k t) k t) v
  picked-rows k true (Some n) t v =
      in_option-same (picked_in k (reg n t)) (row_of (items_picked (here k t) k t)) v
      (λ x. picked_row (here k t) k t x)
      ∙ option_row (items_picked (here k t) k t) v

  spoil-lists : (k : Reach) (o : Bool) (c : Class) (t : DataType) (vs : List Value)
      → spoil_in k (option_if o (list_type c t)) vs ≡ spoil_items (here k t) k t vs
  spoil-lists k false None t vs = refl
  spoil-lists k false (Some n) t vs = refl
  spoil-lists k true None t vs =
      ap₂ (λ ls ws. if here k t then spoil t ls
      else first_spoil (too_many (length ws)) (spoil_in (inner k) t ws)) (lists-present vs)
      (joined-present vs)
  spoil-lists k true (Some n) t vs =
      ap₂ (λ ls ws. if here k t then spoil t ls
      else first_spoil (too_many (length ws)) (spoil_in (inner k) t ws)) (lists-present vs)
      (joined-present vs)

  -- ---- what is picked

  pub record IsPicked (k : Reach) (t : DataType) : Type 0 where
    pub typ : DataType
    pub types : pick_type (index_type k t) t ≡ Some typ
    pub plain : simple typ ≡ any_length_at k t
    pub jagged : is_jagged (index_type k t) ≡ true
    pub by_place : picks_by_place (index_type k t) ≡ true
    pub index_plain : simple (index_type k t) ≡ index_type k t
    pub places_plain : (v : Value) → simple_value (index_type k t) v ≡ v
    pub items : (vs : List Value) → AllByRecursion (Has t) vs
        → picked_items (index_type k t) vs (map (index_in k t) vs) ≡ map (picked_in k t) vs
    pub even : (vs : List Value) → AllByRecursion (Has t) vs
        → are_uneven (index_type k t) vs (map (index_in k t) vs) ≡ false
    pub within : (vs : List Value) → AllByRecursion (Has t) vs
        → lacks_places (index_type k t) vs (map (index_in k t) vs) ≡ false
    pub sizes : (vs : List Value) → too_many (length vs) ≡ None → spoil_in k t vs ≡ None
        → size_refused (index_type k t) (map (picked_in k t) vs) ≡ None

  record ArePicked (b : Bool) (k : Reach) (t : DataType) : Type 0 where
    typ : DataType
    types : pick_type (places_type b k t) t ≡ Some typ
    plain : simple typ ≡ any_items b k t
    by_place : picks_by_place (places_type b k t) ≡ true
    index_plain : simple (places_type b k t) ≡ places_type b k t
    places_plain : (v : Value) → simple_value (places_type b k t) v ≡ v
    items : (vs : List Value) → AllByRecursion (Has t) vs
        → picked_items (places_type b k t) vs (item_places b k t vs) ≡ items_picked b k t vs
    even : (vs : List Value) → AllByRecursion (Has t) vs
        → are_uneven (places_type b k t) vs (item_places b k t vs) ≡ false
    within : (vs : List Value) → AllByRecursion (Has t) vs
        → lacks_places (places_type b k t) vs (item_places b k t vs) ≡ false
    sizes : (vs : List Value) → spoil_items b k t vs ≡ None
        → size_refused (places_type b k t) (joined_items (map (row_of (items_picked b k t)) vs))
        ≡ None

  sizes_among : (vs : List Value)
      → map length (lists_among (map (row_of G) vs)) ≡ map length (lists_among vs)
  sizes_among [] = refl
  sizes_among (list us ∷ vs) =
      ap₂ (λ n ns. n ∷ ns)
      (ap length (value_list-from (G (value_list us))) ∙ as_long (value_list us))
      (sizes_among vs)
  sizes_among (int z ∷ vs) = sizes_among vs
  sizes_among (truth b ∷ vs) = sizes_among vs
  sizes_among (null ∷ vs) = sizes_among vs
  sizes_among (row us ∷ vs) = sizes_among vs
  sizes_among (alt j u ∷ vs) = sizes_among vs

  list_sizes : (t : DataType) (vs : List Value) → spoil t (lists_among vs) ≡ None
      → items.too_many (length (joined_items (map (row_of G) vs))) ≡ None
  list_sizes t vs e =
      let n = length (joined_items (map (row_of G) vs)) in
      let same : n ≡ sum (map length (lists_among vs)) =
      joined-lengths (map (row_of G) vs) ∙ ap sum (sizes_among vs) in
      within_limit n (omega (arith, same, few_items t (lists_among vs) e))

  joined_rows : (k : Reach) (t : DataType) (vs : List Value)
      → joined_items (map (row_of (map (picked_in k t))) vs)
      ≡ map (picked_in k t) (joined_items vs)
  joined_rows k t vs =
      ap joined_items (sym (map-same (in_list (picked_in k t)) (row_of (map (picked_in k t))) vs
      (λ v. in_list-row (picked_in k t) v)))
      ∙ joined-in_list (picked_in k t) vs

  are_picked : (b : Bool) (k : Reach) (t : DataType) → IsSimple t
      → (b ≡ false → IsPicked (inner k) t) → ArePicked b k t
  are_picked true k t s h = record {
    typ = t;
    types = refl;
    plain = simple_stays t s;
    by_place = refl;
    index_plain = refl;
    places_plain = λ v. refl;
    items = λ vs h. gives vs;
    even = λ vs h. refl;
    within = λ vs h. within_list vs;
    sizes = λ vs e. list_sizes t vs e;
  }
  are_picked false k t s h =
      let p = h refl in
      record {
        typ = p.typ;
        types = p.types;
        plain = p.plain;
        by_place = p.by_place;
        index_plain = p.index_plain;
        places_plain = p.places_plain;
        items = p.items;
        even = p.even;
        within = p.within;
        sizes = λ vs e.
            let q = first_spoil-both (too_many (length (joined_items vs)))
            (spoil_in (inner k) t (joined_items vs)) e in
            ap (size_refused (index_type (inner k) t)) (joined_rows (inner k) t vs)
            ∙ p.sizes (joined_items vs) q.0 q.1;
      }

  equal : (a b : ℕ) → a ≡ b → not (a == b) ≡ false
  equal a b e = grind arith

  same_option : (o : Bool) (r : DataType) → option_if (o || o) (var r) ≡ option_if o (var r)
  same_option true r = refl
  same_option false r = refl

  lists_picked : (k : Reach) (o : Bool) (c : Class) (t : DataType) → ArePicked (here k t) k t
      → IsPicked k (option_if o (list_type c t))
  lists_picked k o c t p =
      let u = option_if o (list_type c t) in
      let b = here k t in
      let w = places_type b k t in
      let P = item_places b k t in
      let S = items_picked b k t in
      let places = λ (vs : List Value).
      map-same (index_in k u) (row_of P) vs (λ v. index-rows k o c t v) in
      let results = λ (vs : List Value).
      map-same (picked_in k u) (row_of S) vs (λ v. picked-rows k o c t v) in
      let typed = index-lists k o c t in
      record {
        typ = option_if o (option_if o (var p.typ));
        types = ap (λ x. pick_type x u) typed
            ∙ pick_type-lists o c w u o t p.typ (rows_of-lists o c t) p.types;
        plain = simple-options o o p.typ ∙ same_option o (simple p.typ)
            ∙ ap (λ x. option_if o (var x)) p.plain ∙ sym (any_length_at-lists k o c t);
        jagged = ap is_jagged typed ∙ jagged-lists o c w;
        by_place = ap picks_by_place typed ∙ by_place-lists o c w ∙ p.by_place;
        index_plain = ap simple typed ∙ simple-lists o c w
            ∙ ap (λ x. option_if o (list_type c x)) p.index_plain ∙ sym typed;
        places_plain = λ v.
            ap (λ x. simple_value x v) typed ∙ simple_value-lists o c w v p.places_plain;
        items = λ vs h.
            ap₂ (λ x xs. picked_items x vs xs) typed (places vs)
            ∙ picked_items-lists o c w vs (map (row_of P) vs)
            ∙ rows_by-rows (Has t) P (picked_items w) S vs p.items (are_rows o c t vs h)
            ∙ sym (results vs);
        even = λ vs h.
            ap₂ (λ x xs. are_uneven x vs xs) typed (places vs)
            ∙ uneven-lists o c w vs (map (row_of P) vs)
            ∙ ap₂ (λ x y. x || y)
            (equal (length vs) (length (map (row_of P) vs)) (sym (length-map vs (row_of P))))
            (rows_any-rows (Has t) P (are_uneven w) vs p.even (are_rows o c t vs h));
        within = λ vs h.
            ap₂ (λ x xs. lacks_places x vs xs) typed (places vs)
            ∙ lacking-lists o c w vs (map (row_of P) vs)
            ∙ rows_any-rows (Has t) P (lacks_places w) vs p.within (are_rows o c t vs h);
        sizes = λ vs e f.
            let n = length (map (row_of S) vs) in
            ap₂ size_refused typed (results vs)
            ∙ size-lists o c w (map (row_of S) vs)
            ∙ ap₂ (λ x y. x or y)
            (within_limit n (omega (
              arith,
              length-map vs (row_of S),
              few_spoil-limit (length vs)
                  e,
            )))
            (p.sizes vs (sym (spoil-lists k o c t vs) ∙ f));
      }

  below : (k : Reach) (t : DataType) → (here k t || is_lists_to (inner k) t) ≡ true
      → here k t ≡ false → is_lists_to (inner k) t ≡ true
  below k t r e = or_later (here k t) (is_lists_to (inner k) t) r e

  pub is_picked : (k : Reach) (t : DataType) → IsSimple t → is_lists_to k t ≡ true → IsPicked k t
  is_picked k (var t) s r =
      lists_picked k false None t (are_picked (here k t) k t s
      (λ e. is_picked (inner k) t s (below k t r e)))
  is_picked k (reg n t) s r =
      lists_picked k false (Some n) t (are_picked (here k t) k t s
      (λ e. is_picked (inner k) t s (below k t r e)))
  is_picked k (opt (var t)) s r =
      lists_picked k true None t (are_picked (here k t) k t s.1
      (λ e. is_picked (inner k) t s.1 (below k t r e)))
  is_picked k (opt (reg n t)) s r =
      lists_picked k true (Some n) t (are_picked (here k t) k t s.1
      (λ e. is_picked (inner k) t s.1 (below k t r e)))
  is_picked k unknown s r = cc
  is_picked k (leaf p) s r = cc
  is_picked k (rec ns ts) s r = cc
  is_picked k (tup ts) s r = cc
  is_picked k (uni ts) s r = cc
  is_picked k (opt unknown) s r = cc
  is_picked k (opt (leaf p)) s r = cc
  is_picked k (opt (rec ns ts)) s r = cc
  is_picked k (opt (tup ts)) s r = cc
  is_picked k (opt (opt t)) s r = let e = s.0 in cc
  is_picked k (opt (uni ts)) s r = cc

  -- ---- a pick by them

  first_alone : (a b c d : Option Fault) → b ≡ None → c ≡ None → d ≡ None
      → (a or (b or (c or d))) ≡ a
  first_alone None b c d e f g = ap₂ (λ x y. x or y) e (ap₂ (λ x y. x or y) f g)
  first_alone (Some a) b c d e f g = refl

  pub picked_by_places : (k : Reach) (t : DataType) (vs : List Value) → AreItems t vs
      → is_lists_to k t ≡ true → first_spoil (too_many (length vs)) (spoil_in k t vs) ≡ None
      → jagged_of (arr t vs) (arr (index_type k t) (map (index_in k t) vs))
      ≡ refused_or (limit_refused t) (arr (any_length_at k t) (map (picked_in k t) vs))
  picked_by_places k t vs h r e =
      let p = is_picked k t h.simple r in
      let u = index_type k t in
      let ws = map (index_in k t) vs in
      let q = first_spoil-both (too_many (length vs)) (spoil_in k t vs) e in
      ap₂ (λ b o. if b then picked_as o u vs ws else Err WrongType) p.jagged p.types
      ∙ ap₂ refused_or
      (first_alone (limit_refused (simple p.typ)) (fault_if Lengths (are_uneven u vs ws))
      (fault_if Index (lacks_places u vs ws)) (size_refused u (picked_items u vs ws))
      (ap (fault_if Lengths) (p.even vs h.items)) (ap (fault_if Index) (p.within vs h.items))
      (ap (size_refused u) (p.items vs h.items) ∙ p.sizes vs q.0 q.1)
      ∙ ap (option_map limit_fault) (ap limit p.plain ∙ any_limit k t))
      (ap₂ arr p.plain (p.items vs h.items))
