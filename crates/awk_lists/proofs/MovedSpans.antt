-- Lists of lists, where those of them are kept that hold an item.
use Rattle.std.specs.Prelude.{◌≡◌, ℕ, zero, suc, ◌+◌, ◌<◌, ◌≤◌, refl, true, List, [], ◌∷◌}
use Rattle.std.specs.Prelude.{◌++◌, map, sum, length, Some, None, if◌then◌else◌}
use Rattle.std.specs.List.{range_with_len, flat_map}
use Rattle.std.proofs.Common.{arith, ap, ap₂, sym, ◌∙◌, subst}
use Rattle.std.proofs.lemmas.List.Elements.{filter-append}
use Rattle.awk_types.specs.Parts.{item_of}
use Rattle.awk_types.specs.Simple.{present, simple, simple_value}
use Rattle.awk_types.specs.Value.{Value}
use Rattle.awk_lanes.specs.Column.{Column}
use Rattle.awk_lanes.specs.Places.{size_of}
use Rattle.awk_layout.specs.Layout.{Layout}
use Rattle.awk_layout.specs.Typing.{array_type}
use Rattle.awk_layout.specs.Valid.{len}
use Rattle.awk_columns.specs.Columns.{joined_items}
use Rattle.awk_types.specs.ItemLimit.{item_limit}
use Rattle.awk_columns.specs.Joined.{AreOffsets, total}
use Rattle.awk_columns.specs.ListClass.{Class}
use Rattle.awk_list_functions.specs.Made.{AreGiven, AreSpanned, IsMade}
use Rattle.awk_columns.specs.Lists.{AreLists, items_at, all_items_at}
use Rattle.awk_list_functions.specs.Spoils.{too_many}
use Rattle.awk_list_functions.specs.declared.causes.Spoil.TheVariants.{Size}
use Rattle.awk_list_functions.specs.declared.function.Made.{Made}
use Rattle.awk_list_functions.specs.declared.function.Made.TheVariants as made
use Rattle.awk_lists.specs.Flatten.{flatten_function}
use Rattle.awk_types.specs.Predicates.{is_list_or_unknown}
use Rattle.awk_types.proofs.ItemLimits.{nat_lt-over}
use Rattle.awk_lists.specs.Held.{holds_item, held_lists, AreHeld}
use Rattle.awk_list_ends.specs.Ends.{numbers_at_ends, AreListEnds}
use Rattle.awk_lists.proofs.Ends.{list_present}
use Rattle.awk_lists.proofs.Flattened.{are_lists}
use Rattle.awk_lists.proofs.HeldLists.{joined-held, held-few, keeps_held}
use Rattle.awk_lists.proofs.JoinedItems.{count-joined}
use Rattle.awk_list_ends.specs.Kept.{KeepsItems}
use Rattle.awk_list_ends.proofs.EndLaws as ends

-- ---- many lists

flat_held : (f : ℕ → List Value) (ks : List ℕ)
    → held_lists (flat_map f ks) ≡ flat_map (λ k. held_lists (f k)) ks
flat_held f [] = refl
flat_held f (k ∷ ks) =
    filter-append holds_item (f k) (flat_map f ks)
    ∙ ap (λ vs. held_lists (f k) ++ vs) (flat_held f ks)

flat_same : (f g : ℕ → List Value) (b n : ℕ) → ((i : ℕ) → b ≤ i → i < b + n → f i ≡ g i)
    → flat_map f (range_with_len b n) ≡ flat_map g (range_with_len b n)
flat_same f g b zero e = refl
flat_same f g b (suc n) e =
    ap₂ (λ vs ws. vs ++ ws) (e b (omega arith) (omega arith))
    (flat_same f g (b + 1) n (λ i p q. e i (omega (arith, p)) (omega (arith, q))))

module _ (class : Class) (s t : Column) (y : Layout) (a : AreLists class s t y)
    (c : Column) (z : Layout) (h : AreHeld y c z) where
  kept : KeepsItems holds_item y c z
  kept = keeps_held y c z h

  pub starts_are : AreListEnds c s t s
  starts_are = ends.starts_are holds_item class s t y a c z kept

  pub stops_are : AreListEnds c s t t
  stops_are = ends.stops_are holds_item class s t y a c z kept

  abbrev starts : Column
  starts = numbers_at_ends c s t s

  abbrev stops : Column
  stops = numbers_at_ends c s t t

  size-starts : size_of starts ≡ size_of s
  size-starts = ends.size-starts holds_item class s t y a c z kept

  pub moved_spans : AreLists None starts stops z
  moved_spans = ends.kept_lists holds_item class s t y a c z kept

  -- ---- the lists

  list_is : (i : ℕ) → i < size_of s
      → items_at starts stops z i ≡ held_lists (items_at s t y i)
  list_is i p = ends.list_is holds_item class s t y a c z kept i p

  joined_is : (i : ℕ) → i < size_of s
      → joined_items (items_at starts stops z i) ≡ joined_items (items_at s t y i)
  joined_is i p = ap joined_items (list_is i p) ∙ joined-held (items_at s t y i)

  -- ---- all lists

  abbrev before : List Value
  before = flat_map (items_at s t y) (range_with_len 0 (size_of s))

  abbrev after : List Value
  after = flat_map (items_at starts stops z) (range_with_len 0 (size_of starts))

  after_is : after ≡ held_lists before
  after_is =
      ap (λ n. flat_map (items_at starts stops z) (range_with_len 0 n)) size-starts
      ∙ flat_same (items_at starts stops z) (λ i. held_lists (items_at s t y i)) 0 (size_of s)
      (λ i _ q. list_is i (omega (arith, q)))
      ∙ sym (flat_held (items_at s t y) (range_with_len 0 (size_of s)))

  count_before : sum (map (λ ws. length (joined_items ws)) (all_items_at s t y))
      ≡ length (joined_items before)
  count_before = count-joined (items_at s t y) (range_with_len 0 (size_of s))

  count_after : sum (map (λ ws. length (joined_items ws)) (all_items_at starts stops z))
      ≡ length (joined_items before)
  count_after =
      count-joined (items_at starts stops z) (range_with_len 0 (size_of starts))
      ∙ ap (λ ws. length (joined_items ws)) after_is
      ∙ ap length (joined-held before)

  -- too many lists hold too many items
  pub moved_spoilt : item_limit < total starts stops z
      → flatten_function.spoil (array_type y) (all_items_at s t y) ≡ Some Size
  moved_spoilt q =
      let e : length after ≡ length (held_lists before) = ap length after_is in
      let few = held-few before in
      ap too_many count_before
      ∙ ap (λ b. if b then Some Size else None)
      (nat_lt-over (length (joined_items before)) (omega (arith, q, e, few)))

  same_spoil : flatten_function.spoil (array_type y) (all_items_at s t y)
      ≡ flatten_function.spoil (array_type z) (all_items_at starts stops z)
  same_spoil = ap too_many (count_before ∙ sym count_after)

  -- ---- the types

  same_typ : is_list_or_unknown (present (array_type y)) ≡ true
      → item_of (present (array_type z)) ≡ item_of (present (array_type y))
  same_typ l =
      ap (λ u. item_of (present u)) h.typ
      ∙ ap item_of (list_present (present (array_type y)) l)

  pub held_typ : flatten_function.refusal (array_type y) ≡ None
      → is_list_or_unknown (array_type z) ≡ true
  held_typ r = ap is_list_or_unknown h.typ ∙ are_lists (array_type y) r

  -- ---- what is made

  lists_given : is_list_or_unknown (present (array_type y)) ≡ true → (o : Column) (w : Layout)
      → AreGiven None (item_of (present (array_type z))) (λ ws. joined_items ws)
      starts stops z o w
      → AreGiven None (item_of (present (array_type y))) (λ ws. joined_items ws) s t y o w
  lists_given l o w g = record {
    valid = g.valid;
    offsets = subst (λ n. AreOffsets o n (len w)) size-starts g.offsets;
    even = tt;
    typ = g.typ ∙ ap simple (same_typ l);
    lists = λ i p.
        g.lists i (omega (arith, p, size-starts))
        ∙ ap (λ u. map (simple_value u) (joined_items (items_at starts stops z i))) (same_typ l)
        ∙ ap (map (simple_value (item_of (present (array_type y))))) (joined_is i p);
  }

  spans_given : is_list_or_unknown (present (array_type y)) ≡ true → (a b : Column) (w : Layout)
      → AreSpanned (item_of (present (array_type z))) (λ ws. joined_items ws) starts stops z a b w
      → AreSpanned (item_of (present (array_type y))) (λ ws. joined_items ws) s t y a b w
  spans_given l a b w g = record {
    valid = g.valid;
    fits = g.fits;
    size = g.size ∙ size-starts;
    spans = g.spans;
    typ = g.typ ∙ ap simple (same_typ l);
    lists = λ i p.
        g.lists i (omega (arith, p, size-starts))
        ∙ ap (λ u. map (simple_value u) (joined_items (items_at starts stops z i))) (same_typ l)
        ∙ ap (map (simple_value (item_of (present (array_type y))))) (joined_is i p);
  }

  pub moved_made : flatten_function.refusal (array_type y) ≡ None → (m : Made)
      → IsMade flatten_function None starts stops z m → IsMade flatten_function class s t y m
  moved_made r (made.Spoiled why) k = same_spoil ∙ k
  moved_made r (made.Lists o w) k =
      (same_spoil ∙ k.0, lists_given (are_lists (array_type y) r) o w k.1)
  moved_made r (made.Even w) k = absurd k.1
  moved_made r (made.Spans a b w) k =
      (same_spoil ∙ k.0, (k.1.0, spans_given (are_lists (array_type y) r) a b w k.1.1))
  moved_made r (made.Singles w) k = absurd k.1
