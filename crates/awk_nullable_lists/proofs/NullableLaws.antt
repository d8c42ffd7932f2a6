-- Options of numbers that lie in a lane, by an index or by a mask.
use Rattle.std.proofs.Common.{◌≡◌, ℕ, ◌*◌, ◌/◌, ◌<◌, List, [], ◌∷◌, length, get_or, refl, ap}
use Rattle.std.proofs.Common.{sym, ◌∙◌, arith}
use Rattle.std.specs.Prelude.{ℤ, pos, negsuc, ◌<ℤ◌, Bool, true, false, Some, if◌then◌else◌}
use Rattle.std.specs.Simd.{first_chunks}
use Rattle.std.proofs.lemmas.Int.{ints}
use Rattle.std.proofs.lemmas.List.FromFn.{length-map-range_with_len, get_or-map-range_with_len}
use Rattle.awk_types.specs.DataType.{leaf}
use Rattle.awk_types.specs.Predicates.{is_leaf}
use Rattle.awk_types.specs.Simple.{simple_value, in_option}
use Rattle.awk_types.specs.Value.{Value, null}
use Rattle.awk_types.proofs.NullLaws.{in_option-same}
use Rattle.awk_lanes.specs.Column.{Column}
use Rattle.awk_lanes.specs.Numbers.{element, number, numbers, width, is_nonzero}
use Rattle.awk_lanes.specs.Places.{size_of, at, option_place, option_place_at}
use Rattle.awk_lanes.specs.declared.kind.Kind.TheVariants.{I8}
use Rattle.awk_layout.specs.Item.{leaf_value, at_option, agrees, byte_shows, bit_shows}
use Rattle.awk_layout.specs.Kinds.{kind_of, primitive_of, kind_of-primitive_of}
use Rattle.awk_layout.specs.Layout.{Layout, flat, optional, byte_masked, bit_masked, unmasked}
use Rattle.awk_layout.specs.Typing.{array_type}
use Rattle.awk_layout.specs.Valid.{len, IsValid}
use Rattle.awk_gather.specs.Arrays.{array_item}
use Rattle.awk_gather_lanes.proofs.MovedGroups.{length-groups, number-group}
use Rattle.awk_open.specs.Opened.{IsOpened}
use Rattle.awk_open.specs.declared.opening.Opened.TheVariants as opened
use Rattle.awk_columns.proofs.ArrayLaws.{array_items-at}
use Rattle.awk_present.specs.Numbers.{leaf_of}
use Rattle.awk_present.specs.Present.{AreLeaves as AreLaneOf}
use Rattle.awk_present.proofs.LeafLaws.{leaf_of-opt}
use Rattle.awk_present.proofs.PresentLaws.{leaves-count, index_into}
use Rattle.awk_present.proofs.TakenLanes.{named_within}
use Rattle.awk_nullable.specs.Masks.{if_shown, byte_place, bit_place}
use Rattle.awk_nullable_lists.specs.Nullable.{AreLeaves}

shown_item : (b : Bool) (i : ℕ) (h : ℕ → Value)
    → (if b then h i else null) ≡ at_option (if_shown b i) h
shown_item true i h = refl
shown_item false i h = refl

shown_place : (b : Bool) (i k : ℕ) → if_shown b i ≡ Some k → i ≡ k
shown_place true i k e = cc
shown_place false i k e = cc

same_place : (i k : ℕ) → Some i ≡ Some k → i ≡ k
same_place i k e = cc

-- the bytes of a mask, each in a group of its own
pub mask_groups : (m : Column) (b : List ℕ) → m.kind ≡ I8 → length b ≡ size_of m * width m.kind
    → numbers m.kind (size_of m) b ≡ m.items
    → (length (first_chunks 1 (length b / 1) b) ≡ size_of m)
    × ((i : ℕ) → i < size_of m
    → number I8 (get_or (first_chunks 1 (length b / 1) b) i []) ≡ get_or m.items i (pos 0))
mask_groups m b e size same = (
  ap (λ k. length (first_chunks (width k) (length b / width k) b)) (sym e)
      ∙ length-groups m b size same,
  λ i l.
      ap (λ k. number k (get_or (first_chunks (width k) (length b / width k) b) i [])) (sym e)
      ∙ number-group m b size same i l,
)

module _ (c : Column) where
  abbrev leaf_at : ℕ → Value
  leaf_at k = leaf_value c.kind (at c k)

  -- an option of leaves is simple
  plain : (v : Value) → in_option (simple_value (leaf (primitive_of c.kind))) v ≡ v
  plain v = in_option-same (simple_value (leaf (primitive_of c.kind))) refl v

  pub indexed_leaves : (j : Column) → IsValid (optional j (flat c))
      → AreLeaves (optional j (flat c)) (option_place_at j) (size_of j) c
  indexed_leaves j h = record {
    size = refl;
    kind = sym (kind_of-primitive_of c.kind);
    leads = λ i k l e. named_within j (size_of c) i k h.1 l e;
    items = λ i l. plain (at_option (option_place_at j i) leaf_at);
  }

  pub byte_leaves : (m : Column) (v : Bool) (gs : List (List ℕ))
      → IsValid (byte_masked m v (flat c)) → length gs ≡ size_of m
      → ((i : ℕ) → i < size_of m → number I8 (get_or gs i []) ≡ get_or m.items i (pos 0))
      → AreLeaves (byte_masked m v (flat c)) (byte_place gs v) (length gs) c
  byte_leaves m v gs h n same =
      let read : (i : ℕ) → i < length gs → number I8 (get_or gs i []) ≡ at m i =
      λ i l. same i (omega (arith, l, n))
      ∙ sym (ap (λ k. element k (get_or m.items i (pos 0))) h.1.kind) in
      record {
        size = n;
        kind = sym (kind_of-primitive_of c.kind);
        leads = λ i k l e.
            let f = shown_place (agrees v (is_nonzero (number I8 (get_or gs i [])))) i k e in
            omega (arith, l, f, n, h.1.reach);
        items = λ i l.
            plain (if byte_shows m v i then leaf_at i else null)
            ∙ shown_item (byte_shows m v i) i leaf_at
            ∙ ap (λ z. at_option (if_shown (agrees v (is_nonzero z)) i) leaf_at) (sym (read i l));
      }

  pub bit_leaves : (m : List Bool) (v : Bool) → IsValid (bit_masked m v (flat c))
      → AreLeaves (bit_masked m v (flat c)) (bit_place m v) (length m) c
  bit_leaves m v h = record {
    size = refl;
    kind = sym (kind_of-primitive_of c.kind);
    leads = λ i k l e.
        let f = shown_place (bit_shows m v i) i k e in
        omega (arith, l, f, h.1);
    items = λ i l.
        plain (if bit_shows m v i then leaf_at i else null)
        ∙ shown_item (bit_shows m v i) i leaf_at;
  }

  pub all_leaves : (n : ℕ) → IsValid (unmasked n (flat c))
      → AreLeaves (unmasked n (flat c)) (λ i. Some i) n c
  all_leaves n h = record {
    size = refl;
    kind = sym (kind_of-primitive_of c.kind);
    leads = λ i k l e. omega (arith, l, same_place i k e, h.1);
    items = λ i l. plain (leaf_at i);
  }

  -- ---- of an array that is opened

  module _ (j : Column) (x y : Layout) (opens : IsOpened x (opened.Option j y))
      (h : AreLaneOf y c) where
    content-count : len y ≡ size_of c
    content-count =
        sym (length-map-range_with_len (array_item y) 0 (len y))
        ∙ sym (ap length (array_items-at y))
        ∙ leaves-count c y h

    content_at : (k : ℕ) → k < len y → array_item y k ≡ leaf_at k
    content_at k l =
        sym (get_or-map-range_with_len (array_item y) 0 (len y) k k null l (omega arith))
        ∙ ap (λ ws. get_or ws k null) (sym (array_items-at y) ∙ h.items)
        ∙ get_or-map-range_with_len leaf_at 0 (size_of c) k k null
        (omega (arith, l, content-count)) (omega arith)

    item_by : (z : ℤ) → z <ℤ pos (len y)
        → at_option (option_place z) (array_item y) ≡ at_option (option_place z) leaf_at
    item_by (pos k) l = content_at k (omega (arith, ints, l))
    item_by (negsuc k) l = refl

    pub opened_leaves : is_leaf (array_type y) ≡ true
        → AreLeaves x (option_place_at j) (size_of j) c
    opened_leaves leaves = record {
      size = opens.size;
      kind = h.kind
          ∙ ap kind_of (sym (ap leaf_of opens.kind ∙ leaf_of-opt (array_type y) leaves));
      leads = λ i k l e. named_within j (size_of c) i k (index_into j c x y opens h) l e;
      items = λ i l.
          opens.items i (omega (arith, l, opens.size))
          ∙ item_by (at j i) (opens.valid.1.below i l);
    }
