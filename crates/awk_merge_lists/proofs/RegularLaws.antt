-- Lists of one length merged: their items one after another, and the column of them.
use Rattle.std.specs.Prelude.{◌≡◌, ◌+◌, ◌-◌, ◌*◌, ◌<◌, ◌≤◌, ◌++◌, [], ℕ, List, length, map, take}
use Rattle.std.specs.Prelude.{get_or, slice_get, Some}
use Rattle.std.specs.List.{AllByRecursion}
use Rattle.std.proofs.Common.{arith, ap, sym, subst, ◌∙◌}
use Rattle.std.proofs.lemmas.List.{ext_get_or, length-append, length-map, get_or_append_left}
use Rattle.std.proofs.lemmas.List.{get_or-append-add}
use Rattle.awk_types.specs.DataType.{DataType, reg}
use Rattle.awk_types.specs.Has.{Has}
use Rattle.awk_types.specs.Simple.{simple_value}
use Rattle.awk_types.specs.Value.{Value, int, truth, null, list, row, alt, value_list}
use Rattle.awk_types.proofs.Trees.{value_list-from}
use Rattle.awk_layout.specs.Item.{item, run}
use Rattle.awk_layout.specs.Layout.{Layout, regular}
use Rattle.awk_layout.specs.Typing.{layout_type, array_type, array_items}
use Rattle.awk_layout.specs.Valid.{len}
use Rattle.awk_layout.proofs.ArrayItems.{length-array_items, get_or-array_items}
use Rattle.awk_gather.specs.Arrays.{array_item}
use Rattle.awk_columns.specs.Columns.{list_items}
use Rattle.awk_columns.proofs.ArrayLaws.{run_in_list}
use Rattle.awk_unify.specs.Carry.{Carry, carried}
use Rattle.awk_layout.proofs.Runs.{run-moved}
use Rattle.awk_merge_lists.specs.ListLevels.{cut, IsRegularLevel}
use Rattle.awk_merge_sides.specs.Lifts.{items_carry}
use Rattle.awk_merge_lists.specs.Lists.{AreOfLength, HoldsItems}
use Rattle.awk_merge_sides.specs.Sides.{Side, sides_of, side_items, merged_items, with_side}
use Rattle.awk_merge_sides.specs.Sides.{AreSides, IsSide, IsCounted, IsMerged}
use Rattle.awk_merge_sides.specs.declared.sides.Sides.{Sides}
use Rattle.awk_merge_lists.proofs.CarriedLists.{carried-list, carried-run, carried_list}
use Rattle.awk_merge_lists.proofs.CarriedLists.{over_carried}
use Rattle.awk_merge_lists.proofs.ListLaws.{below_or}
use Rattle.awk_merge_sides.proofs.SideLaws.{length-side_items, get_or-side_items, get_or-carried}
use Rattle.awk_merge_sides.proofs.SideLaws.{length-carried, item_has, merged_items-with_side}
use Rattle.awk_merge_sides.proofs.SideLaws.{AreSides-with_side, IsSide-get, merged_items-next}
use Rattle.awk_merge_sides.proofs.SideLaws.{merged_items-all}

-- ---- numbers

-- the i-th of m blocks of n lies within
pub block_within : (m n i : ℕ) → i < m → i * n + n ≤ m * n
block_within m n i p =
    let d = m - (i + 1) in
    let e : m ≡ i + 1 + d = omega (arith, p) in
    let f : (i + 1 + d) * n ≡ i * n + n + d * n = grind arith in
    let g : m * n ≡ i * n + n + d * n = ap (λ k. k * n) e ∙ f in
    omega (arith, g)

block_behind : (m n i : ℕ) → m ≤ i → i * n ≡ m * n + (i - m) * n
block_behind m n i p =
    let e : i ≡ m + (i - m) = omega (arith, p) in
    let f : (m + (i - m)) * n ≡ m * n + (i - m) * n = grind arith in
    ap (λ k. k * n) e ∙ f

-- ---- lists behind others

-- values that are lists of n, one after another
pub record AreBlocks (n : ℕ) (vs ws : List Value) : Type 0 where
  pub size : length ws ≡ length vs * n
  pub items : (i : ℕ) → i < length vs → get_or vs i null ≡ cut ws (i * n) n

module _ (n : ℕ) (vs us ws more : List Value) (h : AreBlocks n vs ws) (k : AreBlocks n us more)
  where
    abbrev m : ℕ
    m = length vs

    all : length (vs ++ us) ≡ m + length us
    all = length-append vs us

    early : (i : ℕ) → i < m → cut ws (i * n) n ≡ cut (ws ++ more) (i * n) n
    early i p =
        let w = block_within m n i p in
        ap list (run-moved (λ j. get_or ws j null) (λ j. get_or (ws ++ more) j null) (i * n) (i * n)
        n
        (λ j q. sym (get_or_append_left ws more null (i * n + j) (omega (arith, w, q, h.size)))))

    late : (i : ℕ) → m ≤ i → cut more ((i - m) * n) n ≡ cut (ws ++ more) (i * n) n
    late i p =
        let g : ℕ → Value = λ j. get_or (ws ++ more) j null in
        let b = block_behind m n i p in
        ap list (run-moved (λ j. get_or more j null) g ((i - m) * n) (i * n) n (λ j q.
        let e : length ws + ((i - m) * n + j) ≡ i * n + j = omega (arith, b, h.size) in
        sym (get_or-append-add ws more ((i - m) * n + j) null) ∙ ap g e))

    -- the lists of one column more
    pub blocks_more : AreBlocks n (vs ++ us) (ws ++ more)
    blocks_more = record {
      size =
          let l : length (ws ++ more) ≡ length ws + length more = length-append ws more in
          let f : (m + length us) * n ≡ m * n + length us * n = grind arith in
          let g : length (vs ++ us) * n ≡ m * n + length us * n = ap (λ q. q * n) all ∙ f in
          omega (arith, l, g, h.size, k.size);
      items = λ i p. below_or i m
          (λ q. get_or_append_left vs us null i q ∙ h.items i q ∙ early i q)
          (λ q.
          let j : i ≡ m + (i - m) = omega (arith, q) in
          ap (λ x. get_or (vs ++ us) x null) j ∙ get_or-append-add vs us (i - m) null
          ∙ k.items (i - m) (omega (arith, q, p, all)) ∙ late i q);
    }

-- ---- columns of lists

list_long : (f : Carry) (n : ℕ) (u : DataType) (v : Value) → Has (reg n u) (carried f v)
    → length (list_items v) ≡ n
list_long f n u (list vs) h =
    let g = carried (items_carry f) in
    let w = subst (Has (reg n u)) (carried-list f (Some n) u vs h) h in
    sym (ap length (value_list-from (map g (value_list vs))) ∙ length-map (value_list vs) g) ∙ w.0
list_long f n u (int z) h = absurd (carried_list f (Some n) u (int z) h)
list_long f n u (truth b) h = absurd (carried_list f (Some n) u (truth b) h)
list_long f n u null h = absurd (carried_list f (Some n) u null h)
list_long f n u (row vs) h = absurd (carried_list f (Some n) u (row vs) h)
list_long f n u (alt k v) h = absurd (carried_list f (Some n) u (alt k v) h)

-- what becomes lists of n are lists of n
pub side_long : (n : ℕ) (u : DataType) (x : Side) → IsSide (reg n u) x
    → AllByRecursion (Has (array_type x.column)) (array_items x.column) → AreOfLength n x.column
side_long n u x h all = λ i p.
    let v = array_item x.column i in
    list_long x.carry n u v (h.values v (item_has x.column i all p))

-- where the carried lists of a column lie
side_block : (n : ℕ) (u : DataType) (x : Side) (y : Layout) → IsSide (reg n u) x
    → AllByRecursion (Has (array_type x.column)) (array_items x.column) → HoldsItems n x.column y
    → AreBlocks n (side_items x) (map (carried (items_carry x.carry)) (array_items y))
side_block n u x y h all l =
    let g = items_carry x.carry in
    let long = length-side_items x in
    record {
      size = length-carried y g ∙ l.size ∙ ap (λ k. k * n) (sym long);
      items = λ i p.
          let q : i < len x.column = omega (arith, p, long) in
          let e : array_item x.column i ≡ list (run (array_item y) (i * n) n) = l.items i q in
          let has : Has (reg n u) (carried x.carry (list (run (array_item y) (i * n) n))) =
          subst (λ v. Has (reg n u) (carried x.carry v)) e
          (h.values (array_item x.column i) (item_has x.column i all q)) in
          let w = block_within (len x.column) n i q in
          get_or-side_items x i q ∙ ap (carried x.carry) e
          ∙ carried-run x.carry (Some n) u (array_item y) (i * n) n has
          ∙ ap list (run-moved (λ k. carried g (array_item y k))
          (λ k. get_or (map (carried g) (array_items y)) k null) (i * n) (i * n) n (λ j r.
          sym (get_or-carried y g (i * n + j) (omega (arith, w, r, l.size)))));
    }

-- ---- while the level is made

-- the items of the first i columns
pub record AreFilled (ss : List Side) (i : ℕ) (r : Sides) : Type 0 where
  pub counted : IsCounted r
  pub sides : (n : ℕ) (u : DataType) → AreSides (reg n u) ss → AreSides u (sides_of r)
  pub blocks : (n : ℕ) (u : DataType) → AreSides (reg n u) ss
      → AreBlocks n (merged_items (take i ss)) (merged_items (sides_of r))

empty_blocks : (n : ℕ) → AreBlocks n [] []
empty_blocks n = record {
  size = grind arith;
  items = λ i p. absurd (omega (arith, p));
}

-- before the first
pub filled_none : (ss : List Side) (r : Sides) → sides_of r ≡ [] → IsCounted r → AreFilled ss 0 r
filled_none ss r e k = record {
  counted = k;
  sides = λ n u h. rw e tt;
  blocks = λ n u h. rw e (empty_blocks n);
}

-- one column more
pub filled_next : (ss : List Side) (i : ℕ) (x : Side) (y : Layout) (before now : Sides)
    → slice_get ss i ≡ Some x
    → AllByRecursion (Has (array_type x.column)) (array_items x.column)
    → ((n : ℕ) → AreOfLength n x.column → HoldsItems n x.column y)
    → sides_of now ≡ with_side (sides_of before) y (items_carry x.carry) → IsCounted now
    → AreFilled ss i before → AreFilled ss (i + 1) now
filled_next ss i x y before now e all holds w c h =
    let g = items_carry x.carry in
    record {
      counted = c;
      sides = λ n u k.
          let side : IsSide (reg n u) x = IsSide-get (reg n u) ss i x e k in
          let l = holds n (side_long n u x side all) in
          rw w (AreSides-with_side u (sides_of before) y g (h.sides n u k)
          (over_carried (Some n) u x y side l.over));
      blocks = λ n u k.
          let side : IsSide (reg n u) x = IsSide-get (reg n u) ss i x e k in
          let l = holds n (side_long n u x side all) in
          rw (
            merged_items-next ss i x e,
            ap merged_items w
                ∙ merged_items-with_side (sides_of before) y g,
          )
          (blocks_more n (merged_items (take i ss)) (side_items x) (merged_items (sides_of before))
          (map (carried g) (array_items y)) (h.blocks n u k) (side_block n u x y side all l));
    }

-- all columns
pub level_filled : (ss : List Side) (i : ℕ) (r : Sides) → length ss ≤ i → AreFilled ss i r
    → (n : ℕ) (u : DataType) → AreSides (reg n u) ss → IsRegularLevel n u ss r
level_filled ss i r e h n u k =
    let all : merged_items (take i ss) ≡ merged_items ss =
    merged_items-all ss i e in
    let b : AreBlocks n (merged_items ss) (merged_items (sides_of r)) =
    subst (λ vs. AreBlocks n vs (merged_items (sides_of r))) all (h.blocks n u k) in
    record { sides = h.sides n u k; counted = h.counted; size = b.size; items = b.items }

-- ---- the node

module _ (n : ℕ) (u : DataType) (ss : List Side) (r : Sides) (y : Layout) (count : ℕ)
    (c : count ≡ length (merged_items ss)) (h : IsRegularLevel n u ss r)
    (m : IsMerged u (sides_of r) y) where
  whole-merged : len y ≡ count * n
  whole-merged =
      sym (length-array_items y) ∙ ap length m.items ∙ h.size ∙ ap (λ k. k * n) (sym c)

  -- the merged items are enough
  pub regular_room : count * n ≤ len y
  regular_room = omega (arith, whole-merged)

  list-at : (i : ℕ) → i < count
      → array_item (regular n count y) i ≡ get_or (merged_items ss) i null
  list-at i p =
      let w = block_within count n i p in
      run_in_list (simple_value (layout_type y)) (item y) (i * n) n
      ∙ ap list (run-moved (array_item y) (λ k. get_or (array_items y) k null) (i * n) (i * n) n
      (λ j q. sym (get_or-array_items y (i * n + j) (omega (arith, w, q, whole-merged)))))
      ∙ ap (λ vs. cut vs (i * n) n) m.items ∙ sym (h.items i (omega (arith, p, c)))

  -- a column of lists of one length over the merged items
  pub regular_merged : IsMerged (reg n u) ss (regular n count y)
  regular_merged = record {
    typ = ap (reg n) m.typ;
    items =
        let long = length-array_items (regular n count y) in
        ext_get_or null (array_items (regular n count y)) (merged_items ss) (long ∙ c)
        (λ i p. get_or-array_items (regular n count y) i (omega (arith, p, long))
        ∙ list-at i (omega (arith, p, long)));
  }
