-- Groups of the parts of columns of rows, one column more and all.
use Rattle.std.proofs.Common.{◌≡◌, ℕ, zero, suc, ◌+◌, ◌-◌, ◌<◌, ◌≤◌, List, [], ◌∷◌, ◌++◌, length}
use Rattle.std.proofs.Common.{map, take, get_or, slice_get, Option, Some, replicate, refl, ap, ap₂}
use Rattle.std.proofs.Common.{sym, subst, ◌∙◌, arith, length-append, inl, inr, ◌⊎◌}
use Rattle.std.specs.List.{range_with_len}
use Rattle.std.proofs.lemmas.Bool.{cases_lt}
use Rattle.std.proofs.lemmas.List.{length-map, get_or-map, ext_get_or, get_or_append_left}
use Rattle.std.proofs.lemmas.List.{get_or-append-add}
use Rattle.std.proofs.lemmas.List.FromFn.{fill_by_all}
use Rattle.awk_types.specs.DataType.{DataType, no_types, unknown, tup, types_from}
use Rattle.awk_types.specs.Has.{Has}
use Rattle.awk_types.specs.Value.{Value, null, row, no_values, value, values_from}
use Rattle.awk_base.proofs.Lists.{take-get}
use Rattle.awk_layout.specs.Layout.{Layout}
use Rattle.awk_layout.specs.Valid.{len}
use Rattle.awk_gather.specs.Arrays.{array_item}
use Rattle.awk_unify.specs.Carry.{Carry, carried}
use Rattle.awk_merge_rows.specs.RowLevels.{across, AreEachLong}
use Rattle.awk_merge_sides.specs.Groups.{AreGroups, with_side_at}
use Rattle.awk_merge_sides.specs.Lifts.{part_carry, part_source}
use Rattle.awk_merge_rows.specs.Parts.{part_side, side_from, ArePut, OpensAsRow, AreRowParts}
use Rattle.awk_merge_sides.specs.Sides.{Side, side_items, merged_items, with_side, IsSide, AreSides}
use Rattle.awk_merge_sides.proofs.SideLaws.{merged_items-side, total-with_side, get_or-before}
use Rattle.awk_merge_sides.proofs.SideLaws.{get_or-added, AreSides-with_side, get_or-side_items}
use Rattle.awk_merge_sides.proofs.SideLaws.{length-side_items, item_has}
use Rattle.awk_merge_sides.proofs.GroupLaws.{length-groups, AreGroups-none, length-with_side_at}
use Rattle.awk_merge_sides.proofs.GroupLaws.{get_or-with_side_at, get_or-with_side_at-other}
use Rattle.awk_merge_rows.proofs.RowValues.{part_value}
use Rattle.awk_merge_rows.proofs.RowSides.{row_at, HasItems, carried_row, part_carries, part_item}
use Rattle.awk_merge_rows.proofs.RowSides.{part_len}

-- ---- groups by place

groups_by : (ts : List DataType) (gs : List (List Side)) → length gs ≡ length ts
    → ((j : ℕ) → j < length ts → AreSides (get_or ts j unknown) (get_or gs j [])) → AreGroups ts gs
groups_by [] [] e h = tt
groups_by [] (g ∷ gs) e h = absurd (omega (arith, e))
groups_by (t ∷ ts) [] e h = absurd (omega (arith, e))
groups_by (t ∷ ts) (g ∷ gs) e h =
    (h 0 (omega arith), groups_by ts gs (omega (arith, e)) (λ j l. h (suc j) (omega (arith, l))))

group_at : (ts : List DataType) (gs : List (List Side)) (j : ℕ) → AreGroups ts gs → j < length ts
    → AreSides (get_or ts j unknown) (get_or gs j [])
group_at [] gs j h l = absurd (omega (arith, l))
group_at (t ∷ ts) [] j h l = absurd h
group_at (t ∷ ts) (g ∷ gs) zero h l = h.0
group_at (t ∷ ts) (g ∷ gs) (suc j) h l = group_at ts gs j h.1 (omega (arith, l))

long_by : (n : ℕ) (gs : List (List Side))
    → ((j : ℕ) → j < length gs → length (merged_items (get_or gs j [])) ≡ n) → AreEachLong n gs
long_by n [] h = tt
long_by n (g ∷ gs) h = (h 0 (omega arith), long_by n gs (λ j l. h (suc j) (omega (arith, l))))

long_at : (n : ℕ) (gs : List (List Side)) (j : ℕ) → AreEachLong n gs → j < length gs
    → length (merged_items (get_or gs j [])) ≡ n
long_at n [] j h l = absurd (omega (arith, l))
long_at n (g ∷ gs) zero h l = h.0
long_at n (g ∷ gs) (suc j) h l = long_at n gs j h.1 (omega (arith, l))

length-across : (gs : List (List Side)) (i : ℕ) → length (across gs i) ≡ length gs
length-across gs i = length-map gs (λ g. get_or (merged_items g) i null)

get_or-across : (gs : List (List Side)) (i j : ℕ) → j < length gs
    → get_or (across gs i) j null ≡ get_or (merged_items (get_or gs j [])) i null
get_or-across gs i j l = get_or-map (λ g. get_or (merged_items g) i null) gs j [] null l

-- ---- one column more

-- the rows that were there stay
rows_stay : (s : ℕ → Side) (old new : List (List Side)) (m i : ℕ) → ArePut s (length old) old new
    → AreEachLong m old → i < m → across new i ≡ across old i
rows_stay s old new m i p h l =
    ext_get_or null (across new i) (across old i)
    (length-across new i ∙ p.size ∙ sym (length-across old i))
    (λ j q.
    let q' : j < length new = omega (arith, q, length-across new i) in
    let q2 : j < length old = omega (arith, q', p.size) in
    get_or-across new i j q'
    ∙ ap (λ g. get_or (merged_items g) i null) (p.put j q2 q2)
    ∙ get_or-before (get_or old j []) (s j).column (s j).carry i
    (omega (arith, l, long_at m old j h q2))
    ∙ sym (get_or-across old i j q2))

-- and the new ones follow
rows_follow : (s : ℕ → Side) (g : ℕ → Value) (old new : List (List Side)) (m i n k : ℕ)
    → ArePut s (length old) old new → AreEachLong m old → length old ≡ k
    → ((j : ℕ) → len (s j).column ≡ n) → i < n
    → ((j : ℕ) → get_or (side_items (s j)) i null ≡ g j)
    → map g (range_with_len 0 k) ≡ across new (m + i)
rows_follow s g old new m i n k p h e w l is =
    sym (fill_by_all g (across new (m + i)) k null
    (length-across new (m + i) ∙ p.size ∙ e)
    (λ j q.
    let q2 : j < length old = omega (arith, q, e) in
    let q' : j < length new = omega (arith, q2, p.size) in
    let here : length (merged_items (get_or old j [])) ≡ m = long_at m old j h q2 in
    let long : i < len (s j).column = omega (arith, l, w j) in
    get_or-across new (m + i) j q'
    ∙ ap (λ g. get_or (merged_items g) (m + i) null) (p.put j q2 q2)
    ∙ ap (λ m. get_or (merged_items (with_side (get_or old j []) (s j).column (s j).carry)) (m + i)
    null) (sym here)
    ∙ get_or-added (get_or old j []) (s j).column (s j).carry i long
    ∙ sym (get_or-side_items (s j) i long)
    ∙ is j))

pub rows_put : (ts : List DataType) (ss : List Side) (x : Layout) (f : Carry) (ys : List Layout)
    (old new : List (List Side)) → IsSide (tup (types_from ts)) (record { column = x; carry = f })
    → HasItems x → OpensAsRow x ys → ArePut (part_side (len x) f ys) (length old) old new
    → AreRowParts ts ss old → AreRowParts ts (ss ++ record { column = x; carry = f } ∷ []) new
rows_put ts ss x f ys old new side typed opens p h =
    record {
      groups = groups_by ts new (p.size ∙ size) (λ j l.
          let q : j < length old = omega (arith, l, size) in
          subst (AreSides (get_or ts j unknown)) (sym (p.put j q q))
          (AreSides-with_side (get_or ts j unknown) (get_or old j [])
          (part_side (len x) f ys j).column (part_side (len x) f ys j).carry
          (group_at ts old j h.groups l)
          (λ some. part_carries ts x f opens.0 ys side typed opens.1 j l)));
      long = long_by (length (merged_items (ss ++ s ∷ []))) new (λ j l.
          let q : j < length old = omega (arith, l, p.size) in
          ap (λ g. length (merged_items g)) (p.put j q q)
          ∙ total-with_side (get_or old j []) (part_side (len x) f ys j).column
          (part_side (len x) f ys j).carry
          ∙ ap₂ (λ a b. a + b) (long_at m old j h.long q)
          (part_len ts x f opens.0 ys side typed opens.1 j)
          ∙ sym total);
      items = λ i l. item_at i (omega (arith, l, total)) (cases_lt i m);
    }
  where
    s : Side
    s = record { column = x; carry = f }

    m : ℕ
    m = length (merged_items ss)

    size : length old ≡ length ts
    size = length-groups ts old h.groups

    total : length (merged_items (ss ++ s ∷ [])) ≡ m + len x
    total = ap length (merged_items-side ss s) ∙ length-append (merged_items ss) (side_items s)
        ∙ ap (λ n. m + n) (length-side_items s)

    follows : (i k : ℕ) → i ≡ m + k → k < len x → get_or (merged_items (ss ++ s ∷ [])) i null
        ≡ row (values_from (across new i))
    follows i k e l =
        ap₂ (λ vs i. get_or vs i null) (merged_items-side ss s) e
        ∙ get_or-append-add (merged_items ss) (side_items s) k null
        ∙ get_or-side_items s k l
        ∙ carried_row ts x f opens.0 ys side typed opens.1 k l
        ∙ ap (λ vs. row (values_from vs))
        (rows_follow (part_side (len x) f ys) (part_value f (row_at ys k)) old new m k (len x)
        (length ts) p h.long size (part_len ts x f opens.0 ys side typed opens.1) l
        (λ j. part_item ts x f opens.0 ys side typed opens.1 k j l)
        ∙ ap (across new) (sym e))

    item_at : (i : ℕ) → i < m + len x → (i < m) ⊎ (m ≤ i)
        → get_or (merged_items (ss ++ s ∷ [])) i null ≡ row (values_from (across new i))
    item_at i l (inl q) =
        ap (λ vs. get_or vs i null) (merged_items-side ss s)
        ∙ get_or_append_left (merged_items ss) (side_items s) null i q
        ∙ h.items i q
        ∙ ap (λ vs. row (values_from vs))
        (sym (rows_stay (part_side (len x) f ys) old new m i p h.long q))
    item_at i l (inr q) = follows i (i - m) (omega (arith, q)) (omega (arith, l, q))

-- ---- rows without parts

-- they have one value
only_row : (v : Value) → Has (tup no_types) v → v ≡ row no_values
only_row (row no_values) h = refl
only_row (row (value v vs)) h = absurd h
only_row v h = absurd h

alike_items : (ss : List Side) (s : Side) → IsSide (tup no_types) s → HasItems s.column
    → ((i : ℕ) → i < length (merged_items ss) → get_or (merged_items ss) i null ≡ row no_values)
    → (i : ℕ) → i < length (merged_items (ss ++ s ∷ []))
    → get_or (merged_items (ss ++ s ∷ [])) i null ≡ row no_values
alike_items ss s side typed h i l = item_at (cases_lt i m)
  where
    m : ℕ
    m = length (merged_items ss)

    total : length (merged_items (ss ++ s ∷ [])) ≡ m + len s.column
    total = ap length (merged_items-side ss s) ∙ length-append (merged_items ss) (side_items s)
        ∙ ap (λ n. m + n) (length-side_items s)

    follows : (k : ℕ) → i ≡ m + k → k < len s.column
        → get_or (merged_items (ss ++ s ∷ [])) i null ≡ row no_values
    follows k e q =
        ap₂ (λ vs i. get_or vs i null) (merged_items-side ss s) e
        ∙ get_or-append-add (merged_items ss) (side_items s) k null
        ∙ get_or-side_items s k q
        ∙ only_row (carried s.carry (array_item s.column k))
        (side.values (array_item s.column k) (item_has s.column k typed q))

    item_at : (i < m) ⊎ (m ≤ i) → get_or (merged_items (ss ++ s ∷ [])) i null ≡ row no_values
    item_at (inl q) =
        ap (λ vs. get_or vs i null) (merged_items-side ss s)
        ∙ get_or_append_left (merged_items ss) (side_items s) null i q
        ∙ h i q
    item_at (inr q) = follows (i - m) (omega (arith, q)) (omega (arith, l, total, q))

pub rows_alike : (ts : List DataType) (ss : List Side) (s : Side) (gs : List (List Side))
    → length gs ≡ 0 → IsSide (tup (types_from ts)) s → HasItems s.column → AreRowParts ts ss gs
    → AreRowParts ts (ss ++ s ∷ []) gs
rows_alike [] ss s [] e side typed h = record {
  groups = tt;
  long = tt;
  items = alike_items ss s side typed h.items;
}
rows_alike (t ∷ ts) ss s [] e side typed h = absurd h.groups
rows_alike ts ss s (g ∷ gs) e side typed h = absurd (omega (arith, e))

-- ---- loops

-- what the part that goes to a place gives there
pub part_side-at : (s : Side) (n : ℕ) (f : Carry) (ys : List Layout) (j : ℕ) (source : Option ℕ)
    → s ≡ side_from n (part_carry f) ys source → source ≡ part_source f j → s ≡ part_side n f ys j
part_side-at s n f ys j source e d = e ∙ ap (side_from n (part_carry f) ys) d

pub put_next : (s : ℕ → Side) (j : ℕ) (old before after : List (List Side)) (x : Layout) (f : Carry)
    → record { column = x; carry = f } ≡ s j → j < length old
    → after ≡ with_side_at j before x f → ArePut s j old before → ArePut s (j + 1) old after
put_next s j old before after x f e l a h = record {
  size = ap length a ∙ length-with_side_at j before x f ∙ h.size;
  put = λ k p q. put_at k p q (cases_lt k j);
  left = λ k p. ap (λ gs. get_or gs k []) a
      ∙ get_or-with_side_at-other j k before x f (λ same. absurd (omega (arith, p, same)))
      ∙ h.left k (omega (arith, p));
}
  where
    here : get_or after j [] ≡ with_side (get_or old j []) (s j).column (s j).carry
    here = ap (λ gs. get_or gs j []) a
        ∙ get_or-with_side_at j before x f (omega (arith, l, h.size))
        ∙ ap (λ g. with_side g x f) (h.left j (omega arith))
        ∙ ap (λ (t : Side). with_side (get_or old j []) t.column t.carry) e

    put_at : (k : ℕ) → k < j + 1 → k < length old → (k < j) ⊎ (j ≤ k)
        → get_or after k [] ≡ with_side (get_or old k []) (s k).column (s k).carry
    put_at k p q (inl r) = ap (λ gs. get_or gs k []) a
        ∙ get_or-with_side_at-other j k before x f (λ same. absurd (omega (arith, r, same)))
        ∙ h.put k r q
    put_at k p q (inr r) =
        let same : j ≡ k = omega (arith, p, r) in
        subst (λ k. get_or after k [] ≡ with_side (get_or old k []) (s k).column (s k).carry) same
        here

pub no_rows : (ts : List DataType) (n : ℕ) (gs : List (List Side)) → n ≡ length ts
    → gs ≡ replicate n [] → AreRowParts ts [] gs
no_rows ts n gs e g =
    subst (AreRowParts ts []) (sym (g ∙ ap (λ n. replicate n []) e)) (record {
      groups = AreGroups-none ts;
      long = none_long (length ts);
      items = λ i l. absurd (omega (arith, l));
    })
  where
    none_long : (n : ℕ) → AreEachLong 0 (replicate n [])
    none_long zero = tt
    none_long (suc n) = (refl, none_long n)

pub rows_next : (ts : List DataType) (ss : List Side) (i : ℕ) (s : Side) (new : List (List Side))
    → slice_get ss i ≡ Some s → AreRowParts ts (take i ss ++ s ∷ []) new
    → AreRowParts ts (take (i + 1) ss) new
rows_next ts ss i s new e h = subst (λ us. AreRowParts ts us new) (sym (take-get ss i s e)) h
