-- The rows below a level, from the rows that the operands' shares make.
use Rattle.std.proofs.Common.{◌≡◌, ℕ, zero, suc, ◌+◌, ◌<◌, Bool, false, not, refl, ap}
use Rattle.std.proofs.Common.{arith, sym, subst, ◌∙◌}
use Rattle.std.specs.Prelude.{List, [], ◌∷◌, ◌++◌, map, length, get_or, pos}
use Rattle.std.specs.List.{list_any, flat_map, range_with_len}
use Rattle.std.proofs.lemmas.Simd.{map-map}
use Rattle.std.proofs.lemmas.List.{length-map}
use Rattle.awk_base.proofs.Ranges.{map-in, flat-in}
use Rattle.awk_types.specs.ItemLimit.{item_limit}
use Rattle.awk_types.specs.Parts.{item_of}
use Rattle.awk_types.specs.Value.{null}
use Rattle.awk_lanes.specs.Column.{Column}
use Rattle.awk_lanes.specs.Counted.{before}
use Rattle.awk_lanes.specs.Places.{place_at}
use Rattle.awk_lanes.specs.declared.kind.Kind.TheVariants.{I64}
use Rattle.awk_lanes.proofs.CountedLanes.{before-same}
use Rattle.awk_layout.specs.Layout.{Layout}
use Rattle.awk_layout.specs.Typing.{array_type}
use Rattle.awk_layout.proofs.Runs.{length-run, get-run}
use Rattle.awk_gather.specs.Arrays.{array_item}
use Rattle.awk_open.specs.Opened.{AreLong}
use Rattle.awk_columns.specs.Columns.{list_items}
use Rattle.awk_columns.specs.ListClass.{Class}
use Rattle.awk_columns.specs.Lists.{length_of}
use Rattle.awk_pair_sides.specs.Levels.{Role, listed, role, roles_by, role_class, unless}
use Rattle.awk_pair_sides.specs.Levels.{roles, stretches, stretched, repeated, some_option}
use Rattle.awk_pair_sides.specs.Levels.{item_types, common_class}
use Rattle.awk_pair_sides.specs.Rows.{row_at, rows_at, lengths_offsets}
use Rattle.awk_pair_levels.specs.Inner.{AreInner, IsBelow}
use Rattle.awk_pair_levels.specs.Shares.{share_lengths, lengths_at, length_at}
use Rattle.awk_pair_levels.specs.Shares.{share_class, share_at, any_differ, IsShare, AreShares}
use Rattle.awk_pair_levels.specs.Shares.{IsEven, AreEven, IsNext, AreNext, AreSharedRows, IsAsLong}
use Rattle.awk_pair_levels.specs.Shares.{AreAsLong, is_lists, IsShared, share_column, share_row}
use Rattle.awk_pair_levels.specs.Shares.{share_rows, share_types}
use Rattle.awk_pair_levels.proofs.EvenLaws.{even_of_none}
use Rattle.awk_pair_levels.specs.declared.below.Below.{Below}
use Rattle.awk_pair_levels.specs.declared.below.Below.TheVariants as below
use Rattle.awk_pair_sides.specs.Sides.{side, sides, side_at, side_lengths, all_same}
use Rattle.awk_pair_sides.specs.Sides.{first_or_zero, differ, inner_rows, inner_length}
use Rattle.awk_pair_levels.specs.declared.shares.Share.{Share}
use Rattle.awk_pair_levels.specs.declared.shares.Share.TheVariants.{Lists, Items}
use Rattle.awk_pair_sides.proofs.LevelTypes.{presents-bare, roles-bare, is_listed}
use Rattle.awk_pair_sides.proofs.RangeLaws.{length-range, any-in, flat-map, length-flat, pieces}
use Rattle.awk_pair_sides.proofs.TestLaws.{any-map}

-- ---- one operand

share-lengths : (n i : ℕ) (r : Role) (x : Layout) (p : Share) → i < n → IsShare n r x p
    → side_lengths (side r (array_item x i)) ≡ share_lengths i p
share-lengths n i r x (Lists l) h e =
    ap (λ q. side_lengths (side q (array_item x i))) e.0
    ∙ ap (λ v. length (list_items v) ∷ []) (e.1.items i h)
    ∙ ap (λ k. k ∷ []) (length-run (array_item l.content) (place_at l.starts i) (length_of l i))
share-lengths n i r x (Items y) h e = ap side_lengths (e.items i h)

share-side : (m : ℕ → ℕ) (n i k : ℕ) (r : Role) (x : Layout) (p : Share) → i < n → k < m i
    → IsEven m n p → IsShare n r x p → share_at p i k ≡ side_at k (side r (array_item x i))
share-side m n i k r x (Lists l) h q v e =
    sym (ap (λ w. side_at k (side w (array_item x i))) e.0
    ∙ ap (λ w. get_or (list_items w) k null) (e.1.items i h)
    ∙ get-run (array_item l.content) (place_at l.starts i) (length_of l i) k
    (omega (arith, v i h)))
share-side m n i k r x (Items y) h q v e = sym (ap (side_at k) (e.items i h))

class-of : (n : ℕ) (r : Role) (x : Layout) (p : Share) → IsShare n r x p
    → share_class p ≡ role_class r
class-of n r x (Lists l) e = sym (ap role_class e.0)
class-of n r x (Items y) e = sym e.class

type-of : (n : ℕ) (r : Role) (x : Layout) (p : Share) (m : ℕ → ℕ) (z : Layout) → IsShare n r x p
    → IsNext m n p z → array_type z ≡ item_of (array_type x)
type-of n r x (Lists l) m z e h = h.typ ∙ e.1.typ
type-of n r x (Items y) m z e h = h.typ ∙ e.typ

long-of : (n : ℕ) (r : Role) (x : Layout) (p : Share) → IsShare n r x p → IsAsLong n p
long-of n r x (Lists l) e = e.1.size
long-of n r x (Items y) e = e.size

lists-of : (n : ℕ) (r : Role) (x : Layout) (p : Share) → IsShare n r x p
    → is_lists p ≡ is_listed r
lists-of n r x (Lists l) e = sym (ap is_listed e.0)
lists-of n r x (Items y) e = sym (none r e.class)
  where
    none : (q : Role) → role_class q ≡ [] → is_listed q ≡ false
    none (listed c) f = cc
    none stretched f = refl
    none repeated f = refl

-- ---- all operands

pub shares_lengths : (n i : ℕ) (keep s : Bool) (xs : List Layout) (ps : List Share) → i < n
    → AreShares n keep s xs ps
    → flat_map side_lengths (sides (roles_by keep s (map array_type xs)) (row_at xs i))
    ≡ lengths_at ps i
shares_lengths n i keep s [] [] h e = refl
shares_lengths n i keep s (x ∷ xs) (p ∷ ps) h e =
    ap (λ ns. ns
    ++ flat_map side_lengths (sides (roles_by false s (map array_type xs)) (row_at xs i)))
    (share-lengths n i (role (unless keep s) (array_type x)) x p h e.0)
    ∙ ap (λ ns. share_lengths i p ++ ns) (shares_lengths n i false s xs ps h e.1)
shares_lengths n i keep s [] (p ∷ ps) h e = absurd e
shares_lengths n i keep s (x ∷ xs) [] h e = absurd e

sides_at : (m : ℕ → ℕ) (n i k : ℕ) (keep s : Bool) (xs : List Layout) (ps : List Share)
    (zs : List Layout) → i < n → k < m i → AreShares n keep s xs ps → AreEven m n ps
    → AreNext m n ps zs
    → map (side_at k) (sides (roles_by keep s (map array_type xs)) (row_at xs i))
    ≡ row_at zs (before m i + k)
sides_at m n i k keep s [] [] [] h l e v g = refl
sides_at m n i k keep s (x ∷ xs) (p ∷ ps) (z ∷ zs) h l e v g =
    ap (λ w. w ∷ map (side_at k) (sides (roles_by false s (map array_type xs)) (row_at xs i)))
    (sym (g.0.items i k h l
    ∙ share-side m n i k (role (unless keep s) (array_type x)) x p h l v.0 e.0))
    ∙ ap (λ ws. array_item z (before m i + k) ∷ ws)
    (sides_at m n i k false s xs ps zs h l e.1 v.1 g.1)
sides_at m n i k keep s [] [] (z ∷ zs) h l e v g = absurd g
sides_at m n i k keep s [] (p ∷ ps) zs h l e v g = absurd e
sides_at m n i k keep s (x ∷ xs) [] zs h l e v g = absurd e
sides_at m n i k keep s (x ∷ xs) (p ∷ ps) [] h l e v g = absurd g

sides_row : (m : ℕ → ℕ) (n i k : ℕ) (keep s : Bool) (xs : List Layout) (ps : List Share) → i < n
    → k < m i → AreShares n keep s xs ps → AreEven m n ps
    → map (side_at k) (sides (roles_by keep s (map array_type xs)) (row_at xs i))
    ≡ share_row ps i k
sides_row m n i k keep s [] [] h l e v = refl
sides_row m n i k keep s (x ∷ xs) (p ∷ ps) h l e v =
    ap (λ w. w ∷ map (side_at k) (sides (roles_by false s (map array_type xs)) (row_at xs i)))
    (sym (share-side m n i k (role (unless keep s) (array_type x)) x p h l v.0 e.0))
    ∙ ap (λ ws. share_at p i k ∷ ws)
    (sides_row m n i k false s xs ps h l e.1 v.1)
sides_row m n i k keep s [] (p ∷ ps) h l e v = absurd e
sides_row m n i k keep s (x ∷ xs) [] h l e v = absurd e

share-type : (n : ℕ) (r : Role) (x : Layout) (p : Share) → IsShare n r x p
    → array_type (share_column p) ≡ item_of (array_type x)
share-type n r x (Lists l) e = e.1.typ
share-type n r x (Items y) e = e.typ

share-types : (n : ℕ) (keep s : Bool) (xs : List Layout) (ps : List Share)
    → AreShares n keep s xs ps → share_types ps ≡ map item_of (map array_type xs)
share-types n keep s [] [] e = refl
share-types n keep s (x ∷ xs) (p ∷ ps) e =
    ap (λ t. t ∷ share_types ps) (share-type n (role (unless keep s) (array_type x)) x p e.0)
    ∙ ap (λ ts. item_of (array_type x) ∷ ts) (share-types n false s xs ps e.1)
share-types n keep s [] (p ∷ ps) e = absurd e
share-types n keep s (x ∷ xs) [] e = absurd e

classes-of : (n : ℕ) (keep s : Bool) (xs : List Layout) (ps : List Share)
    → AreShares n keep s xs ps
    → flat_map share_class ps ≡ flat_map role_class (roles_by keep s (map array_type xs))
classes-of n keep s [] [] e = refl
classes-of n keep s (x ∷ xs) (p ∷ ps) e =
    ap (λ cs. cs ++ flat_map share_class ps)
    (class-of n (role (unless keep s) (array_type x)) x p e.0)
    ∙ ap (λ cs. role_class (role (unless keep s) (array_type x)) ++ cs)
    (classes-of n false s xs ps e.1)
classes-of n keep s [] (p ∷ ps) e = absurd e
classes-of n keep s (x ∷ xs) [] e = absurd e

types-of : (m : ℕ → ℕ) (n : ℕ) (keep s : Bool) (xs : List Layout) (ps : List Share)
    (zs : List Layout) → AreShares n keep s xs ps → AreNext m n ps zs
    → map array_type zs ≡ map item_of (map array_type xs)
types-of m n keep s [] [] [] e g = refl
types-of m n keep s (x ∷ xs) (p ∷ ps) (z ∷ zs) e g =
    ap (λ t. t ∷ map array_type zs)
    (type-of n (role (unless keep s) (array_type x)) x p m z e.0 g.0)
    ∙ ap (λ ts. item_of (array_type x) ∷ ts) (types-of m n false s xs ps zs e.1 g.1)
types-of m n keep s [] [] (z ∷ zs) e g = absurd g
types-of m n keep s [] (p ∷ ps) zs e g = absurd e
types-of m n keep s (x ∷ xs) [] zs e g = absurd e
types-of m n keep s (x ∷ xs) (p ∷ ps) [] e g = absurd g

next-long : (m : ℕ → ℕ) (n : ℕ) (ps : List Share) (zs : List Layout) → AreNext m n ps zs
    → AreLong (before m n) zs
next-long m n [] [] g = tt
next-long m n (p ∷ ps) (z ∷ zs) g = (g.0.size, next-long m n ps zs g.1)
next-long m n [] (z ∷ zs) g = absurd g
next-long m n (p ∷ ps) [] g = absurd g

pub shares_long : (n : ℕ) (keep s : Bool) (xs : List Layout) (ps : List Share)
    → AreShares n keep s xs ps → AreAsLong n ps
shares_long n keep s [] [] e = tt
shares_long n keep s (x ∷ xs) (p ∷ ps) e =
    (long-of n (role (unless keep s) (array_type x)) x p e.0, shares_long n false s xs ps e.1)
shares_long n keep s [] (p ∷ ps) e = absurd e
shares_long n keep s (x ∷ xs) [] e = absurd e

pub shares_lists : (n : ℕ) (keep s : Bool) (xs : List Layout) (ps : List Share)
    → AreShares n keep s xs ps
    → list_any is_lists ps ≡ list_any is_listed (roles_by keep s (map array_type xs))
shares_lists n keep s [] [] e = refl
shares_lists n keep s (x ∷ xs) (p ∷ ps) e =
    rw (
      lists-of n (role (unless keep s) (array_type x)) x p e.0,
      shares_lists n false s xs ps e.1,
    ) refl
shares_lists n keep s [] (p ∷ ps) e = absurd e
shares_lists n keep s (x ∷ xs) [] e = absurd e

-- ---- offsets

offsets-from : (m : ℕ → ℕ) (a k : ℕ) → lengths_offsets (before m a) (map m (range_with_len a k))
    ≡ map (λ i. pos (before m i)) (range_with_len a (k + 1))
offsets-from m a zero = refl
offsets-from m a (suc k) =
    let e : suc k + 1 ≡ suc (k + 1) = omega arith in
    let f : a + 1 ≡ suc a = omega arith in
    ap (λ zs. pos (before m a) ∷ zs)
    (ap (λ b. lengths_offsets b (map m (range_with_len (a + 1) k))) (sym (ap (before m) f))
    ∙ offsets-from m (a + 1) k)
    ∙ ap (λ b. map (λ i. pos (before m i)) (range_with_len a b)) (sym e)

offsets-before : (m : ℕ → ℕ) (n : ℕ) → lengths_offsets 0 (map m (range_with_len 0 n))
    ≡ map (λ i. pos (before m i)) (range_with_len 0 (n + 1))
offsets-before m n = offsets-from m 0 n

-- ---- of arrays without nulls

module _ (keep : Bool) (n : ℕ) (xs : List Layout) (ps : List Share) where
  abbrev Given : Type 0
  Given = (some_option (map array_type xs) ≡ false)
      × AreShares n keep (stretches (map array_type xs)) xs ps

  lengths-are : Given → (i : ℕ) → i < n
      → flat_map side_lengths (sides (roles keep (map array_type xs)) (row_at xs i))
      ≡ lengths_at ps i
  lengths-are g i h =
      ap (λ rs. flat_map side_lengths (sides rs (row_at xs i)))
      (roles-bare keep (map array_type xs) g.0)
      ∙ shares_lengths n i keep (stretches (map array_type xs)) xs ps h g.1

  length-is : Given → (i : ℕ) → i < n
      → inner_length keep (map array_type xs) (row_at xs i) ≡ length_at ps i
  length-is g i h = ap first_or_zero (lengths-are g i h)

  pub differ_is : Given
      → list_any (differ keep (map array_type xs)) (rows_at xs n) ≡ any_differ ps n
  differ_is g =
      sym (any-map (differ keep (map array_type xs)) (row_at xs) (range_with_len 0 n))
      ∙ any-in (λ i. differ keep (map array_type xs) (row_at xs i))
      (λ i. not (all_same (lengths_at ps i))) 0 n
      (λ i h. ap (λ ns. not (all_same ns)) (lengths-are g i (omega arith)))

  lengths_below : Given → map (inner_length keep (map array_type xs)) (rows_at xs n)
      ≡ map (length_at ps) (range_with_len 0 n)
  lengths_below g =
      map-map (inner_length keep (map array_type xs)) (row_at xs) (range_with_len 0 n)
      ∙ map-in (λ i. inner_length keep (map array_type xs) (row_at xs i)) (length_at ps) 0 n
      (λ i h. length-is g i (omega arith))

  rows-length : (i : ℕ) → length (inner_rows keep (map array_type xs) (row_at xs i))
      ≡ inner_length keep (map array_type xs) (row_at xs i)
  rows-length i =
      length-map (range_with_len 0 (inner_length keep (map array_type xs) (row_at xs i)))
      (λ k. map (side_at k) (sides (roles keep (map array_type xs)) (row_at xs i)))
      ∙ length-range 0 (inner_length keep (map array_type xs) (row_at xs i))

  -- how many rows there are below
  pub count_below : Given
      → length (flat_map (inner_rows keep (map array_type xs)) (rows_at xs n))
      ≡ before (length_at ps) n
  count_below g =
      ap length (flat-map (inner_rows keep (map array_type xs)) (row_at xs) (range_with_len 0 n))
      ∙ length-flat (λ i. inner_rows keep (map array_type xs) (row_at xs i)) n
      ∙ before-same (λ i. length (inner_rows keep (map array_type xs) (row_at xs i)))
      (length_at ps) n (λ i h. rows-length i ∙ length-is g i h)

  row-below : (zs : List Layout) → Given → AreEven (length_at ps) n ps
      → AreNext (length_at ps) n ps zs → (i : ℕ) → i < n
      → map (λ k. row_at zs (before (length_at ps) i + k)) (range_with_len 0 (length_at ps i))
      ≡ inner_rows keep (map array_type xs) (row_at xs i)
  row-below zs g v a i h =
      map-in (λ k. row_at zs (before (length_at ps) i + k))
      (λ k. map (side_at k) (sides (roles keep (map array_type xs)) (row_at xs i))) 0
      (length_at ps i)
      (λ k l. sym (ap (λ rs. map (side_at k) (sides rs (row_at xs i)))
      (roles-bare keep (map array_type xs) g.0)
      ∙ sides_at (length_at ps) n i k keep (stretches (map array_type xs)) xs ps zs h
      (omega arith) g.1 v a))
      ∙ ap (λ c. map (λ k. map (side_at k) (sides (roles keep (map array_type xs)) (row_at xs i)))
      (range_with_len 0 c)) (sym (length-is g i h))

  rows_are : (zs : List Layout) → Given → AreEven (length_at ps) n ps
      → AreNext (length_at ps) n ps zs → rows_at zs (before (length_at ps) n)
      ≡ flat_map (inner_rows keep (map array_type xs)) (rows_at xs n)
  rows_are zs g v a =
      pieces (row_at zs) (length_at ps) n
      ∙ flat-in (λ i. map (λ k. row_at zs (before (length_at ps) i + k))
      (range_with_len 0 (length_at ps i)))
      (λ i. inner_rows keep (map array_type xs) (row_at xs i)) 0 n
      (λ i l. row-below zs g v a i (omega arith))
      ∙ sym (flat-map (inner_rows keep (map array_type xs)) (row_at xs) (range_with_len 0 n))

  -- the rows below are those of the shares
  pub inner_are : (c : Class) (o : Column) (m : ℕ) (zs : List Layout) → Given
      → AreSharedRows n ps c o m zs → AreInner keep n xs c o m zs
  inner_are c o m zs g h = record {
    even = differ_is g ∙ h.even;
    few = h.few;
    class = h.class ∙ ap common_class (classes-of n keep (stretches (map array_type xs)) xs ps g.1
        ∙ ap (flat_map role_class) (sym (roles-bare keep (map array_type xs) g.0)));
    offsets = h.offsets ∙ ap (λ zs. record { kind = I64; items = zs })
        (sym (ap (lengths_offsets 0) (lengths_below g) ∙ offsets-before (length_at ps) n));
    types = types-of (length_at ps) n keep (stretches (map array_type xs)) xs ps zs g.1 h.next
        ∙ ap (map item_of) (sym (presents-bare (map array_type xs) g.0));
    long = subst (λ d. AreLong d zs) (sym h.count) (next-long (length_at ps) n ps zs h.next);
    rows = ap (rows_at zs) h.count ∙ rows_are zs g h.alike h.next;
  }

  pub below_is : (b : Below) → Given → IsShared n ps b → IsBelow keep n xs b
  below_is below.Unequal g h = differ_is g ∙ h
  below_is below.TooMany g h =
      (differ_is g ∙ h.0, subst (λ k. item_limit < k) (sym (count_below g)) h.1)
  below_is (below.Rows c o m zs) g h = inner_are c o m zs g h

  -- ---- the rows below, by themselves

  row-alone : Given → AreEven (length_at ps) n ps → (i : ℕ) → i < n
      → share_rows ps i ≡ inner_rows keep (map array_type xs) (row_at xs i)
  row-alone g v i h =
      map-in (share_row ps i)
      (λ k. map (side_at k) (sides (roles keep (map array_type xs)) (row_at xs i))) 0
      (length_at ps i)
      (λ k l. sym (ap (λ rs. map (side_at k) (sides rs (row_at xs i)))
      (roles-bare keep (map array_type xs) g.0)
      ∙ sides_row (length_at ps) n i k keep (stretches (map array_type xs)) xs ps h (omega arith)
      g.1 v))
      ∙ ap (λ c. map (λ k. map (side_at k) (sides (roles keep (map array_type xs)) (row_at xs i)))
      (range_with_len 0 c)) (sym (length-is g i h))

  pub rows_alone : Given → AreEven (length_at ps) n ps
      → flat_map (share_rows ps) (range_with_len 0 n)
      ≡ flat_map (inner_rows keep (map array_type xs)) (rows_at xs n)
  rows_alone g v =
      flat-in (share_rows ps) (λ i. inner_rows keep (map array_type xs) (row_at xs i)) 0 n
      (λ i l. row-alone g v i (omega arith))
      ∙ sym (flat-map (inner_rows keep (map array_type xs)) (row_at xs) (range_with_len 0 n))

  pub types_alone : Given → share_types ps ≡ item_types (map array_type xs)
  types_alone g =
      share-types n keep (stretches (map array_type xs)) xs ps g.1
      ∙ ap (map item_of) (sym (presents-bare (map array_type xs) g.0))

  pub even_shares : Given → list_any (differ keep (map array_type xs)) (rows_at xs n) ≡ false
      → AreEven (length_at ps) n ps
  even_shares g e = even_of_none n ps (sym (differ_is g) ∙ e)
