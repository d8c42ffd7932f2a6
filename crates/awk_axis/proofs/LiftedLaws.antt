-- What is lifted for each outermost kind of an array, from what is lifted for its contents.
use Rattle.std.specs.Prelude.{◌≡◌, ℕ, zero, suc, ◌+◌, ◌<◌, ◌≤◌, nat_lt, true, false, List, [], ◌∷◌}
use Rattle.std.specs.Prelude.{◌++◌, map, take, drop, length, slice_get, Option, Some, None}
use Rattle.std.specs.Prelude.{if◌then◌else◌}
use Rattle.std.proofs.Common.{arith, ap, sym, ◌∙◌, add-one}
use Rattle.std.specs.List.{range_with_len, flat_map}
use Rattle.awk_base.proofs.Truths.{nat_lt-none}
use Rattle.awk_base.proofs.Lists.{drop_suc-get, take_suc-get}
use Rattle.awk_types.specs.DataType.{Name, DataType, types_from, depth, depths, greatest}
use Rattle.awk_types.specs.Value.{Value}
use Rattle.awk_types.specs.Simple.{simple, simple_value}
use Rattle.awk_types.specs.ItemLimit.{item_limit}
use Rattle.awk_lanes.specs.Column.{Column}
use Rattle.awk_lanes.specs.Places.{size_of}
use Rattle.awk_layout.specs.Layout.{Layout, layouts_from, rows, optional, union}
use Rattle.awk_layout.specs.Layout.{lists as spanned}
use Rattle.awk_layout.specs.Valid.{len, IsValid}
use Rattle.awk_list_functions.proofs.CauseLaws.{sooner-both, first_spoil-assoc, first_spoil-none}
use Rattle.awk_list_functions.proofs.IndexLaws.{spoil_at-never, first_spoil-size}
use Rattle.awk_layout.specs.Typing.{array_type, array_items}
use Rattle.awk_list_functions.specs.declared.causes.Spoil.{Spoil}
use Rattle.awk_list_functions.specs.declared.causes.Spoil.TheVariants.{Size}
use Rattle.awk_list_functions.specs.declared.place.Reach.{Reach}
use Rattle.awk_list_functions.specs.Reach.{here, inner}
use Rattle.awk_list_functions.specs.Causes.{first_spoil}
use Rattle.awk_columns.specs.ListClass.{Class, list_type}
use Rattle.awk_list_functions.specs.ListFunction.{Giving, lists, singles, ListFunction, NeverIndex}
use Rattle.awk_list_functions.specs.ListFunction.{given_type, given_value, given_class}
use Rattle.awk_list_functions.specs.Lift.{lifted_type, lifted_value, on_list, refusal_at}
use Rattle.awk_list_functions.specs.Lift.{refusal_among}
use Rattle.awk_list_functions.specs.Spoils.{spoil_at, too_many}
use Rattle.awk_axis.specs.Taken.{told}
use Rattle.awk_columns.specs.Lists.{items_at, all_items_at}
use Rattle.awk_open.specs.Opens.{OpensLists, OpensOption, OpensRow, OpensUnion}
use Rattle.awk_gather.specs.Arrays.{array_item}
use Rattle.awk_columns.specs.Joined.{AreOffsets, JoinsLists, total}
use Rattle.awk_axis.specs.declared.lift.Mapped.{Mapped}
use Rattle.awk_axis.specs.declared.lift.Mapped.TheVariants as mapped
use Rattle.awk_list_functions.specs.Made.{GivesLists, GivesSpans, IsColumn, IsMapped}
use Rattle.awk_axis.specs.Mapped.{IsAtAxis, IsLifted}
use Rattle.awk_list_functions.specs.Made.{IsSized, IsSizedWithin, even_offsets}
use Rattle.awk_axis.specs.Mapped.{AreMapped, spoil_of_all}
use Rattle.awk_columns.specs.ListNode.{AreEven, list_layout}
use Rattle.awk_counts.specs.Counted.{spans}
use Rattle.awk_columns.specs.Reached.{IsReached}
use Rattle.awk_open.proofs.OpenedLists.{lists-inner, lists-among}
use Rattle.awk_columns.proofs.JoinLaws.{reached-items}
use Rattle.awk_axis.proofs.LiftLaws.{spanned_column}
use Rattle.awk_axis.proofs.LiftLaws.{given_column, lifted_null, option_column, lists_column}
use Rattle.awk_axis.proofs.LiftLaws.{row_column, union_column, spoil-list, spoil-list_here}
use Rattle.awk_axis.proofs.LiftLaws.{type-list, type-list_here, value-list, value-list_here}
use Rattle.awk_axis.proofs.LiftLaws.{type-row, value-row, spoil-row, spoil_parts}
use Rattle.awk_axis.proofs.LiftLaws.{spoil_alternatives}

-- the same column under another name of its type and of its values
pub column_as : (t u : DataType) (v w : ℕ → Value) (n : ℕ) (y : Layout) → t ≡ u
    → ((i : ℕ) → i < n → v i ≡ w i) → IsColumn t v n y → IsColumn u w n y
column_as t u v w n y e q m = record {
  valid = m.valid;
  size = m.size;
  typ = m.typ ∙ ap simple e;
  items = λ i p. m.items i p ∙ ap (λ s. simple_value s (v i)) e ∙ ap (simple_value u) (q i p);
}

pub over : (a b : ℕ) → a < b → nat_lt a b ≡ true
over a b p = grind arith

-- ---- options

pub option_lifted : (f : ListFunction) (k : Reach) (j : Column) (c x y : Layout) → OpensOption j c x
    → IsLifted f k c (mapped.Column y) → IsLifted f k x (mapped.Column (optional j y))
option_lifted f k j c x y o h = (
  ap (λ t. spoil_at f k t (array_items x)) o.typ ∙ ap (spoil_at f k (array_type c)) (sym o.column)
      ∙ h.0,
  column_as _ _ _ _ _ _ (ap (lifted_type f.giving k) (sym o.typ))
      (λ i p. ap (λ t. lifted_value f.giving k t (array_item x i)) (sym o.typ))
      (option_column (lifted_type f.giving k (array_type c))
      (lifted_value f.giving k (array_type c)) j c x y (lifted_null f.giving k (array_type c)) o
      h.1),
)

pub option_spoiled : (f : ListFunction) (k : Reach) (j : Column) (c x : Layout) (why : Spoil)
    → OpensOption j c x → IsLifted f k c (mapped.Spoiled why) → IsLifted f k x (mapped.Spoiled why)
option_spoiled f k j c x why o h = ap (λ t. spoil_at f k t (array_items x)) o.typ
    ∙ ap (spoil_at f k (array_type c)) (sym o.column) ∙ h

-- ---- lists

here_spoil : (f : ListFunction) (k : Reach) (class : Class) (s t : Column) (c x : Layout)
    → here k (array_type c) ≡ true → OpensLists class s t c x
    → spoil_at f k (array_type x) (array_items x) ≡ f.spoil (array_type c) (all_items_at s t c)
here_spoil f k class s t c x e o =
    ap (λ u. spoil_at f k u (array_items x)) o.typ
    ∙ spoil-list_here f k class (array_type c) (array_items x) e
    ∙ ap (f.spoil (array_type c)) (lists-among class s t c x o
    ∙ ap (λ n. map (items_at s t c) (range_with_len 0 n)) (sym o.size))

pub lists_here : (f : ListFunction) (k : Reach) (class : Class) (s t : Column) (c x : Layout)
    (m : Mapped) → here k (array_type c) ≡ true → OpensLists class s t c x
    → IsAtAxis f class s t c m → IsLifted f k x m
lists_here f k class s t c x (mapped.Spoiled why) e o h = here_spoil f k class s t c x e o ∙ h
lists_here f k class s t c x (mapped.Column y) e o h = (
  here_spoil f k class s t c x e o ∙ h.0,
  column_as _ _ _ _ _ _ (sym (ap (lifted_type f.giving k) o.typ
      ∙ type-list_here f.giving k class (array_type c) e))
      (λ i p. sym (ap (λ u. lifted_value f.giving k u (array_item x i)) o.typ
      ∙ value-list_here f.giving k class (array_type c) (array_item x i) e
      ∙ ap (on_list (given_value f.giving (array_type c))) (o.items i p)))
      (rw (← o.size) h.1),
)

pub above_spoil : (f : ListFunction) (k : Reach) (class : Class) (s t : Column) (c x : Layout)
    → here k (array_type c) ≡ false → OpensLists class s t c x →
    spoil_at f k (array_type x) (array_items x)
    ≡ first_spoil (too_many (total s t c)) (spoil_at f (inner k) (array_type c)
    (flat_map (items_at s t c) (range_with_len 0 (size_of s))))
above_spoil f k class s t c x e o =
    ap (λ u. spoil_at f k u (array_items x)) o.typ
    ∙ spoil-list f k class (array_type c) (array_items x) e
    ∙ ap (λ vs. first_spoil (too_many (length vs)) (spoil_at f (inner k) (array_type c) vs))
    (lists-inner class s t c x o
    ∙ ap (λ n. flat_map (items_at s t c) (range_with_len 0 n)) (sym o.size))

-- where the lists have too many items together
many_spoil : (f : ListFunction) (k : Reach) (class : Class) (s t : Column) (c x : Layout)
    → here k (array_type c) ≡ false → OpensLists class s t c x → item_limit < total s t c
    → spoil_at f k (array_type x) (array_items x)
    ≡ first_spoil (Some Size) (spoil_at f (inner k) (array_type c)
    (flat_map (items_at s t c) (range_with_len 0 (size_of s))))
many_spoil f k class s t c x e o p =
    let q : nat_lt item_limit (total s t c) ≡ true = over item_limit (total s t c) p in
    above_spoil f k class s t c x e o
    ∙ ap (λ b. first_spoil (if b then Some Size else None) (spoil_at f (inner k) (array_type c)
    (flat_map (items_at s t c) (range_with_len 0 (size_of s))))) q

-- they are refused for their size where no place is told inside
pub lists_too_many : (f : ListFunction) (k : Reach) (class : Class) (s t : Column) (c x : Layout)
    → NeverIndex f → here k (array_type c) ≡ false → OpensLists class s t c x
    → item_limit < total s t c → IsLifted f k x (mapped.Spoiled Size)
lists_too_many f k class s t c x n e o p =
    many_spoil f k class s t c x e o p
    ∙ first_spoil-size _ (spoil_at-never f n (inner k) (array_type c) _)

told-is : (f : ListFunction) (k : Reach) (x : Layout) (m : Mapped) → IsLifted f k x m
    → spoil_at f k (array_type x) (array_items x) ≡ told m
told-is f k x (mapped.Spoiled why) h = h
told-is f k x (mapped.Column y) h = h.0

-- else for what is told inside, if that is told before a size
pub lists_many_told : (f : ListFunction) (k : Reach) (class : Class) (s t : Column) (c x z : Layout)
    (m : Mapped) (why : Spoil) → here k (array_type c) ≡ false → OpensLists class s t c x
    → item_limit < total s t c → IsReached c (spans s t) z → IsLifted f (inner k) z m
    → Some why ≡ first_spoil (Some Size) (told m) → IsLifted f k x (mapped.Spoiled why)
lists_many_told f k class s t c x z m why e o p r h w =
    many_spoil f k class s t c x e o p
    ∙ ap (λ vs. first_spoil (Some Size) (spoil_at f (inner k) (array_type c) vs))
    (sym (reached-items s t c z r))
    ∙ ap (λ u. first_spoil (Some Size) (spoil_at f (inner k) u (array_items z))) (sym r.typ)
    ∙ ap (first_spoil (Some Size)) (told-is f (inner k) z m h) ∙ sym w

within_spoil : (f : ListFunction) (k : Reach) (class : Class) (s t o : Column) (c z x : Layout)
    → here k (array_type c) ≡ false → OpensLists class s t c x → total s t c ≤ item_limit
    → JoinsLists s t c o z →
    spoil_at f k (array_type x) (array_items x) ≡ spoil_at f (inner k) (array_type z)
    (array_items z)
within_spoil f k class s t o c z x e opens p joins =
    let q : nat_lt item_limit (total s t c) ≡ false = nat_lt-none item_limit (total s t c) p in
    above_spoil f k class s t c x e opens
    ∙ ap (λ b. first_spoil (if b then Some Size else None) (spoil_at f (inner k) (array_type c)
    (flat_map (items_at s t c) (range_with_len 0 (size_of s))))) q
    ∙ first_spoil-none _
    ∙ ap (spoil_at f (inner k) (array_type c)) (sym joins.column)
    ∙ ap (λ u. spoil_at f (inner k) u (array_items z)) (sym joins.typ)

pub lists_spoiled : (f : ListFunction) (k : Reach) (class : Class) (s t o : Column) (c z x : Layout)
    (why : Spoil) → here k (array_type c) ≡ false → OpensLists class s t c x
    → total s t c ≤ item_limit → JoinsLists s t c o z → IsLifted f (inner k) z (mapped.Spoiled why)
    → IsLifted f k x (mapped.Spoiled why)
lists_spoiled f k class s t o c z x why e opens p joins h =
    within_spoil f k class s t o c z x e opens p joins ∙ h

pub lists_above : (f : ListFunction) (k : Reach) (class : Class) (s t o : Column) (c z x y : Layout)
    → here k (array_type c) ≡ false → OpensLists class s t c x → total s t c ≤ item_limit
    → JoinsLists s t c o z → IsLifted f (inner k) z (mapped.Column y)
    → IsLifted f k x (mapped.Column (list_layout class (size_of s) o y))
lists_above f k class s t o c z x y e opens p joins h =
    let ez : here k (array_type z) ≡ false = ap (here k) joins.typ ∙ e in
    let typ : array_type x ≡ list_type class (array_type z) = opens.typ
    ∙ ap (list_type class) (sym joins.typ) in (
      within_spoil f k class s t o c z x e opens p joins ∙ h.0,
      column_as _ _ _ _ _ _ (sym (ap (lifted_type f.giving k) typ
          ∙ type-list f.giving k class (array_type z) ez))
          (λ i p. sym (ap (λ u. lifted_value f.giving k u (array_item x i)) typ
          ∙ value-list f.giving k class (array_type z) (array_item x i) ez))
          (lists_column class (lifted_type f.giving (inner k) (array_type z))
          (lifted_value f.giving (inner k) (array_type z)) s t o c z x y opens joins h.1),
    )

-- ---- rows

row_spoil : (f : ListFunction) (k : Reach) (names : Option (List Name)) (xs : List Layout)
    (x : Layout) → OpensRow names xs x
    → spoil_at f k (array_type x) (array_items x) ≡ spoil_of_all f k xs
row_spoil f k names xs x o = ap (λ u. spoil_at f k u (array_items x)) o.typ
    ∙ spoil-row f k names (types_from (map array_type xs)) (array_items x)
    ∙ spoil_parts f k 0 (array_items x) xs o.columns

pub row_lifted : (f : ListFunction) (k : Reach) (names : Option (List Name)) (xs ys : List Layout)
    (x : Layout) → OpensRow names xs x → spoil_of_all f k xs ≡ None → AreMapped f k xs ys
    → IsLifted f k x (mapped.Column (rows names (len x) (layouts_from ys)))
row_lifted f k names xs ys x o n m = (
  row_spoil f k names xs x o ∙ n,
  column_as _ _ _ _ _ _ (sym (ap (lifted_type f.giving k) o.typ
      ∙ type-row f.giving k names (types_from (map array_type xs))))
      (λ i p. sym (ap (λ u. lifted_value f.giving k u (array_item x i)) o.typ
      ∙ value-row f.giving k names (types_from (map array_type xs)) (array_item x i)))
      (row_column f k names xs ys x o m),
)

pub row_spoiled : (f : ListFunction) (k : Reach) (names : Option (List Name)) (xs : List Layout)
    (x : Layout) (why : Spoil) → OpensRow names xs x → spoil_of_all f k xs ≡ Some why
    → IsLifted f k x (mapped.Spoiled why)
row_spoiled f k names xs x why o n = row_spoil f k names xs x o ∙ n

-- ---- unions

union_spoil : (f : ListFunction) (k : Reach) (t j : Column) (xs : List Layout) (x : Layout)
    → OpensUnion t j xs x → spoil_at f k (array_type x) (array_items x) ≡ spoil_of_all f k xs
union_spoil f k t j xs x o = ap (λ u. spoil_at f k u (array_items x)) o.typ
    ∙ spoil_alternatives f k 0 (array_items x) xs o.columns

pub union_lifted : (f : ListFunction) (k : Reach) (t j : Column) (xs ys : List Layout) (x : Layout)
    → OpensUnion t j xs x → spoil_of_all f k xs ≡ None → AreMapped f k xs ys
    → IsLifted f k x (mapped.Column (union t j (layouts_from ys)))
union_lifted f k t j xs ys x o n m = (
  union_spoil f k t j xs x o ∙ n,
  column_as _ _ _ _ _ _ (sym (ap (lifted_type f.giving k) o.typ))
      (λ i p. sym (ap (λ u. lifted_value f.giving k u (array_item x i)) o.typ))
      (union_column f k t j xs ys x o m),
)

pub union_spoiled : (f : ListFunction) (k : Reach) (t j : Column) (xs : List Layout) (x : Layout)
    (why : Spoil) → OpensUnion t j xs x → spoil_of_all f k xs ≡ Some why
    → IsLifted f k x (mapped.Spoiled why)
union_spoiled f k t j xs x why o n = union_spoil f k t j xs x o ∙ n

-- ---- one array after another

pub mapped_push : (f : ListFunction) (k : Reach) (xs ys : List Layout) (x y : Layout)
    → AreMapped f k xs ys → IsMapped (lifted_type f.giving k (array_type x))
    (lifted_value f.giving k (array_type x)) x y → AreMapped f k (xs ++ x ∷ []) (ys ++ y ∷ [])
mapped_push f k [] [] x y m h = (h, tt)
mapped_push f k [] (y' ∷ ys) x y m h = absurd m
mapped_push f k (x' ∷ xs) [] x y m h = absurd m
mapped_push f k (x' ∷ xs) (y' ∷ ys) x y m h = (m.0, mapped_push f k xs ys x y m.1 h)

pub depth-get : (xs : List Layout) (i : ℕ) (x : Layout) → slice_get xs i ≡ Some x
    → depth (array_type x) ≤ greatest (depths (types_from (map array_type xs)))
depth-get [] i x e = cc
depth-get (y ∷ xs) zero x e = let f : y ≡ x = cc in rw (← f) (omega arith)
depth-get (y ∷ xs) (suc i) x e = omega (arith, depth-get xs i x e)

-- ---- what a function makes of a column of lists, as one node

pub gives_offsets : (g : Giving) (c : Class) (s e o : Column) (y z : Layout)
    → GivesLists g c s e y o z → AreOffsets o (size_of s) (len z)
    × AreEven (given_class g c) o (size_of s)
gives_offsets (lists class typ items) c s e o y z h = (h.offsets, h.even)
gives_offsets (singles typ value) c s e o y z h = absurd h

even_within : (class : Class) (o : Column) (n : ℕ) (z : Layout) → IsSized class
    → AreOffsets o n (len z) → AreEven class o n → IsSizedWithin class n (len z)
even_within None o n z h a e = absurd h
even_within (Some size) o n z h a e = omega (arith, e n (omega arith), a.last)

-- lists of a sized class, without offsets
pub gives_even : (g : Giving) (c : Class) (s e : Column) (y z : Layout) → IsSized (given_class g c)
    → GivesLists g c s e y (even_offsets (given_class g c) (size_of s)) z
    → IsSizedWithin (given_class g c) (size_of s) (len z)
gives_even g c s e y z h k =
    let o : Column = even_offsets (given_class g c) (size_of s) in
    let a = gives_offsets g c s e o y z k in
    even_within (given_class g c) o (size_of s) z h a.0 a.1

pub gives_column : (g : Giving) (c : Class) (s e o : Column) (y z : Layout)
    → GivesLists g c s e y o z → IsColumn (given_type g c (array_type y))
    (λ i. given_value g (array_type y) (items_at s e y i)) (size_of s)
    (list_layout (given_class g c) (size_of s) o z)
gives_column (lists class typ items) c s e o y z h =
    given_column (class c) (typ (array_type y)) (items (array_type y)) s e o y z h
gives_column (singles typ value) c s e o y z h = absurd h

pub gives_spans : (g : Giving) (c : Class) (s e a b : Column) (y z : Layout)
    → GivesSpans g c s e y a b z → IsColumn (given_type g c (array_type y))
    (λ i. given_value g (array_type y) (items_at s e y i)) (size_of s) (spanned a b z)
gives_spans (lists class typ items) c s e a b y z h =
    spanned_column (class c) (typ (array_type y)) (items (array_type y)) s e a b y z h.0 h.1
gives_spans (singles typ value) c s e a b y z h = absurd h

pub spans_valid : (g : Giving) (c : Class) (s e a b : Column) (y z : Layout)
    → GivesSpans g c s e y a b z → IsValid (spanned a b z)
spans_valid (lists class typ items) c s e a b y z h = (h.1.fits, h.1.spans, h.1.valid)
spans_valid (singles typ value) c s e a b y z h = absurd h

-- ---- refusals and depths of contents

pub refusal-get : (f : ListFunction) (k : Reach) (xs : List Layout) (i : ℕ) (x : Layout)
    → slice_get xs i ≡ Some x → refusal_among f k (types_from (map array_type xs)) ≡ None
    → refusal_at f k (array_type x) ≡ None
refusal-get f k [] i x e h = cc
refusal-get f k (y ∷ xs) zero x e h = let q : y ≡ x = cc in
    rw (← q) (sooner-both (refusal_at f k (array_type y))
    (refusal_among f k (types_from (map array_type xs))) h).0
refusal-get f k (y ∷ xs) (suc i) x e h =
    refusal-get f k xs i x e (sooner-both (refusal_at f k (array_type y))
    (refusal_among f k (types_from (map array_type xs))) h).1

-- ---- going from left to right

-- one more array, whose spoil is told
pub spoil_next : (f : ListFunction) (k : Reach) (xs : List Layout) (i : ℕ) (x : Layout)
    (first s w : Option Spoil) → slice_get xs i ≡ Some x
    → s ≡ first_spoil first (spoil_at f k (array_type x) (array_items x))
    → first_spoil first (spoil_of_all f k (drop i xs)) ≡ w
    → first_spoil s (spoil_of_all f k (drop (i + 1) xs)) ≡ w
spoil_next f k xs i x first s w e q h =
    let d : drop i xs ≡ x ∷ drop (i + 1) xs = rw add-one (drop_suc-get xs i x e) in
    ap (λ z. first_spoil z (spoil_of_all f k (drop (i + 1) xs))) q
    ∙ first_spoil-assoc first (spoil_at f k (array_type x) (array_items x))
    (spoil_of_all f k (drop (i + 1) xs))
    ∙ ap (λ ys. first_spoil first (spoil_of_all f k ys)) (sym d) ∙ h

pub mapped_next : (f : ListFunction) (k : Reach) (xs ys more : List Layout) (i : ℕ) (x y : Layout)
    → slice_get xs i ≡ Some x → more ≡ ys ++ y ∷ [] → AreMapped f k (take i xs) ys
    → IsLifted f k x (mapped.Column y) → AreMapped f k (take (i + 1) xs) more
mapped_next f k xs ys more i x y e q m h =
    rw (add-one, take_suc-get xs i x e, q) (mapped_push f k (take i xs) ys x y m h.1)
