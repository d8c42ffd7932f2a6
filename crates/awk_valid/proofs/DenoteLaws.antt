-- Where the walk finds no break, the items of the layout are those that the form denotes, at each
-- place.
use Rattle.std.proofs.Common.{◌≡◌, ◌≢◌, ◌<◌, ◌≤◌, ℕ, zero, suc, ◌+◌, ◌-◌, ◌*◌, List, [], ◌∷◌}
use Rattle.std.proofs.Common.{get_or, map, None, Ok, refl, sym, ap, ap₂, ◌∙◌, arith, codes, ℤ, pos}
use Rattle.std.proofs.Common.{negsuc, ◌≤ℤ◌, Bool, false, cond}
use Rattle.std.specs.List.{range_with_len}
use Rattle.std.specs.Option.{option_map}
use Rattle.std.proofs.Math.Nat.{mul_assoc, mul-le-mul}
use Rattle.std.proofs.lemmas.Int.{ints}
use Rattle.awk_types.specs.Value.{Value, int, truth, null, list, row, alt, value}
use Rattle.awk_types.specs.Datum.{arr}
use Rattle.awk_types.proofs.RefusalLaws.{refused_or-Ok, refused_or-None, or-both}
use Rattle.awk_types.specs.Limit.{limit}
use Rattle.awk_types.specs.Simple.{simple, simple_value}
use Rattle.awk_types.specs.declared.primitive.Primitive.{Primitive}
use Rattle.awk_types.specs.declared.primitive.Primitive.TheVariants as primitive
use Rattle.awk_lanes.specs.declared.kind.Kind.TheVariants as kind
use Rattle.awk_bits.specs.Bits.{bit, bits}
use Rattle.awk_lanes.specs.Numbers.{is_nonzero, nat_of, element as read_as}
use Rattle.awk_lanes.specs.Places.{at, option_place, IsSpan}
use Rattle.awk_bits.proofs.BitParts.{get_or-bits, length-bits}
use Rattle.awk_layout.specs.Layout.{Layout}
use Rattle.awk_layout.specs.Item as layout_item
use Rattle.awk_layout.specs.Item.{leaf_value, at_option, agrees}
use Rattle.awk_layout.specs.Typing.{array_type, array_items}
use Rattle.awk_layout.specs.Valid.{len}
use Rattle.awk_form.specs.FormTree.{FormTree, empty, numpy, regular, list as list_array}
use Rattle.awk_form.specs.FormTree.{list_offset, row as row_array, indexed, indexed_option}
use Rattle.awk_form.specs.FormTree.{byte_masked, bit_masked, unmasked, union, FormTrees, no_forms}
use Rattle.awk_form.specs.FormTree.{form}
use Rattle.awk_form.specs.FormType.{type_of}
use Rattle.awk_form.specs.Lawful.{count}
use Rattle.awk_layout.specs.Kinds.{kind_of}
use Rattle.awk_layout.proofs.Runs.{run-same}
use Rattle.awk_valid.specs.Container.{Container, bytes_at, column_at, index_num, int8_num}
use Rattle.awk_valid.specs.Needs.{product, reach, behind, behind_at, content_length}
use Rattle.awk_valid.specs.Loaded.{shaped, layout_of, layouts_of}
use Rattle.awk_valid.specs.Denote.{element, between, shaped_item, item, items_across, item_of}
use Rattle.awk_valid.specs.Denote.{denote, denoting}
use Rattle.awk_valid.specs.Broken.{list_rule, index_rule, tag_rule, broken_from, all_broken_from}
use Rattle.awk_valid.specs.Broken.{broken}
use Rattle.awk_valid.specs.Loading.{limited, refusal, loading}
use Rattle.awk_valid.proofs.Places.{rule_break-none, greatest_below-at, list_rule-none}
use Rattle.awk_valid.proofs.Places.{index_rule-none, tag_rule-none, behind_at-own}
use Rattle.awk_valid.proofs.ShapeLaws.{content-len}
use Rattle.awk_valid.proofs.TypeLaws.{layout_type-layout_of}
use Rattle.awk_valid.proofs.ValidLaws.{size_of-index_at, size_of-int8s_at, own, walked, no-items}
use Rattle.awk_valid.proofs.ByteLaws.{index-num, int8-num}
use Rattle.awk_valid.proofs.OrderLaws.{length-numbers_by, get_or-numbers_by}

-- ---- numbers by place

mask-bit : (o : Bool) (b : List ℕ) (n i : ℕ) → i < n → get_or (bits o b 0 n) i false ≡ bit o b i
mask-bit o b n i h = let e : 0 + i ≡ i = omega arith in rw e at (get_or-bits o b 0 n i h)

truth-read : (z : ℤ) → is_nonzero (read_as kind.Bool z) ≡ is_nonzero z
truth-read (pos zero) = refl
truth-read (pos (suc n)) = refl
truth-read (negsuc n) = refl

leaf-element : (big : Bool) (p : Primitive) (b : List ℕ) (n i : ℕ) → i < n
    → leaf_value (kind_of p) (at (column_at big (kind_of p) n b) i) ≡ element big p b i
leaf-element big primitive.Bool b n i h =
    ap truth (truth-read _ ∙ ap is_nonzero (get_or-numbers_by big kind.Bool n b i h))
leaf-element big primitive.I8 b n i h = ap int (get_or-numbers_by big kind.I8 n b i h)
leaf-element big primitive.I16 b n i h = ap int (get_or-numbers_by big kind.I16 n b i h)
leaf-element big primitive.I32 b n i h = ap int (get_or-numbers_by big kind.I32 n b i h)
leaf-element big primitive.I64 b n i h = ap int (get_or-numbers_by big kind.I64 n b i h)
leaf-element big primitive.U8 b n i h = ap int (get_or-numbers_by big kind.U8 n b i h)
leaf-element big primitive.U16 b n i h = ap int (get_or-numbers_by big kind.U16 n b i h)
leaf-element big primitive.U32 b n i h = ap int (get_or-numbers_by big kind.U32 n b i h)
leaf-element big primitive.U64 b n i h = ap int (get_or-numbers_by big kind.U64 n b i h)

-- ---- items at places in a row

-- the place of a list of a size in n lists is below n times the size
within-lists : (i n size k : ℕ) → i < n → k < i * size + size → k < n * size
within-lists i n size k l q =
    let most : suc i * size ≤ n * size =
    mul-le-mul (let s : suc i ≤ n = omega arith in s)
    (let s : size ≤ size = omega arith in s) in
    let one : suc i * size ≡ i * size + size = omega arith in
    omega (arith, most, one)

-- a span of size items is within them
span-same : (g d : ℕ → Value) (a b : ℤ) (size : ℕ) → IsSpan size a b
    → ((k : ℕ) → k < size → g k ≡ d k) → between g a b ≡ between d a b
span-same g d a b size span same =
    run-same g d (nat_of a) (nat_of b - nat_of a) (λ k p q. same k (below k p q))
  where
    fits : (z : ℤ) → z ≤ℤ pos size → nat_of z ≤ size
    fits (pos n) h = omega (arith, ints)
    fits (negsuc n) h = omega arith

    below : (k : ℕ) → nat_of a ≤ k → k < nat_of a + (nat_of b - nat_of a) → k < size
    below k p q =
        let apart : a ≢ b =
        λ e. let same_place = ap nat_of e in absurd (omega (arith, same_place)) in
        let most = fits b (span apart).2 in
        omega (arith, most)

-- each item of an inner shape
shaped-same : (inner : List ℕ) (n : ℕ) (x : Layout) (g : ℕ → Value)
    → ((i : ℕ) → i < n * product inner → layout_item.item x i ≡ g i)
    → (i : ℕ) → i < n → layout_item.item (shaped inner n x) i ≡ shaped_item inner g i
shaped-same [] n x g h i l = h i (omega arith)
shaped-same (m ∷ ms) n x g h i l =
    ap list
    (run-same _ _ (i * m) m
    (λ k p q. shaped-same ms (n * m) x g
    (λ k' r. let e = mul_assoc n m (product ms) in h k' (omega (arith, e))) k
    (within-lists i n m k l q)))

at_option-same : (n : ℕ) (z : ℤ) (g d : ℕ → Value) → behind z ≤ n → ((k : ℕ) → k < n → g k ≡ d k)
    → at_option (option_place z) g ≡ at_option (option_place z) d
at_option-same n (pos k) g d l h = h k (omega arith)
at_option-same n (negsuc k) g d l h = refl

-- ---- the law

mutual
  pub item-denoted : (f : FormTree) (m n : ℕ) (c : Container) → broken_from f m n c ≡ None → (i : ℕ)
      → i < n → layout_item.item (layout_of f n c) i ≡ item f c i
  item-denoted (empty key) m n c h i l = refl
  item-denoted (numpy key prim inner) m n c h i l =
      shaped-same inner n _ (element c.big prim (bytes_at c key (codes "data")))
      (leaf-element c.big prim (bytes_at c key (codes "data")) (n * product inner)) i l
  item-denoted (regular key size f) m n c h i l =
      let p = walked (regular key size f) m n c _ h in
      ap list
      (run-same _ _ (i * size) size
      (λ k q r. item-denoted f _ (n * size) c p.2 k (within-lists i n size k l r)))
  item-denoted (list_array key j k f) m n c h i l =
      let p = walked (list_array key j k f) m n c _ h in
      let s = index_num c key (codes "starts") j in
      let t = index_num c key (codes "stops") k in
      let size = content_length (list_array key j k f) n c 0 in
      let most = greatest_below-at (λ (i : ℕ). reach (s i) (t i)) n i l in
      let span =
      list_rule-none size (s i) (t i)
      (rule_break-none m n i (λ (i : ℕ). list_rule (s i) (t i)) p.1 l) most in
      ap list
      (ap₂ (between (layout_item.item (layout_of f size c)))
      (index-num c key (codes "starts") j n i l) (index-num c key (codes "stops") k n i l)
      ∙ span-same _ _ (s i) (t i) size span (item-denoted f _ size c p.2))
  item-denoted (list_offset key k f) m n c h i l =
      let p = walked (list_offset key k f) m n c _ h in
      let o = index_num c key (codes "offsets") k in
      let size = content_length (list_offset key k f) n c 0 in
      let most = greatest_below-at (λ (i : ℕ). reach (o i) (o (i + 1))) n i l in
      let span =
      list_rule-none size (o i) (o (i + 1))
      (rule_break-none m n i (λ (i : ℕ). list_rule (o i) (o (i + 1))) p.1 l) most in
      ap list
      (ap₂ (between (layout_item.item (layout_of f size c)))
      (index-num c key (codes "offsets") k (n + 1) i (omega arith))
      (index-num c key (codes "offsets") k (n + 1) (i + 1) (omega arith))
      ∙ span-same _ _ (o i) (o (i + 1)) size span (item-denoted f _ size c p.2))
  item-denoted (row_array key names fs) m n c h i l =
      let p = walked (row_array key names fs) m n c _ h in
      ap row
      (items_across-denoted fs _ (content_length (row_array key names fs) n c) c p.2 i (λ k. l))
  item-denoted (indexed key k f) m n c h i l =
      let p = walked (indexed key k f) m n c _ h in
      let j = index_num c key (codes "index") k in
      let size = content_length (indexed key k f) n c 0 in
      let most = greatest_below-at (λ (i : ℕ). behind (j i)) n i l in
      let place =
      index_rule-none size (j i)
      (rule_break-none m n i (λ (i : ℕ). index_rule (j i)) p.1 l) most in
      ap (λ z. layout_item.item (layout_of f size c) (nat_of z))
      (index-num c key (codes "index") k n i l) ∙ item-denoted f _ size c p.2 _ place.1
  item-denoted (indexed_option key k f) m n c h i l =
      let p = walked (indexed_option key k f) m n c _ h in
      let j = index_num c key (codes "index") k in
      let size = content_length (indexed_option key k f) n c 0 in
      let most = greatest_below-at (λ (i : ℕ). behind (j i)) n i l in
      ap (λ z. at_option (option_place z) (layout_item.item (layout_of f size c)))
      (index-num c key (codes "index") k n i l)
      ∙ at_option-same size (j i) _ (item f c) most (item-denoted f _ size c p.2)
  item-denoted (byte_masked key valid_when f) m n c h i l =
      let p = walked (byte_masked key valid_when f) m n c _ h in
      ap₂ (λ z v. cond (agrees valid_when (is_nonzero z)) v null)
      (int8-num c key (codes "mask") n i l) (item-denoted f _ n c p.2 i l)
  item-denoted (bit_masked key valid_when lsb_order f) m n c h i l =
      let p = walked (bit_masked key valid_when lsb_order f) m n c _ h in
      ap₂ (λ b v. cond (agrees valid_when b) v null)
      (mask-bit lsb_order (bytes_at c key (codes "mask")) n i l) (item-denoted f _ n c p.2 i l)
  item-denoted (unmasked key f) m n c h i l =
      let p = walked (unmasked key f) m n c _ h in
      item-denoted f _ n c p.2 i l
  item-denoted (union key k fs) m n c h i l =
      let p = walked (union key k fs) m n c _ h in
      let t = int8_num c key (codes "tags") in
      let j = index_num c key (codes "index") k in
      let lengths = content_length (union key k fs) n c in
      let kept =
      tag_rule-none (count fs) (t i) (j i)
      (rule_break-none m n i (λ (i : ℕ). tag_rule (count fs) (t i) (j i)) p.1 l) in
      let most = greatest_below-at (λ (i' : ℕ). behind_at (nat_of (t i)) (t i') (j i')) n i l in
      let reached = behind_at-own (t i) (j i) kept.0 in
      let place =
      index_rule-none (lengths (nat_of (t i))) (j i) kept.2 (omega (arith, most, reached)) in
      ap₂
      (λ y z. alt (nat_of y)
      (layout_item.item_of (layouts_of fs lengths c) (nat_of y) (nat_of z)))
      (int8-num c key (codes "tags") n i l) (index-num c key (codes "index") k n i l)
      ∙ ap (alt (nat_of (t i)))
      (item_of-denoted fs _ lengths c p.2 (nat_of (t i)) (nat_of (j i)) place.1)

  -- at one place of all contents
  items_across-denoted : (fs : FormTrees) (m : ℕ) (lengths : ℕ → ℕ) (c : Container)
      → all_broken_from fs m lengths c ≡ None → (i : ℕ) → ((k : ℕ) → i < lengths k)
      → layout_item.items_across (layouts_of fs lengths c) i ≡ items_across fs c i
  items_across-denoted no_forms m lengths c h i l = refl
  items_across-denoted (form f fs) m lengths c h i l =
      let p = or-both (broken_from f m (lengths 0) c) _ h in
      ap₂ value (item-denoted f m (lengths 0) c p.0 i (l 0))
      (items_across-denoted fs _ (λ k. lengths (suc k)) c p.1 i (λ k. l (suc k)))

  -- of the k-th content
  item_of-denoted : (fs : FormTrees) (m : ℕ) (lengths : ℕ → ℕ) (c : Container)
      → all_broken_from fs m lengths c ≡ None → (k i : ℕ) → i < lengths k
      → layout_item.item_of (layouts_of fs lengths c) k i ≡ item_of fs c k i
  item_of-denoted no_forms m lengths c h k i l = refl
  item_of-denoted (form f fs) m lengths c h zero i l =
      item-denoted f m (lengths 0) c (or-both (broken_from f m (lengths 0) c) _ h).0 i l
  item_of-denoted (form f fs) m lengths c h (suc k) i l =
      item_of-denoted fs _ (λ k. lengths (suc k)) c
      (or-both (broken_from f m (lengths 0) c) _ h).1 k i l

-- ---- the number of items

pub len-layout_of : (f : FormTree) (m n : ℕ) (c : Container) → broken_from f m n c ≡ None
    → len (layout_of f n c) ≡ n
len-layout_of (empty key) m n c h = no-items m n (own (empty key) m n c h).1
len-layout_of (numpy key prim inner) m n c h =
    content-len n inner _ _ _ refl refl
    (length-numbers_by c.big (kind_of prim) (n * product inner) (bytes_at c key (codes "data")))
len-layout_of (regular key size f) m n c h = refl
len-layout_of (list_array key j k f) m n c h = size_of-index_at c key (codes "starts") j n
len-layout_of (list_offset key k f) m n c h =
    let l = size_of-index_at c key (codes "offsets") k (n + 1) in omega (arith, l)
len-layout_of (row_array key names fs) m n c h = refl
len-layout_of (indexed key k f) m n c h = size_of-index_at c key (codes "index") k n
len-layout_of (indexed_option key k f) m n c h = size_of-index_at c key (codes "index") k n
len-layout_of (byte_masked key valid_when f) m n c h = size_of-int8s_at c key (codes "mask") n
len-layout_of (bit_masked key valid_when lsb_order f) m n c h =
    length-bits lsb_order (bytes_at c key (codes "mask")) 0 n
len-layout_of (unmasked key f) m n c h = refl
len-layout_of (union key k fs) m n c h = size_of-int8s_at c key (codes "tags") n

-- ---- the array

items-from : (s : Value → Value) (g d : ℕ → Value) (a n : ℕ)
    → ((j : ℕ) → j < n → g (a + j) ≡ d (a + j))
    → map s (map g (range_with_len a n)) ≡ map (λ i. s (d i)) (range_with_len a n)
items-from s g d a zero h = refl
items-from s g d a (suc n) h =
    let first : a + 0 ≡ a = omega arith in
    let here : g a ≡ d a = rw first at (h 0 (omega arith)) in
    let later =
    items-from s g d (a + 1) n
    (λ j l. let e : a + suc j ≡ a + 1 + j = omega arith in rw e at (h (suc j) (omega arith))) in
    ap₂ (λ v vs. s v ∷ vs) here later

-- the array of the layout is the array that the form denotes
pub datum-denoted : (f : FormTree) (n : ℕ) (c : Container) → broken f n c ≡ None
    → arr (array_type (layout_of f n c)) (array_items (layout_of f n c)) ≡ denote f n c
datum-denoted f n c h =
    let x = layout_of f n c in
    ap₂
    (λ t m. arr (simple t)
    (map (simple_value t) (map (layout_item.item x) (range_with_len 0 m))))
    (layout_type-layout_of f n c) (len-layout_of f 0 n c h)
    ∙ ap (arr (simple (type_of f)))
    (items-from (simple_value (type_of f)) (layout_item.item x) (item f c) 0 n
    (λ j l. let e : 0 + j ≡ j = omega arith in rw e (item-denoted f 0 n c h j l)))

-- what is told of loading is told of what is denoted
pub made-denoted : (f : FormTree) (n : ℕ) (c : Container) (x : Layout) → loading f n c ≡ Ok x
    → denoting f n c ≡ Ok (arr (array_type x) (array_items x))
made-denoted f n c x h =
    let made = refused_or-Ok (refusal f n c) (layout_of f n c) x h in
    let none = or-both (option_map limited (limit (simple (type_of f)))) (broken f n c) made.0 in
    refused_or-None (refusal f n c) (denote f n c) (arr (array_type x) (array_items x)) made.0
    (sym (datum-denoted f n c none.1) ∙ ap (λ y. arr (array_type y) (array_items y)) made.1)
