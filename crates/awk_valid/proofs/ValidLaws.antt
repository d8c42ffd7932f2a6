-- Where the walk finds no break, the layout is valid and has so many items.
use Rattle.std.proofs.Common.{◌≡◌, ◌≢◌, ◌<◌, ◌≤◌, ℕ, zero, suc, ◌+◌, ◌*◌, List, [], ◌∷◌, Some, None}
use Rattle.std.proofs.Common.{Option, refl, sym, ◌∙◌, arith, codes, subst}
use Rattle.std.proofs.Math.Nat.{mul_assoc}
use Rattle.awk_types.specs.Gives.{◌or◌}
use Rattle.awk_types.specs.DataType.{Name}
use Rattle.awk_types.specs.ItemLimit.{item_limit}
use Rattle.awk_lanes.specs.declared.kind.Kind.{Kind}
use Rattle.awk_lanes.specs.Places.{size_of, at, place_at, IsOptionKind, AreSpans, IsOffsets}
use Rattle.awk_lanes.specs.Places.{IsIndex, IsOptionalIndex}
use Rattle.awk_bits.proofs.BitParts.{length-bits}
use Rattle.awk_layout.specs.Layout as made
use Rattle.awk_layout.specs.Layout.{Layout, Layouts}
use Rattle.awk_layout.specs.Valid.{len, len_of, IsValid, AllValid, AllReach, AreNames, IsUnion}
use Rattle.awk_form.specs.FormTree.{FormTree, empty, numpy, regular, list, list_offset, row}
use Rattle.awk_form.specs.FormTree.{indexed, indexed_option, byte_masked, bit_masked, unmasked}
use Rattle.awk_form.specs.FormTree.{union, FormTrees, no_forms, form}
use Rattle.awk_form.specs.Lawful.{count, AreNamesOf, IsLawful, AreLawful}
use Rattle.awk_form.specs.declared.kind.IndexKind.{IndexKind}
use Rattle.awk_form.specs.declared.kind.IndexKind.TheVariants.{I32, U32, I64}
use Rattle.awk_form.specs.Measures.{inner_shape}
use Rattle.awk_types.proofs.RefusalLaws.{or-both}
use Rattle.awk_layout.specs.Kinds.{kind_of}
use Rattle.awk_valid.specs.Container.{Container, kind_of_index, column_at, index_at, int8s_at}
use Rattle.awk_valid.specs.Container.{bytes_at}
use Rattle.awk_valid.specs.Needs.{product, buffer_needs, reach, behind, behind_at, lists_length}
use Rattle.awk_valid.specs.Needs.{index_length, tag_length, content_length}
use Rattle.awk_valid.specs.Loaded.{shaped, layout_of, layouts_of}
use Rattle.awk_form.specs.FormText.{key_of}
use Rattle.awk_valid.specs.Broken.{Refusal, buffers_break, places_break, node_break, size_break}
use Rattle.awk_valid.specs.Broken.{shape_break, rule_break, list_rule, index_rule, tag_rule}
use Rattle.awk_valid.specs.Broken.{broken_from, all_broken_from, broken}
use Rattle.awk_valid.specs.declared.fault.Rule.TheVariants.{Empty}
use Rattle.awk_valid.proofs.OrderLaws.{length-numbers_by}
use Rattle.awk_valid.proofs.Places.{size_break-none, rule_break-none, greatest_below-at}
use Rattle.awk_valid.proofs.Places.{list_rule-none, index_rule-none, below-behind, tag_rule-none}
use Rattle.awk_valid.proofs.Places.{behind_at-own}
use Rattle.awk_valid.proofs.ByteLaws.{index_kind, spans-rule, spans-length, offsets-rule}
use Rattle.awk_valid.proofs.ByteLaws.{offsets-length, index-rule, index-length, tags-rule}
use Rattle.awk_valid.proofs.ByteLaws.{tags-length}

-- ---- kinds and sizes

pub option_kind : (k : IndexKind) → k ≢ U32 → IsOptionKind (kind_of_index k)
option_kind I32 h = tt
option_kind U32 h = absurd (h refl)
option_kind I64 h = tt

pub size_of-index_at : (c : Container) (key : Option Name) (attribute : List ℕ) (k : IndexKind)
    (n : ℕ) → size_of (index_at c key attribute k n) ≡ n
size_of-index_at c key attribute k n =
    length-numbers_by c.big (kind_of_index k) n (bytes_at c key attribute)

pub size_of-int8s_at : (c : Container) (key : Option Name) (attribute : List ℕ) (n : ℕ)
    → size_of (int8s_at c key attribute n) ≡ n
size_of-int8s_at c key attribute n =
    length-numbers_by c.big Kind.I8 n (bytes_at c key attribute)

-- ---- the classes

-- an inner shape of which no product is too large
pub shaped-valid : (inner : List ℕ) (n : ℕ) (x : Layout) → shape_break n inner ≡ None
    → len x ≡ n * product inner → IsValid x
    → IsValid (shaped inner n x) × (len (shaped inner n x) ≡ n)
shaped-valid [] n x h l v = (v, omega arith)
shaped-valid (m ∷ ms) n x h l v =
    let here = or-both (size_break n) (shape_break (n * m) ms) h in
    let inside = shaped-valid ms (n * m) x here.1 (l ∙ sym (mul_assoc n m (product ms))) v in
    let small = size_break-none n here.0 in
    ((omega arith, omega (arith, inside.1), inside.0), refl)

-- n offsets and one more, whose lists keep their rule
offsets-valid : (c : Container) (key : Option Name) (k : IndexKind) (m n size : ℕ)
    → rule_break m n
    (λ i. list_rule (at (index_at c key (codes "offsets") k (n + 1)) i)
    (at (index_at c key (codes "offsets") k (n + 1)) (i + 1))) ≡ None
    → lists_length n (at (index_at c key (codes "offsets") k (n + 1)))
    (λ i. at (index_at c key (codes "offsets") k (n + 1)) (i + 1)) ≡ size
    → IsOffsets (index_at c key (codes "offsets") k (n + 1)) size
offsets-valid c key k m n size h e =
    let o = index_at c key (codes "offsets") k (n + 1) in
    let l : size_of o ≡ n + 1 = size_of-index_at c key (codes "offsets") k (n + 1) in
    record {
      kind = index_kind k;
      some = omega (arith, l);
      ordered = λ i p.
          let below : i < n = omega (arith, l) in
          let most = greatest_below-at (λ (i : ℕ). reach (at o i) (at o (i + 1))) n i below in
          list_rule-none size (at o i) (at o (i + 1))
          (rule_break-none m n i (λ (i : ℕ). list_rule (at o i) (at o (i + 1))) h below)
          (omega (arith, most, e));
    }

-- n starts and stops, whose lists keep their rule
spans-valid : (c : Container) (key : Option Name) (j k : IndexKind) (m n size : ℕ)
    → rule_break m n
    (λ i. list_rule (at (index_at c key (codes "starts") j n) i)
    (at (index_at c key (codes "stops") k n) i)) ≡ None
    → lists_length n (at (index_at c key (codes "starts") j n))
    (at (index_at c key (codes "stops") k n)) ≡ size
    → AreSpans (index_at c key (codes "starts") j n) (index_at c key (codes "stops") k n) size
spans-valid c key j k m n size h e =
    let s = index_at c key (codes "starts") j n in
    let t = index_at c key (codes "stops") k n in
    let l : size_of s ≡ n = size_of-index_at c key (codes "starts") j n in
    let r : size_of t ≡ n = size_of-index_at c key (codes "stops") k n in
    record {
      start_kind = index_kind j;
      stop_kind = index_kind k;
      same_size = l ∙ sym r;
      ordered = λ i p.
          let below : i < n = omega (arith, l) in
          let most = greatest_below-at (λ (i : ℕ). reach (at s i) (at t i)) n i below in
          list_rule-none size (at s i) (at t i)
          (rule_break-none m n i (λ (i : ℕ). list_rule (at s i) (at t i)) h below)
          (omega (arith, most, e));
    }

-- n indexes that keep their rule
index-valid : (c : Container) (key : Option Name) (k : IndexKind) (m n size : ℕ)
    → rule_break m n (λ i. index_rule (at (index_at c key (codes "index") k n) i)) ≡ None
    → index_length n (at (index_at c key (codes "index") k n)) ≡ size
    → IsIndex (index_at c key (codes "index") k n) size
index-valid c key k m n size h e =
    let j = index_at c key (codes "index") k n in
    let l : size_of j ≡ n = size_of-index_at c key (codes "index") k n in
    record {
      kind = index_kind k;
      places = λ i p.
          let below : i < n = omega (arith, l) in
          let most = greatest_below-at (λ (i : ℕ). behind (at j i)) n i below in
          index_rule-none size (at j i)
          (rule_break-none m n i (λ (i : ℕ). index_rule (at j i)) h below)
          (omega (arith, most, e));
    }

-- n indexes of an option
option-valid : (c : Container) (key : Option Name) (k : IndexKind) (n size : ℕ) → k ≢ U32
    → index_length n (at (index_at c key (codes "index") k n)) ≡ size
    → IsOptionalIndex (index_at c key (codes "index") k n) size
option-valid c key k n size u e =
    let j = index_at c key (codes "index") k n in
    let l : size_of j ≡ n = size_of-index_at c key (codes "index") k n in
    record {
      kind = option_kind k u;
      below = λ i p.
          let most = greatest_below-at (λ (i : ℕ). behind (at j i)) n i (omega (arith, l)) in
          below-behind size (at j i) (omega (arith, most, e));
    }

-- ---- contents

-- each has the length that is told of its place
abbrev pub HaveLengths : Layouts → (ℕ → ℕ) → Type 0
HaveLengths made.no_layouts lengths = Unit {0}
HaveLengths (made.layout x xs) lengths = (len x ≡ lengths 0) × HaveLengths xs (λ k. lengths (suc k))

len_of-lengths : (xs : Layouts) (lengths : ℕ → ℕ) (k : ℕ) → HaveLengths xs lengths
    → k < made.count xs → len_of xs k ≡ lengths k
len_of-lengths made.no_layouts lengths k h l = absurd (omega arith)
len_of-lengths (made.layout x xs) lengths zero h l = h.0
len_of-lengths (made.layout x xs) lengths (suc k) h l =
    len_of-lengths xs (λ k. lengths (suc k)) k h.1 (omega arith)

all-reach : (n : ℕ) (xs : Layouts) (lengths : ℕ → ℕ) → HaveLengths xs lengths
    → ((k : ℕ) → lengths k ≡ n) → AllReach n xs
all-reach n made.no_layouts lengths h e = tt
all-reach n (made.layout x xs) lengths h e =
    (omega (arith, h.0, e 0), all-reach n xs (λ k. lengths (suc k)) h.1 (λ k. e (suc k)))

count-layouts_of : (fs : FormTrees) (lengths : ℕ → ℕ) (c : Container)
    → made.count (layouts_of fs lengths c) ≡ count fs
count-layouts_of no_forms lengths c = refl
count-layouts_of (form f fs) lengths c = omega (arith, count-layouts_of fs (λ k. lengths (suc k)) c)

names-valid : (names : Option (List Name)) (fs : FormTrees) (n : ℕ) → AreNamesOf fs names
    → n ≡ count fs → AreNames names n
names-valid None fs n h e = tt
names-valid (Some names) fs n h e = (h.1 ∙ sym e, h.0)

-- n tags and indexes that keep their rule, over contents of the lengths that they need
union-valid : (c : Container) (key : Option Name) (k : IndexKind) (m n alternatives : ℕ)
    (xs : Layouts) → made.count xs ≡ alternatives → 0 < alternatives
    → rule_break m n
    (λ i. tag_rule alternatives (at (int8s_at c key (codes "tags") n) i)
    (at (index_at c key (codes "index") k n) i)) ≡ None
    → HaveLengths xs
    (tag_length n (at (int8s_at c key (codes "tags") n))
    (at (index_at c key (codes "index") k n)))
    → IsUnion (int8s_at c key (codes "tags") n) (index_at c key (codes "index") k n) xs
union-valid c key k m n alternatives xs e some h lengths =
    let t = int8s_at c key (codes "tags") n in
    let j = index_at c key (codes "index") k n in
    let l : size_of t ≡ n = size_of-int8s_at c key (codes "tags") n in
    let r : size_of j ≡ n = size_of-index_at c key (codes "index") k n in
    let kept : (i : ℕ) → i < n → tag_rule alternatives (at t i) (at j i) ≡ None =
    λ i. rule_break-none m n i (λ (i : ℕ). tag_rule alternatives (at t i) (at j i)) h in
    record {
      some = omega (arith, e);
      tag_kind = refl;
      index_kind = index_kind k;
      same_size = l ∙ sym r;
      tags =
          λ i p. let q =
          tag_rule-none alternatives (at t i) (at j i) (kept i (omega (arith, l))) in
          (q.0, omega (arith, q.1, e));
      places = λ i p.
          let below : i < n = omega (arith, l) in
          let q = tag_rule-none alternatives (at t i) (at j i) (kept i below) in
          let most =
          greatest_below-at
          (λ (i' : ℕ). behind_at (place_at t i) (at t i') (at j i')) n i below in
          let own = behind_at-own (at t i) (at j i) q.0 in
          let size =
          len_of-lengths xs (tag_length n (at t) (at j)) (place_at t i) lengths
          (omega (arith, q.1, e)) in
          index_rule-none (len_of xs (place_at t i)) (at j i) q.2 (omega (arith, most, own, size));
    }

-- ---- the walk

-- a node that is not broken has no break of its sizes and of its places
pub own : (f : FormTree) (m n : ℕ) (c : Container) → node_break f m n c ≡ None
    → (shape_break n (inner_shape f) ≡ None) × (places_break f m n c ≡ None)
own f m n c h =
    let sizes =
    or-both (shape_break n (inner_shape f))
    (buffers_break c (key_of f) (buffer_needs f n) or places_break f m n c) h in (
      sizes.0,
      (or-both (buffers_break c (key_of f) (buffer_needs f n)) (places_break f m n c) sizes.1).1,
    )

-- nor has what is below it
pub walked : (f : FormTree) (m n : ℕ) (c : Container) (later : Option Refusal)
    → (node_break f m n c or later) ≡ None
    → (shape_break n (inner_shape f) ≡ None) × (places_break f m n c ≡ None) × (later ≡ None)
walked f m n c later h =
    let both = or-both (node_break f m n c) later h in
    let here = own f m n c both.0 in
    (here.0, here.1, both.1)

pub no-items : (m n : ℕ) → rule_break m n (λ i. Some Empty) ≡ None → 0 ≡ n
no-items m zero h = refl
no-items m (suc n) h = absurd (cc)

shape-small : (inner : List ℕ) (n : ℕ) → shape_break n inner ≡ None → n * product inner ≤ item_limit
shape-small [] n h = omega (arith, size_break-none n h)
shape-small (k ∷ ks) n h =
    let here = or-both (size_break n) (shape_break (n * k) ks) h in
    let inside = shape-small ks (n * k) here.1 in
    omega (arith, inside, mul_assoc n k (product ks))

mutual
  pub layout_of-valid : (f : FormTree) (m n : ℕ) (c : Container) → IsLawful f
      → broken_from f m n c ≡ None → IsValid (layout_of f n c) × (len (layout_of f n c) ≡ n)
  layout_of-valid (empty key) m n c w h = (tt, no-items m n (own (empty key) m n c h).1)
  layout_of-valid (numpy key prim inner) m n c w h =
      let shape = (own (numpy key prim inner) m n c h).0 in
      let l =
      length-numbers_by c.big (kind_of prim) (n * product inner) (bytes_at c key (codes "data")) in
      shaped-valid inner n
      (made.flat
      (column_at c.big (kind_of prim) (n * product inner) (bytes_at c key (codes "data"))))
      shape l (omega (arith, l, shape-small inner n shape))
  layout_of-valid (regular key size f) m n c w h =
      let p = walked (regular key size f) m n c _ h in
      let inside = layout_of-valid f _ (n * size) c w p.2 in
      ((omega (arith, size_break-none n p.0), omega (arith, inside.1), inside.0), refl)
  layout_of-valid (list key j k f) m n c w h =
      let p = walked (list key j k f) m n c _ h in
      let inside = layout_of-valid f _ (content_length (list key j k f) n c 0) c w.1 p.2 in
      let l = size_of-index_at c key (codes "starts") j n in (
        (
          omega (arith, l, size_break-none n p.0),
          spans-valid c key j k m n _ (sym (spans-rule c key m n j k) ∙ p.1)
              (sym (spans-length c key m n j k) ∙ sym inside.1),
          inside.0,
        ),
        l,
      )
  layout_of-valid (list_offset key k f) m n c w h =
      let p = walked (list_offset key k f) m n c _ h in
      let inside = layout_of-valid f _ (content_length (list_offset key k f) n c 0) c w.1 p.2 in
      let l = size_of-index_at c key (codes "offsets") k (n + 1) in (
        (
          omega (arith, l, size_break-none n p.0),
          offsets-valid c key k m n _ (sym (offsets-rule c key m n k) ∙ p.1)
              (sym (offsets-length c key m n k) ∙ sym inside.1),
          inside.0,
        ),
        omega (arith, l),
      )
  layout_of-valid (row key names fs) m n c w h =
      let p = walked (row key names fs) m n c _ h in
      let inside = layouts_of-valid fs _ (content_length (row key names fs) n c) c w.1 p.2 in
      let counted = count-layouts_of fs (content_length (row key names fs) n c) c in (
        (
          omega (arith, size_break-none n p.0),
          names-valid names fs _ w.0 counted,
          all-reach n _ (content_length (row key names fs) n c) inside.1 (λ k. refl),
          inside.0,
        ),
        refl,
      )
  layout_of-valid (indexed key k f) m n c w h =
      let p = walked (indexed key k f) m n c _ h in
      let inside = layout_of-valid f _ (content_length (indexed key k f) n c 0) c w.1 p.2 in
      let l = size_of-index_at c key (codes "index") k n in (
        (
          omega (arith, l, size_break-none n p.0),
          index-valid c key k m n _ (sym (index-rule c key m n k) ∙ p.1)
              (sym (index-length c key m n k) ∙ sym inside.1),
          inside.0,
        ),
        l,
      )
  layout_of-valid (indexed_option key k f) m n c w h =
      let p = walked (indexed_option key k f) m n c _ h in
      let inside = layout_of-valid f _ (content_length (indexed_option key k f) n c 0) c w.2 p.2 in
      let l = size_of-index_at c key (codes "index") k n in (
        (
          omega (arith, l, size_break-none n p.0),
          option-valid c key k n _ w.1 (sym (index-length c key m n k) ∙ sym inside.1),
          inside.0,
        ),
        l,
      )
  layout_of-valid (byte_masked key valid_when f) m n c w h =
      let p = walked (byte_masked key valid_when f) m n c _ h in
      let inside = layout_of-valid f _ n c w.1 p.2 in
      let l = size_of-int8s_at c key (codes "mask") n in (
        (
          omega (arith, l, size_break-none n p.0),
          record { kind = refl; reach = omega (arith, l, inside.1) },
          inside.0,
        ),
        l,
      )
  layout_of-valid (bit_masked key valid_when lsb_order f) m n c w h =
      let p = walked (bit_masked key valid_when lsb_order f) m n c _ h in
      let inside = layout_of-valid f _ n c w.1 p.2 in
      let l = length-bits lsb_order (bytes_at c key (codes "mask")) 0 n in
      ((omega (arith, l, size_break-none n p.0), omega (arith, l, inside.1), inside.0), l)
  layout_of-valid (unmasked key f) m n c w h =
      let p = walked (unmasked key f) m n c _ h in
      let inside = layout_of-valid f _ n c w p.2 in
      ((omega (arith, size_break-none n p.0), omega (arith, inside.1), inside.0), refl)
  layout_of-valid (union key k fs) m n c w h =
      let p = walked (union key k fs) m n c _ h in
      let inside = layouts_of-valid fs _ (content_length (union key k fs) n c) c w.3 p.2 in
      let counted = count-layouts_of fs (content_length (union key k fs) n c) c in
      let l = size_of-int8s_at c key (codes "tags") n in (
        (
          omega (arith, l, size_break-none n p.0),
          union-valid c key k m n (count fs) _ counted (omega (arith, w.1))
              (sym (tags-rule c key m n k (count fs)) ∙ p.1)
              (subst (HaveLengths _) (λ i a. tags-length c key m n k a i) inside.1),
          inside.0,
        ),
        l,
      )

  pub layouts_of-valid : (fs : FormTrees) (m : ℕ) (lengths : ℕ → ℕ) (c : Container) → AreLawful fs
      → all_broken_from fs m lengths c ≡ None
      → AllValid (layouts_of fs lengths c) × HaveLengths (layouts_of fs lengths c) lengths
  layouts_of-valid no_forms m lengths c w h = (tt, tt)
  layouts_of-valid (form f fs) m lengths c w h =
      let here = or-both (broken_from f m (lengths 0) c) _ h in
      let one = layout_of-valid f m (lengths 0) c w.0 here.0 in
      let others = layouts_of-valid fs _ (λ k. lengths (suc k)) c w.1 here.1 in
      ((one.0, others.0), (one.1, others.1))

-- where the walk finds no break
pub broken-none : (f : FormTree) (n : ℕ) (c : Container) → IsLawful f → broken f n c ≡ None
    → IsValid (layout_of f n c) × (len (layout_of f n c) ≡ n)
broken-none f n c w h = layout_of-valid f 0 n c w h
