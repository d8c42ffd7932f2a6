-- Masks of single truth values: their kinds, and the places that they keep.
use Rattle.std.specs.Prelude.{◌≡◌, ℕ, zero, suc, ◌<◌, ◌<ℤ◌, pos, negsuc, refl, Bool, true, false}
use Rattle.std.specs.Prelude.{List, length, get_or, Option, Some, None}
use Rattle.std.specs.Prelude.{if◌then◌else◌}
use Rattle.std.proofs.Common.{arith, ap, sym, ◌∙◌, subst}
use Rattle.std.proofs.lemmas.List.{get_or-map, length-map}
use Rattle.awk_types.specs.DataType.{DataType, unknown, leaf, var, reg, rec, tup, opt, uni}
use Rattle.awk_types.specs.Simple.{simple, simple_value, is_option}
use Rattle.awk_types.specs.Value.{Value, null, int, truth, list, row, alt}
use Rattle.awk_lanes.specs.Column.{Column}
use Rattle.awk_lanes.specs.Numbers.{is_nonzero, element}
use Rattle.awk_lanes.specs.Places.{size_of, at, option_place, option_place_at, IsOptionalIndex}
use Rattle.awk_lanes.specs.Places.{IsOptionKind}
use Rattle.awk_lanes.specs.declared.kind.Kind.{Kind}
use Rattle.awk_lanes.specs.declared.kind.Kind.TheVariants as kinds
use Rattle.awk_layout.specs.Item.{leaf_value, agrees, at_option}
use Rattle.awk_layout.specs.Kinds.{primitive_of}
use Rattle.awk_layout.specs.Layout.{Layout}
use Rattle.awk_layout.specs.Typing.{array_type}
use Rattle.awk_layout.specs.Valid.{len, IsValid}
use Rattle.awk_gather.specs.Arrays.{array_item}
use Rattle.awk_gather.specs.Peeled.{IsPickedOpt, if_shown}
use Rattle.awk_columns.specs.ListClass.{Class, list_type}
use Rattle.awk_open.specs.Opened.{IsOpened, IsKindOf}
use Rattle.awk_open.specs.declared.opening.Opened.{Opened}
use Rattle.awk_open.specs.declared.opening.Opened.TheVariants as opened
use Rattle.awk_open.proofs.OnlyKinds.{not_of}
use Rattle.awk_lanes.proofs.MadeLanes.{size-lane_of, at-lane_of}
use Rattle.awk_gather.proofs.FollowedIndexes.{item_if_shown, below_if_shown, place_below}
use Rattle.awk_mask_pairs.specs.MaskValues.{masked_type, masked_value, kept_where}
use Rattle.awk_mask_pairs.specs.MaskTypes.{is_bare, is_innermost}
use Rattle.awk_mask_pairs.proofs.ValueLaws.{option-twice}
use Rattle.awk_mask.specs.MaskLeaves.{kept_place, kept_lane, there_place, there_lane, truths_in}
use Rattle.awk_mask.specs.MaskLeaves.{is_kept, is_there, AreKept, AreTruths, IsMasked}
use Rattle.awk_option_nodes.proofs.OptionNodes.{HasItems, optional_type-is, option_stays}

-- ---- the kinds of such masks

no_list : (c : Class) (t : DataType) → is_bare (list_type c t) ≡ false
no_list None t = refl
no_list (Some n) t = refl

pub only_leaves : (t : DataType) (r : Opened) → IsKindOf t r → is_bare t ≡ true
    → (r ≡ opened.Empty → ⊥) → ((c : Column) → r ≡ opened.Leaf c → ⊥) → ⊥
only_leaves t opened.Empty k h e l = e refl
only_leaves t (opened.Leaf c) k h e l = l c refl
only_leaves t (opened.Items q) k h e l =
    not_of is_bare t _ k (no_list q.class (array_type q.content)) h
only_leaves t (opened.Row None ys) k h e l =
    let f : false ≡ true = sym (ap is_bare k) ∙ h in cc
only_leaves t (opened.Row (Some ns) ys) k h e l =
    let f : false ≡ true = sym (ap is_bare k) ∙ h in cc
only_leaves t (opened.Option j y) k h e l =
    let f : false ≡ true = sym (ap is_bare k) ∙ h in cc
only_leaves t (opened.Union g j ys) k h e l =
    let f : false ≡ true = sym (ap is_bare k) ∙ h in cc

truth_kind : (k : Kind) → is_bare (leaf (primitive_of k)) ≡ true → k ≡ kinds.Bool
truth_kind kinds.Bool e = refl
truth_kind kinds.I8 e = cc
truth_kind kinds.I16 e = cc
truth_kind kinds.I32 e = cc
truth_kind kinds.I64 e = cc
truth_kind kinds.U8 e = cc
truth_kind kinds.U16 e = cc
truth_kind kinds.U32 e = cc
truth_kind kinds.U64 e = cc

pub leaf_truths : (m : Layout) (c : Column) → is_bare (array_type m) ≡ true
    → IsOpened m (opened.Leaf c) → AreTruths m c
leaf_truths m c h o = record {
  kind = truth_kind c.kind (sym (ap is_bare o.kind) ∙ h);
  size = o.size;
  fits = o.valid;
  items = o.items;
}

-- ---- the places that are kept

-- a truth value is whether its byte is not 0
truth_shown : (n : ℕ) → is_nonzero (element kinds.Bool (pos n)) ≡ is_nonzero (pos n)
truth_shown zero = refl
truth_shown (suc n) = refl

pub truth_byte : (bytes : List ℕ) (i : ℕ) → i < length bytes
    → is_nonzero (at (truths_in bytes) i) ≡ is_nonzero (pos (get_or bytes i 0))
truth_byte bytes i p =
    ap (λ z. is_nonzero (element kinds.Bool z)) (get_or-map pos bytes i 0 (pos 0) p)
    ∙ truth_shown (get_or bytes i 0)

pub size-truths_in : (bytes : List ℕ) (c : Column) → truths_in bytes ≡ c → length bytes ≡ size_of c
size-truths_in bytes c e = sym (length-map bytes pos) ∙ ap size_of e

pub size-kept : (c : Column) (keep : Bool) → size_of (kept_lane c keep) ≡ size_of c
size-kept c keep = size-lane_of kinds.I64 (size_of c) (kept_place c keep)

pub at-kept : (c : Column) (keep : Bool) (i : ℕ) → i < size_of c
    → at (kept_lane c keep) i ≡ kept_place c keep i
at-kept c keep i p = at-lane_of kinds.I64 (size_of c) (kept_place c keep) i p

truth_item : (m : Layout) (c : Column) → AreTruths m c → (i : ℕ) → i < len m
    → array_item m i ≡ truth (is_nonzero (at c i))
truth_item m c t i p = t.items i p ∙ ap (λ k. leaf_value k (at c i)) t.kind

pub truths_kept : (m : Layout) (keep : Bool) (c : Column) → AreTruths m c
    → AreKept m keep (kept_lane c keep)
truths_kept m keep c t = record {
  kind = refl;
  size = size-kept c keep ∙ t.size;
  places = λ i p.
      at-kept c keep i (omega (arith, p, t.size))
      ∙ ap (λ v. if_shown (is_kept keep v) i) (sym (truth_item m c t i p));
}

-- ---- by an index with nulls

pub there_none : (c : Column) (keep : Bool) (o : Option ℕ) (i : ℕ) → None ≡ o
    → negsuc 0 ≡ if_shown (is_there c keep o) i
there_none c keep None i e = refl
there_none c keep (Some k) i e = cc

pub there_some : (c : Column) (keep : Bool) (o : Option ℕ) (i k : ℕ) → Some k ≡ o
    → if_shown (agrees keep (is_nonzero (at c k))) i ≡ if_shown (is_there c keep o) i
there_some c keep None i k e = cc
there_some c keep (Some m) i k e =
    let f : k ≡ m = cc in
    ap (λ q. if_shown (agrees keep (is_nonzero (at c q))) i) f

pub there_within : (j : Column) (i k n : ℕ) → IsOptionalIndex j n → i < size_of j
    → Some k ≡ option_place_at j i → k < n
there_within j i k n h p e = place_below (at j i) k n e (h.below i p)

pub ruleset there = (there_none, there_some, there_within)

size-there : (j c : Column) (keep : Bool) → size_of (there_lane j c keep) ≡ size_of j
size-there j c keep = size-lane_of kinds.I64 (size_of j) (there_place j c keep)

at-there : (j c : Column) (keep : Bool) (i : ℕ) → i < size_of j
    → at (there_lane j c keep) i ≡ there_place j c keep i
at-there j c keep i p = at-lane_of kinds.I64 (size_of j) (there_place j c keep) i p

there_item : (y : Layout) (c : Column) (keep : Bool) → AreTruths y c → (o : Option ℕ)
    → ((k : ℕ) → o ≡ Some k → k < len y)
    → is_there c keep o ≡ is_kept keep (at_option o (array_item y))
there_item y c keep t None b = refl
there_item y c keep t (Some k) b = ap (is_kept keep) (sym (truth_item y c t k (b k refl)))

pub there_kept : (m y : Layout) (j c : Column) (keep : Bool) → IsOpened m (opened.Option j y)
    → AreTruths y c → AreKept m keep (there_lane j c keep)
there_kept m y j c keep o t = record {
  kind = refl;
  size = size-there j c keep ∙ o.size;
  places = λ i p.
      let q : i < size_of j = omega (arith, p, o.size) in
      at-there j c keep i q
      ∙ ap (λ b. if_shown b i) (there_item y c keep t (option_place_at j i)
      (λ k e. there_within j i k (len y) o.valid.1 q (sym e)))
      ∙ ap (λ v. if_shown (is_kept keep v) i) (sym (o.items i p));
}

pub there_ready : (y : Layout) (j c : Column) (n : ℕ) → AreTruths y c → n ≡ size_of c
    → IsOptionalIndex j (len y) → IsOptionalIndex j n
there_ready y j c n t e h = subst (IsOptionalIndex j) (sym (e ∙ t.size)) h

-- ---- what is kept

pub kept_index : (x m : Layout) (keep : Bool) (p : Column) → AreKept m keep p → len m ≡ len x
    → IsOptionalIndex p (len x)
kept_index x m keep p k e = record {
  kind = subst IsOptionKind (sym k.kind) tt;
  below = λ i q.
      let r : i < len m = omega (arith, q, k.size) in
      subst (λ z. z <ℤ pos (len x)) (sym (k.places i r))
      (below_if_shown (is_kept keep (array_item m i)) i (len m) (len x) r (omega (arith, e)));
}

pub bare_mask : (u : DataType) → is_option u ≡ false → is_innermost u ≡ true → is_bare u ≡ true
bare_mask unknown o h = h
bare_mask (leaf p) o h = h
bare_mask (var u) o h = h
bare_mask (reg n u) o h = h
bare_mask (rec ns ts) o h = h
bare_mask (tup ts) o h = h
bare_mask (opt u) o h = cc
bare_mask (uni ts) o h = h

bare_type : (u t : DataType) → is_bare u ≡ true → masked_type u t ≡ opt t
bare_type unknown t h = refl
bare_type (leaf p) t h = refl
bare_type (var u) t h = cc
bare_type (reg n u) t h = cc
bare_type (rec ns ts) t h = refl
bare_type (tup ts) t h = refl
bare_type (opt u) t h = cc
bare_type (uni ts) t h = refl

-- an option of an option is one
innermost_type : (u t : DataType) → is_innermost u ≡ true
    → simple (masked_type u t) ≡ simple (opt t)
innermost_type unknown t h = refl
innermost_type (leaf p) t h = refl
innermost_type (var u) t h = cc
innermost_type (reg n u) t h = cc
innermost_type (rec ns ts) t h = refl
innermost_type (tup ts) t h = refl
innermost_type (opt u) t h = ap (λ w. simple (opt w)) (bare_type u t h)
innermost_type (uni ts) t h = refl

innermost_simple : (u t : DataType) (v : Value) → is_innermost u ≡ true
    → simple_value (masked_type u t) v ≡ simple_value (opt t) v
innermost_simple unknown t v h = refl
innermost_simple (leaf p) t v h = refl
innermost_simple (var u) t v h = cc
innermost_simple (reg n u) t v h = cc
innermost_simple (rec ns ts) t v h = refl
innermost_simple (tup ts) t v h = refl
innermost_simple (opt u) t v h =
    ap (λ w. simple_value (opt w) v) (bare_type u t h) ∙ option-twice (simple_value t) v
innermost_simple (uni ts) t v h = refl

kept_value : (keep : Bool) (m v : Value) → kept_where keep m v
    ≡ (if is_kept keep m then v else null)
kept_value keep (truth b) v = refl
kept_value keep null v = refl
kept_value keep (int z) v = refl
kept_value keep (list vs) v = refl
kept_value keep (row vs) v = refl
kept_value keep (alt k w) v = refl

bare_value : (u : DataType) (keep : Bool) (m v : Value) → is_bare u ≡ true
    → masked_value u keep m v ≡ kept_where keep m v
bare_value unknown keep m v h = refl
bare_value (leaf p) keep m v h = refl
bare_value (var u) keep m v h = cc
bare_value (reg n u) keep m v h = cc
bare_value (rec ns ts) keep m v h = refl
bare_value (tup ts) keep m v h = refl
bare_value (opt u) keep m v h = cc
bare_value (uni ts) keep m v h = refl

innermost_value : (u : DataType) (keep : Bool) (m v : Value) → is_innermost u ≡ true
    → masked_value u keep m v ≡ kept_where keep m v
innermost_value unknown keep m v h = refl
innermost_value (leaf p) keep m v h = refl
innermost_value (var u) keep m v h = cc
innermost_value (reg n u) keep m v h = cc
innermost_value (rec ns ts) keep m v h = refl
innermost_value (tup ts) keep m v h = refl
innermost_value (opt u) keep m v h = bare_value u keep m v h
innermost_value (uni ts) keep m v h = refl

shown_stays : (y : Layout) → HasItems y → (b : Bool) (i : ℕ) → i < len y
    → (if b then array_item y i else null)
    ≡ simple_value (opt (array_type y)) (if b then array_item y i else null)
shown_stays y h true i p = sym (option_stays y h (Some i) (λ k e. below k e))
  where
    below : (k : ℕ) → Some i ≡ Some k → k < len y
    below k e = let f : i ≡ k = cc in omega (arith, p, f)
shown_stays y h false i p = refl

pub kept_mask : (x m r : Layout) (keep : Bool) (p : Column) → IsValid r → HasItems x
    → is_innermost (array_type m) ≡ true → len m ≡ len x → AreKept m keep p
    → IsPickedOpt x p r → IsMasked x m keep r
kept_mask x m r keep p v h u e k g = record {
  valid = v;
  size = g.size ∙ k.size ∙ e;
  typ = g.typ ∙ optional_type-is p x ∙ sym (innermost_type (array_type m) (array_type x) u);
  items = λ i q.
      let s : i < len m = omega (arith, q, e) in
      let shown : Bool = is_kept keep (array_item m i) in
      g.items i (omega (arith, s, k.size))
      ∙ ap (λ z. at_option (option_place z) (array_item x)) (k.places i s)
      ∙ item_if_shown shown i (array_item x)
      ∙ shown_stays x h shown i q
      ∙ sym (innermost_simple (array_type m) (array_type x)
      (if shown then array_item x i else null) u)
      ∙ ap (simple_value (masked_type (array_type m) (array_type x)))
      (sym (innermost_value (array_type m) keep (array_item m i) (array_item x i) u
      ∙ kept_value keep (array_item m i) (array_item x i)));
}
