-- Single rows below a level.
use Rattle.std.proofs.Common.{◌≡◌, ℕ, zero, suc, ◌+◌, ◌-◌, ◌<◌, ◌≤◌, refl, ap, arith, sym, subst}
use Rattle.std.proofs.Common.{◌∙◌}
use Rattle.std.proofs.Common.{drop, take}
use Rattle.std.specs.Prelude.{List, [], ◌∷◌, ◌++◌, map, length, get_or, slice_get, Some}
use Rattle.std.specs.Prelude.{slice_range}
use Rattle.std.specs.Prelude.{ℤ, pos, negsuc, ◌≤ℤ◌}
use Rattle.std.proofs.lemmas.Int.{ints}
use Rattle.std.proofs.lemmas.List.{take_all}
use Rattle.awk_base.proofs.Lists.{drop-get, take-get}
use Rattle.std.specs.List.{list_any}
use Rattle.awk_types.specs.Predicates.{is_list}
use Rattle.awk_types.specs.Simple.{present}
use Rattle.awk_types.specs.Value.{Value, null}
use Rattle.awk_lanes.specs.Numbers.{nat_of}
use Rattle.awk_lanes.specs.Places.{at, place_at, IsSpan}
use Rattle.awk_layout.specs.Layout.{Layout}
use Rattle.awk_layout.specs.Typing.{array_type, array_items}
use Rattle.awk_layout.specs.Valid.{len}
use Rattle.awk_layout.proofs.ArrayItems.{length-array_items, get_or-array_items}
use Rattle.awk_gather.specs.Arrays.{array_item}
use Rattle.awk_open.specs.Opened.{AreLong}
use Rattle.awk_columns.specs.Lists.{Listed, AreLists}
use Rattle.awk_pair_sides.specs.Levels.{opens}
use Rattle.awk_pair_sides.proofs.TestLaws.{any-map}
use Rattle.awk_pair_sides.specs.Rows.{row_at}
use Rattle.awk_pair_levels.specs.Shares.{share_at, share_row, share_types, share_column}
use Rattle.awk_pair_levels.specs.Shares.{AreAsLong, AreEven}
use Rattle.awk_pair_levels.specs.Single.{IsInside, AllInside, IsItem, AreItems}
use Rattle.awk_pair_levels.specs.declared.shares.Share.{Share}
use Rattle.awk_pair_levels.specs.declared.shares.Share.TheVariants.{Lists, Items}

one-of : (vs : List Value) (i : ℕ) → i < length vs → take 1 (drop i vs) ≡ get_or vs i null ∷ []
one-of [] i h = absurd (omega (arith, h))
one-of (v ∷ vs) zero h = refl
one-of (v ∷ vs) (suc i) h = one-of vs i (omega (arith, h))

range-one : (vs : List Value) (i : ℕ) → i < length vs
    → slice_range vs i (i + 1) ≡ get_or vs i null ∷ []
range-one vs i h =
    let e : i + 1 - i ≡ 1 = omega arith in ap (λ n. take n (drop i vs)) e ∙ one-of vs i h

pub alone-size : (x r : Layout) (i : ℕ) → i < len x
    → array_items r ≡ slice_range (array_items x) i (i + 1) → len r ≡ 1
alone-size x r i h e =
    sym (length-array_items r)
    ∙ ap length (e ∙ range-one (array_items x) i (omega (arith, h, length-array_items x)))

pub alone-item : (x r : Layout) (i : ℕ) → i < len x
    → array_items r ≡ slice_range (array_items x) i (i + 1) → array_item r 0 ≡ array_item x i
alone-item x r i h e =
    sym (get_or-array_items r 0 (omega (arith, alone-size x r i h e)))
    ∙ ap (λ vs. get_or vs 0 null)
    (e ∙ range-one (array_items x) i (omega (arith, h, length-array_items x)))
    ∙ get_or-array_items x i h

-- ---- of one share

span-place : (n k : ℕ) (a b : ℤ) → k < nat_of b - nat_of a → IsSpan n a b
    → (pos 0 ≤ℤ a) × (nat_of a + k < n)
span-place n k (pos a) (pos b) h s =
    let d : (pos a ≡ pos b → ⊥) = λ e. differ a b k h e in
    (omega (arith, ints), omega (arith, ints, h, (s d).2))
  where
    differ : (c d j : ℕ) → j < d - c → pos c ≡ pos d → ⊥
    differ c d j q e = let f : c ≡ d = ap nat_of e in omega (arith, q, f)
span-place n k (pos a) (negsuc b) h s = absurd (omega (arith, h))
span-place n k (negsuc a) (negsuc b) h s = absurd (omega (arith, h))
span-place n k (negsuc a) (pos b) h s =
    let d : (negsuc a ≡ pos b → ⊥) = λ e. cc in
    absurd (omega (arith, ints, (s d).0))

pub place_within : (l : Listed) (i k : ℕ) → AreLists l.class l.starts l.stops l.content
    → IsInside i k (Lists l) → (pos 0 ≤ℤ at l.starts i) × (place_at l.starts i + k < len l.content)
place_within l i k h g =
    span-place (len l.content) k (at l.starts i) (at l.stops i) g.1 (h.spans.ordered i g.0)

pub item_lists : (l : Listed) (i k q : ℕ) (r : Layout) → q ≡ place_at l.starts i + k
    → AreLists l.class l.starts l.stops l.content → IsInside i k (Lists l)
    → array_type r ≡ array_type l.content
    → array_items r ≡ slice_range (array_items l.content) q (q + 1) → IsItem i k (Lists l) r
item_lists l i k q r e h g t s =
    let w : q < len l.content = omega (arith, e, (place_within l i k h g).1) in
    record {
      size = alone-size l.content r q w s;
      typ = t;
      item = alone-item l.content r q w s ∙ ap (array_item l.content) e;
    }

pub item_items : (y : Layout) (i k : ℕ) (r : Layout) → i < len y → array_type r ≡ array_type y
    → array_items r ≡ slice_range (array_items y) i (i + 1) → IsItem i k (Items y) r
item_items y i k r h t s = record {
  size = alone-size y r i h s;
  typ = t;
  item = alone-item y r i h s;
}

-- ---- of all shares

pub inside_get : (i k : ℕ) (ps : List Share) (j : ℕ) (p : Share) → slice_get ps j ≡ Some p
    → AllInside i k (drop j ps) → IsInside i k p × AllInside i k (drop (j + 1) ps)
inside_get i k ps j p e h = subst (AllInside i k) (drop-get ps j p e) h

item-append : (i k : ℕ) (ps : List Share) (zs : List Layout) (p : Share) (z : Layout)
    → AreItems i k ps zs → IsItem i k p z → AreItems i k (ps ++ p ∷ []) (zs ++ z ∷ [])
item-append i k [] [] p z h g = (g, tt)
item-append i k (q ∷ ps) (y ∷ zs) p z h g = (h.0, item-append i k ps zs p z h.1 g)
item-append i k [] (y ∷ zs) p z h g = absurd h
item-append i k (q ∷ ps) [] p z h g = absurd h

pub item_push : (i k : ℕ) (ps : List Share) (zs ws : List Layout) (j : ℕ) (p : Share) (z : Layout)
    → slice_get ps j ≡ Some p → ws ≡ zs ++ z ∷ [] → AreItems i k (take j ps) zs → IsItem i k p z
    → AreItems i k (take (j + 1) ps) ws
item_push i k ps zs ws j p z e f h g =
    subst (λ w. AreItems i k (take (j + 1) ps) w) (sym f)
    (subst (λ w. AreItems i k w (zs ++ z ∷ [])) (sym (take-get ps j p e))
    (item-append i k (take j ps) zs p z h g))

pub item_all : (i k : ℕ) (ps : List Share) (zs : List Layout) (j : ℕ) → length ps ≤ j
    → AreItems i k (take j ps) zs → AreItems i k ps zs
item_all i k ps zs j l h = subst (λ w. AreItems i k w zs) (take_all j ps l) h

pub items_long : (i k : ℕ) (ps : List Share) (zs : List Layout) → AreItems i k ps zs → AreLong 1 zs
items_long i k [] [] h = tt
items_long i k (p ∷ ps) (z ∷ zs) h = (h.0.size, items_long i k ps zs h.1)
items_long i k [] (z ∷ zs) h = absurd h
items_long i k (p ∷ ps) [] h = absurd h

pub items_types : (i k : ℕ) (ps : List Share) (zs : List Layout) → AreItems i k ps zs
    → map array_type zs ≡ share_types ps
items_types i k [] [] h = refl
items_types i k (p ∷ ps) (z ∷ zs) h =
    ap (λ t. t ∷ map array_type zs) h.0.typ
    ∙ ap (λ ts. array_type (share_column p) ∷ ts) (items_types i k ps zs h.1)
items_types i k [] (z ∷ zs) h = absurd h
items_types i k (p ∷ ps) [] h = absurd h

pub items_row : (i k : ℕ) (ps : List Share) (zs : List Layout) → AreItems i k ps zs
    → row_at zs 0 ≡ share_row ps i k
items_row i k [] [] h = refl
items_row i k (p ∷ ps) (z ∷ zs) h =
    ap (λ v. v ∷ row_at zs 0) h.0.item ∙ ap (λ vs. share_at p i k ∷ vs) (items_row i k ps zs h.1)
items_row i k [] (z ∷ zs) h = absurd h
items_row i k (p ∷ ps) [] h = absurd h

pub all_inside : (m : ℕ → ℕ) (n i k : ℕ) (ps : List Share) → i < n → k < m i → AreAsLong n ps
    → AreEven m n ps → AllInside i k ps
all_inside m n i k [] h l a e = tt
all_inside m n i k (Lists w ∷ ps) h l a e =
    ((omega (arith, h, a.0), omega (arith, l, e.0 i h)), all_inside m n i k ps h l a.1 e.1)
all_inside m n i k (Items y ∷ ps) h l a e =
    (omega (arith, h, a.0), all_inside m n i k ps h l a.1 e.1)

pub opens_first : (ps : List Share)
    → list_any (λ p. is_list (present (array_type (share_column p)))) ps ≡ opens (share_types ps)
opens_first ps =
    any-map (λ t. is_list (present t)) (λ p. array_type (share_column p)) ps
    ∙ any-map is_list present (share_types ps)
