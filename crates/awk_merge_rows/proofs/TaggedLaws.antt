-- Lanes of tags and places while they are made, and items by their tags and places.
use Rattle.std.proofs.Common.{◌≡◌, ◌+◌, ◌<◌, ◌≤◌, ◌∷◌, ◌++◌, [], ℕ, suc, zero, List, length, map}
use Rattle.std.proofs.Common.{get_or, refl, ap, sym, subst, ◌∙◌, arith}
use Rattle.std.specs.Prelude.{ℤ, pos}
use Rattle.std.proofs.lemmas.List.{append_assoc, length-append, get_or_default}
use Rattle.std.proofs.lemmas.List.FromFn.{length-map-range_with_len, map-range_with_len_more}
use Rattle.std.specs.List.{range_with_len}
use Rattle.awk_types.specs.Simple.{simple_value}
use Rattle.awk_types.specs.Value.{Value, null, alt}
use Rattle.awk_lanes.specs.Column.{Column}
use Rattle.awk_lanes.specs.Making.{Making, with_item}
use Rattle.awk_lanes.specs.Numbers.{nat_of}
use Rattle.awk_lanes.specs.Places.{place_at}
use Rattle.awk_layout.specs.Item.{item}
use Rattle.awk_layout.specs.Layout.{Layout}
use Rattle.awk_layout.specs.Typing.{layout_type, array_items}
use Rattle.awk_layout.specs.Valid.{len}
use Rattle.awk_unify.specs.Carry.{Carry, carried}
use Rattle.awk_merge_rows.proofs.TargetLaws.{Grows}
use Rattle.awk_merge_sides.specs.Sides.{Side}
use Rattle.awk_merge_rows.specs.Tagged.{IsReady, with_numbers, IsTagged, AreTagged}
use Rattle.awk_merge_rows.specs.Tagged.{target_at, item_tag, item_place}
use Rattle.awk_merge_rows.specs.declared.unions.Tagged.{Tagged}
use Rattle.awk_merge_rows.specs.declared.unions.Target.{Target}

-- ---- lanes that are made

abbrev numbers : ℕ → (ℕ → ℕ) → List ℤ
numbers n f = map (λ i. pos (f i)) (range_with_len 0 n)

pub numbers-next : (old m new : Making) (i : ℕ) (f : ℕ → ℕ) (z : ℕ) → m ≡ with_numbers old i f
    → z ≡ f i → new ≡ with_item m (pos z) → new ≡ with_numbers old (i + 1) f
numbers-next old m new i f z d h e =
    let more : numbers (i + 1) f ≡ numbers i f ++ pos (f i) ∷ []
    = map-range_with_len_more (λ i. pos (f i)) 0 i i (omega arith) in
    e ∙ ap (λ k. with_item m (pos k)) h ∙ ap (λ k. with_item k (pos (f i))) d
    ∙ ap (λ zs. record { kind = old.kind; room = old.room; items = zs })
    (append_assoc old.items (numbers i f) (pos (f i) ∷ [])
    ∙ ap (λ zs. old.items ++ zs) (sym more))

length-numbers : (m : Making) (n : ℕ) (f : ℕ → ℕ)
    → length (m.items ++ numbers n f) ≡ length m.items + n
length-numbers m n f =
    length-append m.items (numbers n f)
    ∙ ap (λ k. length m.items + k) (length-map-range_with_len (λ i. pos (f i)) 0 n)

-- there is room for one more of n
pub ready-next : (n i : ℕ) (old m : Tagged) (f h : ℕ → ℕ) → IsReady n old → i < n
    → m.tags ≡ with_numbers old.tags i f → m.index ≡ with_numbers old.index i h → IsReady 1 m
ready-next n i old m f h r l d e =
    let tags : length m.tags.items ≡ length old.tags.items + i
    = ap (λ (k : Making). length k.items) d ∙ length-numbers old.tags i f in
    let index : length m.index.items ≡ length old.index.items + i
    = ap (λ (k : Making). length k.items) e ∙ length-numbers old.index i h in
    let tag_room : m.tags.room ≡ old.tags.room = ap (λ (k : Making). k.room) d in
    let index_room : m.index.room ≡ old.index.room = ap (λ (k : Making). k.room) e in
    record {
      tag_kind = ap (λ (k : Making). k.kind) d ∙ r.tag_kind;
      index_kind = ap (λ (k : Making). k.kind) e ∙ r.index_kind;
      tag_room = omega (arith, l, tags, tag_room, r.tag_room);
      index_room = omega (arith, l, index, index_room, r.index_room);
    }

-- as the code reads targets
target-read : (xs : List Target) (k n : ℕ) (d : Target) → k ≡ n → n < length xs
    → get_or xs k d ≡ target_at xs n
target-read xs k n d e h =
    ap (λ m. get_or xs m d) e ∙ get_or_default xs n d (record { tag = 0; base = 0 }) h

pub tag-read : (t : Column) (xs : List Target) (i k : ℕ) (d : Target) → k ≡ place_at t i
    → place_at t i < length xs → (get_or xs k d).tag ≡ item_tag t xs i
tag-read t xs i k d e h = ap (λ (x : Target). x.tag) (target-read xs k (place_at t i) d e h)

pub place-read : (t j : Column) (xs : List Target) (i k p : ℕ) (d : Target) → k ≡ place_at t i
    → p ≡ place_at j i → place_at t i < length xs → (get_or xs k d).base + p ≡ item_place t j xs i
place-read t j xs i k p d e q h =
    ap (λ (x : Target). x.base + p) (target-read xs k (place_at t i) d e h)
    ∙ ap (λ n. (target_at xs (place_at t i)).base + n) q

-- ---- items by tags and places

tagged-grown-one : (gs hs : List (List Side)) (t j : ℤ) (v : Value) → Grows gs hs
    → IsTagged gs t j v → IsTagged hs t j v
tagged-grown-one gs hs t j v g h = record {
  tag = h.tag;
  within = omega (arith, h.within, g.size);
  place = h.place;
  below = omega (arith, h.below, g.long (nat_of t));
  value = h.value ∙ ap (alt (nat_of t)) (sym (g.items (nat_of t) (nat_of j) h.below));
}

pub tagged-grown : (gs hs : List (List Side)) (ts js : List ℤ) (vs : List Value) → Grows gs hs
    → AreTagged gs ts js vs → AreTagged hs ts js vs
tagged-grown gs hs [] [] [] g h = tt
tagged-grown gs hs (t ∷ ts) (j ∷ js) (v ∷ vs) g h =
    (tagged-grown-one gs hs t j v g h.0, tagged-grown gs hs ts js vs g h.1)
tagged-grown gs hs [] [] (v ∷ vs) g h = absurd h
tagged-grown gs hs [] (j ∷ js) vs g h = absurd h
tagged-grown gs hs (t ∷ ts) [] vs g h = absurd h
tagged-grown gs hs (t ∷ ts) (j ∷ js) [] g h = absurd h

pub tagged-append : (gs : List (List Side)) (ts js us ks : List ℤ) (vs ws : List Value)
    → AreTagged gs ts js vs → AreTagged gs us ks ws → AreTagged gs (ts ++ us) (js ++ ks) (vs ++ ws)
tagged-append gs [] [] us ks [] ws h k = k
tagged-append gs (t ∷ ts) (j ∷ js) us ks (v ∷ vs) ws h k =
    (h.0, tagged-append gs ts js us ks vs ws h.1 k)
tagged-append gs [] [] us ks (v ∷ vs) ws h k = absurd h
tagged-append gs [] (j ∷ js) us ks vs ws h k = absurd h
tagged-append gs (t ∷ ts) [] us ks vs ws h k = absurd h
tagged-append gs (t ∷ ts) (j ∷ js) us ks [] ws h k = absurd h

pub length-tags : (gs : List (List Side)) (ts js : List ℤ) (vs : List Value) → AreTagged gs ts js vs
    → length ts ≡ length vs
length-tags gs [] [] [] h = refl
length-tags gs (t ∷ ts) (j ∷ js) (v ∷ vs) h = ap suc (length-tags gs ts js vs h.1)
length-tags gs [] [] (v ∷ vs) h = absurd h
length-tags gs [] (j ∷ js) vs h = absurd h
length-tags gs (t ∷ ts) [] vs h = absurd h
length-tags gs (t ∷ ts) (j ∷ js) [] h = absurd h

pub length-places : (gs : List (List Side)) (ts js : List ℤ) (vs : List Value)
    → AreTagged gs ts js vs → length js ≡ length vs
length-places gs [] [] [] h = refl
length-places gs (t ∷ ts) (j ∷ js) (v ∷ vs) h = ap suc (length-places gs ts js vs h.1)
length-places gs [] [] (v ∷ vs) h = absurd h
length-places gs [] (j ∷ js) vs h = absurd h
length-places gs (t ∷ ts) [] vs h = absurd h
length-places gs (t ∷ ts) (j ∷ js) [] h = absurd h

pub tagged-at : (gs : List (List Side)) (ts js : List ℤ) (vs : List Value) (i : ℕ)
    → AreTagged gs ts js vs → i < length ts
    → IsTagged gs (get_or ts i (pos 0)) (get_or js i (pos 0)) (get_or vs i null)
tagged-at gs [] [] [] i h l = absurd (omega (arith, l))
tagged-at gs (t ∷ ts) (j ∷ js) (v ∷ vs) zero h l = h.0
tagged-at gs (t ∷ ts) (j ∷ js) (v ∷ vs) (suc i) h l = tagged-at gs ts js vs i h.1 (omega (arith, l))
tagged-at gs [] [] (v ∷ vs) i h l = absurd h
tagged-at gs [] (j ∷ js) vs i h l = absurd h
tagged-at gs (t ∷ ts) [] vs i h l = absurd h
tagged-at gs (t ∷ ts) (j ∷ js) [] i h l = absurd h

-- the items of a column, each by its own tag and place
tagged-run : (gs : List (List Side)) (x : Layout) (f : Carry) (a b : ℕ → ℕ)
    → ((i : ℕ) → i < len x
    → IsTagged gs (pos (a i)) (pos (b i)) (carried f (simple_value (layout_type x) (item x i))))
    → (first n : ℕ) → first + n ≤ len x
    → AreTagged gs (map (λ i. pos (a i)) (range_with_len first n))
    (map (λ i. pos (b i)) (range_with_len first n))
    (map (carried f) (map (simple_value (layout_type x)) (map (item x) (range_with_len first n))))
tagged-run gs x f a b h first zero l = tt
tagged-run gs x f a b h first (suc n) l =
    (h first (omega (arith, l)), tagged-run gs x f a b h (first + 1) n (omega (arith, l)))

pub tagged-items : (gs : List (List Side)) (x : Layout) (f : Carry) (n : ℕ) (a b : ℕ → ℕ)
    → n ≡ len x
    → ((i : ℕ) → i < len x
    → IsTagged gs (pos (a i)) (pos (b i)) (carried f (simple_value (layout_type x) (item x i))))
    → AreTagged gs (map (λ i. pos (a i)) (range_with_len 0 n))
    (map (λ i. pos (b i)) (range_with_len 0 n)) (map (carried f) (array_items x))
tagged-items gs x f n a b e h =
    subst (λ m. AreTagged gs (map (λ i. pos (a i)) (range_with_len 0 m))
    (map (λ i. pos (b i)) (range_with_len 0 m)) (map (carried f) (array_items x))) (sym e)
    (tagged-run gs x f a b h 0 (len x) (omega arith))
