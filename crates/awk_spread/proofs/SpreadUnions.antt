-- Alternatives are joined, one content of a union after another.
use Rattle.std.proofs.Common.{◌≡◌, ◌≢◌, ℕ, suc, zero, ◌+◌, ◌*◌, ◌<◌, ◌≤◌, List, [], ◌∷◌, ◌++◌}
use Rattle.std.proofs.Common.{length, take, map, arith, refl, ap, sym, ◌∙◌, subst, slice_get, Some}
use Rattle.std.proofs.Common.{add-one}
use Rattle.std.specs.Prelude.{ℤ, pos, negsuc, ◌<ℤ◌, Bool, true, false, ◌==◌, if◌then◌else◌}
use Rattle.std.specs.List.{flat_map}
use Rattle.std.proofs.lemmas.Int.{ints}
use Rattle.std.proofs.lemmas.List.{append-nil, append_assoc, length-append, length-map, map-append}
use Rattle.std.proofs.lemmas.List.{take_all}
use Rattle.awk_types.specs.Simple.{present_alternatives, alternatives, value_after}
use Rattle.awk_types.specs.Value.{Value, int, truth, null, list, row, alt}
use Rattle.awk_lanes.specs.declared.kind.Kind.TheVariants.{I64}
use Rattle.awk_lanes.specs.Column.{Column}
use Rattle.awk_lanes.specs.Numbers.{nat_of}
use Rattle.awk_lanes.specs.Places.{at, place_at, size_of, option_place, option_place_at}
use Rattle.awk_lanes.specs.Places.{IsOptionalIndex}
use Rattle.awk_layout.specs.Contents.{height-get}
use Rattle.awk_layout.specs.Layout.{Layout, layouts_from, union, height, heights, held, held_all}
use Rattle.awk_layout.specs.Valid.{len, len_of, IsValid, IsUnion}
use Rattle.awk_layout.specs.Item.{at_option}
use Rattle.awk_layout.specs.Typing.{array_type}
use Rattle.awk_gather.specs.Arrays.{array_item}
use Rattle.awk_lanes.specs.Made.{lane_of}
use Rattle.awk_gather.specs.Peeled.{through, followed, IsPeeled}
use Rattle.awk_spread.specs.Spread.{spread_at, spread_of, shift, wide, wides, nth_of, chosen, Fits}
use Rattle.awk_spread.specs.Spread.{AreChosen, IsSpread, alternative, or_else, joined_index}
use Rattle.awk_spread.specs.Spread.{joined_tags}
use Rattle.awk_lanes.proofs.MadeLanes.{size-lane_of, at-lane_of}
use Rattle.awk_layout.proofs.LayoutLists.{len_of-get}
use Rattle.awk_gather.proofs.FollowedIndexes.{size-followed, at-followed, index_followed}
use Rattle.awk_gather.proofs.PeeledNodes.{option_same}
use Rattle.awk_spread.proofs.UnionItems.{spread-union, alternatives-union, after_option}

-- alternatives of two lists after one another
nth-left : (xs ys : List Layout) (t : ℕ) → t < length xs → nth_of (xs ++ ys) t ≡ nth_of xs t
nth-left [] ys t h = absurd (omega arith)
nth-left (x ∷ xs) ys zero h = refl
nth-left (x ∷ xs) ys (suc t) h = nth-left xs ys t (omega arith)

nth-right : (xs ys : List Layout) (t : ℕ) → nth_of (xs ++ ys) (length xs + t) ≡ nth_of ys t
nth-right [] ys t = let e : 0 + t ≡ t = omega arith in ap (nth_of ys) e
nth-right (x ∷ xs) ys t =
    let e : suc (length xs) + t ≡ suc (length xs + t) = omega arith in ap (nth_of (x ∷ (xs ++ ys)))
    e ∙ nth-right xs ys t

pub held-append : (xs ys : List Layout)
    → held_all (layouts_from (xs ++ ys)) ≡ held_all (layouts_from xs) + held_all (layouts_from ys)
held-append [] ys = omega arith
held-append (x ∷ xs) ys = omega (arith, held-append xs ys)

no_alt : {a : ℕ} {w : Value} → alt a w ≡ null → ⊥
no_alt q = cc

-- one item of the joined lists: u and l of the new alternatives, t and k of those before
chosen-new : (xs ys : List Layout) (t k u l : ℤ) (v : Value) → chosen ys u l ≡ v
    → chosen xs t k ≡ null
    → chosen (xs ++ ys) (or_else l (pos (length xs + nat_of u)) t) (or_else l l k) ≡ shift
    (length xs) v
chosen-new xs ys t k u (pos n) v e n' =
    rw (← e) (ap (λ y. alt (length xs + nat_of u) (array_item y n)) (nth-right xs ys (nat_of u)))
chosen-new xs ys t (negsuc m) u (negsuc n) v e n' = rw (← e) refl
chosen-new xs ys t (pos m) u (negsuc n) v e n' = absurd (no_alt n')

chosen-old : (xs ys : List Layout) (t k u l : ℤ) (v : Value) → Fits xs t k → chosen ys u l ≡ null
    → chosen xs t k ≡ v
    → chosen (xs ++ ys) (or_else l (pos (length xs + nat_of u)) t) (or_else l l k) ≡ v
chosen-old xs ys t k u (pos n) v g e w = absurd (no_alt e)
chosen-old xs ys t (pos m) u (negsuc n) v g e w =
    ap (λ y. alt (nat_of t) (array_item y m)) (nth-left xs ys (nat_of t)
    (g (omega (arith, ints))).1) ∙ w
chosen-old xs ys t (negsuc m) u (negsuc n) v g e w = w

fits-joined : (xs ys : List Layout) (t k u l : ℤ) → Fits xs t k → Fits ys u l
    → Fits (xs ++ ys) (or_else l (pos (length xs + nat_of u)) t) (or_else l l k)
fits-joined xs ys t k u (pos n) f g q =
    let h = g (omega (arith, ints)) in (
      omega (arith, ints),
      omega (arith, length-append xs ys, h.1),
      rw (nth-right xs ys (nat_of u))
          h.2,
    )
fits-joined xs ys t k u (negsuc n) f g q =
    let h = f q in
    (h.0, omega (arith, length-append xs ys, h.1), rw (nth-left xs ys (nat_of t) h.1) h.2)

-- the alternatives so far
shift-zero : (v : Value) → v ≡ shift 0 v
shift-zero (int z) = refl
shift-zero (truth t) = refl
shift-zero null = refl
shift-zero (list vs) = refl
shift-zero (row vs) = refl
shift-zero (alt k v) = let e : k ≡ 0 + k = omega arith in ap (λ q. alt q v) e

shift-twice : (b c : ℕ) (v : Value) → shift b (shift c v) ≡ shift (b + c) v
shift-twice b c (int z) = refl
shift-twice b c (truth t) = refl
shift-twice b c null = refl
shift-twice b c (list vs) = refl
shift-twice b c (row vs) = refl
shift-twice b c (alt k v) = let e : b + (c + k) ≡ b + c + k = omega arith in ap (λ q. alt q v) e

spread-suc-at : (xs : List Layout) (a : ℕ) (y : Layout) (i : ℕ) → slice_get xs a ≡ Some y
    → spread_of (take (suc a) xs) a i ≡ shift (wides (take a xs)) (spread_at y i)
spread-suc-at [] a y i e = cc
spread-suc-at (x ∷ xs) zero y i e = let f : x ≡ y = cc in rw f (shift-zero (spread_at y i))
spread-suc-at (x ∷ xs) (suc a) y i e =
    ap (shift (wide x)) (spread-suc-at xs a y i e) ∙ shift-twice (wide x) (wides (take a xs))
    (spread_at y i)

spread-before : (xs : List Layout) (a k i : ℕ) → a ≤ k → spread_of (take a xs) k i ≡ null
spread-before [] zero k i h = refl
spread-before [] (suc a) k i h = refl
spread-before (x ∷ xs) zero k i h = refl
spread-before (x ∷ xs) (suc a) zero i h = absurd (omega arith)
spread-before (x ∷ xs) (suc a) (suc k) i h =
    ap (shift (wide x)) (spread-before xs a k i (omega arith))

spread-other : (xs : List Layout) (a k i : ℕ) → k ≢ a
    → spread_of (take (suc a) xs) k i ≡ spread_of (take a xs) k i
spread-other [] zero k i h = refl
spread-other [] (suc a) k i h = refl
spread-other (x ∷ xs) zero zero i h = absurd (h refl)
spread-other (x ∷ xs) zero (suc k) i h = refl
spread-other (x ∷ xs) (suc a) zero i h = refl
spread-other (x ∷ xs) (suc a) (suc k) i h =
    ap (shift (wide x)) (spread-other xs a k i (λ e. h (ap suc e)))

-- one place, one content more
union_place : (t j : Column) (xs ys rs : List Layout) (a : ℕ) (y : Layout) (z T K U L : ℤ)
    → slice_get xs a ≡ Some y → length ys ≡ wides (take a xs) → Fits ys T K
    → chosen ys T K ≡ at_option (option_place z)
    (λ i. spread_of (take a xs) (place_at t i) (place_at j i)) → chosen rs U L ≡ at_option
    (option_place (through (alternative t j a) (option_place z))) (spread_at y) → chosen (ys ++ rs)
    (or_else L (pos (length ys + nat_of U)) T) (or_else L L K) ≡ at_option (option_place z)
    (λ i. spread_of (take (suc a) xs) (place_at t i) (place_at j i))
union_place t j xs ys rs a y (negsuc m) T K U L e w f h q = chosen-old ys rs T K U L null f q h
union_place t j xs ys rs a y (pos i) T K U L e w f h q = go (place_at t i == a) refl q
  where
    k : ℕ
    k = place_at t i

    m : ℕ
    m = place_at j i

    go : (b : Bool) → (k == a) ≡ b
        → chosen rs U L ≡ at_option (option_place (if b then pos m else negsuc 0)) (spread_at y)
        → chosen (ys ++ rs) (or_else L (pos (length ys + nat_of U)) T) (or_else L L K) ≡ spread_of
        (take (suc a) xs) k m
    go true b q =
        let d : k ≡ a = grind arith in
        let n : chosen ys T K ≡ null = h ∙ spread-before xs a k m (omega arith) in
        chosen-new ys rs T K U L (spread_at y m) q n ∙ ap (λ c. shift c (spread_at y m)) w ∙ sym
        (spread-suc-at xs a y m e) ∙ ap (λ c. spread_of (take (suc a) xs) c m) (sym d)
    go false b q =
        let d : k ≢ a = grind arith in
        chosen-old ys rs T K U L (spread_of (take a xs) k m) f q h ∙ sym (spread-other xs a k m d)

pub chosen_step : (t j p : Column) (xs ys rs : List Layout) (a : ℕ) (y : Layout) (T K U L : Column)
    → slice_get xs a ≡ Some y → length ys ≡ wides (take a xs)
    → AreChosen (λ i. spread_of (take a xs) (place_at t i) (place_at j i)) p T K ys
    → AreChosen (spread_at y) (followed (alternative t j a) p) U L rs
    → AreChosen (λ i. spread_of (take (suc a) xs) (place_at t i) (place_at j i)) p
    (lane_of I64 (size_of p) (joined_tags T U L (length ys)))
    (lane_of I64 (size_of p) (joined_index K L)) (ys ++ rs)
chosen_step t j p xs ys rs a y T K U L e w h q = record {
  tag_size = size-lane_of I64 (size_of p) (joined_tags T U L (length ys));
  index_size = size-lane_of I64 (size_of p) (joined_index K L);
  tag_kind = refl;
  index_kind = refl;
  fits = λ i l. rw (
    at-lane_of I64 (size_of p) (joined_tags T U L (length ys)) i l,
    at-lane_of I64
        (size_of p) (joined_index K L) i l,
  )
      (fits-joined ys rs (at T i) (at K i) (at U i) (at L i) (h.fits i l) (q.fits i (more i l)));
  items = λ i l. rw (
    at-lane_of I64 (size_of p) (joined_tags T U L (length ys)) i l,
    at-lane_of I64
        (size_of p) (joined_index K L) i l,
  )
      (union_place t j xs ys rs a y (at p i) (at T i) (at K i) (at U i) (at L i) e w (h.fits i l)
      (h.items i l)
      (q.items i (more i l) ∙ ap (λ z. at_option (option_place z) (spread_at y))
      (at-followed (alternative t j a) p i l)));
}
  where
    more : (i : ℕ) → i < size_of p → i < size_of (followed (alternative t j a) p)
    more i l = omega (arith, size-followed (alternative t j a) p)

null_place : (z : ℤ) → at_option (option_place z) (λ (i : ℕ). null) ≡ null
null_place (pos n) = refl
null_place (negsuc n) = refl

-- none so far
pub chosen_start : (t j p T K : Column) (xs : List Layout)
    → T ≡ lane_of I64 (size_of p) (λ i. pos 0) → K ≡ lane_of I64 (size_of p) (λ i. negsuc 0)
    → AreChosen (λ i. spread_of (take 0 xs) (place_at t i) (place_at j i)) p T K []
chosen_start t j p T K xs e f = rw (e, f) (record {
  tag_size = size-lane_of I64 (size_of p) (λ i. pos 0);
  index_size = size-lane_of I64 (size_of p) (λ i. negsuc 0);
  tag_kind = refl;
  index_kind = refl;
  fits = λ i l. rw (at-lane_of I64 (size_of p) (λ i. negsuc 0) i l)
      (λ q. absurd (omega (arith, ints)));
  items = λ i l. rw (at-lane_of I64 (size_of p) (λ i. negsuc 0) i l) (sym (null_place (at p i)));
})

held-take : (xs : List Layout) (a : ℕ) (y : Layout) → slice_get xs a ≡ Some y
    → held_all (layouts_from (take (suc a) xs)) ≡ held_all (layouts_from (take a xs)) + held y
held-take [] a y e = cc
held-take (x ∷ xs) zero y e = let f : x ≡ y = cc in rw f (omega arith)
held-take (x ∷ xs) (suc a) y e = omega (arith, held-take xs a y e)

types-take : (xs : List Layout) (a : ℕ) (y : Layout) → slice_get xs a ≡ Some y
    → flat_map present_alternatives (map array_type (take (suc a) xs)) ≡ flat_map
    present_alternatives (map array_type (take a xs)) ++ present_alternatives (array_type y)
types-take [] a y e = cc
types-take (x ∷ xs) zero y e =
    let f : x ≡ y = cc in rw f (append-nil (present_alternatives (array_type y)))
types-take (x ∷ xs) (suc a) y e =
    ap (λ ts. present_alternatives (array_type x) ++ ts) (types-take xs a y e)
    ∙ sym (append_assoc (present_alternatives (array_type x))
    (flat_map present_alternatives (map array_type (take a xs)))
    (present_alternatives (array_type y)))

-- as many as the alternatives that are given
pub width_of : (xs ys : List Layout)
    → map array_type ys ≡ flat_map present_alternatives (map array_type xs) → length ys ≡ wides xs
width_of xs ys e = sym (length-map ys array_type) ∙ ap length e ∙ given xs
  where
    given : (xs : List Layout)
        → length (flat_map present_alternatives (map array_type xs)) ≡ wides xs
    given [] = refl
    given (x ∷ xs) =
        omega (
          arith,
          length-append (present_alternatives (array_type x))
              (flat_map present_alternatives (map array_type xs)),
          given xs,
        )

-- the places of an alternative are places of it
pub alternative_index : (t j p P : Column) (xs : List Layout) (a : ℕ) (y : Layout)
    → slice_get xs a ≡ Some y → IsUnion t j (layouts_from xs) → IsOptionalIndex p (size_of t)
    → P ≡ followed (alternative t j a) p → IsOptionalIndex P (len y) × (P.kind ≡ I64)
alternative_index t j p P xs a y e v h f =
    rw f (index_followed (alternative t j a) p (size_of t) (len y) below h, refl)
  where
    below : (k : ℕ) → k < size_of t → alternative t j a k <ℤ pos (len y)
    below k l = go (place_at t k == a) refl
      where
        go : (b : Bool) → (place_at t k == a) ≡ b
            → (if b then pos (place_at j k) else negsuc 0) <ℤ pos (len y)
        go true q =
            let d : place_at t k ≡ a = grind arith in
            let w : len_of (layouts_from xs) (place_at t k) ≡ len y = ap (len_of (layouts_from xs))
            d ∙ len_of-get xs a y e in
            let u : place_at j k < len y = omega (arith, (v.places k l).1) in
            omega (arith, ints)
        go false q = omega (arith, ints)

-- the conditions of a call for one content
pub alternative_call : (t j p P : Column) (xs : List Layout) (a : ℕ) (y : Layout)
    → slice_get xs a ≡ Some y → IsValid (union t j (layouts_from xs))
    → IsOptionalIndex p (size_of t) → P ≡ followed (alternative t j a) p
    → (3 * height y + 1 < 3 * heights (layouts_from xs) + 2) × IsOptionalIndex P (len y) ×
    (P.kind ≡ I64)
alternative_call t j p P xs a y e v h f =
    let w = alternative_index t j p P xs a y e v.1 h f in
    (omega (arith, height-get xs a y e), w.0, w.1)

-- what the loop over the contents has made
pub record AreSpread (t j p : Column) (xs : List Layout) (T K : Column) (ys : List Layout) : Type 0
  where
    pub chosen : AreChosen (λ i. spread_of xs (place_at t i) (place_at j i)) p T K ys
    pub types : map array_type ys ≡ flat_map present_alternatives (map array_type xs)
    pub held_within : held_all (layouts_from ys) ≤ held_all (layouts_from xs)

pub all_start : (t j p T K : Column) (xs ys : List Layout) (n m : ℕ) → n ≡ size_of p
    → m ≡ size_of p → T ≡ lane_of I64 n (λ i. pos 0) → K ≡ lane_of I64 m (λ i. negsuc 0) → ys ≡ []
    → AreSpread t j p (take 0 xs) T K ys
all_start t j p T K xs ys n m a b e f g =
    let e' : T ≡ lane_of I64 (size_of p) (λ i. pos 0) = e ∙ ap (λ q. lane_of I64 q (λ i. pos 0))
    a in
    let f' : K ≡ lane_of I64 (size_of p) (λ i. negsuc 0) = f ∙ ap
    (λ q. lane_of I64 q (λ i. negsuc 0)) b in
    rw g (record {
      chosen = chosen_start t j p T K xs e' f';
      types = refl;
      held_within = omega arith;
    })

pub all_step : (t j p P : Column) (xs ys rs zs : List Layout) (a b : ℕ) (y : Layout)
    (T K U L T' K' : Column) → slice_get xs a ≡ Some y → AreSpread t j p (take a xs) T K ys → P ≡
    followed (alternative t j a) p → IsSpread y P U L rs → b ≡ length ys → T' ≡ lane_of I64
    (size_of L) (joined_tags T U L b) → K' ≡ lane_of I64 (size_of L) (joined_index K L) → zs ≡ ys ++
    rs → AreSpread t j p (take (a + 1) xs) T' K' zs
all_step t j p P xs ys rs zs a b y T K U L T' K' e h f q l m n o =
    let s : size_of L ≡ size_of p = q.chosen.index_size ∙ ap size_of f ∙ size-followed
    (alternative t j a) p in
    let m' : T' ≡ lane_of I64 (size_of p) (joined_tags T U L (length ys)) = m ∙ ap
    (λ c. lane_of I64 c (joined_tags T U L b)) s ∙ ap
    (λ c. lane_of I64 (size_of p) (joined_tags T U L c)) l in
    let n' : K' ≡ lane_of I64 (size_of p) (joined_index K L) = n ∙ ap
    (λ c. lane_of I64 c (joined_index K L)) s in
    let q' : AreChosen (spread_at y) (followed (alternative t j a) p) U L rs = subst
    (λ c. AreChosen (spread_at y) c U L rs) f q.chosen in
    rw (o, add-one, m', n') (record {
      chosen =
          chosen_step t j p xs ys rs a y T K U L e (width_of (take a xs) ys h.types) h.chosen q';
      types =
          map-append array_type ys rs ∙ ap (λ ts. ts ++ map array_type rs) h.types ∙ ap
          (λ ts. flat_map present_alternatives (map array_type (take a xs)) ++ ts) q.types ∙ sym
          (types-take xs a y e);
      held_within =
          omega (arith, h.held_within, q.held_within, held-take xs a y e, held-append ys rs);
    })

-- all contents are joined
pub spread_end : (t j p T K : Column) (xs ys : List Layout) (a : ℕ) → length xs ≤ a
    → AreSpread t j p (take a xs) T K ys → IsSpread (union t j (layouts_from xs)) p T K ys
spread_end t j p T K xs ys a l h' =
    let h : AreSpread t j p xs T K ys = subst (λ zs. AreSpread t j p zs T K ys) (take_all a xs l)
    h' in
    record {
      chosen = record {
        tag_size = h.chosen.tag_size;
        index_size = h.chosen.index_size;
        tag_kind = h.chosen.tag_kind;
        index_kind = h.chosen.index_kind;
        fits = h.chosen.fits;
        items = λ i l. h.chosen.items i l ∙ option_same (option_place_at p i)
            (λ i. spread_of xs (place_at t i) (place_at j i))
            (spread_at (union t j (layouts_from xs))) (λ k. sym (spread-union t j xs k));
      };
      types = h.types ∙ sym (alternatives-union t j xs);
      held_within = omega (arith, h.held_within);
    }

pub append_more : (xs ys zs : List Layout) (i : ℕ) (y : Layout) → slice_get ys i ≡ Some y
    → zs ≡ xs ++ take i ys → zs ++ y ∷ [] ≡ xs ++ take (i + 1) ys
append_more xs ys zs i y e f = rw (f, add-one) (go xs ys i e)
  where
    go : (xs ys : List Layout) (i : ℕ) → slice_get ys i ≡ Some y
        → (xs ++ take i ys) ++ y ∷ [] ≡ xs ++ take (suc i) ys
    go (x ∷ xs) ys i e = ap (λ q. x ∷ q) (go xs ys i e)
    go [] [] i e = cc
    go [] (w ∷ ys) zero e = let f : w ≡ y = cc in rw f refl
    go [] (w ∷ ys) (suc i) e = ap (λ q. w ∷ q) (go [] ys i e)

-- what a peeled layout gives, as the whole
pub spread_of_peeled : (x y : Layout) (i k t j : Column) (ys : List Layout) → IsPeeled x i k y
    → IsSpread y k t j ys → IsSpread x i t j ys
spread_of_peeled x y i k t j ys h q = record {
  chosen = record {
    tag_size = q.chosen.tag_size ∙ h.size;
    index_size = q.chosen.index_size ∙ h.size;
    tag_kind = q.chosen.tag_kind;
    index_kind = q.chosen.index_kind;
    fits = λ n l. q.chosen.fits n (omega (arith, h.size));
    items = λ n l.
        q.chosen.items n (omega (arith, h.size)) ∙ after_option (option_place_at k n) (array_item y)
        ∙ ap (value_after 0) (h.items n l) ∙ sym
        (after_option (option_place_at i n) (array_item x));
  };
  types = q.types ∙ ap alternatives h.same_present;
  held_within = omega (arith, h.held_within, q.held_within);
}

-- tags and places of one more content are as many as those so far
pub sizes_same : (t j p P : Column) (xs ys rs : List Layout) (a : ℕ) (y : Layout) (T K U L : Column)
    → AreSpread t j p (take a xs) T K ys → P ≡ followed (alternative t j a) p → IsSpread y P U L rs
    → (size_of T ≡ size_of L) × (size_of K ≡ size_of L)
sizes_same t j p P xs ys rs a y T K U L h f q =
    let s : size_of L ≡ size_of p = q.chosen.index_size ∙ ap size_of f ∙ size-followed
    (alternative t j a) p in
    (h.chosen.tag_size ∙ sym s, h.chosen.index_size ∙ sym s)
