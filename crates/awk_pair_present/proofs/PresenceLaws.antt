-- The rows in which all items are there, from each operand's items that are.
use Rattle.std.proofs.Common.{◌≡◌, ℕ, zero, suc, ◌+◌, ◌-◌, ◌<◌, ◌≤◌, Bool, true, false, ◌&&◌}
use Rattle.std.proofs.Common.{refl, ap, arith, sym, subst, ◌∙◌, drop, take}
use Rattle.std.specs.Prelude.{List, [], ◌∷◌, ◌++◌, map, filter, length, slice_get, Some, None}
use Rattle.std.specs.Prelude.{ℤ, pos, negsuc, ◌<ℤ◌, ◌≤ℤ◌, ◌^◌, nat_lt, cond, if◌then◌else◌}
use Rattle.std.specs.List.{list_all, flat_map, range_with_len}
use Rattle.std.proofs.lemmas.Int.{ints}
use Rattle.std.proofs.lemmas.List.{take_all, drop_all}
use Rattle.std.proofs.lemmas.Bool.{and_parts}
use Rattle.std.proofs.lemmas.Simd.{map-map}
use Rattle.awk_base.proofs.Ranges.{map-in, flat-in}
use Rattle.awk_base.proofs.Lists.{drop-get, take-get}
use Rattle.awk_types.specs.Simple.{is_option, present}
use Rattle.awk_types.proofs.SimpleLaws.{present_stays}
use Rattle.awk_lanes.specs.Column.{Column}
use Rattle.awk_lanes.specs.Counted.{before}
use Rattle.awk_lanes.specs.Made.{lane_of}
use Rattle.awk_lanes.specs.Numbers.{nat_of}
use Rattle.awk_lanes.specs.Places.{size_of, at, place_at, option_place, IsIndex}
use Rattle.awk_lanes.specs.declared.kind.Kind.TheVariants.{I64}
use Rattle.awk_layout.specs.Item.{at_option}
use Rattle.awk_layout.specs.Layout.{Layout}
use Rattle.awk_layout.specs.Typing.{array_type}
use Rattle.awk_layout.specs.Valid.{len, IsValid}
use Rattle.awk_gather.specs.Arrays.{array_item, IsGathered}
use Rattle.awk_open.specs.Inner.{IsInner}
use Rattle.awk_open.specs.Opened.{AreLong, IsOpened}
use Rattle.awk_open.specs.declared.opening.Opened.TheVariants.{Option as Optional}
use Rattle.awk_open.proofs.ItemShapes.{present_item}
use Rattle.awk_columns.specs.Columns.{is_present}
use Rattle.awk_pair_sides.specs.Levels.{some_option}
use Rattle.awk_pair_present.specs.Presence.{is_some, is_there, are_there}
use Rattle.awk_pair_present.specs.Presence.{IsPresence, ArePresences, IsAsLong, AreAsLong}
use Rattle.awk_pair_present.specs.Presence.{kept_length, presence_at, presence_column}
use Rattle.awk_pair_present.specs.Presence.{AreKeptOf, AllKeptOf, AreThereAt, IsTaken, AreTaken}
use Rattle.awk_pair_sides.specs.Rows.{row_at, rows_at, flags_index}
use Rattle.awk_pair_present.specs.Present.{ArePresent}
use Rattle.awk_pair_sides.specs.Sides.{is_whole}
use Rattle.awk_pair_present.specs.declared.presence.Presence.{Presence}
use Rattle.awk_pair_present.specs.declared.presence.Presence.TheVariants.{All, Indexed}
use Rattle.awk_pair_sides.proofs.PlaceLaws.{places_of, size-places_of, place-places_of}
use Rattle.awk_pair_sides.proofs.PlaceLaws.{repeats_index}
use Rattle.awk_pair_sides.proofs.RangeLaws.{pieces}
use Rattle.awk_lanes.proofs.MadeLanes.{size-lane_of, at-lane_of}
use Rattle.awk_lanes.proofs.CountedLanes.{before-room}
use Rattle.awk_columns.proofs.PresentItems.{not_null}

-- ---- one operand

item_there : (x : Layout) (i : ℕ) → IsValid x → i < len x → is_option (array_type x) ≡ false
    → is_present (array_item x i) ≡ true
item_there x i v h b = not_null (array_item x i) (present_item x i v h b)

pub whole_presence : (x y : Layout) → y ≡ x → IsValid x → is_option (array_type x) ≡ false
    → IsPresence (len x) x (All y)
whole_presence x y e v b = record {
  same = e;
  bare = b;
  size = refl;
  there = λ i h. item_there x i v h b;
}

there-by : (z : ℤ) (y : Layout) → IsValid y → is_option (array_type y) ≡ false → z <ℤ pos (len y)
    → is_present (at_option (option_place z) (array_item y)) ≡ is_some (option_place z)
there-by (pos k) y v b h = item_there y k v (omega (arith, ints, h)) b
there-by (negsuc k) y v b h = refl

pub indexed_presence : (x : Layout) (j : Column) (y : Layout) → IsOpened x (Optional j y)
    → IsInner (Optional j y) → IsPresence (len x) x (Indexed j y)
indexed_presence x j y o b = record {
  typ = sym (ap present o.kind);
  bare = b;
  size = o.size;
  index = o.valid.1;
  items = o.items;
  there = λ i h.
      ap is_present (o.items i h)
      ∙ there-by (at j i) y o.valid.2 b (o.valid.1.below i (omega (arith, h, o.size)));
}

presence-there : (n i : ℕ) (x : Layout) (p : Presence) → i < n → IsPresence n x p
    → is_present (array_item x i) ≡ is_there i p
presence-there n i x (All y) h e = e.there i h
presence-there n i x (Indexed j y) h e = e.there i h

presence-item : (n i : ℕ) (x : Layout) (p : Presence) → i < n → IsPresence n x p
    → presence_at p i ≡ array_item x i
presence-item n i x (All y) h e = ap (λ z. array_item z i) e.same
presence-item n i x (Indexed j y) h e = sym (e.items i h)

presence-type : (n : ℕ) (x : Layout) (p : Presence) → IsPresence n x p
    → array_type (presence_column p) ≡ present (array_type x)
presence-type n x (All y) e = ap array_type e.same ∙ sym (present_stays (array_type x) e.bare)
presence-type n x (Indexed j y) e = e.typ

presence-bare : (n : ℕ) (x : Layout) (p : Presence) → IsPresence n x p
    → is_option (array_type (presence_column p)) ≡ false
presence-bare n x (All y) e = ap (λ z. is_option (array_type z)) e.same ∙ e.bare
presence-bare n x (Indexed j y) e = e.bare

presence-long : (n : ℕ) (x : Layout) (p : Presence) → IsPresence n x p → IsAsLong n p
presence-long n x (All y) e = ap len e.same ∙ e.size
presence-long n x (Indexed j y) e = (e.size, e.index)

-- ---- the items that are taken

some-place : (z : ℤ) → is_some (option_place z) ≡ true
    → (pos 0 ≤ℤ z) × (option_place z ≡ Some (nat_of z))
some-place (pos k) e = (omega (arith, ints), refl)
some-place (negsuc k) e = cc

pub there-is : (z : ℤ) (k : ℕ) → option_place z ≡ Some k → pos k ≡ z
there-is (pos a) k e = cc
there-is (negsuc a) k e = cc

pub there-none : (z : ℤ) → pos 0 ≤ℤ z → option_place z ≡ None → ⊥
there-none (pos a) h e = cc
there-none (negsuc a) h e = absurd (omega (arith, ints, h))

place-below : (z : ℤ) (n : ℕ) → pos 0 ≤ℤ z → z <ℤ pos n → nat_of z < n
place-below (pos k) n h l = omega (arith, ints, l)
place-below (negsuc k) n h l = absurd (omega (arith, ints, h))

pub there_places : (n : ℕ) (j : Column) (y : Layout) (ks : Column) → len y < 2 ^ 63
    → IsAsLong n (Indexed j y) → ks.kind ≡ I64
    → ((q : ℕ) → q < size_of ks → pos 0 ≤ℤ at ks q) → AreKeptOf n (Indexed j y) ks
    → AreThereAt j ks
there_places n j y ks f l k p h = record {
  index_kind = l.1.kind;
  place_kind = k;
  positive = p;
  places = λ q a. omega (arith, (h q a).0, l.0);
  there = λ q a. (some-place (at j (place_at ks q)) (h q a).1).0;
  small = λ q a. let b = place-below (at j (place_at ks q)) (len y)
      (some-place (at j (place_at ks q)) (h q a).1).0
      (l.1.below (place_at ks q) (omega (arith, (h q a).0, l.0))) in omega (arith, b, f);
}

pub there_index : (n : ℕ) (j : Column) (y : Layout) (ks c : Column) → IsAsLong n (Indexed j y)
    → AreKeptOf n (Indexed j y) ks
    → c ≡ lane_of I64 (size_of ks) (λ q. at j (place_at ks q)) → IsIndex c (len y)
there_index n j y ks c l h e = subst (λ w. IsIndex w (len y)) (sym e) (record {
  kind = tt;
  places = λ q a.
      let b : q < size_of ks =
      omega (arith, size-lane_of I64 (size_of ks) (λ w. at j (place_at ks w)), a) in
      let z : at (lane_of I64 (size_of ks) (λ w. at j (place_at ks w))) q ≡ at j (place_at ks q) =
      at-lane_of I64 (size_of ks) (λ w. at j (place_at ks w)) q b in
      let s = some-place (at j (place_at ks q)) (h q b).1 in
      rw z (
        s.0,
        place-below (at j (place_at ks q)) (len y) s.0
            (l.1.below (place_at ks q) (omega (arith, (h q b).0, l.0))),
      );
})

pub taken_indexed : (n : ℕ) (j : Column) (y r : Layout) (ks c : Column)
    → AreKeptOf n (Indexed j y) ks
    → c ≡ lane_of I64 (size_of ks) (λ q. at j (place_at ks q)) → IsGathered y c r
    → IsTaken (Indexed j y) ks r
taken_indexed n j y r ks c h e g =
    let f : ℕ → ℤ = λ w. at j (place_at ks w) in
    let s : size_of c ≡ size_of ks = ap size_of e ∙ size-lane_of I64 (size_of ks) f in
    record {
      size = g.size ∙ s;
      typ = g.typ;
      items = λ q a.
          let b : q < size_of c = omega (arith, s, a) in
          let z : at c q ≡ at j (place_at ks q) =
          ap (λ w. at w q) e ∙ at-lane_of I64 (size_of ks) f q a in
          g.each q b ∙ ap (λ w. array_item y (nat_of w)) z
          ∙ sym (ap (λ o. at_option o (array_item y))
          (some-place (at j (place_at ks q)) (h q a).1).1);
    }

-- ---- all operands

rows-there : (n i : ℕ) (xs : List Layout) (ps : List Presence) → i < n → ArePresences n xs ps
    → is_whole (row_at xs i) ≡ are_there ps i
rows-there n i [] [] h e = refl
rows-there n i (x ∷ xs) (p ∷ ps) h e =
    ap (λ b. b && is_whole (row_at xs i)) (presence-there n i x p h e.0)
    ∙ ap (λ b. is_there i p && b) (rows-there n i xs ps h e.1)
rows-there n i [] (p ∷ ps) h e = absurd e
rows-there n i (x ∷ xs) [] h e = absurd e

rows-taken : (n q : ℕ) (xs : List Layout) (ps : List Presence) (ks : Column) (zs : List Layout)
    → q < size_of ks → place_at ks q < n → ArePresences n xs ps → AreTaken ps ks zs
    → row_at zs q ≡ row_at xs (place_at ks q)
rows-taken n q [] [] ks [] h l e t = refl
rows-taken n q (x ∷ xs) (p ∷ ps) ks (z ∷ zs) h l e t =
    ap (λ v. v ∷ row_at zs q) (t.0.items q h ∙ presence-item n (place_at ks q) x p l e.0)
    ∙ ap (λ vs. array_item x (place_at ks q) ∷ vs) (rows-taken n q xs ps ks zs h l e.1 t.1)
rows-taken n q [] [] ks (z ∷ zs) h l e t = absurd t
rows-taken n q [] (p ∷ ps) ks zs h l e t = absurd e
rows-taken n q (x ∷ xs) [] ks zs h l e t = absurd e
rows-taken n q (x ∷ xs) (p ∷ ps) ks [] h l e t = absurd t

types-taken : (n : ℕ) (xs : List Layout) (ps : List Presence) (ks : Column) (zs : List Layout)
    → ArePresences n xs ps → AreTaken ps ks zs
    → map array_type zs ≡ map present (map array_type xs)
types-taken n [] [] ks [] e t = refl
types-taken n (x ∷ xs) (p ∷ ps) ks (z ∷ zs) e t =
    ap (λ u. u ∷ map array_type zs) (t.0.typ ∙ presence-type n x p e.0)
    ∙ ap (λ us. present (array_type x) ∷ us) (types-taken n xs ps ks zs e.1 t.1)
types-taken n [] [] ks (z ∷ zs) e t = absurd t
types-taken n [] (p ∷ ps) ks zs e t = absurd e
types-taken n (x ∷ xs) [] ks zs e t = absurd e
types-taken n (x ∷ xs) (p ∷ ps) ks [] e t = absurd t

bare-taken : (n : ℕ) (xs : List Layout) (ps : List Presence) (ks : Column) (zs : List Layout)
    → ArePresences n xs ps → AreTaken ps ks zs → some_option (map array_type zs) ≡ false
bare-taken n [] [] ks [] e t = refl
bare-taken n (x ∷ xs) (p ∷ ps) ks (z ∷ zs) e t =
    let f : is_option (array_type z) ≡ false =
    ap is_option t.0.typ ∙ presence-bare n x p e.0 in
    rw f (bare-taken n xs ps ks zs e.1 t.1)
bare-taken n [] [] ks (z ∷ zs) e t = absurd t
bare-taken n [] (p ∷ ps) ks zs e t = absurd e
bare-taken n (x ∷ xs) [] ks zs e t = absurd e
bare-taken n (x ∷ xs) (p ∷ ps) ks [] e t = absurd t

long-taken : (m : ℕ) (ps : List Presence) (ks : Column) (zs : List Layout) → size_of ks ≡ m
    → AreTaken ps ks zs → AreLong m zs
long-taken m [] ks [] s t = tt
long-taken m (p ∷ ps) ks (z ∷ zs) s t = (t.0.size ∙ s, long-taken m ps ks zs s t.1)
long-taken m [] ks (z ∷ zs) s t = absurd t
long-taken m (p ∷ ps) ks [] s t = absurd t

pub presences_long : (n : ℕ) (xs : List Layout) (ps : List Presence) → ArePresences n xs ps
    → AreAsLong n ps
presences_long n [] [] e = tt
presences_long n (x ∷ xs) (p ∷ ps) e = (presence-long n x p e.0, presences_long n xs ps e.1)
presences_long n [] (p ∷ ps) e = absurd e
presences_long n (x ∷ xs) [] e = absurd e

-- ---- one operand after another

presence_append : (n : ℕ) (xs : List Layout) (ps : List Presence) (x : Layout) (p : Presence)
    → ArePresences n xs ps → IsPresence n x p → ArePresences n (xs ++ x ∷ []) (ps ++ p ∷ [])
presence_append n [] [] x p h g = (g, tt)
presence_append n (y ∷ xs) (q ∷ ps) x p h g = (h.0, presence_append n xs ps x p h.1 g)
presence_append n [] (q ∷ ps) x p h g = absurd h
presence_append n (y ∷ xs) [] x p h g = absurd h

pub presence_push : (n : ℕ) (xs : List Layout) (ps qs : List Presence) (i : ℕ) (x : Layout)
    (p : Presence) → slice_get xs i ≡ Some x → qs ≡ ps ++ p ∷ [] → ArePresences n (take i xs) ps
    → IsPresence n x p → ArePresences n (take (i + 1) xs) qs
presence_push n xs ps qs i x p e f h g =
    subst (λ w. ArePresences n (take (i + 1) xs) w) (sym f)
    (subst (λ w. ArePresences n w (ps ++ p ∷ [])) (sym (take-get xs i x e))
    (presence_append n (take i xs) ps x p h g))

pub presence_all : (n : ℕ) (xs : List Layout) (ps : List Presence) (i : ℕ) → length xs ≤ i
    → ArePresences n (take i xs) ps → ArePresences n xs ps
presence_all n xs ps i l h = subst (λ w. ArePresences n w ps) (take_all i xs l) h

taken_append : (ks : Column) (ps : List Presence) (zs : List Layout) (p : Presence) (z : Layout)
    → AreTaken ps ks zs → IsTaken p ks z → AreTaken (ps ++ p ∷ []) ks (zs ++ z ∷ [])
taken_append ks [] [] p z h g = (g, tt)
taken_append ks (q ∷ ps) (y ∷ zs) p z h g = (h.0, taken_append ks ps zs p z h.1 g)
taken_append ks [] (y ∷ zs) p z h g = absurd h
taken_append ks (q ∷ ps) [] p z h g = absurd h

pub taken_push : (ks : Column) (ps : List Presence) (zs ws : List Layout) (i : ℕ) (p : Presence)
    (z : Layout) → slice_get ps i ≡ Some p → ws ≡ zs ++ z ∷ [] → AreTaken (take i ps) ks zs
    → IsTaken p ks z → AreTaken (take (i + 1) ps) ks ws
taken_push ks ps zs ws i p z e f h g =
    subst (λ w. AreTaken (take (i + 1) ps) ks w) (sym f)
    (subst (λ w. AreTaken w ks (zs ++ z ∷ [])) (sym (take-get ps i p e))
    (taken_append ks (take i ps) zs p z h g))

pub taken_end : (ks : Column) (ps : List Presence) (zs : List Layout) (i : ℕ) → length ps ≤ i
    → AreTaken (take i ps) ks zs → AreTaken ps ks zs
taken_end ks ps zs i l h = subst (λ w. AreTaken w ks zs) (take_all i ps l) h

pub as_long_get : (n : ℕ) (ps : List Presence) (i : ℕ) (p : Presence) → slice_get ps i ≡ Some p
    → AreAsLong n (drop i ps) → IsAsLong n p × AreAsLong n (drop (i + 1) ps)
as_long_get n ps i p e h = subst (AreAsLong n) (drop-get ps i p e) h

pub kept_get : (n : ℕ) (ks : Column) (ps : List Presence) (i : ℕ) (p : Presence)
    → slice_get ps i ≡ Some p → AllKeptOf n (drop i ps) ks
    → AreKeptOf n p ks × AllKeptOf n (drop (i + 1) ps) ks
kept_get n ks ps i p e h = subst (λ qs. AllKeptOf n qs ks) (drop-get ps i p e) h

-- ---- whether all are there

and-twice : (a b c : Bool) → ((a && b) && c) ≡ (a && (b && c))
and-twice true b c = refl
and-twice false b c = refl

and-true : (a : Bool) → (a && true) ≡ a
and-true true = refl
and-true false = refl

pub there_more : (f : Presence → Bool) (ps : List Presence) (i : ℕ) (p : Presence) (a d b : Bool)
    → slice_get ps i ≡ Some p → d ≡ f p → (a && list_all f (drop i ps)) ≡ b
    → ((a && d) && list_all f (drop (i + 1) ps)) ≡ b
there_more f ps i p a d b g e h =
    and-twice a d (list_all f (drop (i + 1) ps))
    ∙ ap (λ c. a && (c && list_all f (drop (i + 1) ps))) e
    ∙ sym (ap (λ qs. a && list_all f qs) (drop-get ps i p g)) ∙ h

pub there_end : (f : Presence → Bool) (ps : List Presence) (i : ℕ) (a b : Bool) → length ps ≤ i
    → (a && list_all f (drop i ps)) ≡ b → a ≡ b
there_end f ps i a b l h =
    sym (and-true a) ∙ sym (ap (λ qs. a && list_all f qs) (drop_all i ps l)) ∙ h

-- ---- the rows that are kept

abbrev one_if : Bool → ℕ
one_if b = if b then 1 else 0

one-few : (b : Bool) → one_if b ≤ 1
one-few true = omega arith
one-few false = omega arith

one-true : (b : Bool) (k : ℕ) → k < one_if b → b ≡ true
one-true true k h = refl
one-true false k h = absurd (omega (arith, h))

pub kept_few : (ps : List Presence) (n : ℕ) → before (kept_length ps) n ≤ n
kept_few ps zero = omega arith
kept_few ps (suc n) = omega (arith, kept_few ps n, one-few (are_there ps n))

-- a row and a place in it
record Found (m : ℕ → ℕ) (n q : ℕ) : Type 0 where
  pub row : ℕ
  pub place : ℕ
  pub row_within : row < n
  pub place_within : place < m row
  pub is_at : q ≡ before m row + place

find : (m : ℕ → ℕ) (n q : ℕ) → q < before m n → Found m n q
find m zero q h = absurd (omega (arith, h))
find m (suc n) q h = step (nat_lt q (before m n)) refl (find m n q)
  where
    step : (b : Bool) → nat_lt q (before m n) ≡ b → (q < before m n → Found m n q)
        → Found m (suc n) q
    step true e earlier =
        let l : q < before m n = grind (arith, e) in
        let f : Found m n q = earlier l in
        record {
          row = f.row;
          place = f.place;
          row_within = omega (arith, f.row_within);
          place_within = f.place_within;
          is_at = f.is_at;
        }
    step false e earlier =
        let g : before m n ≤ q = grind (arith, e) in
        record {
          row = n;
          place = q - before m n;
          row_within = omega arith;
          place_within = omega (arith, g, h);
          is_at = omega (arith, g);
        }

-- each place is one of a row that is kept
kept-at : (ps : List Presence) (n q : ℕ) → q < size_of (places_of (kept_length ps) n)
    → (place_at (places_of (kept_length ps) n) q < n)
    × (are_there ps (place_at (places_of (kept_length ps) n) q) ≡ true)
kept-at ps n q h =
    let m = kept_length ps in
    let f : Found m n q = find m n q (omega (arith, size-places_of m n, h)) in
    let e : place_at (places_of m n) q ≡ f.row =
    ap (place_at (places_of m n)) f.is_at
    ∙ place-places_of m n f.row f.place f.row_within f.place_within in
    rw e (f.row_within, one-true (are_there ps f.row) f.place f.place_within)

all-there : (n : ℕ) (ks : Column) (ps : List Presence)
    → ((q : ℕ) → q < size_of ks → (place_at ks q < n) × (are_there ps (place_at ks q) ≡ true))
    → AllKeptOf n ps ks
all-there n ks [] h = tt
all-there n ks (p ∷ ps) h = (
  (λ q a. (
    (h q a).0,
    (and_parts (is_there (place_at ks q) p) (are_there ps (place_at ks q))
        (h q a).1).0,
  )),
  all-there n ks ps (λ q a. (
    (h q a).0,
    (and_parts (is_there (place_at ks q) p)
        (are_there ps (place_at ks q)) (h q a).1).1,
  )),
)

pub all_kept : (n : ℕ) (ps : List Presence) (ks : Column) → ks ≡ places_of (kept_length ps) n
    → AllKeptOf n ps ks
all_kept n ps ks e =
    subst (AllKeptOf n ps) (sym e)
    (all-there n (places_of (kept_length ps) n) ps (λ q a. kept-at ps n q a))

pub kept_positive : (n : ℕ) (ps : List Presence) (ks : Column)
    → ks ≡ places_of (kept_length ps) n → (q : ℕ) → q < size_of ks → pos 0 ≤ℤ at ks q
kept_positive n ps ks e =
    subst (λ w. (q : ℕ) → q < size_of w → pos 0 ≤ℤ at w q) (sym e)
    (λ q a. ((repeats_index (kept_length ps) n).places q a).0)

-- ---- the index

-- counting up where a row is kept, else -1
abbrev pub count_at : List Presence → ℕ → ℤ
count_at ps i = if are_there ps i then pos (before (kept_length ps) i) else negsuc 0

abbrev count_by : (ℕ → Bool) → ℕ → ℕ
count_by w i = before (λ j. one_if (w j)) i

abbrev index_by : (ℕ → Bool) → ℕ → ℤ
index_by w i = if w i then pos (count_by w i) else negsuc 0

flags-from : (w : ℕ → Bool) (a k : ℕ)
    → flags_index (count_by w a) (map w (range_with_len a k))
    ≡ map (index_by w) (range_with_len a k)
flags-from w a zero = refl
flags-from w a (suc k) = step (w a) refl (flags-from w (a + 1) k)
  where
    next : count_by w (a + 1) ≡ count_by w a + one_if (w a)
    next = let f : a + 1 ≡ suc a = omega arith in ap (count_by w) f

    step : (b : Bool) → w a ≡ b
        → flags_index (count_by w (a + 1)) (map w (range_with_len (a + 1) k))
        ≡ map (index_by w) (range_with_len (a + 1) k)
        → flags_index (count_by w a) (w a ∷ map w (range_with_len (a + 1) k))
        ≡ (if w a then pos (count_by w a) else negsuc 0)
        ∷ map (index_by w) (range_with_len (a + 1) k)
    step true e later =
        let o : one_if (w a) ≡ 1 = rw e refl in
        let f : count_by w (a + 1) ≡ suc (count_by w a) = omega (arith, next, o) in
        rw e (ap (λ zs. pos (count_by w a) ∷ zs)
        (ap (λ c. flags_index c (map w (range_with_len (a + 1) k))) (sym f) ∙ later))
    step false e later =
        let o : one_if (w a) ≡ 0 = rw e refl in
        let f : count_by w (a + 1) ≡ count_by w a = omega (arith, next, o) in
        rw e (ap (λ zs. negsuc 0 ∷ zs)
        (ap (λ c. flags_index c (map w (range_with_len (a + 1) k))) (sym f) ∙ later))

index-is : (n : ℕ) (xs : List Layout) (ps : List Presence) → ArePresences n xs ps
    → lane_of I64 n (count_at ps)
    ≡ record { kind = I64; items = flags_index 0 (map is_whole (rows_at xs n)) }
index-is n xs ps e =
    ap (λ zs. record { kind = I64; items = zs })
    (sym (ap (flags_index 0)
    (map-map is_whole (row_at xs) (range_with_len 0 n)
    ∙ map-in (λ i. is_whole (row_at xs i)) (are_there ps) 0 n
    (λ i h. rows-there n i xs ps (omega arith) e))
    ∙ flags-from (are_there ps) 0 n))

-- ---- the rows

rows-kept : {A : Type 0} (p : A → Bool) (f : ℕ → A) (w : ℕ → Bool) (a n : ℕ)
    → ((i : ℕ) → i < a + n → p (f i) ≡ w i)
    → flat_map (λ i. map (λ k. f i) (range_with_len 0 (one_if (w i)))) (range_with_len a n)
    ≡ filter p (map f (range_with_len a n))
rows-kept p f w a zero h = refl
rows-kept {A} p f w a (suc n) h = step (w a) (h a (omega arith))
    (rows-kept p f w (a + 1) n (λ i l. h i (omega arith)))
  where
    step : (b : Bool) → p (f a) ≡ b
        → flat_map (λ i. map (λ k. f i) (range_with_len 0 (one_if (w i))))
        (range_with_len (a + 1) n)
        ≡ filter p (map f (range_with_len (a + 1) n))
        → map (λ k. f a) (range_with_len 0 (one_if b))
        ++ flat_map (λ i. map (λ k. f i) (range_with_len 0 (one_if (w i))))
        (range_with_len (a + 1) n)
        ≡ cond (p (f a)) (f a ∷ filter p (map f (range_with_len (a + 1) n)))
        (filter p (map f (range_with_len (a + 1) n)))
    step true e g = rw e (ap (λ ys. f a ∷ ys) g)
    step false e g = rw e g

rows-are : (n : ℕ) (xs : List Layout) (ps : List Presence) (zs : List Layout)
    → ArePresences n xs ps → AreTaken ps (places_of (kept_length ps) n) zs
    → rows_at zs (before (kept_length ps) n) ≡ filter is_whole (rows_at xs n)
rows-are n xs ps zs e t =
    let m = kept_length ps in
    pieces (row_at zs) m n
    ∙ flat-in (λ i. map (λ k. row_at zs (before m i + k)) (range_with_len 0 (m i)))
    (λ i. map (λ k. row_at xs i) (range_with_len 0 (m i))) 0 n
    (λ i h. map-in (λ k. row_at zs (before m i + k)) (λ k. row_at xs i) 0 (m i)
    (λ k l. one-row i k (omega arith) (omega arith)))
    ∙ rows-kept is_whole (row_at xs) (are_there ps) 0 n
    (λ i h. rows-there n i xs ps (omega arith) e)
  where
    one-row : (i k : ℕ) → i < n → k < kept_length ps i
        → row_at zs (before (kept_length ps) i + k) ≡ row_at xs i
    one-row i k h l =
        let m = kept_length ps in
        let f : place_at (places_of m n) (before m i + k) ≡ i = place-places_of m n i k h l in
        let q : before m i + k < size_of (places_of m n) =
        omega (arith, size-places_of m n, before-room m n i k h l) in
        rows-taken n (before m i + k) xs ps (places_of m n) zs q (rw f h) e t
        ∙ ap (row_at xs) f

-- the rows without nulls
pub present_are : (n m : ℕ) (xs : List Layout) (ps : List Presence) (j ks : Column)
    (zs : List Layout) → ArePresences n xs ps → m ≡ before (kept_length ps) n
    → j ≡ lane_of I64 n (count_at ps) → ks ≡ places_of (kept_length ps) n → AreTaken ps ks zs
    → ArePresent n xs j m zs
present_are n m xs ps j ks zs e c i k t =
    let s : size_of ks ≡ m = ap size_of k ∙ size-places_of (kept_length ps) n ∙ sym c in
    record {
      index = i ∙ index-is n xs ps e;
      few = omega (arith, c, kept_few ps n);
      types = types-taken n xs ps ks zs e t;
      bare = bare-taken n xs ps ks zs e t;
      long = long-taken m ps ks zs s t;
      rows = ap (rows_at zs) c ∙ rows-are n xs ps zs e (subst (λ w. AreTaken ps w zs) k t);
    }
