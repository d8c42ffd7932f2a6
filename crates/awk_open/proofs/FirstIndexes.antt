-- The index of all items of a node is its first option or index.
use Rattle.std.proofs.Common.{◌≡◌, ℕ, ◌<◌, map, arith, refl, ap, sym, ◌∙◌, subst}
use Rattle.std.specs.Prelude.{ℤ, pos, Bool}
use Rattle.std.specs.List.{range_with_len}
use Rattle.std.proofs.lemmas.List.{ext_get_or}
use Rattle.std.proofs.lemmas.List.FromFn.{length-map-range_with_len, get_or-map-range_with_len}
use Rattle.awk_lanes.specs.declared.kind.Kind.{Kind}
use Rattle.awk_lanes.specs.declared.kind.Kind.TheVariants.{I64}
use Rattle.awk_lanes.specs.Column.{Column}
use Rattle.awk_lanes.specs.Places.{at, size_of, option_place, option_place_at, IsOptionalIndex}
use Rattle.awk_lanes.specs.Made.{lane_of}
use Rattle.awk_lanes.proofs.MadeLanes.{size-lane_of, at-lane_of}
use Rattle.awk_layout.specs.Layout.{Layout, indexed, optional, byte_masked}
use Rattle.awk_layout.specs.Valid.{len, IsValid}
use Rattle.awk_gather.specs.Peeled.{through, followed, byte_index, IsPeeled}
use Rattle.awk_gather.proofs.GatheredArrays.{at-I64}
use Rattle.awk_gather.proofs.PeeledNodes.{follow_optional, follow_indexed, follow_byte_masked}
use Rattle.awk_gather.proofs.PeeledNodes.{peel_optional, peel_indexed, peel_byte_masked}
use Rattle.awk_open.proofs.OpenedArrays.{all_optional}

column_of : (k : Kind) (c : Column) → c.kind ≡ k → c ≡ record { kind = k; items = c.items }
column_of k c e = ap (λ q. record { kind = q; items = c.items }) e

-- the numbers of a lane of 64 bits by their places
pub wide_itself : (c : Column) → c.kind ≡ I64 → c ≡ lane_of I64 (size_of c) (at c)
wide_itself c e =
    column_of I64 c e ∙ ap (λ zs. record { kind = I64; items = zs })
    (sym (ext_get_or (pos 0) (map (at c) (range_with_len 0 (size_of c))) c.items
    (length-map-range_with_len (at c) 0 (size_of c))
    (λ i l.
    let n = length-map-range_with_len (at c) 0 (size_of c) in
    let l' : i < size_of c = omega (arith, n) in
    get_or-map-range_with_len (at c) 0 (size_of c) i i (pos 0) l' (omega arith) ∙ at-I64 c i e)))

pub ruleset wide = (wide_itself)

-- all places, followed, are what they are followed into
pub followed-firsts : (f : ℕ → ℤ) (n : ℕ)
    → followed f (lane_of I64 n (λ i. pos i)) ≡ lane_of I64 n f
followed-firsts f n =
    let p : Column = lane_of I64 n (λ i. pos i) in
    let g : ℕ → ℤ = λ j. through f (option_place_at p j) in
    let s : size_of p ≡ n = size-lane_of I64 n (λ i. pos i) in
    ap (λ zs. record { kind = I64; items = zs })
    (ext_get_or (pos 0) (map g (range_with_len 0 (size_of p))) (map f (range_with_len 0 n))
    (length-map-range_with_len g 0 (size_of p) ∙ s ∙ sym (length-map-range_with_len f 0 n))
    (λ j l.
    let l' : j < size_of p = omega (arith, length-map-range_with_len g 0 (size_of p)) in
    let l'' : j < n = omega (arith, s) in
    get_or-map-range_with_len g 0 (size_of p) j j (pos 0) l' (omega arith)
    ∙ ap (λ z. through f (option_place z)) (at-lane_of I64 n (λ i. pos i) j l'')
    ∙ sym (get_or-map-range_with_len f 0 n j j (pos 0) l'' (omega arith))))

-- the places of all items of a node
abbrev pub all_of : Layout → Column
all_of x = lane_of I64 (len x) (λ i. pos i)

-- as many numbers as a node has items, by their places
abbrev pub whole_of : Column → (ℕ → ℤ) → Column
whole_of c f = lane_of I64 (size_of c) f

all_followed : (f : ℕ → ℤ) (c : Column) (x : Layout) → len x ≡ size_of c
    → followed f (all_of x) ≡ whole_of c f
all_followed f c x e = followed-firsts f (len x) ∙ ap (λ n. lane_of I64 n f) e

all_places : (x : Layout) → IsOptionalIndex (all_of x) (len x)
all_places x = all_optional (len x) (all_of x) refl

-- an option by an index
pub optional_index : (c : Column) (x y : Layout) → optional c y ≡ x → IsValid x
    → IsOptionalIndex (whole_of c (at c)) (len y)
optional_index c x y e v =
    subst (λ q. IsOptionalIndex q (len y)) (all_followed (at c) c x (ap len (sym e)))
    (follow_optional c (all_of x) x y e v (all_places x)).0

pub optional_peeled : (c k : Column) (x y z : Layout) → optional c y ≡ x
    → IsPeeled y (whole_of c (at c)) k z → IsPeeled x (all_of x) k z
optional_peeled c k x y z e h =
    peel_optional c (all_of x) k x y z e (all_places x)
    (subst (λ q. IsPeeled y q k z) (sym (all_followed (at c) c x (ap len (sym e)))) h)

-- an index
pub indexed_index : (c : Column) (x y : Layout) → indexed c y ≡ x → IsValid x
    → IsOptionalIndex (whole_of c (at c)) (len y)
indexed_index c x y e v =
    subst (λ q. IsOptionalIndex q (len y)) (all_followed (at c) c x (ap len (sym e)))
    (follow_indexed c (all_of x) x y e v (all_places x)).0

pub indexed_peeled : (c k : Column) (x y z : Layout) → indexed c y ≡ x → IsValid x
    → IsPeeled y (whole_of c (at c)) k z → IsPeeled x (all_of x) k z
indexed_peeled c k x y z e v h =
    peel_indexed c (all_of x) k x y z e v (all_places x)
    (subst (λ q. IsPeeled y q k z) (sym (all_followed (at c) c x (ap len (sym e)))) h)

-- a mask of bytes
pub masked_index : (m : Column) (b : Bool) (x y : Layout) → byte_masked m b y ≡ x → IsValid x
    → IsOptionalIndex (whole_of m (byte_index m b)) (len y)
masked_index m b x y e v =
    subst (λ q. IsOptionalIndex q (len y)) (all_followed (byte_index m b) m x (ap len (sym e)))
    (follow_byte_masked m b (all_of x) x y e v (all_places x)).0

pub masked_peeled : (m : Column) (b : Bool) (k : Column) (x y z : Layout)
    → byte_masked m b y ≡ x → IsPeeled y (whole_of m (byte_index m b)) k z
    → IsPeeled x (all_of x) k z
masked_peeled m b k x y z e h =
    peel_byte_masked m b (all_of x) k x y z e (all_places x)
    (subst (λ q. IsPeeled y q k z) (sym (all_followed (byte_index m b) m x (ap len (sym e)))) h)

-- the same of the array whose node it is
pub same_peeled : (w x : Layout) (k : Column) (y : Layout) → w ≡ x → IsPeeled w (all_of w) k y
    → IsPeeled x (all_of x) k y
same_peeled w x k y e h = subst (λ q. IsPeeled q (all_of q) k y) e h
