-- What a mask chooses of groups of bytes, and of the numbers that they are.
use Rattle.std.proofs.Common.{◌≡◌, ℕ, zero, suc, ◌+◌, ◌*◌, ◌/◌, ◌==◌, ◌<◌, ◌≤◌, Bool, true, false}
use Rattle.std.proofs.Common.{refl, ap, ap₂, sym, subst, ◌∙◌, arith, length-take, length-drop}
use Rattle.std.specs.Prelude.{List, [], ◌∷◌, ◌++◌, map, length, get_or, drop, cond}
use Rattle.std.specs.List.{AllByRecursion, flat_map, range_with_len}
use Rattle.std.specs.Simd.{first_chunks}
use Rattle.std.proofs.lemmas.List.{length-map, take_at, drop_at}
use Rattle.std.proofs.lemmas.List.FromFn.{fill_by_all, map-range_with_len_more}
use Rattle.std.proofs.Math.Nat.{mul-div_left, div-mul-le_self}
use Rattle.awk_lanes.specs.Column.{Column}
use Rattle.awk_lanes.specs.Numbers.{width, number, numbers}
use Rattle.awk_lanes.specs.Places.{size_of}
use Rattle.awk_lanes.specs.declared.kind.Kind.{Kind}
use Rattle.awk_lanes.proofs.NumberParts.{number-take, map-number_all}
use Rattle.awk_kernels.specs.Kernels.{chosen}
use Rattle.awk_lane_pairs.specs.Groups.{chosen_item, chosen_items}

-- ---- what a mask chooses

pub map-chosen : {A B : Type 0} (f : A → B) (ms : List ℕ) (xs ys : List A)
    → map f (chosen ms xs ys) ≡ chosen ms (map f xs) (map f ys)
map-chosen f [] xs ys = refl
map-chosen f (m ∷ ms) [] ys = refl
map-chosen f (m ∷ ms) (x ∷ xs) [] = refl
map-chosen f (m ∷ ms) (x ∷ xs) (y ∷ ys) =
    ap₂ (λ z zs. z ∷ zs) (one (m == 0)) (map-chosen f ms xs ys)
  where
    one : (b : Bool) → f (cond b y x) ≡ cond b (f y) (f x)
    one true = refl
    one false = refl

pub all-chosen : {A : Type 0} (P : A → Type 0) (ms : List ℕ) (xs ys : List A) → AllByRecursion P xs
    → AllByRecursion P ys → AllByRecursion P (chosen ms xs ys)
all-chosen P [] xs ys a b = tt
all-chosen P (m ∷ ms) [] ys a b = tt
all-chosen P (m ∷ ms) (x ∷ xs) [] a b = tt
all-chosen P (m ∷ ms) (x ∷ xs) (y ∷ ys) a b = (one (m == 0), all-chosen P ms xs ys a.1 b.1)
  where
    one : (c : Bool) → P (cond c y x)
    one true = b.0
    one false = a.0

-- ---- by place

-- one item more
pub item_pushed : {A : Type 0} (f : ℕ → A) (i : ℕ) (x : A) (old new : List A) → new ≡ old ++ x ∷ []
    → x ≡ f i → old ≡ map f (range_with_len 0 i) → new ≡ map f (range_with_len 0 (i + 1))
item_pushed f i x old new e g h =
    rw (e, h, g) (sym (map-range_with_len_more f 0 i i (omega arith)))

length-chosen : {A : Type 0} (ms : List ℕ) (xs ys : List A) → length xs ≡ length ms
    → length ys ≡ length ms → length (chosen ms xs ys) ≡ length ms
length-chosen [] xs ys a b = refl
length-chosen (m ∷ ms) [] ys a b = absurd (omega (arith, a))
length-chosen (m ∷ ms) (x ∷ xs) [] a b = absurd (omega (arith, b))
length-chosen (m ∷ ms) (x ∷ xs) (y ∷ ys) a b =
    ap suc (length-chosen ms xs ys (omega (arith, a)) (omega (arith, b)))

chosen-place : {A : Type 0} (ms : List ℕ) (xs ys : List A) (d : A) (i : ℕ)
    → length xs ≡ length ms → length ys ≡ length ms → i < length ms
    → get_or (chosen ms xs ys) i d ≡ chosen_item ms xs ys d i
chosen-place [] xs ys d i a b l = absurd (omega (arith, l))
chosen-place (m ∷ ms) [] ys d i a b l = absurd (omega (arith, a))
chosen-place (m ∷ ms) (x ∷ xs) [] d i a b l = absurd (omega (arith, b))
chosen-place (m ∷ ms) (x ∷ xs) (y ∷ ys) d zero a b l = refl
chosen-place (m ∷ ms) (x ∷ xs) (y ∷ ys) d (suc i) a b l =
    chosen-place ms xs ys d i (omega (arith, a)) (omega (arith, b)) (omega (arith, l))

-- what is chosen, place by place
pub chosen_all : (ms : List ℕ) (xs ys : List (List ℕ)) → length xs ≡ length ms
    → length ys ≡ length ms → chosen_items ms xs ys ≡ chosen ms xs ys
chosen_all ms xs ys a b =
    sym (fill_by_all (chosen_item ms xs ys []) (chosen ms xs ys) (length ms) []
    (length-chosen ms xs ys a b) (λ i l. chosen-place ms xs ys [] i a b l))

-- ---- groups as numbers

abbrev IsWide : Kind → List ℕ → Type 0
IsWide k g = length g ≡ width k

-- the numbers of groups that are joined
numbers-joined : (k : Kind) (gs : List (List ℕ)) → AllByRecursion (IsWide k) gs
    → numbers k (length gs) (flat_map (λ g. g) gs) ≡ map (number k) gs
numbers-joined k [] h = refl
numbers-joined k (g ∷ gs) h =
    let w : ℕ = width k in
    let rest : List ℕ = flat_map (λ g. g) gs in
    ap₂ (λ z zs. z ∷ zs)
    (sym (number-take k w (g ++ rest) (omega arith)) ∙ ap (number k) (take_at g rest w h.0))
    (ap (numbers k (length gs)) (drop_at g rest w h.0) ∙ numbers-joined k gs h.1)

chunks_wide : (k : Kind) (n : ℕ) (b : List ℕ) → n * width k ≤ length b
    → AllByRecursion (IsWide k) (first_chunks (width k) n b)
chunks_wide k zero b h = tt
chunks_wide k (suc n) b h =
    let w : ℕ = width k in
    let e : suc n * w ≡ w + n * w = omega arith in (
      omega (arith, e, h, length-take w b),
      chunks_wide k n (drop w b) (omega (arith, e, h, length-drop w b)),
    )

abbrev pub groups_in : ℕ → List ℕ → List (List ℕ)
groups_in w b = first_chunks w (length b / w) b

lane_groups : (k : Kind) (c : Column) (b : List ℕ) → c.kind ≡ k
    → length b ≡ size_of c * width c.kind → numbers c.kind (size_of c) b ≡ c.items
    → map (number k) (groups_in (width k) b) ≡ c.items
lane_groups k c b e size same =
    map-number_all k (size_of c) b c.items
    (subst (λ k. length b ≡ size_of c * width k) e size)
    (subst (λ k. numbers k (size_of c) b ≡ c.items) e same)

-- there are as many groups as numbers
length-groups : (w : ℕ) (c : Column) (b : List ℕ) → width c.kind ≡ w
    → length b ≡ size_of c * width c.kind → numbers c.kind (size_of c) b ≡ c.items
    → length (groups_in w b) ≡ size_of c
length-groups w c b wide size same =
    ap (λ w. length (groups_in w b)) (sym wide)
    ∙ sym (length-map (groups_in (width c.kind) b) (number c.kind))
    ∙ ap length (lane_groups c.kind c b refl size same)

-- the groups that a lane's bytes are parted into
pub chunks_long : (w : ℕ) (c : Column) (b : List ℕ) (gs : List (List ℕ)) → gs ≡ groups_in w b
    → width c.kind ≡ w → length b ≡ size_of c * width c.kind
    → numbers c.kind (size_of c) b ≡ c.items → length gs ≡ size_of c
chunks_long w c b gs e wide size same = ap length e ∙ length-groups w c b wide size same

-- their numbers are those of the lane
pub chunks_numbers : (w : ℕ) (k : Kind) (c : Column) (b : List ℕ) (gs : List (List ℕ))
    → gs ≡ groups_in w b → c.kind ≡ k → width k ≡ w → length b ≡ size_of c * width c.kind
    → numbers c.kind (size_of c) b ≡ c.items → map (number k) gs ≡ c.items
chunks_numbers w k c b gs e same-kind wide size same =
    ap (map (number k)) (e ∙ ap (λ w. groups_in w b) (sym wide))
    ∙ lane_groups k c b same-kind size same

module _ (x y : Column) (ms a b : List ℕ) (kinds : y.kind ≡ x.kind)
    (a-size : length a ≡ size_of x * width x.kind) (a-same : numbers x.kind (size_of x) a ≡ x.items)
    (b-size : length b ≡ size_of y * width y.kind) (b-same : numbers y.kind (size_of y) b ≡ y.items)
  where
    abbrev Chosen : ℕ → List (List ℕ)
    Chosen w = chosen ms (groups_in w a) (groups_in w b)

    wide : AllByRecursion (IsWide x.kind) (Chosen (width x.kind))
    wide =
        all-chosen (IsWide x.kind) ms (groups_in (width x.kind) a) (groups_in (width x.kind) b)
        (chunks_wide x.kind (length a / width x.kind) a (div-mul-le_self (length a) (width x.kind)))
        (chunks_wide x.kind (length b / width x.kind) b (div-mul-le_self (length b) (width x.kind)))

    own : (gs : List (List ℕ)) (flat : List ℕ) → 0 < width x.kind → gs ≡ Chosen (width x.kind)
        → flat ≡ flat_map (λ g. g) gs → length flat ≡ length gs * width x.kind
        → numbers x.kind (length flat / width x.kind) flat ≡ chosen ms x.items y.items
    own gs flat some e f n =
        let count : length flat / width x.kind ≡ length gs =
        ap (λ m. m / width x.kind) n ∙ mul-div_left (length gs) some in
        ap₂ (numbers x.kind) count f
        ∙ numbers-joined x.kind gs (subst (AllByRecursion (IsWide x.kind)) (sym e) wide)
        ∙ ap (map (number x.kind)) e
        ∙ map-chosen (number x.kind) ms (groups_in (width x.kind) a) (groups_in (width x.kind) b)
        ∙ ap₂ (chosen ms) (lane_groups x.kind x a refl a-size a-same)
        (lane_groups x.kind y b kinds b-size b-same)

    -- the numbers of the groups that are chosen are the numbers that are
    pub numbers-chosen : (w : ℕ) (gs : List (List ℕ)) (flat : List ℕ) → width x.kind ≡ w → 0 < w
        → gs ≡ Chosen w → flat ≡ flat_map (λ g. g) gs → length flat ≡ length gs * w
        → numbers x.kind (length flat / width x.kind) flat ≡ chosen ms x.items y.items
    numbers-chosen w gs flat e some g f n =
        own gs flat (subst (λ v. 0 < v) (sym e) some) (subst (λ v. gs ≡ Chosen v) (sym e) g) f
        (subst (λ v. length flat ≡ length gs * v) (sym e) n)
