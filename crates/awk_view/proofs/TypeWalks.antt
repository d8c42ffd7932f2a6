-- What goes through options and unions to their parts gives the same of a type and of its simple
-- type.
use Rattle.std.proofs.Common.{◌≡◌, Bool, true, false, ◌||◌, ◌&&◌, List, [], ◌∷◌, ◌++◌, map, refl}
use Rattle.std.proofs.Common.{ap, ap₂, ◌∙◌, sym}
use Rattle.std.proofs.lemmas.List.{map-append, append-nil}
use Rattle.std.proofs.lemmas.List.Folds.{list_any-append}
use Rattle.std.proofs.lemmas.Grind.{flat_map-append}
use Rattle.std.specs.List.{list_any, list_all, flat_map}
use Rattle.std.proofs.Math.Bool.{or-false, and-true}
use Rattle.awk_types.specs.DataType.{DataType, unknown, leaf, var, reg, rec, tup, opt, uni}
use Rattle.awk_types.specs.DataType.{types_from, type_list}
use Rattle.awk_types.specs.Simple.{present, option_if, is_option, alternatives}
use Rattle.awk_types.specs.Simple.{present_alternatives, option_of, union_of}
use Rattle.awk_types.proofs.SimpleLaws.{present_alternatives-union_of}
use Rattle.awk_types.proofs.Trees.{types_from-list}

-- ---- truth values

or_crossed : (a b c d : Bool) → ((a || b) || (c || d)) ≡ ((a || c) || (b || d))
or_crossed true b c d = refl
or_crossed false true true d = refl
or_crossed false true false d = refl
or_crossed false false c d = refl

and_grouped : (a b c : Bool) → ((a && b) && c) ≡ (a && (b && c))
and_grouped true b c = refl
and_grouped false b c = refl

list_all-append : {A : Type 0} (f : A → Bool) (xs ys : List A)
    → list_all f (xs ++ ys) ≡ (list_all f xs && list_all f ys)
list_all-append f [] ys = refl
list_all-append f (x ∷ xs) ys =
    ap (λ b. f x && b) (list_all-append f xs ys) ∙ sym
    (and_grouped (f x) (list_all f xs) (list_all f ys))

-- ---- a test of what lies in options and unions

all_alternatives : (f : DataType → Bool)
    → ((ts : List DataType) → f (uni (types_from ts)) ≡ list_all f ts) → (t : DataType)
    → list_all f (alternatives t) ≡ f t
all_alternatives f u (uni ts) =
    sym (ap (λ us. f (uni us)) (sym (types_from-list ts)) ∙ u (type_list ts))
all_alternatives f u unknown = and-true (f unknown)
all_alternatives f u (leaf p) = and-true (f (leaf p))
all_alternatives f u (var t) = and-true (f (var t))
all_alternatives f u (reg n t) = and-true (f (reg n t))
all_alternatives f u (rec ns ts) = and-true (f (rec ns ts))
all_alternatives f u (tup ts) = and-true (f (tup ts))
all_alternatives f u (opt t) = and-true (f (opt t))

test_present : (f : DataType → Bool) → ((t : DataType) → f (opt t) ≡ f t) → (t : DataType)
    → f (present t) ≡ f t
test_present f o (opt t) = sym (o t)
test_present f o t = refl

pub test-option_of : (f : DataType → Bool) → ((t : DataType) → f (opt t) ≡ f t) → (t : DataType)
    → f (option_of t) ≡ f t
test-option_of f o t = o (present t) ∙ test_present f o t

all_flat : (f : DataType → Bool) → ((t : DataType) → f (opt t) ≡ f t)
    → ((ts : List DataType) → f (uni (types_from ts)) ≡ list_all f ts) → (ts : List DataType)
    → list_all f (flat_map present_alternatives ts) ≡ list_all f ts
all_flat f o u [] = refl
all_flat f o u (t ∷ ts) =
    list_all-append f (present_alternatives t) (flat_map present_alternatives ts)
    ∙ ap₂ (λ a b. a && b) (all_alternatives f u (present t) ∙ test_present f o t)
    (all_flat f o u ts)

test-option_if : (f : DataType → Bool) → ((t : DataType) → f (opt t) ≡ f t)
    → (b : Bool) (t : DataType) → f (option_if b t) ≡ f t
test-option_if f o true t = o t
test-option_if f o false t = refl

pub test-union_of : (f : DataType → Bool) → ((t : DataType) → f (opt t) ≡ f t)
    → ((ts : List DataType) → f (uni (types_from ts)) ≡ list_all f ts) → (ts : List DataType)
    → f (union_of ts) ≡ list_all f ts
test-union_of f o u ts =
    test-option_if f o (list_any is_option ts) (uni (types_from (flat_map present_alternatives ts)))
    ∙ u (flat_map present_alternatives ts) ∙ all_flat f o u ts

-- ---- a function of types that gives simple types, and goes into options and unions

walked_present : (g : DataType → DataType) → ((t : DataType) → g (opt t) ≡ option_of (g t))
    → (t : DataType) → option_of (g (present t)) ≡ option_of (g t)
walked_present g o (opt t) = sym (ap option_of (o t))
walked_present g o t = refl

pub walked-option_of : (g : DataType → DataType) → ((t : DataType) → g (opt t) ≡ option_of (g t))
    → (t : DataType) → g (option_of t) ≡ option_of (g t)
walked-option_of g o t = o (present t) ∙ walked_present g o t

option_if-option : (b : Bool) (t : DataType) → is_option t ≡ false → is_option (option_if b t) ≡ b
option_if-option true t e = refl
option_if-option false t e = e

flat_of_one : (t : DataType) → flat_map present_alternatives (t ∷ []) ≡ present_alternatives t
flat_of_one t = append-nil (present_alternatives t)

-- of what one alternative gives
alternatives_give : (g : DataType → DataType)
    → ((ts : List DataType) → g (uni (types_from ts)) ≡ union_of (map g ts)) → (t : DataType)
    → flat_map present_alternatives (map g (alternatives t)) ≡ present_alternatives (g t)
alternatives_give g u (uni ts) =
    sym (ap (λ us. present_alternatives (g (uni us))) (sym (types_from-list ts)) ∙ ap
    present_alternatives (u (type_list ts)) ∙ present_alternatives-union_of (map g (type_list ts)))
alternatives_give g u unknown = flat_of_one (g unknown)
alternatives_give g u (leaf p) = flat_of_one (g (leaf p))
alternatives_give g u (var t) = flat_of_one (g (var t))
alternatives_give g u (reg n t) = flat_of_one (g (reg n t))
alternatives_give g u (rec ns ts) = flat_of_one (g (rec ns ts))
alternatives_give g u (tup ts) = flat_of_one (g (tup ts))
alternatives_give g u (opt t) = flat_of_one (g (opt t))

pub part_gives : (g : DataType → DataType) → ((t : DataType) → g (opt t) ≡ option_of (g t))
    → ((ts : List DataType) → g (uni (types_from ts)) ≡ union_of (map g ts)) → (t : DataType)
    → flat_map present_alternatives (map g (present_alternatives t)) ≡ present_alternatives (g t)
part_gives g o u (opt t) = alternatives_give g u t ∙ sym (ap present_alternatives (o t))
part_gives g o u unknown = alternatives_give g u unknown
part_gives g o u (leaf p) = alternatives_give g u (leaf p)
part_gives g o u (var t) = alternatives_give g u (var t)
part_gives g o u (reg n t) = alternatives_give g u (reg n t)
part_gives g o u (rec ns ts) = alternatives_give g u (rec ns ts)
part_gives g o u (tup ts) = alternatives_give g u (tup ts)
part_gives g o u (uni ts) = alternatives_give g u (uni ts)

parts_give : (g : DataType → DataType) → ((t : DataType) → g (opt t) ≡ option_of (g t))
    → ((ts : List DataType) → g (uni (types_from ts)) ≡ union_of (map g ts)) → (ts : List DataType)
    → flat_map present_alternatives (map g (flat_map present_alternatives ts)) ≡ flat_map
    present_alternatives (map g ts)
parts_give g o u [] = refl
parts_give g o u (t ∷ ts) =
    ap (flat_map present_alternatives) (map-append g (present_alternatives t)
    (flat_map present_alternatives ts))
    ∙ flat_map-append present_alternatives (map g (present_alternatives t))
    (map g (flat_map present_alternatives ts))
    ∙ ap₂ (λ as' bs. as' ++ bs) (part_gives g o u t) (parts_give g o u ts)

-- whether one of them is an option
union_option : (ts : List DataType) → is_option (union_of ts) ≡ list_any is_option ts
union_option ts =
    option_if-option (list_any is_option ts) (uni (types_from (flat_map present_alternatives ts)))
    refl

alternatives_option : (g : DataType → DataType)
    → ((ts : List DataType) → g (uni (types_from ts)) ≡ union_of (map g ts)) → (t : DataType)
    → list_any is_option (map g (alternatives t)) ≡ is_option (g t)
alternatives_option g u (uni ts) =
    sym (ap (λ us. is_option (g (uni us))) (sym (types_from-list ts)) ∙ ap is_option
    (u (type_list ts)) ∙ union_option (map g (type_list ts)))
alternatives_option g u unknown = or-false (is_option (g unknown))
alternatives_option g u (leaf p) = or-false (is_option (g (leaf p)))
alternatives_option g u (var t) = or-false (is_option (g (var t)))
alternatives_option g u (reg n t) = or-false (is_option (g (reg n t)))
alternatives_option g u (rec ns ts) = or-false (is_option (g (rec ns ts)))
alternatives_option g u (tup ts) = or-false (is_option (g (tup ts)))
alternatives_option g u (opt t) = or-false (is_option (g (opt t)))

part_option : (g : DataType → DataType) → ((t : DataType) → g (opt t) ≡ option_of (g t))
    → ((ts : List DataType) → g (uni (types_from ts)) ≡ union_of (map g ts)) → (t : DataType)
    → is_option (g t) ≡ (is_option t || list_any is_option (map g (present_alternatives t)))
part_option g o u (opt t) = ap is_option (o t)
part_option g o u unknown = sym (alternatives_option g u unknown)
part_option g o u (leaf p) = sym (alternatives_option g u (leaf p))
part_option g o u (var t) = sym (alternatives_option g u (var t))
part_option g o u (reg n t) = sym (alternatives_option g u (reg n t))
part_option g o u (rec ns ts) = sym (alternatives_option g u (rec ns ts))
part_option g o u (tup ts) = sym (alternatives_option g u (tup ts))
part_option g o u (uni ts) = sym (alternatives_option g u (uni ts))

parts_option : (g : DataType → DataType) → ((t : DataType) → g (opt t) ≡ option_of (g t))
    → ((ts : List DataType) → g (uni (types_from ts)) ≡ union_of (map g ts)) → (ts : List DataType)
    → list_any is_option (map g ts) ≡ (list_any is_option ts || list_any is_option
    (map g (flat_map present_alternatives ts)))
parts_option g o u [] = refl
parts_option g o u (t ∷ ts) =
    ap₂ (λ a b. a || b) (part_option g o u t) (parts_option g o u ts)
    ∙ or_crossed (is_option t) (list_any is_option (map g (present_alternatives t)))
    (list_any is_option ts) (list_any is_option (map g (flat_map present_alternatives ts)))
    ∙ ap (λ b. (is_option t || list_any is_option ts) || b)
    (sym (ap (list_any is_option) (map-append g (present_alternatives t)
    (flat_map present_alternatives ts))
    ∙ list_any-append is_option (map g (present_alternatives t))
    (map g (flat_map present_alternatives ts))))

option_of-option_if : (b : Bool) (ts : List DataType)
    → option_of (option_if b (uni (types_from ts))) ≡ opt (uni (types_from ts))
option_of-option_if true ts = refl
option_of-option_if false ts = refl

walked_union : (g : DataType → DataType) → ((t : DataType) → g (opt t) ≡ option_of (g t))
    → ((ts : List DataType) → g (uni (types_from ts)) ≡ union_of (map g ts))
    → (b : Bool) (ts : List DataType)
    → g (option_if b (uni (types_from ts))) ≡ option_if (b || list_any is_option (map g ts))
    (uni (types_from (flat_map present_alternatives (map g ts))))
walked_union g o u true ts =
    o (uni (types_from ts)) ∙ ap option_of (u ts) ∙ option_of-option_if
    (list_any is_option (map g ts)) (flat_map present_alternatives (map g ts))
walked_union g o u false ts = u ts

pub walked-union_of : (g : DataType → DataType) → ((t : DataType) → g (opt t) ≡ option_of (g t))
    → ((ts : List DataType) → g (uni (types_from ts)) ≡ union_of (map g ts)) → (ts : List DataType)
    → g (union_of ts) ≡ union_of (map g ts)
walked-union_of g o u ts =
    walked_union g o u (list_any is_option ts) (flat_map present_alternatives ts)
    ∙ ap₂ (λ b us. option_if b (uni (types_from us))) (sym (parts_option g o u ts))
    (parts_give g o u ts)
