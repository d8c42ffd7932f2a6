-- A choice of fields by the type of a layout is a choice by its simple type.
use Rattle.std.proofs.Common.{◌≡◌, Bool, true, false, ◌&&◌, List, [], ◌∷◌, map, length, Option}
use Rattle.std.proofs.Common.{Some, None, if◌then◌else◌, refl, ap, ap₂, ◌∙◌, sym}
use Rattle.std.proofs.lemmas.List.{length-map}
use Rattle.std.proofs.Math.ListN.{get_or-map}
use Rattle.std.specs.List.{list_all}
use Rattle.std.specs.Option.{option_map}
use Rattle.awk_types.specs.DataType.{Name, DataType, unknown, leaf, var, reg, rec, tup, opt, uni}
use Rattle.awk_types.specs.DataType.{DataTypes, no_types, type, types_from, type_list, row_type}
use Rattle.awk_types.specs.Names.{same_name, is_among, place_of}
use Rattle.awk_types.specs.IsType.{count}
use Rattle.awk_types.specs.Simple.{option_of, union_of, simple, simples}
use Rattle.awk_types.specs.Gives.{◌or◌}
use Rattle.awk_types.proofs.SimpleLaws.{simple_twice}
use Rattle.awk_types.proofs.TypeLaws.{length-simples}
use Rattle.awk_types.proofs.Trees.{type_list-from}
use Rattle.awk_view.specs.Choice.{Choice, field, fields, without, row_names, beside, apart_from}
use Rattle.awk_view.specs.Choice.{has_field, all_have_field, has_records, all_have_records}
use Rattle.awk_view.specs.Choice.{first_absent, absent, row_type_of, type_of_choice}
use Rattle.awk_view.specs.Choice.{types_of_choice, chosen_type}
use Rattle.awk_view.proofs.TypeWalks.{test-option_of, test-union_of, walked-option_of}
use Rattle.awk_view.proofs.TypeWalks.{walked-union_of}

-- ---- naturality of what stands beside names

pub beside-map : {A B : Type 0} (f : A → B) (other : A) (n : Name) (names : List Name) (xs : List A)
    → beside (f other) n names (map f xs) ≡ f (beside other n names xs)
beside-map f other n names xs = get_or-map f xs (place_of n names) other

either-map : {A B : Type 0} (f : A → B) (b : Bool) (x : A) (xs : List A)
    → map f (if b then xs else x ∷ xs) ≡ (if b then map f xs else f x ∷ map f xs)
either-map f true x xs = refl
either-map f false x xs = refl

pub apart_from-map : {A B : Type 0} (f : A → B) (n : Name) (names : List Name) (xs : List A)
    → apart_from n names (map f xs) ≡ map f (apart_from n names xs)
apart_from-map f n [] xs = refl
apart_from-map f n (m ∷ ms) [] = refl
apart_from-map f n (m ∷ ms) (x ∷ xs) =
    ap (λ ys. if same_name m n then ys else f x ∷ ys) (apart_from-map f n ms xs)
    ∙ sym (either-map f (same_name m n) x (apart_from n ms xs))

pub each_beside-map : {A B : Type 0} (f : A → B) (other : A) (ns names : List Name) (xs : List A)
    → map (λ n. beside (f other) n names (map f xs)) ns ≡ map f
    (map (λ n. beside other n names xs) ns)
each_beside-map f other [] names xs = refl
each_beside-map f other (n ∷ ns) names xs =
    ap₂ (λ y ys. y ∷ ys) (beside-map f other n names xs) (each_beside-map f other ns names xs)

-- ---- types as lists

pub simples_list : (ts : DataTypes) → simples ts ≡ map simple (type_list ts)
simples_list no_types = refl
simples_list (type t ts) = ap (λ us. simple t ∷ us) (simples_list ts)

pub types_of_choice_list : (c : Choice) (ts : DataTypes)
    → types_of_choice c ts ≡ map (type_of_choice c) (type_list ts)
types_of_choice_list c no_types = refl
types_of_choice_list c (type t ts) = ap (λ us. type_of_choice c t ∷ us) (types_of_choice_list c ts)

pub all_have_field_list : (n : Name) (ts : DataTypes)
    → all_have_field n ts ≡ list_all (has_field n) (type_list ts)
all_have_field_list n no_types = refl
all_have_field_list n (type t ts) = ap (λ b. has_field n t && b) (all_have_field_list n ts)

pub all_have_records_list : (ts : DataTypes)
    → all_have_records ts ≡ list_all has_records (type_list ts)
all_have_records_list no_types = refl
all_have_records_list (type t ts) = ap (λ b. has_records t && b) (all_have_records_list ts)

-- ---- what is not found

field_of_union : (n : Name) (ts : List DataType)
    → has_field n (uni (types_from ts)) ≡ list_all (has_field n) ts
field_of_union n ts =
    all_have_field_list n (types_from ts) ∙ ap (list_all (has_field n)) (type_list-from ts)

records_of_union : (ts : List DataType)
    → has_records (uni (types_from ts)) ≡ list_all has_records ts
records_of_union ts = all_have_records_list (types_from ts) ∙ ap (list_all has_records)
    (type_list-from ts)

pub count-simples : (ts : DataTypes) → count (types_from (simples ts)) ≡ count ts
count-simples ts = ap length (type_list-from (simples ts)) ∙ length-simples ts

mutual
  pub has_field-simple : (n : Name) (t : DataType) → has_field n (simple t) ≡ has_field n t
  has_field-simple n unknown = refl
  has_field-simple n (leaf p) = refl
  has_field-simple n (var t) = has_field-simple n t
  has_field-simple n (reg k t) = has_field-simple n t
  has_field-simple n (rec names ts) = refl
  has_field-simple n (tup ts) = ap (λ k. is_among n (row_names None k)) (count-simples ts)
  has_field-simple n (opt t) =
      test-option_of (has_field n) (λ t. refl) (simple t) ∙ has_field-simple n t
  has_field-simple n (uni ts) =
      test-union_of (has_field n) (λ t. refl) (field_of_union n) (simples ts) ∙
      all_have_field-simple n ts

  pub all_have_field-simple : (n : Name) (ts : DataTypes)
      → list_all (has_field n) (simples ts) ≡ all_have_field n ts
  all_have_field-simple n no_types = refl
  all_have_field-simple n (type t ts) =
      ap₂ (λ a b. a && b) (has_field-simple n t) (all_have_field-simple n ts)

mutual
  pub has_records-simple : (t : DataType) → has_records (simple t) ≡ has_records t
  has_records-simple unknown = refl
  has_records-simple (leaf p) = refl
  has_records-simple (var t) = has_records-simple t
  has_records-simple (reg k t) = has_records-simple t
  has_records-simple (rec names ts) = refl
  has_records-simple (tup ts) = refl
  has_records-simple (opt t) =
      test-option_of has_records (λ t. refl) (simple t) ∙ has_records-simple t
  has_records-simple (uni ts) =
      test-union_of has_records (λ t. refl) records_of_union (simples ts) ∙ all_have_records-simple
      ts

  pub all_have_records-simple : (ts : DataTypes)
      → list_all has_records (simples ts) ≡ all_have_records ts
  all_have_records-simple no_types = refl
  all_have_records-simple (type t ts) =
      ap₂ (λ a b. a && b) (has_records-simple t) (all_have_records-simple ts)

pub first_absent-simple : (ns : List Name) (t : DataType)
    → first_absent ns (simple t) ≡ first_absent ns t
first_absent-simple [] t = refl
first_absent-simple (n ∷ ns) t =
    ap₂ (λ b o. if b then o else Some n) (has_field-simple n t) (first_absent-simple ns t)

pub absent-simple : (c : Choice) (t : DataType) → absent c (simple t) ≡ absent c t
absent-simple (field n) t = first_absent-simple (n ∷ []) t
absent-simple (fields ns) t =
    ap₂ (λ o b. o or (if b then None else Some [])) (first_absent-simple ns t)
    (has_records-simple t)
absent-simple (without n) t = first_absent-simple (n ∷ []) t

-- ---- the type of what is chosen

-- of a row, one may simplify before or after
simple_row : (names : Option (List Name)) (ts : List DataType)
    → simple (row_type names (types_from ts)) ≡ row_type names (types_from (map simple ts))
simple_row None ts =
    ap (λ us. tup (types_from us)) (simples_list (types_from ts) ∙ ap (map simple)
    (type_list-from ts))
simple_row (Some names) ts =
    ap (λ us. rec names (types_from us)) (simples_list (types_from ts) ∙ ap (map simple)
    (type_list-from ts))

pub row_type_of-simple : (c : Choice) (names : Option (List Name)) (ts : List DataType)
    → simple (row_type_of c names ts) ≡ row_type_of c names (map simple ts)
row_type_of-simple (field k) names ts =
    sym (ap (λ n. beside unknown k (row_names names n) (map simple ts)) (length-map ts simple) ∙
    beside-map simple unknown k (row_names names (length ts)) ts)
row_type_of-simple (fields ks) names ts =
    simple_row (option_map (λ _. ks) names) _
    ∙ sym (ap (λ n. row_type (option_map (λ _. ks) names)
    (types_from (map (λ k. beside unknown k (row_names names n) (map simple ts)) ks)))
    (length-map ts simple)
    ∙ ap (λ us. row_type (option_map (λ _. ks) names) (types_from us))
    (each_beside-map simple unknown ks (row_names names (length ts)) ts))
row_type_of-simple (without k) names ts =
    simple_row (option_map (λ ns. apart_from k ns ns) names) _
    ∙ sym (ap (λ n. row_type (option_map (λ ns. apart_from k ns ns) names)
    (types_from (apart_from k (row_names names n) (map simple ts)))) (length-map ts simple)
    ∙ ap (λ us. row_type (option_map (λ ns. apart_from k ns ns) names) (types_from us))
    (apart_from-map simple k (row_names names (length ts)) ts))

each_twice : (ts : List DataType) → map simple (map simple ts) ≡ map simple ts
each_twice [] = refl
each_twice (t ∷ ts) = ap₂ (λ u us. u ∷ us) (simple_twice t) (each_twice ts)

-- the same of the record with simple fields
row_choice : (c : Choice) (names : Option (List Name)) (ts : DataTypes)
    → simple (row_type_of c names (type_list (types_from (simples ts)))) ≡ simple
    (row_type_of c names (type_list ts))
row_choice c names ts =
    ap (λ us. simple (row_type_of c names us)) (type_list-from (simples ts) ∙ simples_list ts)
    ∙ row_type_of-simple c names (map simple (type_list ts))
    ∙ ap (row_type_of c names) (each_twice (type_list ts))
    ∙ sym (row_type_of-simple c names (type_list ts))

-- the choice goes into the alternatives of a union
each_chosen : (c : Choice) (ts : List DataType)
    → map simple (map (type_of_choice c) ts) ≡ map (chosen_type c) ts
each_chosen c [] = refl
each_chosen c (t ∷ ts) = ap (λ us. chosen_type c t ∷ us) (each_chosen c ts)

pub chosen_alternatives : (c : Choice) (ts : DataTypes)
    → simples (types_from (types_of_choice c ts)) ≡ map (chosen_type c) (type_list ts)
chosen_alternatives c ts =
    simples_list (types_from (types_of_choice c ts))
    ∙ ap (map simple) (type_list-from (types_of_choice c ts) ∙ types_of_choice_list c ts)
    ∙ each_chosen c (type_list ts)

pub chosen_union : (c : Choice) (ts : List DataType)
    → chosen_type c (uni (types_from ts)) ≡ union_of (map (chosen_type c) ts)
chosen_union c ts =
    ap union_of (chosen_alternatives c (types_from ts) ∙ ap (map (chosen_type c))
    (type_list-from ts))

mutual
  pub chosen_type-simple : (c : Choice) (t : DataType) → chosen_type c (simple t) ≡ chosen_type c t
  chosen_type-simple c unknown = refl
  chosen_type-simple c (leaf p) = refl
  chosen_type-simple c (var t) = ap var (chosen_type-simple c t)
  chosen_type-simple c (reg n t) = ap (reg n) (chosen_type-simple c t)
  chosen_type-simple c (rec names ts) = row_choice c (Some names) ts
  chosen_type-simple c (tup ts) = row_choice c None ts
  chosen_type-simple c (opt t) =
      walked-option_of (chosen_type c) (λ t. refl) (simple t) ∙ ap option_of
      (chosen_type-simple c t)
  chosen_type-simple c (uni ts) =
      walked-union_of (chosen_type c) (λ t. refl) (chosen_union c) (simples ts)
      ∙ ap union_of (chosen_types-simple c ts ∙ sym (chosen_alternatives c ts))

  pub chosen_types-simple : (c : Choice) (ts : DataTypes)
      → map (chosen_type c) (simples ts) ≡ map (chosen_type c) (type_list ts)
  chosen_types-simple c no_types = refl
  chosen_types-simple c (type t ts) =
      ap₂ (λ u us. u ∷ us) (chosen_type-simple c t) (chosen_types-simple c ts)
