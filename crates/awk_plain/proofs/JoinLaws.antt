-- Two types below a third unify to one below it, and their values stay as they are.
use Rattle.std.proofs.Common.{◌≡◌, List, [], ◌∷◌, length, Bool, true, false, refl, ap, ap₂}
use Rattle.std.proofs.Common.{sym, ◌∙◌, subst, suc, Some, None}
use Rattle.std.specs.Prelude.{◌||◌, if◌then◌else◌}
use Rattle.std.proofs.lemmas.Bool.{or_parts}
use Rattle.awk_unify.proofs.SameTypeLaws.{same_type_is}
use Rattle.awk_types.proofs.SimpleLaws.{each_stays, present_no_option, present_simple}
use Rattle.awk_types.proofs.SimpleLaws.{present_stays}
use Rattle.awk_types.proofs.Trees.{values_from-list}
use Rattle.awk_types.proofs.TypeLaws.{present_is_type}
use Rattle.awk_types.specs.DataType.{DataType, DataTypes, Name, unknown, leaf, var, reg, rec, tup}
use Rattle.awk_types.specs.DataType.{opt, uni, no_types, type, type_list, types_from}
use Rattle.awk_types.specs.IsType.{AreTypes, IsType, count}
use Rattle.awk_types.specs.Names.{AreDistinct}
use Rattle.awk_types.specs.SameType.{same_type}
use Rattle.awk_types.specs.Simple.{AreSimple, IsSimple, is_option, present}
use Rattle.awk_types.specs.Value.{list, null, value_list, values_from}
use Rattle.awk_unify.proofs.AfterLaws.{carry_null}
use Rattle.awk_unify.proofs.DepthLaws.{unify_rules}
use Rattle.awk_unify.proofs.Rules.{unified_early, unified_later, unified_optional, early-unknown}
use Rattle.awk_unify.proofs.Rules.{early-same}
use Rattle.awk_unify.proofs.Tests.{unknown_is}
use Rattle.awk_unify.specs.Carry.{Carry, carried, in_items}
use Rattle.awk_unify.specs.Early.{as_it_is, early}
use Rattle.awk_unify.specs.FieldNames.{in_own, picked, to_names}
use Rattle.awk_unify.specs.Join.{rec_join, unify_parts}
use Rattle.awk_unify.specs.Unification.{Unification, Unifications}
use Rattle.awk_unify.specs.Unify.{bare, equal_or_unknown, in_unions, joined_or}
use Rattle.awk_types.specs.Predicates.{is_unknown}
use Rattle.awk_unify.specs.Unify.{joins_or_unions, optional, unification}
use Rattle.awk_plain.proofs.BelowLaws.{AreBelow, IsBelow, below_option, only_unknown, present_below}
use Rattle.awk_plain.proofs.OwnNames.{alike_itself, picked_itself}
use Rattle.awk_plain.proofs.RowStays.{EachStays, Stays, own_names, row_stays}

pub record Joined (t a b : DataType) (r : Unification) : Type 0 where
  pub typ : IsBelow t r.typ
  pub left : Stays a r.left
  pub right : Stays b r.right
  -- where the first is the third, so is what both unify to
  pub whole : a ≡ t → r.typ ≡ t

record PartsJoined (ts us vs : DataTypes) (r : Unifications) : Type 0 where
  pub typs : AreBelow ts (types_from r.typs)
  pub lefts : EachStays us r.lefts
  pub rights : EachStays vs r.rights
  pub whole : us ≡ ts → types_from r.typs ≡ ts

-- ---- equal types, and unknown

kept : (t a b : DataType) → IsBelow t b → (a ≡ t → b ≡ t) → Joined t a b (as_it_is b)
kept t a b h w =
    record { typ = h; left = λ v k. refl; right = λ v k. refl; whole = w }

joined_same : (t a b : DataType) → a ≡ b → IsBelow t b → Joined t a b (unification a b)
joined_same t a b e h =
    subst (λ c. Joined t c b (unification c b)) (sym e)
    (subst (Joined t b b) (sym (unified_early b b (as_it_is b) (early-same b)))
    (kept t b b h (λ f. f)))

early_unknown : (a : DataType) → early a unknown ≡ Some (as_it_is a)
early_unknown unknown = refl
early_unknown a = refl

joined_unknown : (t b : DataType) → IsBelow t b → Joined t unknown b (unification unknown b)
joined_unknown t b h =
    subst (Joined t unknown b) (sym (unified_early unknown b (as_it_is b) (early-unknown b)))
    (kept t unknown b h (λ e.
    only_unknown b (subst (λ u. IsBelow u b) (sym e) h) ∙ e))

unknown_joined : (t a : DataType) → IsBelow t a → Joined t a unknown (unification a unknown)
unknown_joined t a h =
    subst (Joined t a unknown) (sym (unified_early a unknown (as_it_is a) (early_unknown a)))
    (record { typ = h; left = λ v k. refl; right = λ v k. refl; whole = λ e. e })

-- ---- lists

list_stays : (a : DataType) (f : Carry) → Stays a f → Stays (var a) (in_items f)
list_stays a f s (list vs) h =
    ap (λ ws. list (values_from ws)) (each_stays a (carried f) s (value_list vs) h)
    ∙ ap list (values_from-list vs)
list_stays a f s v h = absurd h

abbrev lists : Unification → Unification
lists r = record { typ = var r.typ; left = in_items r.left; right = in_items r.right }

no_var : (a b : DataType) → var a ≡ var b → a ≡ b
no_var a b e = cc

lists_joined : (t a b : DataType) (r : Unification) → Joined t a b r
    → Joined (var t) (var a) (var b) (lists r)
lists_joined t a b r j = record {
  typ = j.typ;
  left = list_stays a r.left j.left;
  right = list_stays b r.right j.right;
  whole = λ e. ap var (j.whole (no_var a t e));
}

joined_lists : (t a b : DataType) → IsBelow t b → Joined t a b (unification a b)
    → Joined (var t) (var a) (var b) (unification (var a) (var b))
joined_lists t a b h j = step (same_type a b) refl
  where
    step : (s : Bool) → same_type a b ≡ s
        → Joined (var t) (var a) (var b) (unification (var a) (var b))
    step true e = joined_same (var t) (var a) (var b) (ap var (same_type_is a b e)) h
    step false e =
        subst (Joined (var t) (var a) (var b))
        (sym (unified_later (var a) (var b)
        (ap (λ s. if s then Some (as_it_is (var a)) else None) e) refl))
        (lists_joined t a b (unification a b) j)

-- ---- options

bare_is : (a b : DataType) → is_option a ≡ false → is_option b ≡ false
    → unification a b ≡ bare unification a b
bare_is a b e f =
    unify_rules a b
    ∙ ap (λ s. equal_or_unknown a b
    (if s then optional (bare unification (present a) (present b))
    else joins_or_unions unification a b))
    (ap₂ (λ p q. p || q) e f)

option_stays : (a : DataType) (f : Carry) → Stays (present a) f → Stays a f
option_stays a f s null h = carry_null f
option_stays (opt a) f s v h = s v h
option_stays a f s v h = s v h

options_joined : (t a b : DataType) (r : Unification) → Joined t (present a) (present b) r
    → Joined (opt t) a b (optional r)
options_joined t a b r j = record {
  typ = j.typ;
  left = option_stays a r.left j.left;
  right = option_stays b r.right j.right;
  whole = λ e. ap opt (j.whole (ap present e));
}

no_opt : (t a : DataType) → is_option a ≡ false → a ≡ opt t → ⊥
no_opt t a e f = let g : false ≡ true = sym e ∙ ap is_option f in cc

option_above : (t a b : DataType) (r : Unification) → is_option t ≡ false → is_option a ≡ false
    → Joined t a b r → Joined (opt t) a b r
option_above t a b r e f j = record {
  typ = below_option t r.typ e j.typ;
  left = j.left;
  right = j.right;
  whole = λ g. absurd (no_opt t a f g);
}

none_early : (a b : DataType) → same_type a b ≡ false → is_unknown a ≡ false
    → is_unknown b ≡ false → early a b ≡ None
none_early a b e f g = rw (e, f, g) refl

joined_options : (t a b : DataType) → IsSimple (opt t) → IsSimple a → IsSimple b
    → IsBelow (opt t) a → IsBelow (opt t) b
    → Joined t (present a) (present b) (unification (present a) (present b))
    → Joined (opt t) a b (unification a b)
joined_options t a b s x y h k j = some (is_option a || is_option b) refl
  where
    optionals : (is_option a || is_option b) ≡ true → early a b ≡ None
        → Joined (opt t) a b (unification a b)
    optionals o e =
        subst (Joined (opt t) a b)
        (sym (unified_optional a b e o
        ∙ ap optional (sym (bare_is (present a) (present b) (present_no_option a x)
        (present_no_option b y)))))
        (options_joined t a b (unification (present a) (present b)) j)

    by_tests : (p q r : Bool) → same_type a b ≡ p → is_unknown a ≡ q → is_unknown b ≡ r
        → (is_option a || is_option b) ≡ true → Joined (opt t) a b (unification a b)
    by_tests true q r e f g o = joined_same (opt t) a b (same_type_is a b e) k
    by_tests false true r e f g o =
        subst (λ c. Joined (opt t) c b (unification c b)) (sym (unknown_is a f))
        (joined_unknown (opt t) b k)
    by_tests false false true e f g o =
        subst (λ c. Joined (opt t) a c (unification a c)) (sym (unknown_is b g))
        (unknown_joined (opt t) a h)
    by_tests false false false e f g o = optionals o (none_early a b e f g)

    some : (o : Bool) → (is_option a || is_option b) ≡ o → Joined (opt t) a b (unification a b)
    some true e = by_tests (same_type a b) (is_unknown a) (is_unknown b) refl refl refl e
    some false e =
        let n = or_parts (is_option a) (is_option b) e in
        option_above t a b (unification a b) s.0 n.0
        (subst (λ c. Joined t c b (unification c b)) (present_stays a n.0)
        (subst (λ c. Joined t (present a) c (unification (present a) c)) (present_stays b n.1) j))

-- ---- records

abbrev rows : List Name → Unifications → Unification
rows ns p =
    record {
      typ = rec ns (types_from p.typs);
      left = in_own p.lefts;
      right = to_names ns ns p.rights;
    }

no_rec : (ns : List Name) (us ts : DataTypes) → rec ns us ≡ rec ns ts → us ≡ ts
no_rec ns us ts e = cc

stays_count : (us : DataTypes) (fs : List Carry) → EachStays us fs → length fs ≡ count us
stays_count no_types [] s = refl
stays_count no_types (f ∷ fs) s = absurd s
stays_count (type a us) [] s = absurd s
stays_count (type a us) (f ∷ fs) s = ap suc (stays_count us fs s.1)

rows_joined : (ns : List Name) (ts us vs : DataTypes) (p : Unifications) → AreDistinct ns
    → length ns ≡ count vs → PartsJoined ts us vs p
    → Joined (rec ns ts) (rec ns us) (rec ns vs) (rows ns p)
rows_joined ns ts us vs p d l j = record {
  typ = (refl, j.typs);
  left = row_stays ns us p.lefts j.lefts;
  right = subst (Stays (rec ns vs))
      (sym (own_names ns p.rights d (l ∙ sym (stays_count vs p.rights j.rights))))
      (row_stays ns vs p.rights j.rights);
  whole = λ e. ap (rec ns) (j.whole (no_rec ns us ts e));
}

rows_are : (ns : List Name) (us vs : DataTypes) → AreDistinct ns → length ns ≡ count vs
    → joins_or_unions unification (rec ns us) (rec ns vs)
    ≡ rows ns (unify_parts unification (type_list us) (type_list vs))
rows_are ns us vs d l =
    ap (λ b. joined_or
    (if b then rec_join unification ns ns (type_list us) (picked ns ns (type_list vs)) else None)
    (in_unions unification (rec ns us) (rec ns vs))) (alike_itself ns)
    ∙ ap (λ o. joined_or (rec_join unification ns ns (type_list us) o)
    (in_unions unification (rec ns us) (rec ns vs))) (picked_itself ns (type_list vs) d l)

joined_rows : (ns : List Name) (ts us vs : DataTypes) → IsType (rec ns vs)
    → AreBelow ts vs → PartsJoined ts us vs (unify_parts unification (type_list us) (type_list vs))
    → Joined (rec ns ts) (rec ns us) (rec ns vs) (unification (rec ns us) (rec ns vs))
joined_rows ns ts us vs y h j = step (same_type (rec ns us) (rec ns vs)) refl
  where
    step : (s : Bool) → same_type (rec ns us) (rec ns vs) ≡ s
        → Joined (rec ns ts) (rec ns us) (rec ns vs) (unification (rec ns us) (rec ns vs))
    step true e =
        joined_same (rec ns ts) (rec ns us) (rec ns vs)
        (same_type_is (rec ns us) (rec ns vs) e) (refl, h)
    step false e =
        subst (Joined (rec ns ts) (rec ns us) (rec ns vs))
        (sym (unified_later (rec ns us) (rec ns vs)
        (ap (λ s. if s then Some (as_it_is (rec ns us)) else None) e) refl
        ∙ rows_are ns us vs y.0 y.1))
        (rows_joined ns ts us vs (unify_parts unification (type_list us) (type_list vs)) y.0 y.1 j)

named_rows : (ns ms ks : List Name) (ts us vs : DataTypes) → ms ≡ ns → ks ≡ ns
    → IsType (rec ks vs) → AreBelow ts vs
    → PartsJoined ts us vs (unify_parts unification (type_list us) (type_list vs))
    → Joined (rec ns ts) (rec ms us) (rec ks vs) (unification (rec ms us) (rec ks vs))
named_rows ns ms ks ts us vs e f y h j =
    subst (λ m. Joined (rec ns ts) (rec m us) (rec ks vs) (unification (rec m us) (rec ks vs)))
    (sym e)
    (subst (λ k. Joined (rec ns ts) (rec ns us) (rec k vs) (unification (rec ns us) (rec k vs)))
    (sym f)
    (joined_rows ns ts us vs (subst (λ k. IsType (rec k vs)) f y) h j))

no_parts_joined : PartsJoined no_types no_types no_types (unify_parts unification [] [])
no_parts_joined = record { typs = tt; lefts = tt; rights = tt; whole = λ e. refl }

no_type : (t a : DataType) (ts us : DataTypes) → type a us ≡ type t ts → (a ≡ t) × (us ≡ ts)
no_type t a ts us e = (cc, cc)

parts_more : (t a b : DataType) (ts us vs : DataTypes) → Joined t a b (unification a b)
    → PartsJoined ts us vs (unify_parts unification (type_list us) (type_list vs))
    → PartsJoined (type t ts) (type a us) (type b vs)
    (unify_parts unification (type_list (type a us)) (type_list (type b vs)))
parts_more t a b ts us vs j k = record {
  typs = (j.typ, k.typs);
  lefts = (j.left, k.lefts);
  rights = (j.right, k.rights);
  whole = λ e.
      let f = no_type t a ts us e in
      ap₂ type (j.whole f.0) (k.whole f.1);
}

-- ---- all types

mutual
  pub joined : (t a b : DataType) → IsSimple t → IsSimple a → IsSimple b → IsType b → IsBelow t a
      → IsBelow t b → Joined t a b (unification a b)
  joined unknown unknown b s x y l h k = joined_unknown unknown b k
  joined unknown a b s x y l h k =
      joined_same unknown a b (h ∙ sym (only_unknown b k)) k
  joined (leaf p) unknown b s x y l h k = joined_unknown (leaf p) b k
  joined (leaf p) (leaf q) unknown s x y l h k = unknown_joined (leaf p) (leaf q) h
  joined (leaf p) (leaf q) (leaf r) s x y l h k =
      joined_same (leaf p) (leaf q) (leaf r) (ap leaf (h ∙ sym k)) k
  joined (leaf p) (leaf q) b s x y l h k = absurd k
  joined (leaf p) a b s x y l h k = absurd h
  joined (var t) unknown b s x y l h k = joined_unknown (var t) b k
  joined (var t) (var a) unknown s x y l h k = unknown_joined (var t) (var a) h
  joined (var t) (var a) (var b) s x y l h k =
      joined_lists t a b k (joined t a b s x y l h k)
  joined (var t) (var a) b s x y l h k = absurd k
  joined (var t) a b s x y l h k = absurd h
  joined (reg n t) unknown b s x y l h k = joined_unknown (reg n t) b k
  joined (reg n t) a unknown s x y l h k = unknown_joined (reg n t) a h
  joined (reg n t) a b s x y l h k = joined_same (reg n t) a b (h ∙ sym k) k
  joined (rec ns ts) unknown b s x y l h k = joined_unknown (rec ns ts) b k
  joined (rec ns ts) (rec ms us) unknown s x y l h k =
      unknown_joined (rec ns ts) (rec ms us) h
  joined (rec ns ts) (rec ms us) (rec ks vs) s x y l h k =
      named_rows ns ms ks ts us vs h.0 k.0 l k.1 (all_joined ts us vs s x y l.2 h.1 k.1)
  joined (rec ns ts) (rec ms us) b s x y l h k = absurd k
  joined (rec ns ts) a b s x y l h k = absurd h
  joined (tup ts) unknown b s x y l h k = joined_unknown (tup ts) b k
  joined (tup ts) a unknown s x y l h k = unknown_joined (tup ts) a h
  joined (tup ts) a b s x y l h k = joined_same (tup ts) a b (h ∙ sym k) k
  joined (opt t) a b s x y l h k =
      joined_options t a b s x y h k
      (joined t (present a) (present b) s.1 (present_simple a x) (present_simple b y)
      (present_is_type b l) (present_below t a h) (present_below t b k))
  joined (uni ts) unknown b s x y l h k = joined_unknown (uni ts) b k
  joined (uni ts) a unknown s x y l h k = unknown_joined (uni ts) a h
  joined (uni ts) a b s x y l h k = joined_same (uni ts) a b (h ∙ sym k) k

  all_joined : (ts us vs : DataTypes) → AreSimple ts → AreSimple us → AreSimple vs → AreTypes vs
      → AreBelow ts us → AreBelow ts vs
      → PartsJoined ts us vs (unify_parts unification (type_list us) (type_list vs))
  all_joined no_types no_types no_types s x y l h k = no_parts_joined
  all_joined no_types no_types (type b vs) s x y l h k = absurd k
  all_joined no_types (type a us) vs s x y l h k = absurd h
  all_joined (type t ts) no_types vs s x y l h k = absurd h
  all_joined (type t ts) (type a us) no_types s x y l h k = absurd k
  all_joined (type t ts) (type a us) (type b vs) s x y l h k =
      parts_more t a b ts us vs (joined t a b s.0 x.0 y.0 l.0 h.0 k.0)
      (all_joined ts us vs s.1 x.1 y.1 l.1 h.1 k.1)
