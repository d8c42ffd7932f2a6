-- Parts that are unified one after another.
use Rattle.std.proofs.Common.{◌≡◌, ◌+◌, ◌≤◌, ◌∷◌, ◌++◌, ◌∙◌, [], ℕ, List, Some, ap, append_assoc}
use Rattle.std.proofs.Common.{arith, drop, length, min, refl, slice_get, suc, sym, zero}
use Rattle.std.specs.Prelude.{IfSome, None, Option}
use Rattle.std.proofs.Math.Seq.{drop-nil}
use Rattle.std.proofs.lemmas.List.{append-nil, drop_all, length-map}
use Rattle.awk_base.proofs.Lists.{drop-get}
use Rattle.awk_types.specs.DataType.{DataType}
use Rattle.awk_types.specs.View.{NamedType, names_of, typs_of}
use Rattle.awk_name_places.specs.Places.{place_in}
use Rattle.awk_unify.specs.Carry.{Carry}
use Rattle.awk_unify.specs.FieldNames.{field_type, picked, with_type}
use Rattle.awk_unify.specs.Join.{Unifying, field_types, no_parts, one_more, unify_fields}
use Rattle.awk_unify.specs.Join.{unify_parts, unify_picked, with_first}
use Rattle.awk_unify.specs.Unification.{Unification, Unifications}
use Rattle.awk_unify.specs.View.{parts_found, parts_of}
use Rattle.awk_unify.specs.declared.parts.Parts.{Parts}
use Rattle.awk_unify.proofs.NameRowLaws.{picked_length}
use Rattle.awk_unify.proofs.TypeLaws.{parts_length}
use Rattle.awk_unify.proofs.NamePlaces.{field_type-at, field_type-beyond}

-- parts, and others behind them
abbrev pub behind : Unifications → Unifications → Unifications
behind p q = record {
  typs = p.typs ++ q.typs;
  lefts = p.lefts ++ q.lefts;
  rights = p.rights ++
      q.rights;
}

abbrev three : List DataType → List Carry → List Carry → Unifications
three ts fs gs = record { typs = ts; lefts = fs; rights = gs }

behind-one_more : (p q : Unifications) (r : Unification)
    → behind (one_more p r) q ≡ behind p (with_first r q)
behind-one_more p q r =
    ap (λ ts. three ts ((p.lefts ++ r.left ∷ []) ++ q.lefts)
    ((p.rights ++ r.right ∷ []) ++ q.rights)) (append_assoc p.typs (r.typ ∷ []) q.typs)
    ∙ ap (λ fs. three (p.typs ++ r.typ ∷ q.typs) fs ((p.rights ++ r.right ∷ []) ++ q.rights))
    (append_assoc p.lefts (r.left ∷ []) q.lefts)
    ∙ ap (three (p.typs ++ r.typ ∷ q.typs) (p.lefts ++ r.left ∷ q.lefts))
    (append_assoc p.rights (r.right ∷ []) q.rights)

behind-no_parts : (p : Unifications) → behind p no_parts ≡ p
behind-no_parts p =
    ap (λ ts. three ts (p.lefts ++ []) (p.rights ++ [])) (append-nil p.typs)
    ∙ ap (λ fs. three p.typs fs (p.rights ++ [])) (append-nil p.lefts)
    ∙ ap (three p.typs p.lefts) (append-nil p.rights)

-- one part more
pub parts_next : (u : Unifying) (p q all : Unifications) (ts us : List DataType) (i : ℕ)
    (a b : DataType) (r : Unification) → slice_get ts i ≡ Some a → slice_get us i ≡ Some b → r ≡ u a
    b → q ≡ one_more p r →
    behind p (unify_parts u (drop i ts) (drop i us)) ≡ all → behind q
    (unify_parts u (drop (i + 1) ts) (drop (i + 1) us)) ≡ all
parts_next u p q all ts us i a b r e f g h k =
    let rest : Unifications = unify_parts u (drop (i + 1) ts) (drop (i + 1) us) in
    ap (λ x. behind x rest) (h ∙ ap (one_more p) g) ∙ behind-one_more p rest (u a b)
    ∙ sym (ap (λ xs. behind p (unify_parts u xs (drop i us))) (drop-get ts i a e) ∙ ap
    (λ ys. behind p (unify_parts u (a ∷ drop (i + 1) ts) ys)) (drop-get us i b f))
    ∙ k

parts_beyond : (u : Unifying) (ts us : List DataType) (i : ℕ) → i ≡ min (length ts) (length us)
    → unify_parts u (drop i ts) (drop i us) ≡ no_parts
parts_beyond u [] us i h = rw (drop-nil i) refl
parts_beyond u (t ∷ ts) [] zero h = refl
parts_beyond u (t ∷ ts) [] (suc i) h = absurd (omega arith)
parts_beyond u (t ∷ ts) (v ∷ us) zero h = absurd (omega arith)
parts_beyond u (t ∷ ts) (v ∷ us) (suc i) h = parts_beyond u ts us i (omega arith)

-- no part more
pub parts_last : (u : Unifying) (p all : Unifications) (ts us : List DataType) (i : ℕ)
    → i ≡ min (length ts) (length us) → behind p (unify_parts u (drop i ts) (drop i us)) ≡ all
    → p ≡ all
parts_last u p all ts us i l h =
    sym (behind-no_parts p) ∙ sym (ap (behind p) (parts_beyond u ts us i l)) ∙ h

-- ---- fields by name

-- parts that are made, and those still to come where the second record has their names
abbrev pub and_behind : Unifications → Option Unifications → Option Unifications
and_behind p None = None
and_behind p (Some q) = Some (behind p q)

picked-first : (u : Unifying) (p : Unifications) (a b : DataType) (ts : List DataType)
    (o : Option (List DataType)) → and_behind p (unify_picked u (a ∷ ts) (with_type (Some b) o)) ≡
    and_behind (one_more p (u a b)) (unify_picked u ts o)
picked-first u p a b ts None = refl
picked-first u p a b ts (Some us) = ap Some (sym (behind-one_more p (unify_parts u ts us) (u a b)))

fields-at : (u : Unifying) (p : Unifications) (x : NamedType) (xs ys : List NamedType)
    (o : Option DataType) → field_type x.name (names_of ys) (field_types ys) ≡ o → and_behind p
    (unify_fields u (x ∷ xs) ys) ≡ and_behind p
    (unify_picked u (x.typ ∷ field_types xs) (with_type o
    (picked (names_of xs) (names_of ys) (field_types ys))))
fields-at u p x xs ys o e =
    ap (λ f. and_behind p (unify_picked u (x.typ ∷ field_types xs)
    (with_type f (picked (names_of xs) (names_of ys) (field_types ys))))) e

pub fields_next : (u : Unifying) (p q : Unifications) (all : Option Unifications)
    (xs ys : List NamedType) (i : ℕ) (x y : NamedType) (r : Unification) → slice_get xs i ≡ Some x →
    slice_get ys (place_in (names_of ys) x.name) ≡ Some y → r ≡ u x.typ y.typ → q ≡ one_more p r →
    and_behind p (unify_fields u (drop i xs) ys) ≡ all → and_behind q
    (unify_fields u (drop (i + 1) xs) ys) ≡ all
fields_next u p q all xs ys i x y r e f g h k =
    let later : List NamedType = drop (i + 1) xs in
    ap (λ z. and_behind z (unify_fields u later ys)) (h ∙ ap (one_more p) g)
    ∙ sym (picked-first u p x.typ y.typ (field_types later)
    (picked (names_of later) (names_of ys) (field_types ys)))
    ∙ sym (fields-at u p x later ys (Some y.typ) (field_type-at x.name ys y f))
    ∙ sym (ap (λ zs. and_behind p (unify_fields u zs ys)) (drop-get xs i x e))
    ∙ k

-- a name that the second record lacks
pub fields_none : (u : Unifying) (p : Unifications) (all : Option Unifications)
    (xs ys : List NamedType) (i : ℕ) (x : NamedType) → slice_get xs i ≡ Some x → place_in
    (names_of ys) x.name ≡ length ys → and_behind p (unify_fields u (drop i xs) ys) ≡ all → None ≡
    all
fields_none u p all xs ys i x e f k =
    let later : List NamedType = drop (i + 1) xs in
    sym (fields-at u p x later ys None (field_type-beyond x.name ys f))
    ∙ sym (ap (λ zs. and_behind p (unify_fields u zs ys)) (drop-get xs i x e))
    ∙ k

pub fields_last : (u : Unifying) (p : Unifications) (all : Option Unifications)
    (xs ys : List NamedType) (i : ℕ) → length xs ≤ i → and_behind p (unify_fields u (drop i xs) ys)
    ≡ all → Some p ≡ all
fields_last u p all xs ys i l h =
    ap Some (sym (behind-no_parts p)) ∙ sym (ap (λ zs. and_behind p (unify_fields u zs ys))
    (drop_all i xs l)) ∙ h

-- as many types are made as the first record has fields
pub fields_length : (u : Unifying) (xs ys : List NamedType) (o : Option Parts)
    → parts_found o ≡ unify_fields u xs ys → IfSome o (λ p. length xs ≡ length (typs_of p.typs))
fields_length u xs ys None e = tt
fields_length u xs ys (Some p) e = step (picked (names_of xs) (names_of ys) (field_types ys)) refl e
  where
    step : (q : Option (List DataType)) → picked (names_of xs) (names_of ys) (field_types ys) ≡ q
        → Some (parts_of p) ≡ unify_picked u (field_types xs) q
        → length xs ≡ length (typs_of p.typs)
    step None h k = cc
    step (Some us) h k =
        let made : parts_of p ≡ unify_parts u (field_types xs) us = cc in
        let many : length (field_types xs) ≡ length us = length-map xs (λ f. f.typ) ∙ sym
        (length-map xs (λ f. f.name)) ∙ sym
        (picked_length (names_of xs) (names_of ys) (field_types ys) us h) in
        sym (ap (λ r. length r.typs) made ∙ parts_length u (field_types xs) us many ∙ length-map xs
        (λ f. f.typ))
