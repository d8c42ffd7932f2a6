-- A test of equality of types is true exactly of equal types.
use Rattle.std.proofs.Common.{◌≡◌, ℕ, true, ◌==◌, refl, sym, ap, ◌∙◌}
use Rattle.std.specs.Prelude.{if◌then◌else◌}
use Rattle.std.proofs.lemmas.Bool.{and_parts}
use Rattle.awk_base.proofs.Truths.{eq_is, eq-refl}
use Rattle.awk_types.specs.declared.primitive.Primitive.{Primitive}
use Rattle.awk_types.specs.declared.primitive.Primitive.TheVariants.{Bool, I8, I16, I32, I64, U8}
use Rattle.awk_types.specs.declared.primitive.Primitive.TheVariants.{U16, U32, U64}
use Rattle.awk_types.specs.DataType.{DataType, unknown, leaf, var, reg, rec, tup, opt, uni}
use Rattle.awk_types.specs.DataType.{DataTypes, no_types, type}
use Rattle.awk_types.specs.SameType.{primitive_number, same_primitive, same_type, same_types}
use Rattle.awk_types.proofs.NameLaws.{same_names_is, same_names-refl}

primitive_from : ℕ → Primitive
primitive_from n =
    if n == 0 then Bool else if n == 1 then I8 else if n == 2 then I16 else if n == 3 then I32 else
    if n == 4 then I64 else if n == 5 then U8 else if n == 6 then U16 else if n == 7 then U32 else
    U64

primitive_back : (p : Primitive) → primitive_from (primitive_number p) ≡ p
unfolding primitive_from
primitive_back Bool = refl
primitive_back p = refl

pub same_primitive_is : (p q : Primitive) → same_primitive p q ≡ true → p ≡ q
same_primitive_is p q e =
    sym (primitive_back p) ∙ ap primitive_from (eq_is _ _ e) ∙ primitive_back q

mutual
  pub same_type_is : (t u : DataType) → same_type t u ≡ true → t ≡ u
  same_type_is unknown unknown e = refl
  same_type_is (leaf p) (leaf q) e = ap leaf (same_primitive_is p q e)
  same_type_is (var t) (var u) e = ap var (same_type_is t u e)
  same_type_is (reg n t) (reg m u) e =
      ap (λ k. reg k t) (eq_is n m (and_parts _ _ e).0) ∙ ap (reg m)
      (same_type_is t u (and_parts _ _ e).1)
  same_type_is (rec ns ts) (rec ms us) e =
      ap (λ ks. rec ks ts) (same_names_is ns ms (and_parts _ _ e).0) ∙ ap (rec ms)
      (same_types_is ts us (and_parts _ _ e).1)
  same_type_is (tup ts) (tup us) e = ap tup (same_types_is ts us e)
  same_type_is (opt t) (opt u) e = ap opt (same_type_is t u e)
  same_type_is (uni ts) (uni us) e = ap uni (same_types_is ts us e)
  same_type_is t u e = cc

  pub same_types_is : (ts us : DataTypes) → same_types ts us ≡ true → ts ≡ us
  same_types_is no_types no_types e = refl
  same_types_is (type t ts) (type u us) e =
      ap (λ x. type x ts) (same_type_is t u (and_parts _ _ e).0) ∙ ap (type u)
      (same_types_is ts us (and_parts _ _ e).1)
  same_types_is ts us e = cc

mutual
  pub same_type-refl : (t : DataType) → same_type t t ≡ true
  same_type-refl unknown = refl
  same_type-refl (leaf p) = eq-refl (primitive_number p)
  same_type-refl (var t) = same_type-refl t
  same_type-refl (reg n t) = rw (eq-refl n) (same_type-refl t)
  same_type-refl (rec ns ts) = rw (same_names-refl ns) (same_types-refl ts)
  same_type-refl (tup ts) = same_types-refl ts
  same_type-refl (opt t) = same_type-refl t
  same_type-refl (uni ts) = same_types-refl ts

  pub same_types-refl : (ts : DataTypes) → same_types ts ts ≡ true
  same_types-refl no_types = refl
  same_types-refl (type t ts) = rw (same_type-refl t) (same_types-refl ts)
