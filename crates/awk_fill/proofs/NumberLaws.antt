-- Options over numbers of 64 bits, filled in one pass.
use Rattle.std.proofs.Common.{◌≡◌, ℕ, ◌<◌, arith, refl, ap, ap₂, sym, subst, ◌∙◌}
use Rattle.std.specs.Prelude.{◌^◌, List, ℤ, Option, Some, None}
use Rattle.awk_types.specs.DataType.{leaf}
use Rattle.awk_types.specs.Value.{int}
use Rattle.awk_types.specs.declared.primitive.Primitive.TheVariants.{I64 as Wide}
use Rattle.awk_lanes.specs.declared.kind.Kind.{Kind}
use Rattle.awk_lanes.specs.declared.kind.Kind.TheVariants.{I64}
use Rattle.awk_lanes.specs.Column.{Column}
use Rattle.awk_lanes.specs.Places.{size_of, at, option_place_at}
use Rattle.awk_lanes.proofs.MadeLanes.{size-lane_of, at-lane_of}
use Rattle.awk_layout.specs.Filler.{Filler, filler_value}
use Rattle.awk_layout.specs.Item.{at_option}
use Rattle.awk_layout.specs.Layout.{Layout, flat}
use Rattle.awk_layout.specs.Typing.{array_type}
use Rattle.awk_gather.specs.Arrays.{array_item}
use Rattle.awk_unify.specs.Unification.{Unification}
use Rattle.awk_unify.specs.Unify.{unification}
use Rattle.awk_fill.specs.Filled.{number_or, filled_lane, IsFirst, IsFilledOption}
use Rattle.awk_fill.specs.FillNone.{filler_type, filling, fill_value}

-- numbers of i64
abbrev wide : List ℤ → Column
wide zs = record { kind = I64; items = zs }

abbrev same : Unification
same = unification (leaf Wide) (leaf Wide)

filled_item : (z : ℤ) (cs : List ℤ) (o : Option ℕ)
    → int (number_or z (wide cs) o)
    ≡ fill_value same (int z) (at_option o (array_item (flat (wide cs))))
filled_item z cs None = refl
filled_item z cs (Some k) = refl

module _ (f : Filler) (j : Column) (cs os : List ℤ) (fit : size_of j < 2 ^ 63)
    (own : IsFirst (filler_type f (leaf Wide)) (filler_value f) (flat (wide os))) where
  alike : filling f (leaf Wide) ≡ same
  alike = ap (unification (leaf Wide)) (sym own.typ)

  size : size_of (filled_lane (at (wide os) 0) (wide cs) j) ≡ size_of j
  size =
      size-lane_of I64 (size_of j)
      (λ i. number_or (at (wide os) 0) (wide cs) (option_place_at j i))

  pub wide_filled : IsFilledOption f j (flat (wide cs))
      (flat (filled_lane (at (wide os) 0) (wide cs) j))
  wide_filled = record {
    valid = omega (arith, size, fit);
    size = size;
    typ = ap (λ (r : Unification). r.typ) (sym alike);
    items = λ i q.
        ap int (at-lane_of I64 (size_of j)
        (λ i. number_or (at (wide os) 0) (wide cs) (option_place_at j i)) i q)
        ∙ filled_item (at (wide os) 0) cs (option_place_at j i)
        ∙ ap₂ (λ r w. fill_value r w
        (at_option (option_place_at j i) (array_item (flat (wide cs))))) (sym alike) own.first;
    stays = λ i q. refl;
  }

-- as many as the index has
pub filled_fits : (z : ℤ) (c j d : Column) → d ≡ filled_lane z c j → size_of j < 2 ^ 63
    → size_of d < 2 ^ 63
filled_fits z c j d e fit =
    omega (
      arith,
      ap size_of e,
      size-lane_of I64 (size_of j) (λ i. number_or z c (option_place_at j i)),
      fit,
    )

-- the same of any arrays that are such numbers
wide_is : (c : Column) → c.kind ≡ I64 → c ≡ wide c.items
wide_is c e = ap (λ (k : Kind). record { kind = k; items = c.items }) e

pub numbers_filled : (f : Filler) (j c o : Column) (x v w : Layout) (z : ℤ)
    → size_of j < 2 ^ 63 → c.kind ≡ I64 → x ≡ flat c → o.kind ≡ I64 → v ≡ flat o → z ≡ at o 0
    → w ≡ flat (filled_lane z c j) → IsFirst (filler_type f (array_type x)) (filler_value f) v
    → IsFilledOption f j x w
numbers_filled f j c o x v w z fit kc ex ko ev ez ew own =
    let x_is : x ≡ flat (wide c.items) = ex ∙ ap flat (wide_is c kc) in
    let v_is : v ≡ flat (wide o.items) = ev ∙ ap flat (wide_is o ko) in
    let first : z ≡ at (wide o.items) 0 = ez ∙ ap (λ d. at d 0) (wide_is o ko) in
    let w_is : w ≡ flat (filled_lane (at (wide o.items) 0) (wide c.items) j) =
    ew ∙ ap₂ (λ y d. flat (filled_lane y d j)) first (wide_is c kc) in
    let own_is : IsFirst (filler_type f (leaf Wide)) (filler_value f) (flat (wide o.items)) =
    subst (IsFirst (filler_type f (leaf Wide)) (filler_value f)) v_is
    (subst (λ (y : Layout). IsFirst (filler_type f (array_type y)) (filler_value f) v) x_is own) in
    subst (λ (y : Layout). IsFilledOption f j y w) (sym x_is)
    (subst (IsFilledOption f j (flat (wide c.items))) (sym w_is)
    (wide_filled f j c.items o.items fit own_is))
