-- The depth at which data without items, which are arrays, are paired to the types of the data.
use Rattle.std.proofs.Common.{◌≡◌, ℕ, suc, ◌+◌, ◌-◌, ◌==◌, ◌<◌, ◌≤◌, Bool, true, false}
use Rattle.std.proofs.Common.{refl, ap, sym, ◌∙◌, arith}
use Rattle.std.specs.Prelude.{List, [], ◌∷◌, map, length, min, Some, None, if◌then◌else◌}
use Rattle.awk_types.specs.DataType.{DataType}
use Rattle.awk_types.specs.Datum.{Datum}
use Rattle.awk_pair_operands.specs.Paired.{to_leaves, to_depth, all_levels, is_wrong, paired_type}
use Rattle.awk_pair_operands.specs.Paired.{types_at_ends}
use Rattle.awk_pair_operands.specs.Pairs.{below, has_wrong_end, some_array, typs}
use Rattle.awk_pair_operands.proofs.TypeLaws.{never-wrong}
use Rattle.awk_pair_types.specs.Emptied.{emptied, heights, HasTypes}
use Rattle.awk_pair_types.proofs.EmptyLaws.{typs-emptied}
use Rattle.awk_pair_types.proofs.HeightLaws.{type_stable, ends_stable}

-- ---- no end is wrong at a depth

pub never_wrong : (d : ℕ) (ds : List Datum) → has_wrong_end (Some d) ds ≡ false
never_wrong d ds = never-wrong (below (Some d) ds) (typs ds)

-- ---- depths

below-emptied : (d : ℕ) (ds : List Datum) → 0 < length ds
    → below (Some d) (map emptied ds) ≡ d - 1
below-emptied d [] h = absurd (omega (arith, h))
below-emptied d (x ∷ ds) h = refl

-- as many levels, or one less where types have no more
type_near : (keep b : Bool) (k d : ℕ) (ts : List DataType) → (k == d) ≡ b
    → (b ≡ false → heights ts ≤ k) → k ≤ d → d ≤ k + 1
    → paired_type keep to_depth k ts ≡ paired_type keep to_depth d ts
type_near keep true k d ts e h l m =
    let f : k ≡ d = grind (arith, e) in ap (λ n. paired_type keep to_depth n ts) f
type_near keep false k d ts e h l m =
    let f : suc k ≡ d = grind (arith, e, l, m) in
    sym (type_stable keep to_depth k ts (h refl)) ∙ ap (λ n. paired_type keep to_depth n ts) f

ends_near : (b : Bool) (k d : ℕ) (ts : List DataType) → (k == d) ≡ b
    → (b ≡ false → heights ts ≤ k) → k ≤ d → d ≤ k + 1
    → types_at_ends to_depth k ts ≡ types_at_ends to_depth d ts
ends_near true k d ts e h l m =
    let f : k ≡ d = grind (arith, e) in ap (λ n. types_at_ends to_depth n ts) f
ends_near false k d ts e h l m =
    let f : suc k ≡ d = grind (arith, e, l, m) in
    sym (ends_stable to_depth k ts (h refl)) ∙ ap (λ n. types_at_ends to_depth n ts) f

high-enough : (d e n : ℕ) → n ≤ 60 → d ≤ 18446744073709551615
    → e ≡ min (d + 1) 18446744073709551615 → (e - 1 == d) ≡ false → n ≤ e - 1
high-enough d e n h l m b = grind (arith, h, l, m, b)

-- a depth whose levels below the arrays are those of the other one
same_depth : (d e : ℕ) (ds : List Datum) → 0 < length ds
    → ((keep : Bool) → paired_type keep to_depth (e - 1) (typs ds)
    ≡ paired_type keep to_depth (below (Some d) ds) (typs ds))
    → types_at_ends to_depth (e - 1) (typs ds)
    ≡ types_at_ends to_depth (below (Some d) ds) (typs ds)
    → HasTypes (Some d) (Some e) ds
same_depth d e ds some typ_is ends_is = record {
  typ = λ keep. ap (λ k. paired_type keep to_depth k (typs (map emptied ds)))
      (below-emptied e ds some)
      ∙ ap (paired_type keep to_depth (e - 1)) (typs-emptied ds) ∙ typ_is keep;
  ends = ap (λ k. types_at_ends to_depth k (typs (map emptied ds))) (below-emptied e ds some)
      ∙ ap (types_at_ends to_depth (e - 1)) (typs-emptied ds) ∙ ends_is;
  right = never_wrong e (map emptied ds) ∙ sym (never_wrong d ds);
}

below-arrays : (d : ℕ) (ds : List Datum) → some_array ds ≡ true → below (Some d) ds ≡ d - 1
below-arrays d ds e = ap (λ b. if b then d - 1 else d) e

below-single : (d : ℕ) (ds : List Datum) → some_array ds ≡ false → below (Some d) ds ≡ d
below-single d ds e = ap (λ b. if b then d - 1 else d) e

-- arrays are a level themselves
pub depth_of_arrays : (d : ℕ) (ds : List Datum) → 0 < length ds → some_array ds ≡ true
    → HasTypes (Some d) (Some d) ds
depth_of_arrays d ds some e =
    same_depth d d ds some
    (λ keep. ap (λ k. paired_type keep to_depth k (typs ds)) (sym (below-arrays d ds e)))
    (ap (λ k. types_at_ends to_depth k (typs ds)) (sym (below-arrays d ds e)))

-- single values are none
pub depth_of_single : (d e : ℕ) (ds : List Datum) → 0 < length ds → some_array ds ≡ false
    → heights (typs ds) ≤ 60 → d ≤ 18446744073709551615
    → e ≡ min (d + 1) 18446744073709551615 → HasTypes (Some d) (Some e) ds
depth_of_single d e ds some f h l m =
    let low : e - 1 ≤ d = omega (arith, l, m) in
    let high : d ≤ e - 1 + 1 = omega (arith, l, m) in
    same_depth d e ds some
    (λ keep. type_near keep (e - 1 == d) (e - 1) d (typs ds) refl
    (high-enough d e (heights (typs ds)) h l m) low high
    ∙ ap (λ k. paired_type keep to_depth k (typs ds)) (sym (below-single d ds f)))
    (ends_near (e - 1 == d) (e - 1) d (typs ds) refl
    (high-enough d e (heights (typs ds)) h l m) low high
    ∙ ap (λ k. types_at_ends to_depth k (typs ds)) (sym (below-single d ds f)))

-- where leaves are asked for, as many levels as the types have
pub all_depths : (ds : List Datum) → HasTypes None None ds
all_depths ds = record {
  typ = λ keep. ap (λ ts. paired_type keep to_leaves (all_levels ts) ts) (typs-emptied ds);
  ends = ap (λ ts. types_at_ends to_leaves (all_levels ts) ts) (typs-emptied ds);
  right = ap (λ ts. is_wrong to_leaves (all_levels ts) ts) (typs-emptied ds);
}
