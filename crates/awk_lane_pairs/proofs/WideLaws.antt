-- Results of int64, made one after another.
use Rattle.std.proofs.Common.{◌≡◌, ℕ, ◌+◌, List, [], ◌∷◌, ◌++◌, map, length, ap}
use Rattle.std.proofs.Common.{ap₂, sym, ◌∙◌, arith}
use Rattle.std.specs.Prelude.{ℤ, pos, negsuc, Result, Ok}
use Rattle.std.specs.List.{range_with_len}
use Rattle.std.specs.Simd.Lanes.{zip2}
use Rattle.std.proofs.lemmas.List.{length-map, map-append}
use Rattle.std.proofs.lemmas.List.FromFn.{fill_by_all, map-range_with_len_more}
use Rattle.std.proofs.lemmas.List.FromFn.{length-map-range_with_len}
use Rattle.std.proofs.lemmas.Simd.{get_or-zip2, length-zip2}
use Rattle.awk_types.specs.declared.primitive.Primitive.TheVariants as prim
use Rattle.awk_lanes.specs.Column.{Column}
use Rattle.awk_lanes.specs.Making.{Making, with_item}
use Rattle.awk_lanes.specs.declared.kind.Kind.TheVariants as kind
use Rattle.awk_kernels.specs.Operations.{leaf}
use Rattle.awk_kernels.specs.declared.operation.Arith.{Arith}
use Rattle.awk_kernels.specs.declared.operation.Why.{Why}
use Rattle.awk_lane_pairs.specs.Results.{leaf_at, AreCalculated}

-- so far there are the results at the first i places
pub made_long : (op : Arith) (xs ys zs : List ℤ) (i : ℕ)
    → map (λ (z : ℤ). Ok z) zs ≡ map (leaf_at op xs ys) (range_with_len 0 i) → length zs ≡ i
made_long op xs ys zs i e =
    sym (length-map zs (λ (z : ℤ). Ok z)) ∙ ap length e
    ∙ length-map-range_with_len (leaf_at op xs ys) 0 i

pub made_more : (op : Arith) (xs ys : List ℤ) (i : ℕ) (z : ℤ) (old new : Making)
    → new ≡ with_item old z → leaf_at op xs ys i ≡ Ok z
    → map (λ (z : ℤ). Ok z) old.items ≡ map (leaf_at op xs ys) (range_with_len 0 i)
    → map (λ (z : ℤ). Ok z) new.items ≡ map (leaf_at op xs ys) (range_with_len 0 (i + 1))
made_more op xs ys i z old new e h so =
    ap (λ (m : Making). map (λ (z : ℤ). Ok z) m.items) e
    ∙ map-append (λ (z : ℤ). Ok z) old.items (z ∷ [])
    ∙ ap₂ (λ rs r. rs ++ r ∷ []) so (sym h)
    ∙ sym (map-range_with_len_more (leaf_at op xs ys) 0 i i (omega arith))

-- the lane of all
pub made_all : (op : Arith) (xs ys zs : List ℤ) (n : ℕ) (c : Column) → length xs ≡ n
    → length ys ≡ n → c ≡ record { kind = kind.I64; items = zs }
    → map (λ (z : ℤ). Ok z) zs ≡ map (leaf_at op xs ys) (range_with_len 0 n)
    → AreCalculated op prim.I64 xs ys c
made_all op xs ys zs n c e f made so =
    let one : ℤ → ℤ → Result ℤ Why =
    leaf op (negsuc 9223372036854775807) (pos 9223372036854775807) in
    record {
      kind = ap (λ (c : Column). c.kind) made;
      numbers = ap (λ (c : Column). map (λ (z : ℤ). Ok z) c.items) made ∙ so
          ∙ sym (fill_by_all (leaf_at op xs ys) (zip2 one xs ys) n (Ok (pos 0))
          (length-zip2 one xs ys (e ∙ sym f) ∙ e)
          (λ i l. get_or-zip2 one xs ys i (pos 0) (pos 0) (Ok (pos 0)) (omega (arith, l, e))
          (omega (arith, l, f))));
    }
