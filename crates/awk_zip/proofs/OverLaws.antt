-- Values with a function applied at their ends, and rows of columns.
use Rattle.std.proofs.Common.{◌≡◌, refl, ap, ◌∙◌}
use Rattle.std.specs.Prelude.{List, [], ◌∷◌, map}
use Rattle.awk_types.specs.DataType.{DataType, unknown, leaf, var, reg, rec, tup, opt, uni}
use Rattle.awk_types.specs.Simple.{in_list, in_option}
use Rattle.awk_types.specs.Value.{Value, int, truth, null, list, row, alt}
use Rattle.awk_types.specs.Value.{value_list, values_from}
use Rattle.awk_types.proofs.Trees.{values_from-list}
use Rattle.awk_frames.specs.Framed.{over}

map-same : (f : Value → Value) → ((v : Value) → f v ≡ v) → (vs : List Value) → map f vs ≡ vs
map-same f e [] = refl
map-same f e (v ∷ vs) = ap (λ w. w ∷ map f vs) (e v) ∙ ap (λ ws. v ∷ ws) (map-same f e vs)

list-same : (f : Value → Value) → ((v : Value) → f v ≡ v) → (v : Value) → in_list f v ≡ v
list-same f e (list vs) =
    ap (λ ws. list (values_from ws)) (map-same f e (value_list vs)) ∙ ap list (values_from-list vs)
list-same f e (int z) = refl
list-same f e (truth b) = refl
list-same f e null = refl
list-same f e (row vs) = refl
list-same f e (alt k v) = refl

option-same : (f : Value → Value) → ((v : Value) → f v ≡ v) → (v : Value) → in_option f v ≡ v
option-same f e null = refl
option-same f e (list vs) = e (list vs)
option-same f e (int z) = e (int z)
option-same f e (truth b) = e (truth b)
option-same f e (row vs) = e (row vs)
option-same f e (alt k v) = e (alt k v)

-- where what stands at the ends stays, all stays
pub over-same : (t : DataType) (v : Value) → over t (λ w. w) v ≡ v
over-same (var t) v = list-same (over t (λ w. w)) (over-same t) v
over-same (reg n t) v = list-same (over t (λ w. w)) (over-same t) v
over-same (opt t) v = option-same (over t (λ w. w)) (over-same t) v
over-same unknown v = refl
over-same (leaf p) v = refl
over-same (rec ns ts) v = refl
over-same (tup ts) v = refl
over-same (uni ts) v = refl

pub overs-same : (t : DataType) (vs : List Value) → map (over t (λ w. w)) vs ≡ vs
overs-same t vs = map-same (over t (λ w. w)) (over-same t) vs
