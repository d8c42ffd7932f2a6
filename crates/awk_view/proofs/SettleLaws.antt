-- Settling of simplified values, on types and values alone.
use Rattle.std.proofs.Common.{◌≡◌, ◌≢◌, ℕ, zero, suc, ◌+◌, ◌<◌, Bool, true, false, List, [], ◌∷◌}
use Rattle.std.proofs.Common.{◌++◌, length, arith, refl, ap, sym, ◌∙◌}
use Rattle.std.specs.List.{list_any, flat_map}
use Rattle.awk_types.specs.DataType.{DataType, opt, uni, DataTypes, type, types_from}
use Rattle.awk_types.specs.Value.{Value, null, alt}
use Rattle.awk_types.specs.Datum.{one}
use Rattle.awk_types.specs.Has.{Has, HasAlternative}
use Rattle.awk_types.specs.Settle.{settle, settle_alternative}
use Rattle.awk_types.specs.Simple.{is_option, option_if, alternatives, present_alternatives}
use Rattle.awk_types.specs.Simple.{option_of, union_of, alternatives_before, value_after}
use Rattle.awk_types.specs.Simple.{IsSimple, AreSimple}
use Rattle.awk_types.proofs.SimpleLaws.{inner_tag, inner_value}
use Rattle.awk_types.proofs.Trees.{types_from-list}
use Rattle.awk_types.proofs.HasLaws.{tag_within}

-- null stays
pub settle-null : (t : DataType) → settle t null ≡ one t null
settle-null (opt t) = refl
settle-null t = refl

-- ---- options

settle-present : (t : DataType) (v : Value) → v ≢ null → settle (opt t) v ≡ settle t v
settle-present t null h = absurd (h refl)
settle-present t v h = refl

-- a present value loses the option
pub settle-option_of : (t : DataType) (v : Value) → v ≢ null → settle (option_of t) v ≡ settle t v
settle-option_of (opt t) v h = refl
settle-option_of t v h = settle-present t v h

-- ---- unions

settle-left : (ts us : List DataType) (k : ℕ) (v : Value) → k < length ts
    → settle_alternative (types_from (ts ++ us)) k v ≡ settle_alternative (types_from ts) k v
settle-left [] us k v h = absurd (omega arith)
settle-left (t ∷ ts) us zero v h = refl
settle-left (t ∷ ts) us (suc k) v h = settle-left ts us k v (omega arith)

settle-right : (ts us : List DataType) (k : ℕ) (v : Value)
    → settle_alternative (types_from (ts ++ us)) (length ts + k) v ≡ settle_alternative
    (types_from us) k v
settle-right [] us k v = ap (λ n. settle_alternative (types_from us) n v) (omega arith)
settle-right (t ∷ ts) us k v =
    let e : length (t ∷ ts) + k ≡ suc (length ts + k) = omega arith in
    ap (λ n. settle_alternative (type t (types_from (ts ++ us))) n v) e ∙ settle-right ts us k v

inner_tag_within : (t : DataType) (w : Value) → is_option t ≡ false → Has t w
    → inner_tag w < length (alternatives t)
inner_tag_within (uni ts) (alt k v) e h = tag_within ts k v h
inner_tag_within (uni ts) w e h = absurd h
inner_tag_within (opt t) w e h = cc
inner_tag_within t (alt k v) e h = absurd h
inner_tag_within t w e h = omega arith

present_tag_within : (t : DataType) (w : Value) → IsSimple t → Has t w → w ≢ null
    → inner_tag w < length (present_alternatives t)
present_tag_within (opt t) null s h n = absurd (n refl)
present_tag_within (opt t) w s h n = inner_tag_within t w s.0 h
present_tag_within t w s h n = inner_tag_within t w refl h

settle-alternatives : (t : DataType) (w : Value) → is_option t ≡ false → Has t w
    → settle_alternative (types_from (alternatives t)) (inner_tag w) (inner_value w) ≡ settle t w
settle-alternatives (uni ts) (alt k v) e h =
    ap (λ us. settle_alternative us k v) (types_from-list ts)
settle-alternatives (uni ts) w e h = absurd h
settle-alternatives (opt t) w e h = cc
settle-alternatives t (alt k v) e h = absurd h
settle-alternatives t w e h = refl

settle-present_alternatives : (t : DataType) (w : Value) → IsSimple t → Has t w → w ≢ null
    → settle_alternative (types_from (present_alternatives t)) (inner_tag w) (inner_value w) ≡
    settle t w
settle-present_alternatives (opt t) null s h n = absurd (n refl)
settle-present_alternatives (opt t) w s h n = settle-alternatives t w s.0 h
settle-present_alternatives t w s h n = settle-alternatives t w refl h

settle-flat : (ts : List DataType) (k : ℕ) (w : Value) → AreSimple (types_from ts)
    → HasAlternative (types_from ts) k w → w ≢ null
    → settle_alternative (types_from (flat_map present_alternatives ts))
    (alternatives_before ts k + inner_tag w) (inner_value w) ≡ settle_alternative
    (types_from ts) k w
settle-flat [] k w s h n = absurd h
settle-flat (t ∷ ts) zero w s h n =
    let e : 0 + inner_tag w ≡ inner_tag w = omega arith in
    ap (λ j. settle_alternative (types_from (present_alternatives t ++ flat_map present_alternatives
    ts)) j (inner_value w)) e
    ∙ settle-left (present_alternatives t) (flat_map present_alternatives ts) (inner_tag w)
    (inner_value w) (present_tag_within t w s.0 h n)
    ∙ settle-present_alternatives t w s.0 h n
settle-flat (t ∷ ts) (suc k) w s h n =
    let e : length (present_alternatives t) + alternatives_before ts k + inner_tag w ≡ length
    (present_alternatives t) + (alternatives_before ts k + inner_tag w) = omega arith in
    ap (λ j. settle_alternative (types_from (present_alternatives t ++ flat_map present_alternatives
    ts)) j (inner_value w)) e
    ∙ settle-right (present_alternatives t) (flat_map present_alternatives ts)
    (alternatives_before ts k + inner_tag w) (inner_value w)
    ∙ settle-flat ts k w s.1 h n

settle-option_if : (b : Bool) (ts : DataTypes) (k : ℕ) (v : Value)
    → settle (option_if b (uni ts)) (alt k v) ≡ settle_alternative ts k v
settle-option_if true ts k v = refl
settle-option_if false ts k v = refl

value_after-alternative : (b : ℕ) (w : Value) → w ≢ null
    → value_after b w ≡ alt (b + inner_tag w) (inner_value w)
value_after-alternative b null n = absurd (n refl)
value_after-alternative b (alt j v) n = refl
value_after-alternative b w n = ap (λ k. alt k w) (omega arith)

pub value_after-present : (b : ℕ) (w : Value) → w ≢ null → value_after b w ≢ null
value_after-present b w n = λ e. let f = sym (value_after-alternative b w n) ∙ e in cc

-- a value that a simple type gives to a union settles with its own type
pub settle-union_of : (ts : List DataType) (k : ℕ) (w : Value) → AreSimple (types_from ts)
    → HasAlternative (types_from ts) k w → w ≢ null
    → settle (union_of ts) (value_after (alternatives_before ts k) w) ≡ settle_alternative
    (types_from ts) k w
settle-union_of ts k w s h n =
    ap (settle (union_of ts)) (value_after-alternative (alternatives_before ts k) w n)
    ∙ settle-option_if (list_any is_option ts) (types_from (flat_map present_alternatives ts))
    (alternatives_before ts k + inner_tag w) (inner_value w)
    ∙ settle-flat ts k w s h n
