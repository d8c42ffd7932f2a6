-- Fields of one record with a field.
use Rattle.std.specs.Prelude.{◌≡◌, suc, false, List, [], ◌∷◌, length, get_or, refl}
use Rattle.std.proofs.Common.{ap, ap₂, sym, ◌∙◌}
use Rattle.awk_types.specs.DataType.{Name, DataType, DataTypes, no_types, type, unknown, rec}
use Rattle.awk_types.specs.DataType.{type_list, types_from}
use Rattle.awk_types.specs.Has.{Has, HasRow}
use Rattle.awk_types.specs.IsType.{IsType, count}
use Rattle.awk_types.specs.Names.{is_among, place_of}
use Rattle.awk_types.specs.Simple.{simple_value}
use Rattle.awk_types.specs.Value.{Value, int, truth, null, list, row, alt, value_list, values_from}
use Rattle.awk_types.proofs.Trees.{type_list-from, types_from-list, value_list-from}
use Rattle.awk_types.proofs.Trees.{values_from-list}
use Rattle.awk_view.specs.Choice.{field, without, beside, apart_from, chosen_value}
use Rattle.awk_put_field.specs.Field.{put, named, field_value}
use Rattle.awk_laws.proofs.PutNames.{beside-put, apart-put}

-- ---- rows

pub length-row : (ts : DataTypes) (vs : List Value) → HasRow ts vs → length vs ≡ count ts
length-row no_types [] h = refl
length-row no_types (v ∷ vs) h = absurd h
length-row (type t ts) [] h = absurd h
length-row (type t ts) (v ∷ vs) h = ap suc (length-row ts vs h.1)

-- ---- the field

pub field_type-with : (n : Name) (ns : List Name) (ts : DataTypes) (u : DataType)
    → IsType (rec ns ts)
    → beside unknown n (named n ns) (type_list (types_from (put n ns u (type_list ts)))) ≡ u
field_type-with n ns ts u h =
    ap (λ xs. get_or xs (place_of n (named n ns)) unknown)
    (type_list-from (put n ns u (type_list ts)))
    ∙ beside-put n ns unknown u (type_list ts) h.1

-- the field of a record with it
pub field-raw : (n : Name) (ns : List Name) (ts : DataTypes) (u : DataType) (r x : Value)
    → IsType (rec ns ts) → Has (rec ns ts) r
    → chosen_value (field n) (rec (named n ns) (types_from (put n ns u (type_list ts))))
    (field_value n ns r x) ≡ simple_value u x
field-raw n ns ts u (row rws) x h k =
    let size : length ns ≡ length (value_list rws) = h.1 ∙ sym (length-row ts (value_list rws) k) in
    ap₂ simple_value (field_type-with n ns ts u h)
    (ap (λ xs. get_or xs (place_of n (named n ns)) null)
    (value_list-from (put n ns x (value_list rws)))
    ∙ beside-put n ns null x (value_list rws) size)
field-raw n ns ts u (int z) x h k = absurd k
field-raw n ns ts u (truth b) x h k = absurd k
field-raw n ns ts u null x h k = absurd k
field-raw n ns ts u (list vs) x h k = absurd k
field-raw n ns ts u (alt j w) x h k = absurd k

-- ---- without the field

pub type_without : (n : Name) (ns : List Name) (ts : DataTypes) (u : DataType) → IsType (rec ns ts)
    → is_among n ns ≡ false
    → rec (apart_from n (named n ns) (named n ns))
    (types_from (apart_from n (named n ns) (type_list (types_from (put n ns u (type_list ts))))))
    ≡ rec ns ts
type_without n ns ts u h f =
    ap₂ (λ ms xs. rec ms (types_from xs)) (apart-put n ns n ns f refl)
    (ap (apart_from n (named n ns)) (type_list-from (put n ns u (type_list ts)))
    ∙ apart-put n ns u (type_list ts) f h.1)
    ∙ ap (rec ns) (types_from-list ts)

-- a record with a new field that is left out again
pub without-raw : (n : Name) (ns : List Name) (ts : DataTypes) (u : DataType) (r x : Value)
    → IsType (rec ns ts) → is_among n ns ≡ false → Has (rec ns ts) r
    → chosen_value (without n) (rec (named n ns) (types_from (put n ns u (type_list ts))))
    (field_value n ns r x) ≡ simple_value (rec ns ts) r
without-raw n ns ts u (row rws) x h f k =
    let size : length ns ≡ length (value_list rws) = h.1 ∙ sym (length-row ts (value_list rws) k) in
    ap₂ simple_value (type_without n ns ts u h f)
    (ap (λ xs. row (values_from xs))
    (ap (apart_from n (named n ns)) (value_list-from (put n ns x (value_list rws)))
    ∙ apart-put n ns x (value_list rws) f size)
    ∙ ap row (values_from-list rws))
without-raw n ns ts u (int z) x h f k = absurd k
without-raw n ns ts u (truth b) x h f k = absurd k
without-raw n ns ts u null x h f k = absurd k
without-raw n ns ts u (list vs) x h f k = absurd k
without-raw n ns ts u (alt j w) x h f k = absurd k
