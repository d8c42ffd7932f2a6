-- Each type and what it simplifies to meet the laws of simplifying.
use Rattle.std.proofs.Common.{◌≡◌, map, refl, ap, ◌∙◌, sym, subst}
use Rattle.std.specs.List.{AllByRecursion}
use Rattle.awk_types.specs.DataType.{DataType, unknown, leaf, var, reg, rec, tup, opt, uni}
use Rattle.awk_types.specs.DataType.{DataTypes, types_from}
use Rattle.awk_types.specs.Value.{Value, list, row, Values, value_list, values_from}
use Rattle.awk_types.specs.Has.{Has, HasRow}
use Rattle.awk_types.specs.Simple.{simple, simples, simple_value, simple_values, values_by, in_list}
use Rattle.awk_types.specs.Simple.{in_row}
use Rattle.awk_types.specs.Simplifies.{Simplifies, over_simple_parts, value_over_simple_parts}
use Rattle.awk_types.proofs.Trees.{type_list-from, value_list-from}
use Rattle.awk_types.proofs.SimpleLaws.{simple_is_simple, simples_are_simple, simple_stays}
use Rattle.awk_types.proofs.SimpleLaws.{simples_stay, simple_twice, has_simple, has_simples}
use Rattle.awk_types.proofs.SimpleLaws.{value_stays, values_stay, option_over, option_value_over}
use Rattle.awk_types.proofs.SimpleLaws.{union_over, union_value_over, each_twice}
use Rattle.awk_types.proofs.NodeLaws.{nodes-simple}
use Rattle.awk_types.proofs.TypeLaws.{simple_is_type}

-- ---- simplifying the parts first

pub simples_over : (ts : DataTypes) → simples (types_from (simples ts)) ≡ simples ts
simples_over ts =
    simples_stay (types_from (simples ts)) (simples_are_simple ts) ∙ type_list-from (simples ts)

pub simple_over : (t : DataType) → simple (over_simple_parts t) ≡ simple t
simple_over unknown = refl
simple_over (leaf p) = refl
simple_over (var t) = ap var (simple_twice t)
simple_over (reg n t) = ap (reg n) (simple_twice t)
simple_over (rec ns ts) = ap (λ us. rec ns (types_from us)) (simples_over ts)
simple_over (tup ts) = ap (λ us. tup (types_from us)) (simples_over ts)
simple_over (opt t) = option_over t
simple_over (uni ts) = union_over ts

list_over : (t : DataType) (vs : Values) → AllByRecursion (Has t) (value_list vs)
    → in_list (simple_value (simple t)) (in_list (simple_value t) (list vs)) ≡ in_list
    (simple_value t) (list vs)
list_over t vs h =
    rw (value_list-from (map (simple_value t) (value_list vs)))
    (ap (λ ws. list (values_from ws)) (each_twice t (value_list vs) h))

row_over : (ts : DataTypes) (vs : Values) → HasRow ts (value_list vs)
    → in_row (simple_values (types_from (simples ts))) (in_row (simple_values ts) (row vs)) ≡ in_row
    (simple_values ts) (row vs)
row_over ts vs h =
    rw (value_list-from (values_by (simple_values ts) (value_list vs)))
    (ap (λ ws. row (values_from ws)) (values_stay (types_from (simples ts))
    (values_by (simple_values ts) (value_list vs)) (simples_are_simple ts)
    (has_simples ts (value_list vs) h)))

pub value_over : (t : DataType) (v : Value) → Has t v
    → simple_value (over_simple_parts t) (value_over_simple_parts t v) ≡ simple_value t v
value_over unknown v h = refl
value_over (leaf p) v h = refl
value_over (var t) (list vs) h = list_over t vs h
value_over (var t) v h = absurd h
value_over (reg n t) (list vs) h = list_over t vs h.1
value_over (reg n t) v h = absurd h
value_over (rec ns ts) (row vs) h = row_over ts vs h
value_over (rec ns ts) v h = absurd h
value_over (tup ts) (row vs) h = row_over ts vs h
value_over (tup ts) v h = absurd h
value_over (opt t) v h = option_value_over t v h
value_over (uni ts) v h = union_value_over ts v h

-- ---- all the laws

pub simplifies : (t : DataType) → Simplifies t (simple t)
simplifies t = record {
  is_simple = simple_is_simple t;
  is_type = simple_is_type t;
  nodes_within = nodes-simple t;
  stays = simple_stays t;
  twice = simple_twice t;
  parts_first = simple_over t;
  values = has_simple t;
  values_stay = λ s v h. value_stays t v s h;
  values_twice = λ v h. value_stays (simple t) v (simple_is_simple t) h;
  values_parts_first = value_over t;
}

pub simplifies_to : (t made : DataType) → made ≡ simple t → Simplifies t made
simplifies_to t made e = subst (Simplifies t) (sym e) (simplifies t)
