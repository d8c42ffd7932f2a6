-- A value that is simplified with its type has the text that it had before.
use Rattle.std.proofs.Common.{◌≡◌, ℕ, zero, suc, Bool, true, false, List, [], ◌∷◌, codes, decimal}
use Rattle.std.proofs.Common.{map, refl, ap, ◌∙◌, subst, arith}
use Rattle.std.specs.List.{AllByRecursion}
use Rattle.awk_types.specs.DataType.{DataType, unknown, leaf, var, reg, rec, tup, opt, uni}
use Rattle.awk_types.specs.DataType.{DataTypes, no_types, type, types_from}
use Rattle.awk_json.specs.Text.{list_text}
use Rattle.awk_types.specs.Predicates.{is_null}
use Rattle.awk_types.specs.Value.{Value, Values, int, truth, null, list, row, alt, value_list}
use Rattle.awk_types.specs.Value.{values_from}
use Rattle.awk_types.specs.Simple.{is_option, option_of, simple, simples, simple_value}
use Rattle.awk_types.specs.Simple.{simple_values, values_by, value_by}
use Rattle.awk_types.proofs.Trees.{value_list-from}
use Rattle.awk_form.specs.FormText.{Text}
use Rattle.awk_text.specs.ValueText.{value_text, row_texts, alternative_text, place_names}
use Rattle.awk_types.specs.Has.{Has, HasRow, HasAlternative}
use Rattle.awk_text.proofs.Unions.{Splits, SplitsAt, SplitsAs, splits_first, splits_later}
use Rattle.awk_text.proofs.Unions.{union_splits}

-- the texts of values, each carried along
each_text : (f : Value → Value) (t s : DataType) (vs : List Value)
    → ((v : Value) → Has t v → SplitsAs s (f v) (value_text t v)) → AllByRecursion (Has t) vs
    → map (value_text s) (map f vs) ≡ map (value_text t) vs
each_text f t s [] each h = refl
each_text f t s (v ∷ vs) each h = ap (λ z. z ∷ map (value_text s) (map f vs)) ((each v h.0).same)
    ∙ ap (λ z. value_text t v ∷ z) (each_text f t s vs each h.1)

list_same : (f : Value → Value) (t s : DataType) (vs : Values)
    → ((v : Value) → Has t v → SplitsAs s (f v) (value_text t v))
    → AllByRecursion (Has t) (value_list vs)
    → list_text (map (value_text s) (value_list (values_from (map f (value_list vs)))))
    ≡ list_text (map (value_text t) (value_list vs))
list_same f t s vs each h = ap (λ z. list_text (map (value_text s) z))
    (value_list-from (map f (value_list vs)))
    ∙ ap list_text (each_text f t s (value_list vs) each h)

-- lists and rows stand in no option and in no union
list_splits : (t : DataType) (ws : Values) → Splits (var t) (list ws)
list_splits t ws =
    record { null_in = λ n. absurd (cc); within = λ n. omega arith; shown = λ n. refl }

reg_splits : (n : ℕ) (t : DataType) (ws : Values) → Splits (reg n t) (list ws)
reg_splits m t ws =
    record { null_in = λ n. absurd (cc); within = λ n. omega arith; shown = λ n. refl }

rec_splits : (ns : List (List ℕ)) (ts : DataTypes) (ws : Values) → Splits (rec ns ts) (row ws)
rec_splits ns ts ws =
    record { null_in = λ n. absurd (cc); within = λ n. omega arith; shown = λ n. refl }

tup_splits : (ts : DataTypes) (ws : Values) → Splits (tup ts) (row ws)
tup_splits ts ws =
    record { null_in = λ n. absurd (cc); within = λ n. omega arith; shown = λ n. refl }

-- an option of a simple type
option_null : (s : DataType) → SplitsAs (option_of s) null (codes "null")
option_null s = record {
  same = refl;
  splits =
      record { null_in = λ n. refl; within = λ n. absurd (cc); shown = λ n. absurd (cc) };
}

option_text : (s : DataType) (w : Value) (n : Bool) → is_null w ≡ n → Splits s w
    → value_text (option_of s) w ≡ value_text s w
option_text (opt s) w n e p = refl
option_text s w true e p = absurd (let h : is_option s ≡ true = p.null_in e in cc)
option_text s w false e p = rw e refl

option_splits : (s : DataType) (w : Value) (text : Text) → SplitsAs s w text
    → SplitsAs (option_of s) w text
option_splits s w text p =
    let e : value_text (option_of s) w ≡ value_text s w =
    option_text s w (is_null w) refl p.splits in
    record {
      same = e ∙ p.same;
      splits = record {
        null_in = λ n. refl;
        within = p.splits.within;
        shown =
            λ n. e ∙ p.splits.shown n;
      };
    }

-- simplifying keeps the number of fields
names_stay : (i : ℕ) (ts : DataTypes) → place_names i (types_from (simples ts)) ≡ place_names i ts
names_stay i no_types = refl
names_stay i (type t ts) = ap (λ ns. decimal i ∷ ns) (names_stay (suc i) ts)

mutual
  pub simple_splits : (t : DataType) (v : Value) → Has t v
      → SplitsAs (simple t) (simple_value t v) (value_text t v)
  simple_splits unknown v h = absurd h
  simple_splits (leaf p) (int z) h = record {
    same = refl;
    splits =
        record { null_in = λ n. absurd (cc); within = λ n. omega arith; shown = λ n. refl };
  }
  simple_splits (leaf p) (truth b) h = record {
    same = refl;
    splits =
        record { null_in = λ n. absurd (cc); within = λ n. omega arith; shown = λ n. refl };
  }
  simple_splits (leaf p) v h = absurd h
  simple_splits (var t) (list vs) h =
      record {
        same = list_same (simple_value t) t (simple t) vs (λ v k. simple_splits t v k) h;
        splits = list_splits (simple t) (values_from (map (simple_value t) (value_list vs)));
      }
  simple_splits (var t) v h = absurd h
  simple_splits (reg n t) (list vs) h =
      record {
        same = list_same (simple_value t) t (simple t) vs (λ v k. simple_splits t v k) h.1;
        splits = reg_splits n (simple t) (values_from (map (simple_value t) (value_list vs)));
      }
  simple_splits (reg n t) v h = absurd h
  simple_splits (rec ns ts) (row vs) h = record {
    same =
        rw (
          value_list-from (values_by (simple_values ts) (value_list vs)),
          simple_rows ts
              (value_list vs) h,
        ) refl;
    splits = rec_splits ns (types_from (simples ts))
        (values_from (values_by (simple_values ts) (value_list vs)));
  }
  simple_splits (rec ns ts) v h = absurd h
  simple_splits (tup ts) (row vs) h = record {
    same =
        rw (
          value_list-from (values_by (simple_values ts) (value_list vs)),
          simple_rows ts
              (value_list vs) h,
          names_stay 0 ts,
        ) refl;
    splits = tup_splits (types_from (simples ts))
        (values_from (values_by (simple_values ts) (value_list vs)));
  }
  simple_splits (tup ts) v h = absurd h
  simple_splits (opt t) null h = option_null (simple t)
  simple_splits (opt t) v h =
      option_splits (simple t) (simple_value t v) (value_text t v) (simple_splits t v h)
  simple_splits (uni ts) (alt k v) h =
      let w : Value = value_by (simple_values ts) k v in
      union_splits (simples ts) k w (alternative_text ts k v) (is_null w) refl
      (simple_alternative ts k v h)
  simple_splits (uni ts) v h = absurd h

  pub simple_rows : (ts : DataTypes) (vs : List Value) → HasRow ts vs
      → row_texts (types_from (simples ts)) (values_by (simple_values ts) vs) ≡ row_texts ts vs
  simple_rows no_types vs h = refl
  simple_rows (type t ts) [] h = refl
  simple_rows (type t ts) (v ∷ vs) h =
      ap (λ z. z ∷ row_texts (types_from (simples ts)) (values_by (simple_values ts) vs))
      ((simple_splits t v h.0).same)
      ∙ ap (λ z. value_text t v ∷ z) (simple_rows ts vs h.1)

  pub simple_alternative : (ts : DataTypes) (k : ℕ) (v : Value) → HasAlternative ts k v
      → SplitsAt (simples ts) k (value_by (simple_values ts) k v) (alternative_text ts k v)
  simple_alternative no_types k v h = absurd h
  simple_alternative (type t ts) zero v h =
      let p : SplitsAs (simple t) (simple_value t v) (value_text t v) = simple_splits t v h in
      subst (λ text. SplitsAt (simple t ∷ simples ts) zero (simple_value t v) text) p.same
      (splits_first (simple t) (simples ts) (simple_value t v) p.splits)
  simple_alternative (type t ts) (suc k) v h = splits_later (simple t) (simples ts) k
      (value_by (simple_values ts) k v) (alternative_text ts k v) (simple_alternative ts k v h)

-- the text stays the same
pub simple_text : (t : DataType) (v : Value) → Has t v
    → value_text (simple t) (simple_value t v) ≡ value_text t v
simple_text t v h = (simple_splits t v h).same
