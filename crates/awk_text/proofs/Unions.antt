-- The alternatives of simple types, laid one after another, as a union has them.
use Rattle.std.proofs.Common.{◌≡◌, ℕ, zero, suc, ◌+◌, ◌<◌, Bool, true, false, List, [], ◌∷◌}
use Rattle.std.proofs.Common.{◌++◌, length, codes, refl, ap, sym, ◌∙◌, subst, arith, length-append}
use Rattle.std.specs.List.{list_any, flat_map}
use Rattle.std.proofs.lemmas.Bool.{or_right, or_left}
use Rattle.awk_types.specs.DataType.{DataType, opt, uni, DataTypes, type, types_from}
use Rattle.awk_types.specs.Predicates.{is_null}
use Rattle.awk_types.specs.Value.{Value, int, truth, null, list, row, alt}
use Rattle.awk_types.specs.Simple.{is_option, option_if, present_alternatives, union_of}
use Rattle.awk_types.specs.Simple.{alternatives_before, value_after}
use Rattle.awk_types.proofs.SimpleLaws.{inner_tag, inner_value, present_alternatives-union_of}
use Rattle.awk_types.proofs.SimpleLaws.{value_after_alternative}
use Rattle.awk_form.specs.FormText.{Text}
use Rattle.awk_text.specs.ValueText.{value_text, alternative_text}

-- the text of an alternative of the left types, and of one of the right types
pub text_left : (ts us : List DataType) (k : ℕ) (v : Value) → k < length ts
    → alternative_text (types_from (ts ++ us)) k v ≡ alternative_text (types_from ts) k v
text_left [] us k v h = absurd (omega arith)
text_left (t ∷ ts) us zero v h = refl
text_left (t ∷ ts) us (suc k) v h = text_left ts us k v (omega arith)

text_at : (ts : DataTypes) (v : Value) (m n : ℕ) → m ≡ n
    → alternative_text ts m v ≡ alternative_text ts n v
text_at ts v m n e = ap (λ k. alternative_text ts k v) e

pub text_right : (ts us : List DataType) (k : ℕ) (v : Value)
    → alternative_text (types_from (ts ++ us)) (length ts + k) v
    ≡ alternative_text (types_from us) k v
text_right [] us k v = text_at (types_from us) v _ _ (omega arith)
text_right (t ∷ ts) us k v = text_at (type t (types_from (ts ++ us))) v _ (suc (length ts + k))
    (omega arith) ∙ text_right ts us k v

-- A value of a simple type: null stands only in an option, and any other value is shown as one of
-- the alternatives.
pub record Splits (s : DataType) (w : Value) : Type 0 where
  pub null_in : is_null w ≡ true → is_option s ≡ true
  pub within : is_null w ≡ false → inner_tag w < length (present_alternatives s)
  pub shown : is_null w ≡ false
      → value_text s w ≡ alternative_text (types_from (present_alternatives s)) (inner_tag w)
      (inner_value w)

-- the value of an alternative, as one of all that the types give
pub record SplitsAt (ss : List DataType) (k : ℕ) (w : Value) (text : Text) : Type 0 where
  pub null_in : is_null w ≡ true → list_any is_option ss ≡ true
  pub null_text : is_null w ≡ true → text ≡ codes "null"
  pub within : is_null w ≡ false
      → alternatives_before ss k + inner_tag w < length (flat_map present_alternatives ss)
  pub shown : is_null w ≡ false → alternative_text (types_from (flat_map present_alternatives ss))
      (alternatives_before ss k + inner_tag w) (inner_value w) ≡ text

-- what an option shows at null
null_text-option : (s : DataType) (w : Value) → is_null w ≡ true → is_option s ≡ true
    → value_text s w ≡ codes "null"
null_text-option (opt s) w n e = rw n refl
null_text-option s w n e = absurd (cc)

pub splits_first : (s : DataType) (ss : List DataType) (w : Value) → Splits s w
    → SplitsAt (s ∷ ss) zero w (value_text s w)
splits_first s ss w p = record {
  null_in = λ n. or_left (is_option s) (list_any is_option ss) (p.null_in n);
  null_text = λ n. null_text-option s w n (p.null_in n);
  within = λ n. let h = p.within n in
      omega (arith, h, length-append (present_alternatives s) (flat_map present_alternatives ss));
  shown = λ n.
      text_at (types_from (present_alternatives s ++ flat_map present_alternatives ss))
      (inner_value w) (0 + inner_tag w) (inner_tag w) (omega arith)
      ∙ text_left (present_alternatives s) (flat_map present_alternatives ss) (inner_tag w)
      (inner_value w) (p.within n)
      ∙ sym (p.shown n);
}

pub splits_later : (s : DataType) (ss : List DataType) (k : ℕ) (w : Value) (text : Text)
    → SplitsAt ss k w text → SplitsAt (s ∷ ss) (suc k) w text
splits_later s ss k w text p = record {
  null_in = λ n. or_right (is_option s) (list_any is_option ss) (p.null_in n);
  null_text = p.null_text;
  within = λ n. let h = p.within n in
      omega (arith, h, length-append (present_alternatives s) (flat_map present_alternatives ss));
  shown = λ n.
      text_at (types_from (present_alternatives s ++ flat_map present_alternatives ss))
      (inner_value w) (length (present_alternatives s) + alternatives_before ss k + inner_tag w)
      (length (present_alternatives s) + (alternatives_before ss k + inner_tag w)) (omega arith)
      ∙ text_right (present_alternatives s) (flat_map present_alternatives ss)
      (alternatives_before ss k + inner_tag w) (inner_value w)
      ∙ p.shown n;
}

after-null : (b : ℕ) (w : Value) → is_null w ≡ true → value_after b w ≡ null
after-null b null n = refl
after-null b (alt j v) n = absurd (cc)
after-null b (int z) n = absurd (cc)
after-null b (truth t) n = absurd (cc)
after-null b (list vs) n = absurd (cc)
after-null b (row vs) n = absurd (cc)

null_text-if : (o : Bool) (t : DataType) → o ≡ true → value_text (option_if o t) null ≡ codes "null"
null_text-if true t e = refl
null_text-if false t e = absurd (cc)

alt_text-if : (o : Bool) (ts : DataTypes) (k : ℕ) (v : Value)
    → value_text (option_if o (uni ts)) (alt k v) ≡ alternative_text ts k v
alt_text-if true ts k v = refl
alt_text-if false ts k v = refl

is_option-if : (o : Bool) (ts : DataTypes) → o ≡ true → is_option (option_if o (uni ts)) ≡ true
is_option-if true ts e = refl
is_option-if false ts e = absurd (cc)

pub record SplitsAs (s : DataType) (w : Value) (text : Text) : Type 0 where
  pub same : value_text s w ≡ text
  pub splits : Splits s w

union_null : (ss : List DataType) (k : ℕ) (w : Value) (text : Text) → SplitsAt ss k w text
    → is_null w ≡ true → SplitsAs (union_of ss) null text
union_null ss k w text p n = record {
  same = null_text-if (list_any is_option ss) (uni (types_from (flat_map present_alternatives ss)))
      (p.null_in n) ∙ sym (p.null_text n);
  splits = record {
    null_in = λ e. is_option-if (list_any is_option ss)
        (types_from (flat_map present_alternatives ss)) (p.null_in n);
    within = λ e. absurd (cc);
    shown = λ e. absurd (cc);
  };
}

union_alt : (ss : List DataType) (k : ℕ) (w : Value) (text : Text) → SplitsAt ss k w text
    → is_null w ≡ false
    → SplitsAs (union_of ss) (alt (alternatives_before ss k + inner_tag w) (inner_value w)) text
union_alt ss k w text p n =
    let flat : List DataType = flat_map present_alternatives ss in
    let at : ℕ = alternatives_before ss k + inner_tag w in
    let given : present_alternatives (union_of ss) ≡ flat = present_alternatives-union_of ss in
    let whole : value_text (union_of ss) (alt at (inner_value w)) ≡ alternative_text
    (types_from flat) at (inner_value w) =
    alt_text-if (list_any is_option ss) (types_from flat) at (inner_value w) in
    record {
      same = whole ∙ p.shown n;
      splits = record {
        null_in = λ e. absurd (cc);
        within = λ e. subst (λ ts. at < length ts) (sym given) (p.within n);
        shown = λ e. whole ∙ ap (λ ts. alternative_text (types_from ts) at (inner_value w))
            (sym given);
      };
    }

-- the value of an alternative, as one of the union
pub union_splits : (ss : List DataType) (k : ℕ) (w : Value) (text : Text) (n : Bool) → is_null w ≡ n
    → SplitsAt ss k w text → SplitsAs (union_of ss) (value_after (alternatives_before ss k) w) text
union_splits ss k w text true e p = subst (λ v. SplitsAs (union_of ss) v text)
    (sym (after-null (alternatives_before ss k) w e)) (union_null ss k w text p e)
union_splits ss k w text false e p = subst (λ v. SplitsAs (union_of ss) v text)
    (sym (value_after_alternative (alternatives_before ss k) w e)) (union_alt ss k w text p e)
