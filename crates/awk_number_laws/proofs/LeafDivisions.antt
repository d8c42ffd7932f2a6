-- Quotients and remainders of whole arrays.
use Rattle.std.specs.Prelude.{◌≡◌, ℕ, zero, suc, ◌<◌, Bool, true, false, ◌||◌, List, [], ◌∷◌, map}
use Rattle.std.specs.Prelude.{length, get_or, None, Result, Ok, Err, ℤ, refl, if◌then◌else◌}
use Rattle.std.specs.List.{AllByRecursion}
use Rattle.std.proofs.Common.{ap, ap₂, sym, ◌∙◌, arith, subst}
use Rattle.std.proofs.lemmas.List.{length-map, get_or-map}
use Rattle.awk_types.specs.DataType.{leaf}
use Rattle.awk_types.specs.Datum.{Datum}
use Rattle.awk_types.specs.Faults.{limit_refused}
use Rattle.awk_types.specs.Gives.{◌or◌}
use Rattle.awk_types.specs.Has.{least_number, greatest_number}
use Rattle.awk_types.specs.Parts.{number_of}
use Rattle.awk_types.specs.Predicates.{is_null}
use Rattle.awk_types.specs.Value.{Value, int, truth, null, list, row, alt}
use Rattle.awk_types.specs.declared.fault.Fault.{Fault}
use Rattle.awk_types.specs.declared.fault.Fault.TheVariants.{WrongType}
use Rattle.awk_types.specs.declared.primitive.Primitive.{Primitive}
use Rattle.awk_types.proofs.RefusalLaws.{refused_or-Ok, or-both}
use Rattle.awk_kernels.specs.Operations.{leaf as result}
use Rattle.awk_kernels.specs.declared.operation.Arith.{Arith}
use Rattle.awk_kernels.specs.declared.operation.Arith.TheVariants.{FloorDiv, Rem}
use Rattle.awk_kernels.specs.declared.operation.Why.{Why}
use Rattle.awk_columns.specs.Columns.{is_present}
use Rattle.awk_layout.specs.Filler.{Filler}
use Rattle.awk_leaves.specs.LeafTypes.{number_type}
use Rattle.awk_leaves.specs.Table.{judged, one_overflows}
use Rattle.awk_leaves.specs.Values.{number_or_fault, binary_at}
use Rattle.awk_leaves.specs.declared.operation.Binary.TheVariants.{Calculate}
use Rattle.awk_ends.specs.Operands.{at_end, both_data, data_in, leaf_of, in_primitive}
use Rattle.awk_pair_operands.specs.Answer.{shared_ends}
use Rattle.awk_pair_operands.specs.Pairs.{datum_from, has_wrong_end, pair_refused, some_array}
use Rattle.awk_pair_operands.specs.Typed.{IsTyped}
use Rattle.awk_arith.specs.AtLeaves.{at_leaves, first_fault, result_type, row_values, value_or_null}
use Rattle.awk_arith.specs.Binary.{binary_of, binary_row}
use Rattle.awk_law_chains.specs.Innermost.{leaves_in}
use Rattle.awk_number_laws.specs.Leaves.{AreDivisions, IsDivision}
use Rattle.awk_law_chains.proofs.Chains.{Chain, chain_type, at_ends, IsAt, chain_ends, ends-chain}
use Rattle.awk_law_chains.proofs.ChainEnds.{all-at, ends-mapped}
use Rattle.awk_number_laws.proofs.LeafArrays.{K, P, vals, result_is, rows_are, ends_are, at}
use Rattle.awk_number_laws.proofs.LeafArrays.{first_there, second_there, single_pairs}
use Rattle.awk_number_laws.proofs.LeafLaws.{division_is}
use Rattle.awk_number_laws.proofs.LeafSigns.{ends_from, ends_have, fine_each, number_there}

-- ---- what is calculated

from_primitive : (j : Result Primitive Fault) (f : Primitive → Result Datum Fault) (d : Datum)
    → in_primitive j f ≡ Ok d → (p : Primitive) × (j ≡ Ok p) × (f p ≡ Ok d)
from_primitive (Ok p) f d e = (p, refl, e)
from_primitive (Err x) f d e = cc

number_told : (r : Result ℤ Why) (y : Value) → number_or_fault r ≡ Ok y → y ≡ int (number_of y)
number_told (Ok z) y e =
    let same : int z ≡ y = cc in sym same ∙ ap (λ v. int (number_of v)) same
number_told (Err w) y e = cc

no_null : (v : Value) → is_present v ≡ true → is_null v ≡ false
no_null null e = cc
no_null (int z) e = refl
no_null (truth b) e = refl
no_null (list vs) e = refl
no_null (row vs) e = refl
no_null (alt j v) e = refl

-- of two leaves that are not null, as of their numbers
of_numbers : (op : Arith) (p : Primitive) (x y : Value) → is_present x ≡ true → is_present y ≡ true
    → binary_at (Calculate op) p x y
    ≡ number_or_fault (result op (least_number p) (greatest_number p) (number_of x) (number_of y))
of_numbers op p x y e f =
    ap (λ b. if b then Ok null
    else number_or_fault (result op (least_number p) (greatest_number p) (number_of x)
    (number_of y)))
    (ap₂ (λ b c. b || c) (no_null x e) (no_null y f))

leaves_of_datum : (b : Bool) (k : Chain) (p : Primitive) (ws : List Value)
    → (b ≡ false → (v : Value) × (ws ≡ v ∷ []))
    → leaves_in (datum_from b (chain_type k (leaf p)) ws) ≡ chain_ends k ws
leaves_of_datum true k p ws h = ends-chain k (leaf p) ws tt
leaves_of_datum false k p ws h =
    let q = h refl in
    ap (λ us. leaves_in (datum_from false (chain_type k (leaf p)) us)) q.1
    ∙ ends-chain k (leaf p) (q.0 ∷ []) tt ∙ ap (chain_ends k) (sym q.1)

module _ (a b : Filler) (typed : AllByRecursion IsTyped (both_data a b)) where
  abbrev given : List Datum
  given = both_data a b

  abbrev row_at : Arith → Primitive → Value → Result Value Fault
  row_at op p = binary_row (Calculate op) p a b

  abbrev made_at : Arith → Primitive → Value → Value
  made_at op p v = value_or_null (row_at op p v)

  abbrev first_of : Value → Value
  first_of = at_end a 0

  abbrev second_of : Value → Value
  second_of = at_end b (length (data_in a))

  -- an end where there is a result
  record IsMade (op : Arith) (p : Primitive) (v : Value) : Type 0 where
    typed_row : P a b v
    result_there : row_at op p v ≡ Ok (made_at op p v)
    first_present : is_present (first_of v) ≡ true
    second_present : is_present (second_of v) ≡ true

  record IsCalculated (op : Arith) (p : Primitive) (d : Datum) : Type 0 where
    judged_in : judged (number_type (leaf_of a) (leaf_of b)) (one_overflows (leaf_of a) (leaf_of b))
        ≡ Ok p
    rows : AllByRecursion (IsMade op p) (shared_ends false None given)
    leaves : leaves_in d ≡ map (made_at op p) (shared_ends false None given)

  there : (op : Arith) (p : Primitive) (v : Value) → IsMade op p v
      → is_present (made_at op p v) ≡ true
  there op p v h =
      number_there
      (result op (least_number p) (greatest_number p) (number_of (first_of v))
      (number_of (second_of v)))
      (made_at op p v)
      (sym (of_numbers op p (first_of v) (second_of v) h.first_present h.second_present)
      ∙ h.result_there)

  calculated_in : (op : Arith) (p : Primitive) (d : Datum) → has_wrong_end None given ≡ false
      → judged (number_type (leaf_of a) (leaf_of b)) (one_overflows (leaf_of a) (leaf_of b)) ≡ Ok p
      → at_leaves p (row_at op p) given ≡ Ok d → IsCalculated op p d
  calculated_in op p d right j e =
      let limits = limit_refused (result_type p given) in
      let pairs = pair_refused false None given in
      let faults = first_fault (map (row_at op p) (shared_ends false None given)) in
      let q = refused_or-Ok (limits or (pairs or faults))
      (datum_from (some_array given) (result_type p given) (row_values (row_at op p) given)) d e in
      let more = or-both pairs faults (or-both limits (pairs or faults) q.0).1 in
      let k = K a b in
      let vs = vals a b in
      let typed_at = at a b typed right more.0 in
      let fine = subst (AllByRecursion (λ v. row_at op p v ≡ Ok (made_at op p v))) (ends_are a b)
      (fine_each (row_at op p) (shared_ends false None given) more.1) in
      let made = made_all op p right more.0 k vs
      (ends_from (P a b) (λ v. row_at op p v ≡ Ok (made_at op p v)) k vs typed_at fine) in
      record {
        judged_in = j;
        rows =
            subst (AllByRecursion (IsMade op p)) (sym (ends_are a b))
            (ends_have (IsMade op p) k vs made);
        leaves =
            ap leaves_in (sym q.1)
            ∙ ap₂ (λ t ws. leaves_in (datum_from (some_array given) t ws)) (result_is a b p)
            (rows_are a b (row_at op p))
            ∙ leaves_of_datum (some_array given) k p (map (at_ends k (made_at op p)) vs)
            (λ f. let x = single_pairs given f in
            (at_ends k (made_at op p) x.0, ap (map (at_ends k (made_at op p))) x.1))
            ∙ ends-mapped (IsMade op p) (made_at op p) (there op p) k vs made
            ∙ ap (map (made_at op p)) (sym (ends_are a b));
      }
    where
      made_all : (op : Arith) (p : Primitive) (right : has_wrong_end None given ≡ false)
          (fine : pair_refused false None given ≡ None) (k : Chain) (vs : List Value)
          → AllByRecursion (IsAt k (λ v. P a b v × (row_at op p v ≡ Ok (made_at op p v)))) vs
          → AllByRecursion (IsAt k (IsMade op p)) vs
      made_all op p right fine k vs h =
          all-at (λ v. P a b v × (row_at op p v ≡ Ok (made_at op p v))) (IsMade op p)
          (λ v q. record {
            typed_row = q.0;
            result_there = q.1;
            first_present = first_there a b typed right fine v q.0;
            second_present = second_there a b typed right fine v q.0;
          }) k vs h

  by_wrong : (op : Arith) (d : Datum) (w : Bool) → has_wrong_end None given ≡ w
      → (if w then Err WrongType
      else in_primitive (judged (number_type (leaf_of a) (leaf_of b))
      (one_overflows (leaf_of a) (leaf_of b))) (λ p. at_leaves p (row_at op p) given)) ≡ Ok d
      → (p : Primitive) × IsCalculated op p d
  by_wrong op d true f e = cc
  by_wrong op d false f e =
      let q = from_primitive (judged (number_type (leaf_of a) (leaf_of b))
      (one_overflows (leaf_of a) (leaf_of b))) (λ p. at_leaves p (row_at op p) given) d e in
      (q.0, calculated_in op q.0 d f q.1 q.2)

  calculated : (op : Arith) (d : Datum) → binary_of (Calculate op) a b ≡ Ok d
      → (p : Primitive) × IsCalculated op p d
  calculated op d e = by_wrong op d (has_wrong_end None given) refl e

  -- ---- divisions

  divided_at : (p : Primitive) (v : Value) → IsMade FloorDiv p v → IsMade Rem p v
      → IsDivision (number_of (first_of v)) (number_of (second_of v))
      (number_of (made_at FloorDiv p v)) (number_of (made_at Rem p v))
  divided_at p v h k =
      let x = number_of (first_of v) in
      let y = number_of (second_of v) in
      let lo = least_number p in
      let hi = greatest_number p in
      let e = sym (of_numbers FloorDiv p (first_of v) (second_of v) h.first_present
      h.second_present) ∙ h.result_there in
      let f = sym (of_numbers Rem p (first_of v) (second_of v) k.first_present k.second_present)
      ∙ k.result_there in
      division_is p x y (number_of (made_at FloorDiv p v)) (number_of (made_at Rem p v))
      (e ∙ ap Ok (number_told (result FloorDiv lo hi x y) (made_at FloorDiv p v) e))
      (f ∙ ap Ok (number_told (result Rem lo hi x y) (made_at Rem p v) f))

  all-get : (Q : Value → Type 0) (vs : List Value) (i : ℕ) → AllByRecursion Q vs → i < length vs
      → Q (get_or vs i null)
  all-get Q [] i h l = absurd (omega (arith, l))
  all-get Q (v ∷ vs) zero h l = h.0
  all-get Q (v ∷ vs) (suc i) h l = all-get Q vs i h.1 (omega (arith, l))

  divisions_in : (p r : Primitive) (q w : Datum) → p ≡ r → IsCalculated FloorDiv p q
      → IsCalculated Rem r w
      → AreDivisions first_of second_of (shared_ends false None given) (leaves_in q) (leaves_in w)
  divisions_in p r q w e h k =
      let es = shared_ends false None given in
      let j = subst (λ s. IsCalculated Rem s w) (sym e) k in
      record {
        quotients = ap length h.leaves ∙ length-map es (made_at FloorDiv p);
        remainders = ap length j.leaves ∙ length-map es (made_at Rem p);
        each = λ i l.
            subst (λ ws. IsDivision (number_of (first_of (get_or es i null)))
            (number_of (second_of (get_or es i null))) (number_of (get_or ws i null))
            (number_of (get_or (leaves_in w) i null))) (sym h.leaves)
            (subst (λ ws. IsDivision (number_of (first_of (get_or es i null)))
            (number_of (second_of (get_or es i null)))
            (number_of (get_or (map (made_at FloorDiv p) es) i null))
            (number_of (get_or ws i null))) (sym j.leaves)
            (subst (λ x. IsDivision (number_of (first_of (get_or es i null)))
            (number_of (second_of (get_or es i null))) (number_of x)
            (number_of (get_or (map (made_at Rem p) es) i null)))
            (sym (get_or-map (made_at FloorDiv p) es i null null l))
            (subst (λ x. IsDivision (number_of (first_of (get_or es i null)))
            (number_of (second_of (get_or es i null)))
            (number_of (made_at FloorDiv p (get_or es i null))) (number_of x))
            (sym (get_or-map (made_at Rem p) es i null null l))
            (divided_at p (get_or es i null) (all-get (IsMade FloorDiv p) es i h.rows l)
            (all-get (IsMade Rem p) es i j.rows l)))));
      }

  same_judged : (j : Result Primitive Fault) (p r : Primitive) → j ≡ Ok p → j ≡ Ok r → p ≡ r
  same_judged j p r e f = let same : Ok p ≡ Ok r = sym e ∙ f in cc

  pub division_of : (q r : Datum) → binary_of (Calculate FloorDiv) a b ≡ Ok q
      → binary_of (Calculate Rem) a b ≡ Ok r
      → AreDivisions first_of second_of (shared_ends false None given) (leaves_in q) (leaves_in r)
  division_of q r e f =
      let h = calculated FloorDiv q e in
      let k = calculated Rem r f in
      divisions_in h.0 k.0 q r
      (same_judged (judged (number_type (leaf_of a) (leaf_of b))
      (one_overflows (leaf_of a) (leaf_of b))) h.0 k.0 h.1.judged_in k.1.judged_in) h.1 k.1
