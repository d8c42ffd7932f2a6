-- What picks row by row answer.
use Rattle.std.specs.Prelude.{◌≡◌, ℕ, ◌<◌, refl, Bool, true, false, List}
use Rattle.std.specs.Prelude.{Option, Some, None, option_map, Result, Ok, Err, if◌then◌else◌}
use Rattle.std.proofs.Common.{arith, ap, ap₂, sym, ◌∙◌, subst}
use Rattle.std.proofs.lemmas.List.{append-nil}
use Rattle.awk_types.specs.DataType.{DataType}
use Rattle.awk_types.specs.Datum.{Datum, arr}
use Rattle.awk_types.specs.Faults.{limit_refused}
use Rattle.awk_types.specs.Gives.{Told, refused_or, ◌or◌}
use Rattle.awk_types.specs.Limit.{limit}
use Rattle.awk_types.specs.Simple.{simple}
use Rattle.awk_types.specs.Value.{Value}
use Rattle.awk_types.specs.declared.fault.Fault.{Fault}
use Rattle.awk_types.specs.declared.fault.Fault.TheVariants.{WrongType, Lengths, Index, Size}
use Rattle.awk_types.proofs.RefusalLaws.{no_limit}
use Rattle.awk_lanes.specs.Column.{Column}
use Rattle.awk_lanes.specs.Places.{size_of}
use Rattle.awk_layout.specs.Layout.{Layout}
use Rattle.awk_layout.specs.Typing.{array_type, array_datum}
use Rattle.awk_columns.specs.Lists.{Listed}
use Rattle.awk_jagged_rows.specs.Alone.{IsWhole}
use Rattle.awk_jagged.specs.Jagged.{jagged_of, is_jagged, pick_type, picked_as}
use Rattle.awk_jagged.specs.Jagged.{are_uneven, lacks_places, picked_items, size_refused, fault_if}
use Rattle.awk_jagged.specs.Judged.{judged_pick, within_limits, AreJudged}
use Rattle.awk_jagged.specs.Outcomes.{IsOutcomeOf}
use Rattle.awk_jagged.specs.Pairs.{picks as picks_of}
use Rattle.awk_jagged_rows.specs.Rows.{lists_by}
use Rattle.awk_jagged.specs.declared.leaves.Outcome.TheVariants as outcome

-- ---- types

refused_ok : (o : Option Fault) → refused_or o (tt {0}) ≡ Ok (tt {0}) → o ≡ None
refused_ok None e = refl
refused_ok (Some f) e = absurd cc

pub are-judged : (u t : DataType) → judged_pick u t ≡ Ok (tt {0}) → AreJudged u t
are-judged u t e = go (is_jagged u) refl (pick_type u t) refl e
  where
    go : (b : Bool) → is_jagged u ≡ b → (o : Option DataType) → pick_type u t ≡ o
        → (if b then within_limits o else Err WrongType) ≡ Ok (tt {0}) → AreJudged u t
    go true j (Some r) p f = record {
      rows = j;
      typ = r;
      is = p;
      within = refused_ok (limit_refused (simple r)) f;
    }
    go true j None p f = absurd cc
    go false j o p f = absurd cc

-- the same fault of another result
abbrev faults_as : Result Datum Fault → Result (Unit {0}) Fault → Result Datum Fault
faults_as d (Ok u) = d
faults_as d (Err f) = Err f

refused_err : (o q : Option Fault) (f : Fault) (d : Datum) → refused_or o (tt {0}) ≡ Err f
    → refused_or (o or q) d ≡ Err f
refused_err None q f d e = absurd cc
refused_err (Some g) q f d e = ap (faults_as (Ok d)) e

-- a fault of types is told
pub types-told : (u t : DataType) (vs ws : List Value) (f : Fault) → judged_pick u t ≡ Err f
    → jagged_of (arr t vs) (arr u ws) ≡ Err f
types-told u t vs ws f e = go (is_jagged u) (pick_type u t) e
  where
    go : (b : Bool) (o : Option DataType)
        → (if b then within_limits o else Err WrongType) ≡ Err f
        → (if b then picked_as o u vs ws else Err WrongType) ≡ Err f
    go true (Some r) e =
        refused_err (limit_refused (simple r)) _ f (arr (simple r) (picked_items u vs ws)) e
    go true None e = ap (faults_as (Err WrongType)) e
    go false o e = ap (faults_as (Err WrongType)) e

-- whatever of a fault is told
pub types-fault : (u t : DataType) (vs ws : List Value) (o : Option Fault)
    → Told o (judged_pick u t) → Told o (jagged_of (arr t vs) (arr u ws))
types-fault u t vs ws None e = tt
types-fault u t vs ws (Some f) e = types-told u t vs ws f e

-- ---- values

module _ (xs ws : Listed) (e : size_of ws.starts ≡ 1)
    (h : AreJudged (array_type ws.content) (array_type xs.content)) where
  abbrev u : DataType
  u = array_type ws.content

  abbrev vs : List Value
  vs = lists_by xs 0

  abbrev us : List Value
  us = lists_by ws 0

  -- what is answered where the types are judged
  said : jagged_of (arr (array_type xs.content) vs) (arr u us)
      ≡ refused_or (fault_if Lengths (are_uneven u vs us)
      or (fault_if Index (lacks_places u vs us) or size_refused u (picked_items u vs us)))
      (arr (simple h.typ) (picked_items u vs us))
  said =
      ap (λ b. if b then picked_as (pick_type u (array_type xs.content)) u vs us
      else Err WrongType) h.rows
      ∙ ap (λ o. picked_as o u vs us) h.is
      ∙ ap (λ o. refused_or (o or (fault_if Lengths (are_uneven u vs us)
      or (fault_if Index (lacks_places u vs us) or size_refused u (picked_items u vs us))))
      (arr (simple h.typ) (picked_items u vs us))) h.within

  first : (i : ℕ) → i < size_of ws.starts → i ≡ 0
  first i p = omega (arith, p, e)

  one : 0 < size_of ws.starts
  one = omega (arith, e)

  picked : picks_of u (lists_by xs) (lists_by ws) (size_of ws.starts) ≡ picked_items u vs us
  picked =
      ap (λ n. picks_of u (lists_by xs) (lists_by ws) n) e
      ∙ append-nil (picked_items u vs us)

  sizes : size_refused u (picks_of u (lists_by xs) (lists_by ws) (size_of ws.starts))
      ≡ size_refused u (picked_items u vs us)
  sizes = ap (size_refused u) picked

  after : (a b : Bool) (o : Option Fault) (r : Result Datum Fault)
      → are_uneven u vs us ≡ a → lacks_places u vs us ≡ b
      → size_refused u (picked_items u vs us) ≡ o
      → refused_or (fault_if Lengths a or (fault_if Index b or o))
      (arr (simple h.typ) (picked_items u vs us)) ≡ r
      → jagged_of (arr (array_type xs.content) vs) (arr u us) ≡ r
  after a b o r ea eb eo er =
      said
      ∙ ap (λ c. refused_or (fault_if Lengths c or (fault_if Index (lacks_places u vs us)
      or size_refused u (picked_items u vs us))) (arr (simple h.typ) (picked_items u vs us))) ea
      ∙ ap₂ (λ c q. refused_or (fault_if Lengths a or (fault_if Index c or q))
      (arr (simple h.typ) (picked_items u vs us))) eb eo
      ∙ er

  pub uneven-told : IsOutcomeOf xs ws outcome.Uneven
      → jagged_of (arr (array_type xs.content) vs) (arr u us) ≡ Err Lengths
  uneven-told o =
      let f : are_uneven u vs us ≡ true =
      subst (λ k. are_uneven u (lists_by xs k) (lists_by ws k) ≡ true) (first o.0 o.1) o.2 in
      after true (lacks_places u vs us) (size_refused u (picked_items u vs us)) (Err Lengths) f refl
      refl refl

  pub outside-told : IsOutcomeOf xs ws outcome.Outside
      → jagged_of (arr (array_type xs.content) vs) (arr u us) ≡ Err Index
  outside-told o =
      let f : lacks_places u vs us ≡ true =
      subst (λ k. lacks_places u (lists_by xs k) (lists_by ws k) ≡ true) (first o.1.0 o.1.1)
      o.1.2 in
      after false true (size_refused u (picked_items u vs us)) (Err Index) (o.0 0 one) f refl refl

  pub many-told : IsOutcomeOf xs ws outcome.TooMany
      → jagged_of (arr (array_type xs.content) vs) (arr u us) ≡ Err Size
  many-told o =
      after false false (Some Size) (Err Size) (o.even 0 one) (o.have 0 one)
      (sym sizes ∙ o.many) refl

  abbrev typ_in : Option DataType → DataType
  typ_in None = h.typ
  typ_in (Some t) = t

  -- the type of what is picked
  typ_is : (y : Layout)
      → option_map simple (pick_type u (array_type xs.content)) ≡ Some (array_type y)
      → array_type y ≡ simple h.typ
  typ_is y f = ap typ_in (sym f ∙ ap (option_map simple) h.is)

  pub picked-told : (c : Column) (y : Layout) → IsOutcomeOf xs ws (outcome.Lists c y)
      → jagged_of (arr (array_type xs.content) vs) (arr u us) ≡ Ok (array_datum y)
  picked-told c y o =
      after false false None (Ok (array_datum y)) (o.even 0 one) (o.have 0 one)
      (sym sizes ∙ o.few)
      (ap₂ (λ t rs. Ok (arr t rs)) (sym (typ_is y o.typ)) (sym (o.items ∙ picked)))

  pub picked-limit : (c : Column) (y : Layout) → IsOutcomeOf xs ws (outcome.Lists c y)
      → limit (array_type y) ≡ None
  picked-limit c y o =
      ap limit (typ_is y o.typ) ∙ no_limit (limit (simple h.typ)) h.within

pub whole-judged : (x ix : Layout) (xs ws : Listed) → IsWhole x xs → IsWhole ix ws
    → AreJudged (array_type ix) (array_type x)
    → AreJudged (array_type ws.content) (array_type xs.content)
whole-judged x ix xs ws hx hw h =
    subst (λ b. AreJudged (array_type b) (array_type xs.content)) (sym hw.content)
    (subst (λ a. AreJudged (array_type ix) (array_type a)) (sym hx.content) h)
