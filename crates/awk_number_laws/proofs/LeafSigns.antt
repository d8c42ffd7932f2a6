-- Signs of whole arrays: the negative of the negative.
use Rattle.std.specs.Prelude.{◌≡◌, Bool, true, false, List, [], ◌∷◌, ◌++◌, map, length, filter}
use Rattle.std.specs.Prelude.{Option, Some, None, Result, Ok, Err, ℤ, refl, if◌then◌else◌}
use Rattle.std.specs.List.{AllByRecursion}
use Rattle.std.proofs.Common.{ap, ap₂, sym, ◌∙◌, subst}
use Rattle.std.proofs.lemmas.Simd.{map-map}
use Rattle.awk_types.specs.DataType.{DataType, unknown, leaf, var, reg, rec, tup, opt, uni}
use Rattle.awk_types.specs.Datum.{Datum, arr, one, datum_type}
use Rattle.awk_types.specs.Faults.{limit_refused}
use Rattle.awk_types.specs.Gives.{refused_or, ◌or◌}
use Rattle.awk_types.specs.Has.{Has}
use Rattle.awk_types.specs.ItemLimit.{too_many}
use Rattle.awk_primitives.specs.Promotion.{is_whole}
use Rattle.awk_types.specs.Simple.{IsSimple}
use Rattle.awk_types.specs.Value.{Value, int, truth, null, list, row, alt}
use Rattle.awk_types.specs.declared.fault.Fault.{Fault}
use Rattle.awk_types.specs.declared.primitive.Primitive.{Primitive}
use Rattle.awk_types.proofs.RefusalLaws.{refused_or-Ok, or-both}
use Rattle.awk_types.proofs.SimpleLaws.{has_option, in_option_stays}
use Rattle.awk_kernels.specs.declared.operation.Why.{Why}
use Rattle.awk_columns.specs.Columns.{is_present, list_items, joined_items}
use Rattle.awk_columns.specs.ListClass.{Class}
use Rattle.awk_leaves.specs.Table.{judged, unary_judged}
use Rattle.awk_leaves.specs.Values.{number_or_fault, unary_at}
use Rattle.awk_leaves.specs.declared.leaf_type.LeafType.TheVariants.{Of}
use Rattle.awk_leaves.specs.declared.operation.Unary.TheVariants.{Negate}
use Rattle.awk_ends.specs.Operands.{leaf_in}
use Rattle.awk_pair_operands.specs.Typed.{IsTyped}
use Rattle.awk_arith.specs.AtLeaves.{first_fault, value_or_null}
use Rattle.awk_arith.specs.Unary.{unary_of}
use Rattle.awk_law_chains.proofs.Chains.{Chain, close, layer, chain_type, at_ends, IsAt, IsEndAt}
use Rattle.awk_law_chains.proofs.Chains.{chain_sizes, chain_ends, sizes-mapped, length-each}
use Rattle.awk_law_chains.proofs.Chains.{in_list_stays}
use Rattle.awk_law_chains.proofs.ChainEnds.{ends-mapped, twice-each, all-mapped, have-at, all-items}
use Rattle.awk_number_laws.proofs.LeafLaws.{negative_is, no_truth}
use Rattle.awk_number_laws.proofs.OnePaired.{IsChainOf, made, unary_is}

-- ---- the lists and options of a type of leaves

abbrev pub chain_of : DataType → Chain
chain_of (var t) = layer false None (chain_of t)
chain_of (reg n t) = layer false (Some n) (chain_of t)
chain_of (opt (var t)) = layer true None (chain_of t)
chain_of (opt (reg n t)) = layer true (Some n) (chain_of t)
chain_of (opt t) = close true
chain_of t = close false

pub chained : (t : DataType) (p : Primitive) → IsSimple t → leaf_in t ≡ Of p
    → t ≡ chain_type (chain_of t) (leaf p)
chained (leaf q) p s e = let same : q ≡ p = cc in ap leaf same
chained (var t) p s e = ap var (chained t p s e)
chained (reg n t) p s e = ap (reg n) (chained t p s e)
chained (opt (leaf q)) p s e = let same : q ≡ p = cc in ap (λ r. opt (leaf r)) same
chained (opt (var t)) p s e = ap (λ u. opt (var u)) (chained t p s.1 e)
chained (opt (reg n t)) p s e = ap (λ u. opt (reg n u)) (chained t p s.1 e)
chained (opt unknown) p s e = cc
chained (opt (rec ns ts)) p s e = cc
chained (opt (tup ts)) p s e = cc
chained (opt (opt t)) p s e = let f = s.0 in cc
chained (opt (uni ts)) p s e = cc
chained unknown p s e = cc
chained (rec ns ts) p s e = cc
chained (tup ts) p s e = cc
chained (uni ts) p s e = cc

-- ---- properties of the ends

pub ends_have : (P : Value → Type 0) (k : Chain) (vs : List Value) → AllByRecursion (IsAt k P) vs
    → AllByRecursion P (chain_ends k vs)
ends_have P (close false) vs h = h
ends_have P (close true) vs h = present_have vs h
  where
    present_have : (vs : List Value) → AllByRecursion (IsEndAt true P) vs
        → AllByRecursion P (filter is_present vs)
    present_have [] h = tt
    present_have (null ∷ vs) h = present_have vs h.1
    present_have (int z ∷ vs) h = (h.0 refl, present_have vs h.1)
    present_have (truth b ∷ vs) h = (h.0 refl, present_have vs h.1)
    present_have (list us ∷ vs) h = (h.0 refl, present_have vs h.1)
    present_have (row us ∷ vs) h = (h.0 refl, present_have vs h.1)
    present_have (alt j u ∷ vs) h = (h.0 refl, present_have vs h.1)
ends_have P (layer o c k) vs h = ends_have P k (joined_items vs) (all-items P o c k vs h)

all-split : (P : Value → Type 0) (vs ws : List Value) → AllByRecursion P (vs ++ ws)
    → AllByRecursion P vs × AllByRecursion P ws
all-split P [] ws h = (tt, h)
all-split P (v ∷ vs) ws h = let r = all-split P vs ws h.1 in ((h.0, r.0), r.1)

lists_from : (P Q : Value → Type 0) (o : Bool) (c : Class) (k : Chain) (vs : List Value)
    → AllByRecursion (IsAt (layer o c k) P) vs → AllByRecursion (IsAt k Q) (joined_items vs)
    → AllByRecursion (IsAt (layer o c k) Q) vs
lists_from P Q o c k [] h q = tt
lists_from P Q o c k (v ∷ vs) h q =
    let r = all-split (IsAt k Q) (list_items v) (joined_items vs) q in
    ((h.0.0, r.0), lists_from P Q o c k vs h.1 r.1)

-- what is so of the ends in order is so of each end
pub ends_from : (P Q : Value → Type 0) (k : Chain) (vs : List Value)
    → AllByRecursion (IsAt k P) vs → AllByRecursion Q (chain_ends k vs)
    → AllByRecursion (IsAt k (λ v. P v × Q v)) vs
ends_from P Q (close false) vs h q = both vs h q
  where
    both : (vs : List Value) → AllByRecursion P vs → AllByRecursion Q vs
        → AllByRecursion (λ v. P v × Q v) vs
    both [] h q = tt
    both (v ∷ vs) h q = ((h.0, q.0), both vs h.1 q.1)
ends_from P Q (close true) vs h q = both vs h q
  where
    both : (vs : List Value) → AllByRecursion (IsEndAt true P) vs
        → AllByRecursion Q (filter is_present vs)
        → AllByRecursion (IsEndAt true (λ v. P v × Q v)) vs
    both [] h q = tt
    both (null ∷ vs) h q = ((λ e. absurd (cc)), both vs h.1 q)
    both (int z ∷ vs) h q = ((λ e. (h.0 e, q.0)), both vs h.1 q.1)
    both (truth b ∷ vs) h q = ((λ e. (h.0 e, q.0)), both vs h.1 q.1)
    both (list us ∷ vs) h q = ((λ e. (h.0 e, q.0)), both vs h.1 q.1)
    both (row us ∷ vs) h q = ((λ e. (h.0 e, q.0)), both vs h.1 q.1)
    both (alt j u ∷ vs) h q = ((λ e. (h.0 e, q.0)), both vs h.1 q.1)
ends_from P Q (layer o c k) vs h q =
    lists_from P (λ v. P v × Q v) o c k vs h
    (ends_from P Q k (joined_items vs) (all-items P o c k vs h) q)

same_at : (k : Chain) (v : Value) → at_ends k (λ v. v) v ≡ v
same_at (close false) v = refl
same_at (close true) v = in_option_stays (λ v. v) v refl
same_at (layer o c k) v = in_list_stays (at_ends k (λ v. v)) v (λ x. same_at k x)

same_values : (k : Chain) (vs : List Value) → map (at_ends k (λ v. v)) vs ≡ vs
same_values k [] = refl
same_values k (v ∷ vs) = ap₂ (λ x xs. x ∷ xs) (same_at k v) (same_values k vs)

-- ---- no fault

fine_first : (r : Result Value Fault) (rs : List (Result Value Fault))
    → first_fault (r ∷ rs) ≡ None → (r ≡ Ok (value_or_null r)) × (first_fault rs ≡ None)
fine_first (Ok v) rs e = (refl, e)
fine_first (Err f) rs e = cc

pub fine_each : (f : Value → Result Value Fault) (vs : List Value)
    → first_fault (map f vs) ≡ None → AllByRecursion (λ v. f v ≡ Ok (value_or_null (f v))) vs
fine_each f [] e = tt
fine_each f (v ∷ vs) e = let r = fine_first (f v) (map f vs) e in (r.0, fine_each f vs r.1)

fine_all : (P : Value → Type 0) (f : Value → Result Value Fault) (g : Value → Value)
    (vs : List Value) → ((v : Value) → P v → f v ≡ Ok (g v)) → AllByRecursion P vs
    → first_fault (map f vs) ≡ None
fine_all P f g [] e h = refl
fine_all P f g (v ∷ vs) e h =
    ap (λ r. first_fault (r ∷ map f vs)) (e v h.0) ∙ fine_all P f g vs e h.1

-- ---- signs

pub number_there : (r : Result ℤ Why) (y : Value) → number_or_fault r ≡ Ok y → is_present y ≡ true
number_there (Ok z) y e = let same : int z ≡ y = cc in ap is_present (sym same)
number_there (Err w) y e = cc

negative_there : (p : Primitive) (v y : Value) → is_whole p ≡ true → Has (leaf p) v
    → unary_at Negate p v ≡ Ok y → is_present y ≡ true
negative_there p (int z) y w h e = number_there _ y e
negative_there p (truth b) y w h e = absurd (no_truth p b w h)
negative_there p null y w h e = absurd h
negative_there p (list vs) y w h e = absurd h
negative_there p (row vs) y w h e = absurd h
negative_there p (alt j v) y w h e = absurd h

whole_judged : (p : Primitive) → is_whole p ≡ true → unary_judged Negate (Of p) ≡ Ok p
whole_judged p w = ap (λ b. judged (if b then Some p else None) false) w

module _ (b : Bool) (k : Chain) (p : Primitive) (vs : List Value)
    (h : IsChainOf (Has (leaf p)) b k vs) (w : is_whole p ≡ true) (n : Datum)
    (e : unary_of Negate (made b k p vs) ≡ Ok n) where
  abbrev turned : Value → Value
  turned v = value_or_null (unary_at Negate p v)

  abbrev IsTurned : Value → Type 0
  IsTurned v = Has (leaf p) v × (unary_at Negate p v ≡ Ok (turned v))

  abbrev values : List Value
  values = map (at_ends k turned) vs

  abbrev limits : Option Fault
  limits = limit_refused (chain_type k (leaf p))

  abbrev sizes : Option Fault
  sizes = too_many (length vs) or chain_sizes k vs

  abbrev faults : Option Fault
  faults = first_fault (map (unary_at Negate p) (chain_ends k vs))

  told : ((limits or (sizes or faults)) ≡ None) × (made b k p values ≡ n)
  told =
      refused_or-Ok (limits or (sizes or faults)) (made b k p values) n
      (sym (unary_is (Has (leaf p)) b k p vs h Negate p (whole_judged p w)) ∙ e)

  limited : (limits ≡ None) × ((sizes or faults) ≡ None)
  limited = or-both limits (sizes or faults) told.0

  sized : (sizes ≡ None) × (faults ≡ None)
  sized = or-both sizes faults limited.1

  turned_at : AllByRecursion (IsAt k IsTurned) vs
  turned_at =
      ends_from (Has (leaf p)) (λ v. unary_at Negate p v ≡ Ok (turned v)) k vs h.each
      (fine_each (unary_at Negate p) (chain_ends k vs) sized.1)

  there : (v : Value) → IsTurned v → is_present (turned v) ≡ true
  there v q = negative_there p v (turned v) w q.0 q.1

  back : (v : Value) → IsTurned v → unary_at Negate p (turned v) ≡ Ok v
  back v q = negative_is p v (turned v) w (has_option (leaf p) v q.0) q.1

  chain_turned : IsChainOf (λ v. is_present v ≡ true) b k values
  chain_turned = record {
    single = λ f.
        let q = h.single f in (at_ends k turned q.0, ap (map (at_ends k turned)) q.1);
    each = all-mapped IsTurned (λ v. is_present v ≡ true) turned there k vs turned_at;
  }

  no_faults : first_fault (map (unary_at Negate p) (chain_ends k values)) ≡ None
  no_faults =
      ap (λ es. first_fault (map (unary_at Negate p) es))
      (ends-mapped IsTurned turned there k vs turned_at)
      ∙ ap first_fault (map-map (unary_at Negate p) turned (chain_ends k vs))
      ∙ fine_all IsTurned (λ v. unary_at Negate p (turned v)) (λ v. v) (chain_ends k vs) back
      (ends_have IsTurned k vs turned_at)

  pub negative_at : unary_of Negate n ≡ Ok (made b k p vs)
  negative_at =
      ap (unary_of Negate) (sym told.1)
      ∙ unary_is (λ v. is_present v ≡ true) b k p values chain_turned Negate p (whole_judged p w)
      ∙ ap₂ refused_or
      (ap₂ (λ x y. x or y) limited.0
      (ap₂ (λ x y. x or y)
      (ap₂ (λ m o. too_many m or o) (length-each (at_ends k turned) vs) (sizes-mapped k turned vs)
      ∙ sized.0) no_faults))
      (ap (λ ws. made b k p ws)
      (twice-each IsTurned turned there turned (λ v. v) (λ v q. ap value_or_null (back v q)) k vs
      turned_at
      ∙ same_values k vs))

pub negative_of : (p : Primitive) (d n : Datum) → is_whole p ≡ true → IsTyped d
    → IsSimple (datum_type d) → leaf_in (datum_type d) ≡ Of p → unary_of Negate d ≡ Ok n
    → unary_of Negate n ≡ Ok d
negative_of p (arr t vs) n w h s l e =
    let q = chained t p s l in
    let k = chain_of t in
    negative_at true k p vs
    (record {
      single = λ f. cc;
      each = have-at k (leaf p) vs (subst (λ u. AllByRecursion (Has u) vs) q h);
    })
    w n (ap (λ u. unary_of Negate (arr u vs)) (sym q) ∙ e)
    ∙ ap (λ u. Ok (arr u vs)) (sym q)
negative_of p (one t v) n w h s l e =
    let q = chained t p s l in
    let k = chain_of t in
    negative_at false k p (v ∷ [])
    (record {
      single = λ f. (v, refl);
      each = have-at k (leaf p) (v ∷ []) (subst (λ u. AllByRecursion (Has u) (v ∷ [])) q (h, tt));
    })
    w n (ap (λ u. unary_of Negate (one u v)) (sym q) ∙ e)
    ∙ ap (λ u. Ok (one u v)) (sym q)
