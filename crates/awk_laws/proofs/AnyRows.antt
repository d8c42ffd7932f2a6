-- Masks of lists that are all of one length, as of lists of any length.
use Rattle.std.specs.Prelude.{◌≡◌, ℕ, suc, ◌||◌, Bool, true, false, List, Some, None, Err}
use Rattle.std.specs.Prelude.{refl, if◌then◌else◌}
use Rattle.std.proofs.Common.{ap, sym, ◌∙◌, subst}
use Rattle.awk_base.proofs.Numbers.{suc-same}
use Rattle.awk_types.specs.DataType.{DataType, unknown, leaf, var, reg, rec, tup, opt, uni}
use Rattle.awk_types.specs.Datum.{arr}
use Rattle.awk_types.specs.Faults.{limit_refused}
use Rattle.awk_types.specs.Gives.{refused_or, ◌or◌}
use Rattle.awk_types.specs.Parts.{list_depth}
use Rattle.awk_types.specs.Simple.{IsSimple, option_if}
use Rattle.awk_types.specs.Value.{Value}
use Rattle.awk_types.specs.declared.fault.Fault.TheVariants.{Index, Lengths, WrongType}
use Rattle.awk_types.specs.declared.primitive.Primitive.TheVariants.{I64}
use Rattle.awk_list_functions.specs.Reach.{here, inner}
use Rattle.awk_list_functions.specs.declared.place.Reach.{Reach}
use Rattle.awk_columns.specs.ListClass.{Class, list_type}
use Rattle.awk_jagged.specs.Jagged.{are_uneven, fault_if, is_jagged, jagged_of, lacks_places}
use Rattle.awk_jagged.specs.Jagged.{pick_type, picked_as, picked_items, size_refused}
use Rattle.awk_law_chains.specs.Arrays.{any_length_at, is_lists_to}
use Rattle.awk_law_chains.proofs.JaggedRows.{pick_type-inside, pick_type-lists, rows_of-lists}
use Rattle.awk_law_chains.proofs.JaggedRows.{simple-options}
use Rattle.awk_law_chains.proofs.RowsPicked.{any_length_at-lists}
use Rattle.awk_laws.proofs.JaggedComposed.{item_type}
use Rattle.awk_laws.proofs.JaggedLeaves.{PicksBoth}

-- ---- the levels of an index or of a mask

record IsLevel (w : DataType) (n : ℕ) : Type 0 where
  optional : Bool
  class : Class
  item : DataType
  is : w ≡ option_if optional (list_type class item)
  simple_item : IsSimple item
  deep : list_depth item ≡ n

level_of : (w : DataType) (n : ℕ) → IsSimple w → list_depth w ≡ suc n → IsLevel w n
level_of (var t) n s e = record {
  optional = false;
  class = None;
  item = t;
  is = refl;
  simple_item = s;
  deep = suc-same (list_depth t) n e;
}
level_of (reg m t) n s e = record {
  optional = false;
  class = Some m;
  item = t;
  is = refl;
  simple_item = s;
  deep = suc-same (list_depth t) n e;
}
level_of (opt (var t)) n s e = record {
  optional = true;
  class = None;
  item = t;
  is = refl;
  simple_item = s.1;
  deep = suc-same (list_depth t) n e;
}
level_of (opt (reg m t)) n s e = record {
  optional = true;
  class = Some m;
  item = t;
  is = refl;
  simple_item = s.1;
  deep = suc-same (list_depth t) n e;
}
level_of unknown n s e = cc
level_of (leaf p) n s e = cc
level_of (rec ns ts) n s e = cc
level_of (tup ts) n s e = cc
level_of (uni ts) n s e = cc
level_of (opt unknown) n s e = cc
level_of (opt (leaf p)) n s e = cc
level_of (opt (rec ns ts)) n s e = cc
level_of (opt (tup ts)) n s e = cc
level_of (opt (opt t)) n s e = let f = s.0 in cc
level_of (opt (uni ts)) n s e = cc

-- where the lists end it picks items of any type
record PicksAny (w : DataType) : Type 0 where
  optional : Bool
  picks : (s : DataType) → pick_type w s ≡ Some (option_if optional s)

picks_any : (w q r : DataType) → IsSimple w → list_depth w ≡ 0 → pick_type w q ≡ Some r
    → PicksAny w
picks_any unknown q r s d e = record { optional = false; picks = λ s. refl }
picks_any (leaf p) q r s d e = record { optional = false; picks = λ s. refl }
picks_any (opt unknown) q r s d e = record { optional = true; picks = λ s. refl }
picks_any (opt (leaf p)) q r s d e = record { optional = true; picks = λ s. refl }
picks_any (var t) q r s d e = cc
picks_any (reg m t) q r s d e = cc
picks_any (rec ns ts) q r s d e = cc
picks_any (tup ts) q r s d e = cc
picks_any (uni ts) q r s d e = cc
picks_any (opt (var t)) q r s d e = cc
picks_any (opt (reg m t)) q r s d e = cc
picks_any (opt (rec ns ts)) q r s d e = cc
picks_any (opt (tup ts)) q r s d e = cc
picks_any (opt (opt t)) q r s d e = let f = s.0 in cc
picks_any (opt (uni ts)) q r s d e = cc

depth-lists : (o : Bool) (c : Class) (t : DataType)
    → list_depth (option_if o (list_type c t)) ≡ suc (list_depth t)
depth-lists false None t = refl
depth-lists false (Some n) t = refl
depth-lists true None t = refl
depth-lists true (Some n) t = refl

-- ---- types

module _ (index_type : Reach → DataType → DataType)
    (lists : (k : Reach) (o : Bool) (c : Class) (t : DataType)
    → index_type k (option_if o (list_type c t))
    ≡ option_if o (list_type c (if here k t then leaf I64 else index_type (inner k) t))) where
  abbrev places_type : Bool → Reach → DataType → DataType
  places_type b k t = if b then leaf I64 else index_type (inner k) t

  abbrev any_items : Bool → Reach → DataType → DataType
  any_items b k t = if b then t else any_length_at (inner k) t

  -- an index or a mask that is as deep as the places of a type picks alike of its lists, and of
  -- them as lists of any length
  abbrev PicksAlike : Reach → DataType → Type 0
  PicksAlike k t = (w r : DataType) → IsSimple w → list_depth (index_type k t) ≡ list_depth w
      → pick_type w (index_type k t) ≡ Some r → PicksBoth w w (any_length_at k t) t

  items_alike : (b : Bool) (k : Reach) (t w r : DataType) → IsSimple w
      → list_depth w ≡ list_depth (places_type b k t) → pick_type w (places_type b k t) ≡ Some r
      → (b ≡ false → PicksAlike (inner k) t) → PicksBoth w w (any_items b k t) t
  items_alike true k t w r s d e h =
      let p = picks_any w (leaf I64) r s d e in
      record {
        one = option_if p.optional t;
        other = option_if p.optional t;
        first = p.picks t;
        second = p.picks t;
        same = refl;
      }
  items_alike false k t w r s d e h = h refl w r s (sym d) e

  -- lists by the lists w of an index
  both_lists : (k : Reach) (o p : Bool) (c d : Class) (t w : DataType)
      → PicksBoth w w (any_items (here k t) k t) t
      → PicksBoth (option_if p (list_type d w)) (option_if p (list_type d w))
      (any_length_at k (option_if o (list_type c t))) (option_if o (list_type c t))
  both_lists k o p c d t w b = record {
    one = option_if p (option_if o (var b.one));
    other = option_if p (option_if o (var b.other));
    first = ap (pick_type (option_if p (list_type d w))) (any_length_at-lists k o c t)
        ∙ pick_type-lists p d w (option_if o (var (any_items (here k t) k t))) o
        (any_items (here k t) k t) b.one (rows_of-lists o None (any_items (here k t) k t)) b.first;
    second = pick_type-lists p d w (option_if o (list_type c t)) o t b.other (rows_of-lists o c t)
        b.second;
    same = simple-options p o b.one ∙ ap (λ x. option_if (p || o) (var x)) b.same
        ∙ sym (simple-options p o b.other);
  }

  inside_alike : (k : Reach) (o p : Bool) (c d : Class) (t w r : DataType) → IsSimple w
      → list_depth w ≡ list_depth (places_type (here k t) k t)
      → pick_type (option_if p (list_type d w))
      (option_if o (list_type c (places_type (here k t) k t))) ≡ Some r
      → (here k t ≡ false → PicksAlike (inner k) t)
      → PicksBoth w w (any_items (here k t) k t) t
  inside_alike k o p c d t w r s e q h =
      let u = places_type (here k t) k t in
      let i = pick_type-inside p d w (option_if o (list_type c u)) r q in
      let same : i.item ≡ u =
      item_type (option_if o (list_type c u)) i.optional i.item o u i.rows (rows_of-lists o c u) in
      items_alike (here k t) k t w i.made s e (ap (pick_type w) (sym same) ∙ i.items) h

  depth_of : (k : Reach) (o : Bool) (c : Class) (t w : DataType)
      → list_depth (index_type k (option_if o (list_type c t))) ≡ list_depth w
      → list_depth w ≡ suc (list_depth (places_type (here k t) k t))
  depth_of k o c t w d =
      sym d ∙ ap list_depth (lists k o c t) ∙ depth-lists o c (places_type (here k t) k t)

  pick_of : (k : Reach) (o : Bool) (c : Class) (t w x r : DataType) → w ≡ x
      → pick_type w (index_type k (option_if o (list_type c t))) ≡ Some r
      → pick_type x (option_if o (list_type c (places_type (here k t) k t))) ≡ Some r
  pick_of k o c t w x r is e =
      sym (ap (λ y. pick_type y (option_if o (list_type c (places_type (here k t) k t)))) is)
      ∙ sym (ap (pick_type w) (lists k o c t)) ∙ e

  lists_alike : (k : Reach) (o : Bool) (c : Class) (t : DataType)
      → (here k t ≡ false → PicksAlike (inner k) t) → PicksAlike k (option_if o (list_type c t))
  lists_alike k o c t h w r s d e =
      let v = level_of w (list_depth (places_type (here k t) k t)) s (depth_of k o c t w d) in
      let x = option_if v.optional (list_type v.class v.item) in
      subst (λ y. PicksBoth y y (any_length_at k (option_if o (list_type c t)))
      (option_if o (list_type c t))) (sym v.is)
      (both_lists k o v.optional c v.class t v.item
      (inside_alike k o v.optional c v.class t v.item r v.simple_item v.deep
      (pick_of k o c t w x r v.is e) h))

  rest : (a b : Bool) → (a || b) ≡ true → a ≡ false → b ≡ true
  rest false b e f = e
  rest true b e f = cc

  pub picks_alike : (k : Reach) (t : DataType) → IsSimple t → is_lists_to k t ≡ true
      → PicksAlike k t
  picks_alike k (var t) s r =
      lists_alike k false None t
      (λ e. picks_alike (inner k) t s (rest (here k t) (is_lists_to (inner k) t) r e))
  picks_alike k (reg n t) s r =
      lists_alike k false (Some n) t
      (λ e. picks_alike (inner k) t s (rest (here k t) (is_lists_to (inner k) t) r e))
  picks_alike k (opt (var t)) s r =
      lists_alike k true None t
      (λ e. picks_alike (inner k) t s.1 (rest (here k t) (is_lists_to (inner k) t) r e))
  picks_alike k (opt (reg n t)) s r =
      lists_alike k true (Some n) t
      (λ e. picks_alike (inner k) t s.1 (rest (here k t) (is_lists_to (inner k) t) r e))
  picks_alike k unknown s r = cc
  picks_alike k (leaf p) s r = cc
  picks_alike k (rec ns ts) s r = cc
  picks_alike k (tup ts) s r = cc
  picks_alike k (uni ts) s r = cc
  picks_alike k (opt unknown) s r = cc
  picks_alike k (opt (leaf p)) s r = cc
  picks_alike k (opt (rec ns ts)) s r = cc
  picks_alike k (opt (tup ts)) s r = cc
  picks_alike k (opt (opt t)) s r = let e = s.0 in cc
  picks_alike k (opt (uni ts)) s r = cc

-- ---- the whole

pub jagged_alike : (w a t : DataType) (vs ws : List Value) → PicksBoth w w a t
    → jagged_of (arr a vs) (arr w ws) ≡ jagged_of (arr t vs) (arr w ws)
jagged_alike w a t vs ws h =
    let rs = picked_items w vs ws in
    ap (λ o. if is_jagged w then picked_as o w vs ws else Err WrongType) h.first
    ∙ ap (λ r. if is_jagged w then refused_or
    (limit_refused r
    or (fault_if Lengths (are_uneven w vs ws)
    or (fault_if Index (lacks_places w vs ws) or size_refused w rs))) (arr r rs)
    else Err WrongType) h.same
    ∙ sym (ap (λ o. if is_jagged w then picked_as o w vs ws else Err WrongType) h.second)
