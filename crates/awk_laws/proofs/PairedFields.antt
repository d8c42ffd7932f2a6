-- Fields of records that were paired with what is put there, below lists and nulls that both share.
use Rattle.std.specs.Prelude.{◌≡◌, ℕ, zero, suc, Bool, true, false, List, [], ◌∷◌, map, get_or}
use Rattle.std.specs.Prelude.{Option, Some, None, option_map, Ok, refl, if◌then◌else◌}
use Rattle.std.specs.List.{AllByRecursion}
use Rattle.std.proofs.Common.{ap, ap₂, sym, ◌∙◌, subst}
use Rattle.awk_types.specs.DataType.{Name, DataType, DataTypes, unknown, leaf, var, reg, rec, tup}
use Rattle.awk_types.specs.DataType.{opt, uni, no_types, type, type_list, types_from}
use Rattle.awk_types.specs.Datum.{arr, one}
use Rattle.awk_types.specs.Faults.{limit_fault}
use Rattle.awk_types.specs.Gives.{◌or◌}
use Rattle.awk_types.specs.Has.{Has, HasRow}
use Rattle.awk_types.specs.Limit.{limit}
use Rattle.awk_types.specs.Parts.{item_of}
use Rattle.awk_types.specs.Simple.{option_if, simple, simple_value, in_list, present}
use Rattle.awk_types.specs.Value.{Value, Values, no_values, value, int, truth, null, list, row, alt}
use Rattle.awk_types.specs.Value.{value_list}
use Rattle.awk_types.specs.declared.fault.Fault.TheVariants.{NoField}
use Rattle.awk_types.proofs.RefusalLaws.{refused_or-None}
use Rattle.awk_columns.specs.ListClass.{Class, list_type}
use Rattle.awk_frames.specs.Framed.{over, over_type}
use Rattle.awk_lists.specs.WithoutField.{choice_of}
use Rattle.awk_pair_operands.specs.Paired.{to_depth, types_at_ends, paired_type}
use Rattle.awk_pair_operands.specs.Pairs.{datum_from}
use Rattle.awk_pair_sides.specs.Levels.{opens, item_types, level_class, some_option}
use Rattle.awk_view.specs.Answer.{choice_fault}
use Rattle.awk_view.specs.Choice.{Choice, has_field, absent, type_of_choice, value_of_choice}
use Rattle.awk_view.specs.Choice.{chosen_type, chosen_value}
use Rattle.awk_put_field.specs.Field.{put, named}
use Rattle.awk_laws.proofs.Lifted.{both_in_list}

-- ---- types of pairs

-- lists and options of lists around rows of two
abbrev pub IsPaired : DataType → DataType → DataType → Type 0
IsPaired x y (var t) = IsPaired x y t
IsPaired x y (reg n t) = IsPaired x y t
IsPaired x y (opt (var t)) = IsPaired x y t
IsPaired x y (opt (reg n t)) = IsPaired x y t
IsPaired x y (tup ts) = ts ≡ type x (type y no_types)
IsPaired x y t = ⊥

level_paired : (c o : Bool) (class : Class) (a b t : DataType) (us : List DataType)
    → IsPaired (get_or us 0 unknown) (get_or us 1 unknown) t
    → IsPaired (get_or (if c then us else a ∷ b ∷ []) 0 unknown)
    (get_or (if c then us else a ∷ b ∷ []) 1 unknown)
    (if c then option_if o (list_type class t) else tup (types_from (a ∷ b ∷ [])))
level_paired false o class a b t us h = refl
level_paired true true None a b t us h = h
level_paired true true (Some n) a b t us h = h
level_paired true false None a b t us h = h
level_paired true false (Some n) a b t us h = h

pub paired : (d : ℕ) (a b : DataType)
    → IsPaired (get_or (types_at_ends to_depth d (a ∷ b ∷ [])) 0 unknown)
    (get_or (types_at_ends to_depth d (a ∷ b ∷ [])) 1 unknown)
    (paired_type true to_depth d (a ∷ b ∷ []))
paired zero a b = refl
paired (suc d) a b =
    let ts = a ∷ b ∷ [] in
    level_paired (opens ts) (some_option ts) (level_class true ts) a b
    (paired_type true to_depth d (item_types ts)) (types_at_ends to_depth d (item_types ts))
    (paired d (item_of (present a)) (item_of (present b)))

-- ---- the type of the records with the field

abbrev pub record_with : Name → List Name → DataTypes → DataType → DataType
record_with n ns ts y = rec (named n ns) (types_from (put n ns y (type_list ts)))

three_in_list : (t : DataType) (f g k p q : Value → Value) (vs : Values)
    → ((v : Value) → Has t v → k (g (f v)) ≡ q (p v)) → AllByRecursion (Has t) (value_list vs)
    → in_list k (in_list g (in_list f (list vs))) ≡ in_list q (in_list p (list vs))
three_in_list t f g k p q vs e h =
    ap (in_list k) (both_in_list t f g (λ v. g (f v)) vs (λ v a. refl) h)
    ∙ both_in_list t (λ v. g (f v)) k (λ v. q (p v)) vs e h
    ∙ sym (both_in_list t p q (λ v. q (p v)) vs (λ v a. refl) h)

-- a choice that gives of each record x with its field, a record w, what a function gives of the row
-- of that record and what was paired with it
module _ (n : Name) (c : Choice) (x y whole u : DataType) (ending part : Value → Value)
    (has : has_field n whole ≡ true)
    (types : simple (type_of_choice c whole) ≡ simple u)
    (values : (r w : Value) → Has x r → Has y w
    → chosen_value c whole (ending (row (value r (value w no_values))))
    ≡ simple_value u (part (row (value r (value w no_values))))) where
  has-over : (t : DataType) → IsPaired x y t → has_field n (over_type t whole) ≡ true
  has-over (var t) h = has-over t h
  has-over (reg k t) h = has-over t h
  has-over (opt (var t)) h = has-over t h
  has-over (opt (reg k t)) h = has-over t h
  has-over (tup us) h = has
  has-over unknown h = absurd h
  has-over (leaf p) h = absurd h
  has-over (rec ms us) h = absurd h
  has-over (uni us) h = absurd h
  has-over (opt unknown) h = absurd h
  has-over (opt (leaf p)) h = absurd h
  has-over (opt (rec ms us)) h = absurd h
  has-over (opt (tup us)) h = absurd h
  has-over (opt (opt t)) h = absurd h
  has-over (opt (uni us)) h = absurd h

  pub type-over : (t : DataType) → IsPaired x y t
      → simple (type_of_choice c (over_type t whole)) ≡ simple (over_type t u)
  type-over (var t) h = ap var (type-over t h)
  type-over (reg k t) h = ap (reg k) (type-over t h)
  type-over (opt (var t)) h = ap (λ v. opt (var v)) (type-over t h)
  type-over (opt (reg k t)) h = ap (λ v. opt (reg k v)) (type-over t h)
  type-over (tup us) h = types
  type-over unknown h = absurd h
  type-over (leaf p) h = absurd h
  type-over (rec ms us) h = absurd h
  type-over (uni us) h = absurd h
  type-over (opt unknown) h = absurd h
  type-over (opt (leaf p)) h = absurd h
  type-over (opt (rec ms us)) h = absurd h
  type-over (opt (tup us)) h = absurd h
  type-over (opt (opt t)) h = absurd h
  type-over (opt (uni us)) h = absurd h

  end-over : (vs : Values) → HasRow (type x (type y no_types)) (value_list vs)
      → chosen_value c whole (ending (row vs)) ≡ simple_value u (part (row vs))
  end-over no_values h = absurd h
  end-over (value r no_values) h = absurd h.1
  end-over (value r (value w no_values)) h = values r w h.0 h.1.0
  end-over (value r (value w (value z vs))) h = absurd h.1.1

  pub value-over : (t : DataType) (v : Value) → IsPaired x y t → Has t v
      → chosen_value c (over_type t whole) (over t ending v)
      ≡ simple_value (over_type t u) (over t part v)
  value-over (var t) (list vs) h k =
      three_in_list t (over t ending) (value_of_choice c (over_type t whole))
      (simple_value (type_of_choice c (over_type t whole))) (over t part)
      (simple_value (over_type t u)) vs (λ v a. value-over t v h a) k
  value-over (var t) (int z) h k = absurd k
  value-over (var t) (truth b) h k = absurd k
  value-over (var t) null h k = absurd k
  value-over (var t) (row vs) h k = absurd k
  value-over (var t) (alt i v) h k = absurd k
  value-over (reg m t) (list vs) h k =
      three_in_list t (over t ending) (value_of_choice c (over_type t whole))
      (simple_value (type_of_choice c (over_type t whole))) (over t part)
      (simple_value (over_type t u)) vs (λ v a. value-over t v h a) k.1
  value-over (reg m t) (int z) h k = absurd k
  value-over (reg m t) (truth b) h k = absurd k
  value-over (reg m t) null h k = absurd k
  value-over (reg m t) (row vs) h k = absurd k
  value-over (reg m t) (alt i v) h k = absurd k
  value-over (opt (var t)) null h k = refl
  value-over (opt (var t)) (list vs) h k =
      three_in_list t (over t ending) (value_of_choice c (over_type t whole))
      (simple_value (type_of_choice c (over_type t whole))) (over t part)
      (simple_value (over_type t u)) vs (λ v a. value-over t v h a) k
  value-over (opt (var t)) (int z) h k = absurd k
  value-over (opt (var t)) (truth b) h k = absurd k
  value-over (opt (var t)) (row vs) h k = absurd k
  value-over (opt (var t)) (alt i v) h k = absurd k
  value-over (opt (reg m t)) null h k = refl
  value-over (opt (reg m t)) (list vs) h k =
      three_in_list t (over t ending) (value_of_choice c (over_type t whole))
      (simple_value (type_of_choice c (over_type t whole))) (over t part)
      (simple_value (over_type t u)) vs (λ v a. value-over t v h a) k.1
  value-over (opt (reg m t)) (int z) h k = absurd k
  value-over (opt (reg m t)) (truth b) h k = absurd k
  value-over (opt (reg m t)) (row vs) h k = absurd k
  value-over (opt (reg m t)) (alt i v) h k = absurd k
  value-over (tup us) (row vs) h k =
      end-over vs (subst (λ ws. HasRow ws (value_list vs)) h k)
  value-over (tup us) (int z) h k = absurd k
  value-over (tup us) (truth b) h k = absurd k
  value-over (tup us) null h k = absurd k
  value-over (tup us) (list vs) h k = absurd k
  value-over (tup us) (alt i v) h k = absurd k
  value-over unknown v h k = absurd h
  value-over (leaf p) v h k = absurd h
  value-over (rec ms us) v h k = absurd h
  value-over (uni us) v h k = absurd h
  value-over (opt unknown) v h k = absurd h
  value-over (opt (leaf p)) v h k = absurd h
  value-over (opt (rec ms us)) v h k = absurd h
  value-over (opt (tup us)) v h k = absurd h
  value-over (opt (opt t)) v h k = absurd h
  value-over (opt (uni us)) v h k = absurd h

  values-over : (t : DataType) (vs : List Value) → IsPaired x y t → AllByRecursion (Has t) vs
      → map (chosen_value c (over_type t whole)) (map (over t ending) vs)
      ≡ map (λ v. simple_value (over_type t u) (over t part v)) vs
  values-over t [] h k = refl
  values-over t (v ∷ vs) h k =
      ap₂ (λ w ws. w ∷ ws) (value-over t v h k.0) (values-over t vs h k.1)

  -- ---- the datum

  allowed : (t : DataType)
      → ((s : DataType) → absent c s ≡ (if has_field n s then None else Some n))
      → IsPaired x y t → limit (simple (over_type t u)) ≡ None
      → choice_fault c (over_type t whole) ≡ None
  allowed t looks h l =
      ap₂ (λ (o : Option Name) (s : DataType). option_map NoField o
      or option_map limit_fault (limit s))
      (looks (over_type t whole)
      ∙ ap (λ (b : Bool). if b then None else Some n) (has-over t h))
      (type-over t h)
      ∙ ap (option_map limit_fault) l

  -- a choice that looks for the name, of an array or of a single value
  pub chosen-over : (b : Bool) (t : DataType) (vs : List Value)
      → ((s : DataType) → absent c s ≡ (if has_field n s then None else Some n))
      → IsPaired x y t → AllByRecursion (Has t) vs
      → (b ≡ false → (v : Value) × (vs ≡ v ∷ []))
      → limit (simple (over_type t u)) ≡ None
      → choice_of c (datum_from b (over_type t whole) (map (over t ending) vs))
      ≡ Ok (datum_from b (simple (over_type t u))
      (map (λ v. simple_value (over_type t u) (over t part v)) vs))
  chosen-over true t vs looks h k single l =
      refused_or-None (choice_fault c (over_type t whole))
      (arr (chosen_type c (over_type t whole))
      (map (chosen_value c (over_type t whole)) (map (over t ending) vs)))
      (arr (simple (over_type t u))
      (map (λ v. simple_value (over_type t u) (over t part v)) vs))
      (allowed t looks h l) (ap₂ arr (type-over t h) (values-over t vs h k))
  chosen-over false t vs looks h k single l =
      let p = single refl in
      let v = p.0 in
      let typed = subst (AllByRecursion (Has t)) p.1 k in
      ap (λ ws. choice_of c (datum_from false (over_type t whole)
      (map (over t ending) ws))) p.1
      ∙ refused_or-None (choice_fault c (over_type t whole))
      (one (chosen_type c (over_type t whole))
      (chosen_value c (over_type t whole) (over t ending v)))
      (one (simple (over_type t u)) (simple_value (over_type t u) (over t part v)))
      (allowed t looks h l) (ap₂ one (type-over t h) (value-over t v h typed.0))
      ∙ ap (λ ws. Ok (datum_from false (simple (over_type t u))
      (map (λ w. simple_value (over_type t u) (over t part w)) ws))) (sym p.1)
