-- A mask of some levels is what its pairing with its items is, with each pair masked.
use Rattle.std.specs.Prelude.{◌≡◌, ℕ, zero, suc, refl, Bool, true, false, ◌||◌, ◌&&◌, not, ◌==◌}
use Rattle.std.specs.Prelude.{List, [], ◌∷◌, length, map, if◌then◌else◌}
use Rattle.std.specs.List.{list_any}
use Rattle.std.proofs.Common.{ap, ap₂, sym, ◌∙◌, subst}
use Rattle.std.proofs.lemmas.List.{length-map}
use Rattle.awk_types.specs.DataType.{DataType, unknown, leaf, var, reg, rec, tup, opt, uni}
use Rattle.awk_types.specs.Gives.{◌or◌}
use Rattle.awk_types.specs.Has.{Has}
use Rattle.awk_types.specs.ItemLimit.{too_many}
use Rattle.awk_types.specs.Simple.{option_if, simple, simple_value, in_list}
use Rattle.awk_types.specs.Value.{Value, Values, null, int, truth, list, row, alt, value_list}
use Rattle.awk_types.specs.Value.{values_from}
use Rattle.awk_types.proofs.RefusalLaws.{or-last}
use Rattle.awk_columns.specs.Columns.{joined_items, list_items}
use Rattle.awk_columns.specs.ListClass.{Class, list_type}
use Rattle.awk_frames.specs.Framed.{over, over_type}
use Rattle.awk_frames.specs.Shape.{shape, ends}
use Rattle.awk_frames.specs.Sizes.{sizes_refused}
use Rattle.awk_pair_operands.specs.Paired.{to_depth, paired_type, paired_value, is_uneven}
use Rattle.awk_pair_operands.specs.Paired.{types_at_ends}
use Rattle.awk_pair_sides.specs.Levels.{level_class, item_types}
use Rattle.awk_pair_sides.specs.Sides.{each, rows_of}
use Rattle.awk_mask_pairs.specs.MaskTypes.{is_bare, is_innermost, is_unit, levels_refused}
use Rattle.awk_mask_pairs.specs.MaskTypes.{classed, shared_type, under, masked_row, IsMasking}
use Rattle.awk_mask_pairs.specs.MaskValues.{masked_type, masked_value, in_pairs, of_lists}
use Rattle.awk_mask_pairs.specs.MaskValues.{differs, differ_inside}
use Rattle.awk_mask_pairs.proofs.Rows.{rows_by, rows-two, rows-length, differ-rows, map-rows}
use Rattle.awk_mask_pairs.proofs.Rows.{all-rows, alike-length, alike-pairs}
use Rattle.awk_mask_pairs.proofs.ValueLaws.{IsOfLength, IsListOrNull, list-or-null, made-list}
use Rattle.awk_mask_pairs.proofs.ValueLaws.{made-null, over-list, simple-list, list-by, list-after}
use Rattle.awk_mask_pairs.proofs.ValueLaws.{list-of-made, joined-in}
use Rattle.awk_mask_pairs.proofs.TypeLaws.{masked_type-level, masked_value-level, differs-level}
use Rattle.awk_mask_pairs.proofs.TypeLaws.{over_type-level, simple-level, innermost-alike}
use Rattle.awk_mask_pairs.proofs.LevelLaws.{sizes-level, refused-level, shape-level, ends-level}
use Rattle.awk_mask_pairs.proofs.LevelLaws.{uneven-level, value-level, type-level, shared-level}
use Rattle.awk_mask_pairs.proofs.LevelLaws.{under-items, under-mask, opens-level, items-level}

-- ---- nulls of either

null-first : (a b : Bool) → b ≡ true → (b || (a || false)) && true ≡ true
null-first a true e = refl
null-first a false e = cc

null-second : (a b : Bool) → a ≡ true → (b || (a || false)) && true ≡ true
null-second true true e = refl
null-second true false e = refl
null-second false b e = cc

none-null : (b : Bool) → b && false ≡ false
none-null true = refl
none-null false = refl

either-first : (a b : Bool) → b ≡ true → b || (a || false) ≡ true
either-first a true e = refl
either-first a false e = cc

either-second : (a b : Bool) → a ≡ true → b || (a || false) ≡ true
either-second true true e = refl
either-second true false e = refl
either-second false b e = cc

inside-null : (f : Value → Value → Bool) (m : Value) → differ_inside f m null ≡ false
inside-null f null = refl
inside-null f (int z) = refl
inside-null f (truth b) = refl
inside-null f (list us) = refl
inside-null f (row us) = refl
inside-null f (alt j u) = refl

lists-null : (f : List Value → List Value → List Value) (m : Value) → of_lists f m null ≡ null
lists-null f null = refl
lists-null f (int z) = refl
lists-null f (truth b) = refl
lists-null f (list us) = refl
lists-null f (row us) = refl
lists-null f (alt j u) = refl

-- ---- a level, by the one below

-- the lists of a mask and those under it are uneven where they differ
abbrev pub Alike : ℕ → DataType → DataType → Type 0
Alike n t u =
    (v m : Value) → Has t v → Has u m
    → is_uneven true n (t ∷ u ∷ []) (v ∷ m ∷ []) ≡ differs u m v

-- what is paired, masked at its ends, is what is masked
abbrev pub Masked : Bool → ℕ → DataType → DataType → Type 0
Masked keep n t u =
    (v m : Value) → Has t v → Has u m → differs u m v ≡ false
    → over (shared_type n t u) (masked_row keep (under n u))
    (paired_value true to_depth n (t ∷ u ∷ []) (v ∷ m ∷ []))
    ≡ masked_value u keep m v

-- what is paired is of the type that both share
abbrev pub Shared : ℕ → DataType → DataType → Type 0
Shared n t u =
    (v m : Value) → Has t v → Has u m → differs u m v ≡ false
    → Has (shared_type n t u) (paired_value true to_depth n (t ∷ u ∷ []) (v ∷ m ∷ []))

module _ (n : ℕ) (a b : Bool) (c d : Class) (t u : DataType) (sized : is_unit c ≡ false) where
  abbrev X : DataType
  X = option_if b (list_type d t)

  abbrev M : DataType
  M = option_if a (list_type c u)

  -- ---- lengths

  uneven-by : Alike n t u → (v m : Value) → IsListOrNull b d t v → IsListOrNull a c u m
      → is_uneven true (suc n) (X ∷ M ∷ []) (v ∷ m ∷ []) ≡ differ_inside (differs u) m v
  uneven-by h null m p q =
      uneven-level a b c d t u sized n null m
      ∙ ap (λ w. if w then false
      else not ((0 == length (list_items m)) && true)
      || list_any (is_uneven true n (t ∷ u ∷ [])) (rows_of (each [] ∷ each (list_items m) ∷ [])))
      (null-first a b p)
      ∙ sym (inside-null (differs u) m)
  uneven-by h (list ws) null p q =
      uneven-level a b c d t u sized n (list ws) null
      ∙ ap (λ w. if w then false
      else not ((length (value_list ws) == 0) && true)
      || list_any (is_uneven true n (t ∷ u ∷ [])) (rows_of (each (value_list ws) ∷ each [] ∷ [])))
      (null-second a b q)
  uneven-by h (list ws) (list us) p q =
      uneven-level a b c d t u sized n (list ws) (list us)
      ∙ ap (λ w. if w then false
      else not ((length (value_list ws) == length (value_list us)) && true)
      || list_any (is_uneven true n (t ∷ u ∷ []))
      (rows_of (each (value_list ws) ∷ each (value_list us) ∷ [])))
      (none-null (b || (a || false)))
      ∙ differ-rows (is_uneven true n (t ∷ u ∷ [])) (differs u) (Has t) (Has u) h
      (value_list us) (value_list ws) p.1 q.1
  uneven-by h (list ws) (int z) p q = absurd q
  uneven-by h (list ws) (truth k) p q = absurd q
  uneven-by h (list ws) (row us) p q = absurd q
  uneven-by h (list ws) (alt k w) p q = absurd q
  uneven-by h (int z) m p q = absurd p
  uneven-by h (truth k) m p q = absurd p
  uneven-by h (row ws) m p q = absurd p
  uneven-by h (alt k w) m p q = absurd p

  pub alike-above : Alike n t u → Alike (suc n) X M
  alike-above h v m p q =
      uneven-by h v m (list-or-null b d t v p) (list-or-null a c u m q)
      ∙ ap (λ f. f m v) (sym (differs-level a c u))

  -- ---- what is made

  abbrev F : List Value → Value
  F = paired_value true to_depth n (t ∷ u ∷ [])

  null-left : (m : Value) → b ≡ true
      → paired_value true to_depth (suc n) (X ∷ M ∷ []) (null ∷ m ∷ []) ≡ null
  null-left m e =
      value-level a b c d t u sized n null m
      ∙ ap (λ w. if w then null
      else list (values_from (map F (rows_of (each [] ∷ each (list_items m) ∷ [])))))
      (null-first a b e)

  null-right : (ws : Values) → a ≡ true
      → paired_value true to_depth (suc n) (X ∷ M ∷ []) (list ws ∷ null ∷ []) ≡ null
  null-right ws e =
      value-level a b c d t u sized n (list ws) null
      ∙ ap (λ w. if w then null
      else list (values_from (map F (rows_of (each (value_list ws) ∷ each [] ∷ [])))))
      (null-second a b e)

  both-lists : (ws us : Values) → length (value_list us) ≡ length (value_list ws)
      → paired_value true to_depth (suc n) (X ∷ M ∷ []) (list ws ∷ list us ∷ [])
      ≡ list (values_from (map F (rows_by (value_list us) (value_list ws))))
  both-lists ws us e =
      value-level a b c d t u sized n (list ws) (list us)
      ∙ ap (λ w. if w then null
      else list (values_from (map F (rows_of
      (each (value_list ws) ∷ each (value_list us) ∷ [])))))
      (none-null (b || (a || false)))
      ∙ ap (λ rs. list (values_from (map F rs))) (rows-two (value_list us) (value_list ws) e)

  module _ (keep : Bool) where
    -- the function at the ends below
    abbrev g : Value → Value
    g = masked_row keep (under n u)

    -- what is paired at the level, by the function
    abbrev C : DataType
    C = shared_type n t u

    masked-by : Masked keep n t u → (v m : Value) → IsListOrNull b d t v → IsListOrNull a c u m
        → differ_inside (differs u) m v ≡ false
        → in_list (over C g) (paired_value true to_depth (suc n) (X ∷ M ∷ []) (v ∷ m ∷ []))
        ≡ of_lists (in_pairs (masked_value u keep)) m v
    masked-by h null m p q e =
        ap (in_list (over C g)) (null-left m p)
        ∙ sym (lists-null (in_pairs (masked_value u keep)) m)
    masked-by h (list ws) null p q e = ap (in_list (over C g)) (null-right ws q)
    masked-by h (list ws) (list us) p q e =
        let l : length (value_list us) ≡ length (value_list ws) =
        alike-length (differs u) (value_list us) (value_list ws) e in
        ap (in_list (over C g)) (both-lists ws us l)
        ∙ list-of-made (over C g) (map F (rows_by (value_list us) (value_list ws)))
        ∙ ap (λ zs. list (values_from zs))
        (map-rows (Has t) (Has u) (differs u) (over C g) F (masked_value u keep) h
        (value_list us) (value_list ws) p.1 q.1
        (alike-pairs (differs u) (value_list us) (value_list ws) e))
    masked-by h (list ws) (int z) p q e = absurd q
    masked-by h (list ws) (truth k) p q e = absurd q
    masked-by h (list ws) (row us) p q e = absurd q
    masked-by h (list ws) (alt k w) p q e = absurd q
    masked-by h (int z) m p q e = absurd p
    masked-by h (truth k) m p q e = absurd p
    masked-by h (row ws) m p q e = absurd p
    masked-by h (alt k w) m p q e = absurd p

    -- a function at the ends of the level is one of the items of its lists
    pub over-above : (f : Value → Value) (w : Value)
        → over (shared_type (suc n) X M) f w ≡ in_list (over C f) w
    over-above f w =
        ap (λ s. over s f w) (shared-level a b c d t u sized n)
        ∙ over-list (b || (a || false)) d C f w

    pub masked-above : Masked keep n t u → Masked keep (suc n) X M
    masked-above h v m p q e =
        over-above (masked_row keep (under (suc n) M))
        (paired_value true to_depth (suc n) (X ∷ M ∷ []) (v ∷ m ∷ []))
        ∙ ap (λ w. in_list (over C (masked_row keep w))
        (paired_value true to_depth (suc n) (X ∷ M ∷ []) (v ∷ m ∷ [])))
        (under-mask a b c d t u sized n)
        ∙ masked-by h v m (list-or-null b d t v p) (list-or-null a c u m q)
        (ap (λ f. f m v) (sym (differs-level a c u)) ∙ e)
        ∙ ap (λ f. f m v) (sym (masked_value-level a c u keep))

  -- ---- types of what is made

  shared-by : Shared n t u → (v m : Value) → IsListOrNull b d t v → IsListOrNull a c u m
      → differ_inside (differs u) m v ≡ false
      → Has (option_if (b || (a || false)) (list_type d (shared_type n t u)))
      (paired_value true to_depth (suc n) (X ∷ M ∷ []) (v ∷ m ∷ []))
  shared-by h null m p q e =
      subst (Has (option_if (b || (a || false)) (list_type d (shared_type n t u))))
      (sym (null-left m p))
      (made-null (b || (a || false)) d (shared_type n t u) (either-first a b p))
  shared-by h (list ws) null p q e =
      subst (Has (option_if (b || (a || false)) (list_type d (shared_type n t u))))
      (sym (null-right ws q))
      (made-null (b || (a || false)) d (shared_type n t u) (either-second a b q))
  shared-by h (list ws) (list us) p q e =
      let l : length (value_list us) ≡ length (value_list ws) =
      alike-length (differs u) (value_list us) (value_list ws) e in
      let rows : List (List Value) = rows_by (value_list us) (value_list ws) in
      subst (Has (option_if (b || (a || false)) (list_type d (shared_type n t u))))
      (sym (both-lists ws us l))
      (made-list (b || (a || false)) d (shared_type n t u) (map F rows)
      (subst (IsOfLength d) (sym (length-map rows F
      ∙ rows-length (value_list us) (value_list ws) l)) p.0)
      (all-rows (Has t) (Has u) (Has (shared_type n t u)) (differs u) F h (value_list us)
      (value_list ws) p.1 q.1 (alike-pairs (differs u) (value_list us) (value_list ws) e)))
  shared-by h (list ws) (int z) p q e = absurd q
  shared-by h (list ws) (truth k) p q e = absurd q
  shared-by h (list ws) (row us) p q e = absurd q
  shared-by h (list ws) (alt k w) p q e = absurd q
  shared-by h (int z) m p q e = absurd p
  shared-by h (truth k) m p q e = absurd p
  shared-by h (row ws) m p q e = absurd p
  shared-by h (alt k w) m p q e = absurd p

  pub shared-above : Shared n t u → Shared (suc n) X M
  shared-above h v m p q e =
      subst (λ s. Has s (paired_value true to_depth (suc n) (X ∷ M ∷ []) (v ∷ m ∷ [])))
      (sym (shared-level a b c d t u sized n))
      (shared-by h v m (list-or-null b d t v p) (list-or-null a c u m q)
      (ap (λ f. f m v) (sym (differs-level a c u)) ∙ e))

-- ---- all levels

pub uneven-is : (n : ℕ) (t u : DataType) → IsMasking n t u → Alike n t u
uneven-is zero t u h = λ v m p q. sym (innermost-alike u m v h)
uneven-is (suc n) t u h =
    let below : Alike n h.4 h.5 = uneven-is n h.4 h.5 h.7 in
    subst (λ w. Alike (suc n) w u) (sym h.6.items)
    (subst (λ w. Alike (suc n) (option_if h.1 (list_type h.3 h.4)) w) (sym h.6.mask)
    (alike-above n h.0 h.1 h.2 h.3 h.4 h.5 h.6.sized below))

pub masked-is : (keep : Bool) (n : ℕ) (t u : DataType) → IsMasking n t u → Masked keep n t u
masked-is keep zero t u h = λ v m p q e. refl
masked-is keep (suc n) t u h =
    let below : Masked keep n h.4 h.5 = masked-is keep n h.4 h.5 h.7 in
    subst (λ w. Masked keep (suc n) w u) (sym h.6.items)
    (subst (λ w. Masked keep (suc n) (option_if h.1 (list_type h.3 h.4)) w) (sym h.6.mask)
    (masked-above n h.0 h.1 h.2 h.3 h.4 h.5 h.6.sized keep below))

pub shared-is : (n : ℕ) (t u : DataType) → IsMasking n t u → Shared n t u
shared-is zero t u h = λ v m p q e. (p, (q, tt))
shared-is (suc n) t u h =
    let below : Shared n h.4 h.5 = shared-is n h.4 h.5 h.7 in
    subst (λ w. Shared (suc n) w u) (sym h.6.items)
    (subst (λ w. Shared (suc n) (option_if h.1 (list_type h.3 h.4)) w) (sym h.6.mask)
    (shared-above n h.0 h.1 h.2 h.3 h.4 h.5 h.6.sized below))

-- ---- simplifying at the ends, and of the whole

abbrev pub SimpleOver : ℕ → DataType → DataType → Type 0
SimpleOver n t u =
    (g : Value → Value) (w : Value)
    → over (shared_type n t u)
    (λ r. simple_value (masked_type (under n u) (under n t)) (g r)) w
    ≡ simple_value (masked_type u t) (over (shared_type n t u) g w)

module _ (n : ℕ) (a b : Bool) (c d : Class) (t u : DataType) (sized : is_unit c ≡ false)
    (below : SimpleOver n t u) where
  simple-above : SimpleOver (suc n) (option_if b (list_type d t)) (option_if a (list_type c u))
  simple-above g w =
      let X : DataType = option_if b (list_type d t) in
      let M : DataType = option_if a (list_type c u) in
      let C : DataType = shared_type n t u in
      ap₂ (λ x y. over (shared_type (suc n) X M) (λ r. simple_value (masked_type x y) (g r)) w)
      (under-mask a b c d t u sized n) (under-items a b c d t u sized n)
      ∙ over-above n a b c d t u sized true
      (λ r. simple_value (masked_type (under n u) (under n t)) (g r)) w
      ∙ list-by (over C (λ r. simple_value (masked_type (under n u) (under n t)) (g r)))
      (λ v. simple_value (masked_type u t) (over C g v)) (below g) w
      ∙ sym (list-after (simple_value (masked_type u t)) (over C g) w)
      ∙ sym (simple-list a b d (masked_type u t) (in_list (over C g) w))
      ∙ ap₂ (λ s z. simple_value s z) (sym (masked_type-level a b c d t u))
      (sym (over-above n a b c d t u sized true g w))

pub simple-is : (n : ℕ) (t u : DataType) → IsMasking n t u → SimpleOver n t u
simple-is zero t u h = λ g w. refl
simple-is (suc n) t u h =
    let below : SimpleOver n h.4 h.5 = simple-is n h.4 h.5 h.7 in
    subst (λ w. SimpleOver (suc n) w u) (sym h.6.items)
    (subst (λ w. SimpleOver (suc n) (option_if h.1 (list_type h.3 h.4)) w) (sym h.6.mask)
    (simple-above n h.0 h.1 h.2 h.3 h.4 h.5 h.6.sized below))

-- ---- the type of the whole

abbrev pub SimpleType : ℕ → DataType → DataType → Type 0
SimpleType n t u =
    over_type (shared_type n t u) (simple (masked_type (under n u) (under n t)))
    ≡ simple (masked_type u t)

module _ (n : ℕ) (a b : Bool) (c d : Class) (t u : DataType) (sized : is_unit c ≡ false)
    (below : SimpleType n t u) where
  type-above : SimpleType (suc n) (option_if b (list_type d t)) (option_if a (list_type c u))
  type-above =
      let X : DataType = option_if b (list_type d t) in
      let M : DataType = option_if a (list_type c u) in
      ap₂ (λ x y. over_type (shared_type (suc n) X M) (simple (masked_type x y)))
      (under-mask a b c d t u sized n) (under-items a b c d t u sized n)
      ∙ ap (λ s. over_type s (simple (masked_type (under n u) (under n t))))
      (shared-level a b c d t u sized n)
      ∙ over_type-level (b || (a || false)) d (shared_type n t u)
      (simple (masked_type (under n u) (under n t)))
      ∙ ap (λ s. option_if (b || (a || false)) (list_type d s)) below
      ∙ sym (simple-level a b d (masked_type u t))
      ∙ ap simple (sym (masked_type-level a b c d t u))

pub type-is : (n : ℕ) (t u : DataType) → IsMasking n t u → SimpleType n t u
type-is zero t u h = refl
type-is (suc n) t u h =
    let below : SimpleType n h.4 h.5 = type-is n h.4 h.5 h.7 in
    subst (λ w. SimpleType (suc n) w u) (sym h.6.items)
    (subst (λ w. SimpleType (suc n) (option_if h.1 (list_type h.3 h.4)) w) (sym h.6.mask)
    (type-above n h.0 h.1 h.2 h.3 h.4 h.5 h.6.sized below))

-- ---- the shape, and what stands at its ends

abbrev pub IsShape : ℕ → DataType → DataType → Type 0
IsShape n t u =
    (vs : List Value) → classed t (shape (paired_type true to_depth n (t ∷ u ∷ [])) vs)
    ≡ shape (shared_type n t u) vs

abbrev pub AreEnds : ℕ → DataType → DataType → Type 0
AreEnds n t u =
    (vs : List Value) → ends (paired_type true to_depth n (t ∷ u ∷ [])) vs
    ≡ ends (shared_type n t u) vs

-- a mask's levels are counted as those of what is paired
abbrev pub IsCounted : ℕ → DataType → DataType → Type 0
IsCounted n t u =
    (g : Value → Value) (vs : List Value)
    → levels_refused u (map (over (shared_type n t u) g) vs)
    ≡ sizes_refused (paired_type true to_depth n (t ∷ u ∷ [])) vs

module _ (n : ℕ) (a b : Bool) (c d : Class) (t u : DataType) (sized : is_unit c ≡ false) where
  abbrev level-of : Class
  level-of = level_class true (option_if b (list_type d t) ∷ option_if a (list_type c u) ∷ [])

  abbrev P : DataType
  P = paired_type true to_depth n (t ∷ u ∷ [])

  shape-above : IsShape n t u
      → IsShape (suc n) (option_if b (list_type d t)) (option_if a (list_type c u))
  shape-above h vs =
      ap (λ p. classed (option_if b (list_type d t)) (shape p vs))
      (type-level a b c d t u sized n)
      ∙ shape-level b level-of d P t (shared_type n t u) h (b || (a || false)) vs
      ∙ ap (λ s. shape s vs) (sym (shared-level a b c d t u sized n))

  ends-above : AreEnds n t u
      → AreEnds (suc n) (option_if b (list_type d t)) (option_if a (list_type c u))
  ends-above h vs =
      ap (λ p. ends p vs) (type-level a b c d t u sized n)
      ∙ ends-level (b || (a || false)) level-of d P (shared_type n t u) h vs
      ∙ ap (λ s. ends s vs) (sym (shared-level a b c d t u sized n))

  counted-above : IsCounted n t u
      → IsCounted (suc n) (option_if b (list_type d t)) (option_if a (list_type c u))
  counted-above h g vs =
      let S : DataType =
      shared_type (suc n) (option_if b (list_type d t)) (option_if a (list_type c u)) in
      refused-level a c u (map (over S g) vs)
      ∙ ap₂ (λ k us. too_many k or levels_refused u us) (length-map vs (over S g))
      (joined-in (over (shared_type n t u) g) (over S g) (over-above n a b c d t u sized true g) vs)
      ∙ ap (λ f. too_many (length vs) or f) (h g (joined_items vs))
      ∙ sym (sizes-level (b || (a || false)) level-of P vs)
      ∙ ap (λ p. sizes_refused p vs) (sym (type-level a b c d t u sized n))

pub shape-is : (n : ℕ) (t u : DataType) → IsMasking n t u → IsShape n t u
shape-is zero t u h = λ vs. refl
shape-is (suc n) t u h =
    let below : IsShape n h.4 h.5 = shape-is n h.4 h.5 h.7 in
    subst (λ w. IsShape (suc n) w u) (sym h.6.items)
    (subst (λ w. IsShape (suc n) (option_if h.1 (list_type h.3 h.4)) w) (sym h.6.mask)
    (shape-above n h.0 h.1 h.2 h.3 h.4 h.5 h.6.sized below))

pub ends-are : (n : ℕ) (t u : DataType) → IsMasking n t u → AreEnds n t u
ends-are zero t u h = λ vs. refl
ends-are (suc n) t u h =
    let below : AreEnds n h.4 h.5 = ends-are n h.4 h.5 h.7 in
    subst (λ w. AreEnds (suc n) w u) (sym h.6.items)
    (subst (λ w. AreEnds (suc n) (option_if h.1 (list_type h.3 h.4)) w) (sym h.6.mask)
    (ends-above n h.0 h.1 h.2 h.3 h.4 h.5 h.6.sized below))

bare-counted : (u : DataType) (vs : List Value) → is_bare u ≡ true
    → levels_refused u vs ≡ too_many (length vs)
bare-counted unknown vs h = refl
bare-counted (leaf p) vs h = refl
bare-counted (var u) vs h = cc
bare-counted (reg n u) vs h = cc
bare-counted (rec ns ts) vs h = refl
bare-counted (tup ts) vs h = refl
bare-counted (opt u) vs h = cc
bare-counted (uni ts) vs h = refl

innermost-counted : (u : DataType) (vs : List Value) → is_innermost u ≡ true
    → levels_refused u vs ≡ too_many (length vs)
innermost-counted unknown vs h = refl
innermost-counted (leaf p) vs h = refl
innermost-counted (var u) vs h = cc
innermost-counted (reg n u) vs h = cc
innermost-counted (rec ns ts) vs h = refl
innermost-counted (tup ts) vs h = refl
innermost-counted (opt u) vs h = bare-counted u vs h
innermost-counted (uni ts) vs h = refl

pub counted-is : (n : ℕ) (t u : DataType) → IsMasking n t u → IsCounted n t u
counted-is zero t u h = λ g vs.
    innermost-counted u (map (over (shared_type 0 t u) g) vs) h
    ∙ ap too_many (length-map vs (over (shared_type 0 t u) g))
    ∙ sym (or-last (too_many (length vs)))
counted-is (suc n) t u h =
    let below : IsCounted n h.4 h.5 = counted-is n h.4 h.5 h.7 in
    subst (λ w. IsCounted (suc n) w u) (sym h.6.items)
    (subst (λ w. IsCounted (suc n) (option_if h.1 (list_type h.3 h.4)) w) (sym h.6.mask)
    (counted-above n h.0 h.1 h.2 h.3 h.4 h.5 h.6.sized below))

-- ---- sizes do not turn on classes

abbrev pub IsSized : ℕ → DataType → DataType → Type 0
IsSized n t u =
    (vs : List Value) → sizes_refused (paired_type true to_depth n (t ∷ u ∷ [])) vs
    ≡ sizes_refused (shared_type n t u) vs

module _ (n : ℕ) (a b : Bool) (c d : Class) (t u : DataType) (sized : is_unit c ≡ false) where
  sized-above : IsSized n t u
      → IsSized (suc n) (option_if b (list_type d t)) (option_if a (list_type c u))
  sized-above h vs =
      let k : Class =
      level_class true (option_if b (list_type d t) ∷ option_if a (list_type c u) ∷ []) in
      let P : DataType = paired_type true to_depth n (t ∷ u ∷ []) in
      ap (λ p. sizes_refused p vs) (type-level a b c d t u sized n)
      ∙ sizes-level (b || (a || false)) k P vs
      ∙ ap (λ f. too_many (length vs) or f) (h (joined_items vs))
      ∙ sym (sizes-level (b || (a || false)) d (shared_type n t u) vs)
      ∙ ap (λ s. sizes_refused s vs) (sym (shared-level a b c d t u sized n))

pub sized-is : (n : ℕ) (t u : DataType) → IsMasking n t u → IsSized n t u
sized-is zero t u h = λ vs. refl
sized-is (suc n) t u h =
    let below : IsSized n h.4 h.5 = sized-is n h.4 h.5 h.7 in
    subst (λ w. IsSized (suc n) w u) (sym h.6.items)
    (subst (λ w. IsSized (suc n) (option_if h.1 (list_type h.3 h.4)) w) (sym h.6.mask)
    (sized-above n h.0 h.1 h.2 h.3 h.4 h.5 h.6.sized below))

-- ---- the types at the ends

abbrev pub AtEnds : ℕ → DataType → DataType → Type 0
AtEnds n t u =
    (types_at_ends to_depth n (t ∷ u ∷ []) ≡ under n t ∷ under n u ∷ [])
    × (is_innermost (under n u) ≡ true)

module _ (n : ℕ) (a b : Bool) (c d : Class) (t u : DataType) (sized : is_unit c ≡ false) where
  at-above : AtEnds n t u
      → AtEnds (suc n) (option_if b (list_type d t)) (option_if a (list_type c u))
  at-above h =
      let ts : List DataType = option_if b (list_type d t) ∷ option_if a (list_type c u) ∷ [] in (
        ap (λ o. if o then types_at_ends to_depth n (item_types ts) else ts)
            (opens-level a b c d t u sized)
            ∙ ap (types_at_ends to_depth n) (items-level a b c d t u sized)
            ∙ h.0
            ∙ ap₂ (λ x y. x ∷ y ∷ []) (sym (under-items a b c d t u sized n))
            (sym (under-mask a b c d t u sized n)),
        ap is_innermost (under-mask a b c d t u sized n) ∙ h.1,
      )

pub at-ends : (n : ℕ) (t u : DataType) → IsMasking n t u → AtEnds n t u
at-ends zero t u h = (refl, h)
at-ends (suc n) t u h =
    let below : AtEnds n h.4 h.5 = at-ends n h.4 h.5 h.7 in
    subst (λ w. AtEnds (suc n) w u) (sym h.6.items)
    (subst (λ w. AtEnds (suc n) (option_if h.1 (list_type h.3 h.4)) w) (sym h.6.mask)
    (at-above n h.0 h.1 h.2 h.3 h.4 h.5 h.6.sized below))
