-- Lists over one column of all their items, by how many items each has.
use Rattle.std.proofs.Common.{◌≡◌, ℕ, zero, suc, ◌+◌, ◌<◌, ◌≤◌, List, [], ◌∷◌, map, length, refl}
use Rattle.std.proofs.Common.{ap, ap₂, sym, ◌∙◌, subst, arith, pos, add-one, None}
use Rattle.std.specs.List.{AllByRecursion}
use Rattle.std.proofs.lemmas.Int.{ints}
use Rattle.std.proofs.lemmas.List.FromFn.{fill_by_all}
use Rattle.awk_types.proofs.Trees.{values_from-list}
use Rattle.awk_types.specs.Parts.{IsList}
use Rattle.awk_types.specs.Simple.{in_list}
use Rattle.awk_types.specs.Value.{Value, list, value_list, values_from}
use Rattle.awk_lanes.specs.Column.{Column}
use Rattle.awk_lanes.specs.Counted.{before, offsets_by}
use Rattle.awk_lanes.specs.Places.{IsOffsets, IsSpan, at, size_of}
use Rattle.awk_lanes.specs.declared.kind.Kind.TheVariants.{I64}
use Rattle.awk_layout.proofs.ArrayItems.{length-array_items}
use Rattle.awk_layout.specs.Layout.{Layout, offset_lists}
use Rattle.awk_layout.specs.Typing.{array_items}
use Rattle.awk_layout.specs.Valid.{len}
use Rattle.awk_columns.specs.Columns.{joined_items, offsets}
use Rattle.awk_frames.proofs.FramedItems.{lists-framed}
use Rattle.awk_frames.proofs.ValueLists.{length-offsets, offset-pos, start-first}
use Rattle.awk_frames.proofs.ValueLists.{start-next, start-within, start_at}
use Rattle.awk_frames.specs.Shape.{offsets_column}
use Rattle.awk_plain_columns.specs.Suited.{length_at}

-- where each list begins
starts : (vs : List Value) (i : ℕ) → i ≤ length vs → start_at 0 vs i ≡ before (length_at vs) i
starts vs zero l = start-first 0 vs
starts vs (suc i) l =
    let q : i < length vs = omega (arith, l) in
    let here : start_at 0 vs i ≡ before (length_at vs) i = starts vs i (omega (arith, l)) in
    let all : start_at 0 vs (i + 1) ≡ before (length_at vs) i + length_at vs i =
    start-next 0 vs i q ∙ ap (λ k. k + length_at vs i) here in
    rw add-one at all

offsets_are : (vs : List Value) → offsets_by (length_at vs) (length vs) ≡ offsets_column vs
offsets_are vs =
    ap (λ zs. record { kind = I64; items = zs })
    (sym (fill_by_all (λ i. pos (before (length_at vs) i)) (offsets 0 vs) (length vs + 1) (pos 0)
    (length-offsets 0 vs)
    (λ k l. offset-pos 0 vs k ∙ ap (λ n. pos n) (starts vs k (omega (arith, l))))))

span_by : (n a b : ℕ) (x y : _) → x ≡ pos a → y ≡ pos b → a ≤ b → b ≤ n → IsSpan n x y
span_by n a b x y e f l m =
    subst (λ z. IsSpan n z y) (sym e) (subst (λ z. IsSpan n (pos a) z) (sym f)
    (λ d. (omega (arith, ints), omega (arith, ints, l), omega (arith, ints, m))))

column_fits : (vs : List Value) (n : ℕ) → n ≡ length (joined_items vs)
    → IsOffsets (offsets_column vs) n
column_fits vs n w = record {
  kind = tt;
  some = omega (arith, length-offsets 0 vs);
  ordered = λ i l.
      let q : i < length vs = omega (arith, l, length-offsets 0 vs) in
      span_by n (start_at 0 vs i) (start_at 0 vs (i + 1)) (at (offsets_column vs) i)
      (at (offsets_column vs) (i + 1)) (offset-pos 0 vs i) (offset-pos 0 vs (i + 1))
      (omega (arith, start-next 0 vs i q)) (omega (arith, w, start-within 0 vs i q));
}

-- offsets by the lengths of lists fit a column of all items
pub lists_fit : (vs : List Value) (n : ℕ) (o : Column) (z : Layout) → n ≡ length vs
    → o ≡ offsets_by (length_at vs) n → array_items z ≡ joined_items vs → IsOffsets o (len z)
lists_fit vs n o z e f h =
    subst (λ c. IsOffsets c (len z))
    (sym (f ∙ ap (offsets_by (length_at vs)) e ∙ offsets_are vs))
    (column_fits vs (len z) (sym (length-array_items z) ∙ ap length h))

pub lists_size : (vs : List Value) (n : ℕ) (o : Column) → n ≡ length vs
    → o ≡ offsets_by (length_at vs) n → size_of o ≡ n + 1
lists_size vs n o e f =
    ap size_of (f ∙ ap (offsets_by (length_at vs)) e ∙ offsets_are vs) ∙ length-offsets 0 vs
    ∙ ap (λ m. m + 1) (sym e)

map_same : (vs : List Value) → vs ≡ map (λ v. v) vs
map_same [] = refl
map_same (v ∷ vs) = ap (λ ws. v ∷ ws) (map_same vs)

same_list : (v : Value) → IsList v → in_list (λ w. w) v ≡ v
same_list (list ws) l =
    ap (λ us. list (values_from us)) (sym (map_same (value_list ws)))
    ∙ ap list (values_from-list ws)
same_list v l = absurd l

same_lists : (vs : List Value) → AllByRecursion IsList vs → map (in_list (λ w. w)) vs ≡ vs
same_lists [] l = refl
same_lists (v ∷ vs) l = ap₂ (λ w ws. w ∷ ws) (same_list v l.0) (same_lists vs l.1)

-- and make the lists
pub lists_made : (vs : List Value) (n : ℕ) (o : Column) (z y : Layout) → n ≡ length vs
    → o ≡ offsets_by (length_at vs) n → AllByRecursion IsList vs → array_items z ≡ joined_items vs
    → y ≡ offset_lists o z → array_items y ≡ vs
lists_made vs n o z y e f l h g =
    ap array_items g
    ∙ ap (λ c. array_items (offset_lists c z))
    (f ∙ ap (offsets_by (length_at vs)) e ∙ offsets_are vs)
    ∙ lists-framed None (λ v. v) vs z l tt (h ∙ map_same (joined_items vs))
    ∙ same_lists vs l
