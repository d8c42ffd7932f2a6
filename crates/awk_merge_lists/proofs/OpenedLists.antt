-- What an opened column of lists holds, as it lies and joined.
use Rattle.std.specs.Prelude.{◌≡◌, ◌+◌, ◌-◌, ◌*◌, ◌<◌, ◌≤◌, ◌++◌, ℕ, zero, suc, List, length, Some}
use Rattle.std.specs.List.{flat_map, range_with_len}
use Rattle.std.proofs.Common.{arith, ap, sym, subst, ◌∙◌}
use Rattle.std.proofs.lemmas.List.{length-append}
use Rattle.awk_types.specs.Value.{Value, list}
use Rattle.awk_lanes.specs.Column.{Column}
use Rattle.awk_lanes.specs.Cut.{cut_of}
use Rattle.awk_lanes.specs.Places.{size_of, at, place_at}
use Rattle.awk_lanes.proofs.CutLaws.{size-cut, at-cut}
use Rattle.awk_layout.specs.Item.{run}
use Rattle.awk_layout.specs.Layout.{Layout}
use Rattle.awk_layout.specs.Valid.{len}
use Rattle.awk_layout.proofs.Runs.{length-run}
use Rattle.awk_gather.specs.Arrays.{array_item}
use Rattle.awk_columns.specs.Columns.{list_items}
use Rattle.awk_columns.specs.Joined.{JoinsLists, total}
use Rattle.awk_columns.specs.ListClass.{Class, list_type}
use Rattle.awk_open.specs.Opens.{OpensLists}
use Rattle.awk_columns.specs.Lists.{AreOfClass, items_at}
use Rattle.awk_columns.proofs.ListNodes.{joined_even}
use Rattle.awk_merge_lists.specs.Lists.{AreListsOver, HoldsLists, HoldsItems, AreOfLength}

-- ---- lists as they lie

-- lists of m items each, n of them
flat_long : (f : ℕ → List Value) (m a n : ℕ)
    → ((i : ℕ) → a ≤ i → i < a + n → length (f i) ≡ m)
    → length (flat_map f (range_with_len a n)) ≡ n * m
flat_long f m a zero e = grind arith
flat_long f m a (suc n) e =
    let l : length (f a ++ flat_map f (range_with_len (a + 1) n))
    ≡ length (f a) + length (flat_map f (range_with_len (a + 1) n)) =
    length-append (f a) (flat_map f (range_with_len (a + 1) n)) in
    let rest : length (flat_map f (range_with_len (a + 1) n)) ≡ n * m =
    flat_long f m (a + 1) n (λ i p q. e i (omega (arith, p)) (omega (arith, q))) in
    let g : suc n * m ≡ m + n * m = grind arith in
    omega (arith, l, rest, g, e a (omega arith) (omega arith))

total-even : (m : ℕ) (s t : Column) (y : Layout) → AreOfClass (Some m) s t
    → total s t y ≡ size_of s * m
total-even m s t y c = flat_long (items_at s t y) m 0 (size_of s)
    (λ i p q. length-run (array_item y) (place_at s i) (place_at t i - place_at s i)
    ∙ c i (omega (arith, q)))

-- lists that have items are not of length 0
pub holds_some : (class : Class) (s t : Column) (y x : Layout) → OpensLists class s t y x
    → 0 < total s t y → HoldsLists x s t y
holds_some class s t y x o some = record {
  over = record {
    class = class;
    typ = o.typ;
    none = λ e.
        let c : AreOfClass (Some 0) s t = subst (λ k. AreOfClass k s t) e o.lists.same_class in
        let z : size_of s * 0 ≡ 0 = grind arith in
        absurd (omega (arith, some, total-even 0 s t y c, z));
  };
  spans = o.lists.spans;
  size = o.size;
  items = o.items;
}

-- ---- lists joined

module _ (class : Class) (s t : Column) (y x : Layout) (o : Column) (z : Layout)
    (op : OpensLists class s t y x) (j : JoinsLists s t y o z) where
  abbrev n : ℕ
  n = size_of s

  over_joined : AreListsOver x z
  over_joined = record {
    class = class;
    typ = op.typ ∙ ap (list_type class) (sym j.typ);
    none = λ e.
        let c : AreOfClass (Some 0) s t = subst (λ k. AreOfClass k s t) e op.lists.same_class in
        let l : place_at o n ≡ n * 0 = joined_even (Some 0) s t y o z c j n (omega arith) in
        let m : n * 0 ≡ 0 = grind arith in
        omega (arith, l, m, j.offsets.last);
  }

  starts-at : (i : ℕ) → i < n → at (cut_of o 0 n) i ≡ at o i
  starts-at i p =
      let e : 0 + i ≡ i = omega arith in
      at-cut o 0 n i (omega (arith, p)) ∙ ap (at o) e

  stops-at : (i : ℕ) → i < n → at (cut_of o 1 (n + 1)) i ≡ at o (i + 1)
  stops-at i p =
      let e : 1 + i ≡ i + 1 = omega arith in
      at-cut o 1 (n + 1) i (omega (arith, p)) ∙ ap (at o) e

  size-starts : size_of (cut_of o 0 n) ≡ n
  size-starts = size-cut o 0 n (omega arith) (omega (arith, j.offsets.size))
      ∙ (let e : n - 0 ≡ n = omega arith in e)

  size-stops : size_of (cut_of o 1 (n + 1)) ≡ n
  size-stops = size-cut o 1 (n + 1) (omega arith) (omega (arith, j.offsets.size))
      ∙ (let e : n + 1 - 1 ≡ n = omega arith in e)

  -- the lists of a column, joined
  pub holds_joined : (k : ℕ) (a b : Column) → k ≡ n → a ≡ cut_of o 0 k → b ≡ cut_of o 1 (k + 1)
      → HoldsLists x a b z
  holds_joined k a b e f g = rw (f, g, e) (record {
    over = over_joined;
    spans = record {
      start_kind = j.offsets.offsets.kind;
      stop_kind = j.offsets.offsets.kind;
      same_size = size-starts ∙ sym size-stops;
      ordered = λ i p.
          let q : i < n = omega (arith, p, size-starts) in
          rw (starts-at i q, stops-at i q)
          (j.offsets.offsets.ordered i (omega (arith, q, j.offsets.size)));
    };
    size = size-starts ∙ op.size;
    items = λ i p.
        let q : i < n = omega (arith, p, op.size) in
        rw (starts-at i q, stops-at i q) (op.items i p ∙ ap list (j.lists i q));
  })

  -- the items of lists of m, joined
  pub holds_even : (m : ℕ) → AreOfLength m x → HoldsItems m x z
  holds_even m h =
      let long : AreOfClass (Some m) s t = λ i p.
      let q : i < len x = omega (arith, p, op.size) in
      let e : length (list_items (array_item x i)) ≡ place_at t i - place_at s i =
      ap (λ v. length (list_items v)) (op.items i q)
      ∙ length-run (array_item y) (place_at s i) (place_at t i - place_at s i) in
      omega (arith, e, h i q) in
      let even : (i : ℕ) → i ≤ n → place_at o i ≡ i * m = joined_even (Some m) s t y o z long j in
      record {
        over = over_joined;
        size = sym j.offsets.last ∙ even n (omega arith) ∙ ap (λ k. k * m) op.size;
        items = λ i p.
            let q : i < n = omega (arith, p, op.size) in
            let start : place_at o i ≡ i * m = even i (omega (arith, q)) in
            let grown = j.lengths i q in
            let size : place_at o (i + 1) - place_at o i ≡ m = omega (arith, grown, long i q) in
            op.items i p ∙ ap list (j.lists i q)
            ∙ ap (λ a. list (run (array_item z) a (place_at o (i + 1) - place_at o i))) start
            ∙ ap (λ l. list (run (array_item z) (i * m) l)) size;
      }
