-- No two buffers of a packed array have the same key: keys are told apart by the number of their
-- node, or at one node by what the buffer is for.
use Rattle.std.proofs.Common.{◌≡◌, ◌<◌, ◌≤◌, ℕ, suc, ◌+◌, ◌^◌, false, ◌||◌, List, [], ◌∷◌, ◌++◌}
use Rattle.std.proofs.Common.{sum, Some, refl, sym, ap₂, ◌∙◌, subst, arith, append_assoc, codes}
use Rattle.std.specs.Prelude.{decimal}
use Rattle.std.specs.List.{AllByRecursion}
use Rattle.std.proofs.lemmas.Fmt.{decimal_by_steps, decimal_injective}
use Rattle.std.proofs.lemmas.List.{append_cancel_left}
use Rattle.std.proofs.lemmas.List.Folds.{list_any-append}
use Rattle.awk_base.proofs.Sums.{sum-cons}
use Rattle.awk_types.specs.DataType.{Name, DataType, unknown, leaf, var, reg, rec, tup, opt, uni}
use Rattle.awk_types.specs.DataType.{DataTypes, no_types, type, nodes, nodes_each}
use Rattle.awk_types.specs.Names.{AreDistinct, is_among, same_name}
use Rattle.awk_types.proofs.NameLaws.{same_name_apart}
use Rattle.awk_pack.specs.PackedForm.{packed_form, packed_forms, node_key}
use Rattle.awk_text.specs.Buffers.{buffer_key, buffer_keys, keys_of}

-- ---- a number ends where the dash is

abbrev NoDash : List ℕ → Type 0
NoDash ds = AllByRecursion (λ d. 48 ≤ d) ds

no-dash-more : (ds : List ℕ) (d : ℕ) → NoDash ds → 48 ≤ d → NoDash (ds ++ d ∷ [])
no-dash-more [] d h k = (k, tt)
no-dash-more (x ∷ ds) d h k = (h.0, no-dash-more ds d h.1 k)

no-dash : (n : ℕ) → n < 2 ^ 64 → NoDash (decimal n)
no-dash n h =
    decimal_by_steps (λ n ds. NoDash ds) (λ n l. (omega arith, tt))
    (λ n ds l k. no-dash-more ds _ k (omega arith)) n h

same-front : (xs ys a b : List ℕ) → NoDash xs → NoDash ys → xs ++ 45 ∷ a ≡ ys ++ 45 ∷ b → xs ≡ ys
same-front [] [] a b h k e = refl
same-front [] (y ∷ ys) a b h k e = let first : 45 ≡ y = cc in absurd (omega (arith, k.0))
same-front (x ∷ xs) [] a b h k e = let first : x ≡ 45 = cc in absurd (omega (arith, h.0))
same-front (x ∷ xs) (y ∷ ys) a b h k e =
    let first : x ≡ y = cc in
    let others : xs ++ 45 ∷ a ≡ ys ++ 45 ∷ b = cc in
    ap₂ (λ z zs. z ∷ zs) first (same-front xs ys a b h.1 k.1 others)

-- the key of a buffer of node k
abbrev key_at : ℕ → List ℕ → Name
key_at k attribute = buffer_key (Some (node_key k)) attribute

spelled : (k : ℕ) (a : List ℕ) → key_at k a ≡ codes "node" ++ (decimal k ++ 45 ∷ a)
spelled k a = simp append_assoc

same-number : (j k : ℕ) (a b : List ℕ) → j < 2 ^ 64 → k < 2 ^ 64 → key_at j a ≡ key_at k b → j ≡ k
same-number j k a b h l e =
    let behind =
    append_cancel_left (codes "node") (decimal j ++ 45 ∷ a) (decimal k ++ 45 ∷ b)
    (sym (spelled j a) ∙ e ∙ spelled k b) in
    decimal_injective j k h l
    (same-front (decimal j) (decimal k) a b (no-dash j h) (no-dash k l) behind)

-- ---- keys of nodes from one number below another

abbrev IsWithin : ℕ → ℕ → Name → Type 0
IsWithin lo hi name = (k : ℕ) × (lo ≤ k) × (k < hi) × ((a : List ℕ) × (name ≡ key_at k a))

abbrev AreWithin : ℕ → ℕ → List Name → Type 0
AreWithin lo hi names = AllByRecursion (IsWithin lo hi) names

wider : (a b c d : ℕ) (names : List Name) → c ≤ a → b ≤ d → AreWithin a b names
    → AreWithin c d names
wider a b c d [] p q h = tt
wider a b c d (n ∷ ns) p q h =
    ((h.0.0, omega (arith, h.0.1), omega (arith, h.0.2), h.0.3), wider a b c d ns p q h.1)

within-append : (lo hi : ℕ) (ns ms : List Name) → AreWithin lo hi ns → AreWithin lo hi ms
    → AreWithin lo hi (ns ++ ms)
within-append lo hi [] ms h k = k
within-append lo hi (n ∷ ns) ms h k = (h.0, within-append lo hi ns ms h.1 k)

-- keys of the nodes below node k, as keys from node k on
below : (k n : ℕ) (names : List Name) → AreWithin (suc k) (suc k + n) names
    → AreWithin k (k + suc n) names
below k n names h =
    wider (suc k) (suc k + n) k (k + suc n) names (omega arith) (omega arith) h

own : (k n : ℕ) (a : List ℕ) → IsWithin k (k + suc n) (key_at k a)
own k n a = (k, omega arith, omega arith, (a, refl))

mutual
  keys-within : (k : ℕ) (t : DataType) → AreWithin k (k + nodes t) (buffer_keys (packed_form k t))
  keys-within k unknown = tt
  keys-within k (leaf p) = (own k 0 (codes "data"), tt)
  keys-within k (var t) =
      (own k (nodes t) (codes "offsets"), below k (nodes t) _ (keys-within (suc k) t))
  keys-within k (reg n t) = below k (nodes t) _ (keys-within (suc k) t)
  keys-within k (rec ns ts) = below k (sum (nodes_each ts)) _ (all-keys-within (suc k) ts)
  keys-within k (tup ts) = below k (sum (nodes_each ts)) _ (all-keys-within (suc k) ts)
  keys-within k (opt t) =
      (own k (nodes t) (codes "index"), below k (nodes t) _ (keys-within (suc k) t))
  keys-within k (uni ts) =
      let n = sum (nodes_each ts) in
      (own k n (codes "tags"), (own k n (codes "index"), below k n _ (all-keys-within (suc k) ts)))

  all-keys-within : (k : ℕ) (ts : DataTypes)
      → AreWithin k (k + sum (nodes_each ts)) (keys_of (packed_forms k ts))
  all-keys-within k no_types = tt
  all-keys-within k (type t ts) =
      let total = sum-cons (nodes t) (nodes_each ts) in
      let hi = k + sum (nodes t ∷ nodes_each ts) in
      within-append k hi (buffer_keys (packed_form k t)) (keys_of (packed_forms (k + nodes t) ts))
      (wider k (k + nodes t) k hi _ (omega arith) (omega (arith, total)) (keys-within k t))
      (wider (k + nodes t) (k + nodes t + sum (nodes_each ts)) k hi _ (omega arith)
      (omega (arith, total)) (all-keys-within (k + nodes t) ts))

-- ---- none stands twice

-- a key of an earlier node is not among those of later nodes
not-later : (k lo hi : ℕ) (a : List ℕ) (names : List Name) → k < lo → hi ≤ 2 ^ 64
    → AreWithin lo hi names → is_among (key_at k a) names ≡ false
not-later k lo hi a [] l h w = refl
not-later k lo hi a (n ∷ ns) l h w =
    let apart : same_name n (key_at k a) ≡ false =
    same_name_apart n (key_at k a)
    (λ e. let same : w.0.0 ≡ k =
    same-number w.0.0 k w.0.3.0 a (omega (arith, w.0.2)) (omega (arith, w.0.1, w.0.2))
    (sym w.0.3.1 ∙ e) in absurd (omega (arith, same, w.0.1))) in
    rw (apart, not-later k lo hi a ns l h w.1) refl

distinct-append : (lo mid hi : ℕ) (ns ms : List Name) → hi ≤ 2 ^ 64 → AreWithin lo mid ns
    → AreWithin mid hi ms → AreDistinct ns → AreDistinct ms → AreDistinct (ns ++ ms)
distinct-append lo mid hi [] ms h p q d e = e
distinct-append lo mid hi (n ∷ ns) ms h p q d e =
    let later : is_among n ms ≡ false =
    subst (λ m. is_among m ms ≡ false) (sym p.0.3.1)
    (not-later p.0.0 mid hi p.0.3.0 ms p.0.2 h q) in (
      list_any-append (λ m. same_name m n) ns ms ∙ ap₂ (λ a b. a || b) d.0 later,
      distinct-append lo mid hi ns ms h p.1 q d.1 e,
    )

own-apart : (k : ℕ) → same_name (key_at k (codes "index")) (key_at k (codes "tags")) ≡ false
own-apart k =
    same_name_apart (key_at k (codes "index")) (key_at k (codes "tags"))
    (λ e. let behind =
    append_cancel_left (codes "node" ++ decimal k ++ codes "-") (codes "index") (codes "tags") e in
    absurd (cc))

mutual
  keys-distinct : (k : ℕ) (t : DataType) → k + nodes t ≤ 2 ^ 64
      → AreDistinct (buffer_keys (packed_form k t))
  keys-distinct k unknown h = tt
  keys-distinct k (leaf p) h = (refl, tt)
  keys-distinct k (var t) h = (
    not-later k (suc k) (suc k + nodes t) _ _ (omega arith) (omega arith) (keys-within (suc k) t),
    keys-distinct (suc k) t (omega arith),
  )
  keys-distinct k (reg n t) h = keys-distinct (suc k) t (omega arith)
  keys-distinct k (rec ns ts) h = all-keys-distinct (suc k) ts (omega arith)
  keys-distinct k (tup ts) h = all-keys-distinct (suc k) ts (omega arith)
  keys-distinct k (opt t) h = (
    not-later k (suc k) (suc k + nodes t) _ _ (omega arith) (omega arith) (keys-within (suc k) t),
    keys-distinct (suc k) t (omega arith),
  )
  keys-distinct k (uni ts) h =
      let later : (a : List ℕ) → is_among (key_at k a) (keys_of (packed_forms (suc k) ts)) ≡ false =
      λ a. not-later k (suc k) (suc k + sum (nodes_each ts)) a _ (omega arith) (omega arith)
      (all-keys-within (suc k) ts) in (
        ap₂ (λ a b. a || b) (own-apart k) (later (codes "tags")),
        (later (codes "index"), all-keys-distinct (suc k) ts (omega arith)),
      )

  all-keys-distinct : (k : ℕ) (ts : DataTypes) → k + sum (nodes_each ts) ≤ 2 ^ 64
      → AreDistinct (keys_of (packed_forms k ts))
  all-keys-distinct k no_types h = tt
  all-keys-distinct k (type t ts) h =
      let total = sum-cons (nodes t) (nodes_each ts) in
      distinct-append k (k + nodes t) (k + nodes t + sum (nodes_each ts)) _ _ (omega (arith, total))
      (keys-within k t) (all-keys-within (k + nodes t) ts)
      (keys-distinct k t (omega (arith, total)))
      (all-keys-distinct (k + nodes t) ts (omega (arith, total)))

-- of at most 2 ^ 64 nodes
pub packed-keys-distinct : (t : DataType) → nodes t ≤ 2 ^ 64
    → AreDistinct (buffer_keys (packed_form 0 t))
packed-keys-distinct t h = keys-distinct 0 t (omega arith)
