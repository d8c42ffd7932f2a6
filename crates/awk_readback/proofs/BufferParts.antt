-- Buffers under their keys: those of contents side by side, and the numbers of one buffer.
use Rattle.std.proofs.Common.{◌≡◌, ◌<◌, ◌≤◌, ℕ, suc, ◌+◌, ◌*◌, false, List, [], ◌∷◌, ◌++◌, length}
use Rattle.std.proofs.Common.{map, get_or, None, Ok, Option, refl, ap, ap₂, subst, ◌∙◌, arith}
use Rattle.std.proofs.Common.{length-append, ℤ, pos}
use Rattle.std.specs.Prelude.{filter}
use Rattle.std.specs.List.{flat_map, AllByRecursion}
use Rattle.std.proofs.lemmas.Grind.{flat_map-append}
use Rattle.awk_base.proofs.Truths.{nat_lt-none}
use Rattle.awk_types.specs.DataType.{Name, DataType, unknown, leaf, var, reg, rec, tup, opt, uni}
use Rattle.awk_types.specs.DataType.{DataTypes, no_types, type, nodes}
use Rattle.awk_types.specs.Value.{Value}
use Rattle.awk_types.specs.ItemLimit.{item_limit}
use Rattle.awk_lanes.specs.Column.{Column}
use Rattle.awk_lanes.specs.declared.kind.Kind.{Kind}
use Rattle.awk_lanes.specs.Numbers.{width, bytes_of}
use Rattle.awk_columns.specs.Columns.{joined_items, part_at, is_present, alternative_values}
use Rattle.awk_pack.specs.Columns.{placed, placed_fields, placed_alternatives}
use Rattle.awk_pack.specs.Lanes.{lanes_at}
use Rattle.awk_pack.specs.Canon.{lanes_of}
use Rattle.awk_pack.specs.PackedForm.{packed_form, packed_forms}
use Rattle.awk_text.specs.Buffers.{buffer_keys, keys_of, keyed_bytes}
use Rattle.awk_valid.specs.Container.{Container, buffer_key, bytes_or_none, bytes_at, num}
use Rattle.awk_valid.specs.Broken.{size_break, bytes_break}
use Rattle.awk_readback.specs.ReadBack.{HasBuffers}
use Rattle.awk_readback.proofs.LaneBytes.{IsHeld, length-lane_bytes, num-lane_bytes}

-- ---- each buffer has a lane

mutual
  pub as-many : (k : ℕ) (t : DataType) (vs : List Value)
      → length (buffer_keys (packed_form k t)) ≡ length (lanes_of (placed t vs))
  as-many k unknown vs = refl
  as-many k (leaf p) vs = refl
  as-many k (var t) vs = ap suc (as-many (suc k) t (joined_items vs))
  as-many k (reg n t) vs = as-many (suc k) t (joined_items vs)
  as-many k (rec ns ts) vs = fields-as-many (suc k) 0 ts vs
  as-many k (tup ts) vs = fields-as-many (suc k) 0 ts vs
  as-many k (opt t) vs = ap suc (as-many (suc k) t (filter is_present vs))
  as-many k (uni ts) vs = ap (λ n. suc (suc n)) (alternatives-as-many (suc k) 0 ts vs)

  fields-as-many : (k j : ℕ) (ts : DataTypes) (rows : List Value)
      → length (keys_of (packed_forms k ts)) ≡ length (lanes_of (placed_fields j ts rows))
  fields-as-many k j no_types rows = refl
  fields-as-many k j (type t ts) rows =
      let here = placed t (map (part_at j) rows) in
      let others = placed_fields (suc j) ts rows in
      let fs = packed_forms (k + nodes t) ts in
      let apart = flat_map-append lanes_at here others in
      let keys = length-append (buffer_keys (packed_form k t)) (keys_of fs) in
      let lanes = length-append (lanes_of here) (lanes_of others) in
      rw apart
      (omega (
        arith,
        keys,
        lanes,
        as-many k t (map (part_at j) rows),
        fields-as-many (k + nodes t)
            (suc j) ts rows,
      ))

  alternatives-as-many : (k j : ℕ) (ts : DataTypes) (vs : List Value)
      → length (keys_of (packed_forms k ts)) ≡ length (lanes_of (placed_alternatives j ts vs))
  alternatives-as-many k j no_types vs = refl
  alternatives-as-many k j (type t ts) vs =
      let here = placed t (alternative_values j vs) in
      let others = placed_alternatives (suc j) ts vs in
      let fs = packed_forms (k + nodes t) ts in
      let apart = flat_map-append lanes_at here others in
      let keys = length-append (buffer_keys (packed_form k t)) (keys_of fs) in
      let lanes = length-append (lanes_of here) (lanes_of others) in
      rw apart
      (omega (
        arith,
        keys,
        lanes,
        as-many k t (alternative_values j vs),
        alternatives-as-many
            (k + nodes t) (suc j) ts vs,
      ))

-- ---- contents side by side

has-both : (c : Container) (ks ls : List Name) (cs ds : List Column) → length ks ≡ length cs
    → HasBuffers c (keyed_bytes (ks ++ ls) (cs ++ ds))
    → HasBuffers c (keyed_bytes ks cs) × HasBuffers c (keyed_bytes ls ds)
has-both c [] ls [] ds e h = (tt, h)
has-both c [] ls (x ∷ cs) ds e h = absurd (omega arith)
has-both c (k ∷ ks) ls [] ds e h = absurd (omega arith)
has-both c (k ∷ ks) ls (x ∷ cs) ds e h =
    let others = has-both c ks ls cs ds (omega arith) h.1 in ((h.0, others.0), others.1)

-- the container has the buffers of a type's nodes, from node k on, where these are its values
abbrev pub HasNodes : Container → ℕ → DataType → List Value → Type 0
HasNodes c k t vs =
    HasBuffers c (keyed_bytes (buffer_keys (packed_form k t)) (lanes_of (placed t vs)))

-- those of the fields from place j on
abbrev pub HasFields : Container → ℕ → ℕ → DataTypes → List Value → Type 0
HasFields c k j ts rows =
    HasBuffers c (keyed_bytes (keys_of (packed_forms k ts)) (lanes_of (placed_fields j ts rows)))

-- those of the alternatives from place j on
abbrev pub HasAlternatives : Container → ℕ → ℕ → DataTypes → List Value → Type 0
HasAlternatives c k j ts vs =
    HasBuffers c
    (keyed_bytes (keys_of (packed_forms k ts)) (lanes_of (placed_alternatives j ts vs)))

pub has-fields : (c : Container) (k j : ℕ) (t : DataType) (ts : DataTypes) (rows : List Value)
    → HasFields c k j (type t ts) rows
    → HasNodes c k t (map (part_at j) rows) × HasFields c (k + nodes t) (suc j) ts rows
has-fields c k j t ts rows h =
    let here = placed t (map (part_at j) rows) in
    let others = placed_fields (suc j) ts rows in
    let keys = buffer_keys (packed_form k t) in
    let later = keys_of (packed_forms (k + nodes t) ts) in
    has-both c keys later (lanes_of here) (lanes_of others) (as-many k t (map (part_at j) rows))
    (subst (λ ls. HasBuffers c (keyed_bytes (keys ++ later) ls))
    (flat_map-append lanes_at here others) h)

pub has-alternatives : (c : Container) (k j : ℕ) (t : DataType) (ts : DataTypes) (vs : List Value)
    → HasAlternatives c k j (type t ts) vs
    → HasNodes c k t (alternative_values j vs) × HasAlternatives c (k + nodes t) (suc j) ts vs
has-alternatives c k j t ts vs h =
    let here = placed t (alternative_values j vs) in
    let others = placed_alternatives (suc j) ts vs in
    let keys = buffer_keys (packed_form k t) in
    let later = keys_of (packed_forms (k + nodes t) ts) in
    has-both c keys later (lanes_of here) (lanes_of others) (as-many k t (alternative_values j vs))
    (subst (λ ls. HasBuffers c (keyed_bytes (keys ++ later) ls))
    (flat_map-append lanes_at here others) h)

-- ---- one buffer

-- the container has a lane of these numbers under a node's key
abbrev pub HasLane : Container → Option Name → List ℕ → Kind → List ℤ → Type 0
HasLane c key attribute k zs =
    (c.big ≡ false) × (c.bytes (buffer_key key attribute) ≡ Ok (flat_map (bytes_of k) zs))

-- the number that is read at each place
pub num-read : (c : Container) (key : Option Name) (attribute : List ℕ) (k : Kind) (zs : List ℤ)
    (i : ℕ) → HasLane c key attribute k zs → AllByRecursion (IsHeld k) zs → i < length zs
    → num c.big k (bytes_at c key attribute) i ≡ get_or zs i (pos 0)
num-read c key attribute k zs i e h l =
    ap₂ (λ b r. num b k (bytes_or_none r) i) e.0 e.1 ∙ num-lane_bytes k zs i h l

-- there are as many bytes as are needed
pub bytes-well : (c : Container) (key : Option Name) (attribute : List ℕ) (k : Kind) (n : ℕ)
    (zs : List ℤ) → HasLane c key attribute k zs → n ≡ length zs * width k
    → bytes_break (buffer_key key attribute) n (c.bytes (buffer_key key attribute)) ≡ None
bytes-well c key attribute k n zs e l =
    let bytes = flat_map (bytes_of k) zs in
    let size = length-lane_bytes k zs in
    ap (bytes_break (buffer_key key attribute) n) e.1
    ∙ rw (nat_lt-none (length bytes) n (omega (arith, size))) refl

-- ---- nothing breaks

pub size-well : (n : ℕ) → n ≤ 1073741824 → size_break n ≡ None
size-well n h = rw (nat_lt-none item_limit n h) refl
