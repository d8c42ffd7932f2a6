-- The lanes of a packed array lie in bytes, so that each buffer has a text, the base64 of these.
use Rattle.std.proofs.Common.{◌≡◌, ◌<◌, ◌%◌, ◌/◌, ◌^◌, ℕ, zero, suc, List, [], ◌∷◌, ◌++◌, map, true}
use Rattle.std.proofs.Common.{false, cond, Some, None, refl, ap, ◌∙◌, subst, arith, ℤ}
use Rattle.std.specs.Prelude.{filter}
use Rattle.std.specs.Int.{byte_at, byte_len, bytes_low_first, cast_unsigned, w8, w16, w32, w64}
use Rattle.std.specs.List.{flat_map, AllByRecursion}
use Rattle.std.specs.Map.{lookup}
use Rattle.std.specs.Str.{bytes_eq}
use Rattle.std.proofs.lemmas.Bool.{or_parts}
use Rattle.std.proofs.lemmas.Grind.{flat_map-append}
use Rattle.base64.specs.Engines.{standard}
use Rattle.base64.specs.GeneralPurpose.{encode_of, IsBytes}
use Rattle.awk_types.specs.DataType.{Name, DataType, unknown, leaf, var, reg, rec, tup, opt, uni}
use Rattle.awk_types.specs.DataType.{DataTypes, no_types, type}
use Rattle.awk_types.specs.Has.{Has}
use Rattle.awk_types.specs.Names.{AreDistinct, is_among, same_name}
use Rattle.awk_types.specs.Value.{Value}
use Rattle.awk_types.proofs.NameLaws.{same_name-refl}
use Rattle.awk_lanes.specs.Column.{Column}
use Rattle.awk_lanes.specs.Numbers.{bytes_of, nat_of}
use Rattle.awk_lanes.specs.declared.kind.Kind.{Kind}
use Rattle.awk_lanes.specs.declared.kind.Kind.TheVariants.{Bool as Truths, I8, I16, I32, I64, U8}
use Rattle.awk_lanes.specs.declared.kind.Kind.TheVariants.{U16, U32, U64}
use Rattle.awk_lanes.specs.declared.kind.Num.TheVariants.{Nat, Truth}
use Rattle.awk_layout.specs.Kinds.{kind_of}
use Rattle.awk_store.specs.Buffers.{ByKey, only_texts, text_or_raw}
use Rattle.awk_store.proofs.ByKeyLaws.{decoding-encode_of}
use Rattle.awk_columns.specs.Columns.{joined_items, part_at, is_present, alternative_values}
use Rattle.awk_columns.specs.Columns.{offsets, option_index, tags, union_index}
use Rattle.awk_columns.proofs.PresentItems.{present-have}
use Rattle.awk_pack.specs.Columns.{placed, placed_fields, placed_alternatives}
use Rattle.awk_pack.specs.Lanes.{lanes_at, number_of}
use Rattle.awk_pack.specs.Canon.{lanes_of}
use Rattle.awk_text.specs.Buffers.{lane_bytes, keyed_bytes}
use Rattle.awk_valid.specs.Container.{container_of}
use Rattle.awk_readback.specs.ReadBack.{HasBuffers, text_buffer}
use Rattle.awk_readback.proofs.LaneBytes.{IsHeld}
use Rattle.awk_readback.proofs.LeafReads.{leaves-held}
use Rattle.awk_readback.proofs.ColumnTypes.{vars-have, regs-have, FieldsFrom, first-have}
use Rattle.awk_readback.proofs.ColumnTypes.{others-have, tups-have, recs-have, AlternativeFrom}
use Rattle.awk_readback.proofs.ColumnTypes.{unis-have, alternative-have, later-have}

-- ---- bytes

abbrev AllBytes : List ℕ → Type 0
AllBytes bs = AllByRecursion (λ b. b < 256) bs

is-bytes : (bs : List ℕ) → AllBytes bs → IsBytes bs
is-bytes [] h i = omega arith
is-bytes (b ∷ bs) h zero = h.0
is-bytes (b ∷ bs) h (suc i) = is-bytes bs h.1 i

bytes-append : (bs cs : List ℕ) → AllBytes bs → AllBytes cs → AllBytes (bs ++ cs)
bytes-append [] cs h k = k
bytes-append (b ∷ bs) cs h k = (h.0, bytes-append bs cs h.1 k)

rest-below : (n : ℕ) → n % 256 < 256
rest-below n = omega arith

byte-below : (i n : ℕ) → byte_at i n < 256
byte-below zero n = rest-below n
byte-below (suc i) n = rest-below (n / 256 ^ suc i)

-- a number in the bytes of a width
low-first : (i m n : ℕ) → AllBytes (bytes_low_first i m n)
low-first i zero n = tt
low-first i (suc m) n = (byte-below i n, low-first (suc i) m n)

-- a number that code holds
number-bytes : (k : Kind) (z : ℤ) → IsHeld k z → AllBytes (bytes_of k z)
number-bytes Truths z (Truth true, o, e) = (subst (λ z. nat_of z < 256) e (omega arith), tt)
number-bytes Truths z (Truth false, o, e) = (subst (λ z. nat_of z < 256) e (omega arith), tt)
number-bytes Truths z (x, o, e) = absurd o
number-bytes U8 z (Nat n, o, e) = (subst (λ z. nat_of z < 256) e (omega (arith, o)), tt)
number-bytes U8 z (x, o, e) = absurd o
number-bytes I8 z h = low-first 0 (byte_len w8) (cast_unsigned w8 z)
number-bytes I16 z h = low-first 0 (byte_len w16) (cast_unsigned w16 z)
number-bytes I32 z h = low-first 0 (byte_len w32) (cast_unsigned w32 z)
number-bytes I64 z h = low-first 0 (byte_len w64) (cast_unsigned w64 z)
number-bytes U16 z h = low-first 0 (byte_len w16) (nat_of z)
number-bytes U32 z h = low-first 0 (byte_len w32) (nat_of z)
number-bytes U64 z h = low-first 0 (byte_len w64) (nat_of z)

held-bytes : (k : Kind) (zs : List ℤ) → AllByRecursion (IsHeld k) zs
    → AllBytes (flat_map (bytes_of k) zs)
held-bytes k [] h = tt
held-bytes k (z ∷ zs) h =
    bytes-append (bytes_of k z) (flat_map (bytes_of k) zs) (number-bytes k z h.0)
    (held-bytes k zs h.1)

-- places and tags, whatever they are
place-bytes : (zs : List ℤ) → AllBytes (flat_map (bytes_of I64) zs)
place-bytes [] = tt
place-bytes (z ∷ zs) =
    bytes-append (bytes_of I64 z) (flat_map (bytes_of I64) zs)
    (low-first 0 (byte_len w64) (cast_unsigned w64 z)) (place-bytes zs)

tag-bytes : (zs : List ℤ) → AllBytes (flat_map (bytes_of I8) zs)
tag-bytes [] = tt
tag-bytes (z ∷ zs) =
    bytes-append (bytes_of I8 z) (flat_map (bytes_of I8) zs)
    (low-first 0 (byte_len w8) (cast_unsigned w8 z)) (tag-bytes zs)

-- ---- the lanes of values of a type

abbrev pub AreByteLanes : List Column → Type 0
AreByteLanes cs = AllByRecursion (λ c. AllBytes (lane_bytes c)) cs

lanes-append : (cs ds : List Column) → AreByteLanes cs → AreByteLanes ds → AreByteLanes (cs ++ ds)
lanes-append [] ds h k = k
lanes-append (c ∷ cs) ds h k = (h.0, lanes-append cs ds h.1 k)

mutual
  pub packed-lanes : (t : DataType) (vs : List Value) → AllByRecursion (Has t) vs
      → AreByteLanes (lanes_of (placed t vs))
  packed-lanes unknown vs h = tt
  packed-lanes (leaf p) vs h =
      (held-bytes (kind_of p) (map number_of vs) (leaves-held p vs h), tt)
  packed-lanes (var t) vs h =
      (place-bytes (offsets 0 vs), packed-lanes t (joined_items vs) (vars-have t vs h))
  packed-lanes (reg n t) vs h = packed-lanes t (joined_items vs) (regs-have n t vs h)
  packed-lanes (rec ns ts) vs h = field-lanes 0 ts vs (recs-have ns ts vs h)
  packed-lanes (tup ts) vs h = field-lanes 0 ts vs (tups-have ts vs h)
  packed-lanes (opt t) vs h =
      (place-bytes (option_index 0 vs), packed-lanes t (filter is_present vs) (present-have t vs h))
  packed-lanes (uni ts) vs h = (
    tag-bytes (tags vs),
    (place-bytes (union_index (λ k. 0) vs), alternative-lanes 0 ts vs (unis-have ts vs h)),
  )

  field-lanes : (k : ℕ) (ts : DataTypes) (rows : List Value)
      → AllByRecursion (FieldsFrom k ts) rows
      → AreByteLanes (lanes_of (placed_fields k ts rows))
  field-lanes k no_types rows h = tt
  field-lanes k (type t ts) rows h =
      let here = placed t (map (part_at k) rows) in
      let others = placed_fields (suc k) ts rows in
      rw (flat_map-append lanes_at here others)
      (lanes-append (lanes_of here) (lanes_of others)
      (packed-lanes t (map (part_at k) rows) (first-have k t ts rows h))
      (field-lanes (suc k) ts rows (others-have k t ts rows h)))

  alternative-lanes : (k : ℕ) (ts : DataTypes) (vs : List Value)
      → AllByRecursion (AlternativeFrom k ts) vs
      → AreByteLanes (lanes_of (placed_alternatives k ts vs))
  alternative-lanes k no_types vs h = tt
  alternative-lanes k (type t ts) vs h =
      let here = placed t (alternative_values k vs) in
      let others = placed_alternatives (suc k) ts vs in
      rw (flat_map-append lanes_at here others)
      (lanes-append (lanes_of here) (lanes_of others)
      (packed-lanes t (alternative_values k vs) (alternative-have k t ts vs h))
      (alternative-lanes (suc k) ts vs (later-have k t ts vs h)))

-- ---- the texts

-- a further text under another key hides none of them
texts-later : (n : Name) (text : List ℕ) (texts : ByKey) (ks : List Name) (cs : List Column)
    → is_among n ks ≡ false → HasBuffers (container_of false (only_texts texts)) (keyed_bytes ks cs)
    → HasBuffers (container_of false (only_texts ((n, text) ∷ texts))) (keyed_bytes ks cs)
texts-later n text texts [] cs e h = tt
texts-later n text texts (k ∷ ks) [] e h = tt
texts-later n text texts (k ∷ ks) (x ∷ cs) e h =
    let apart = or_parts (same_name k n) (is_among n ks) e in (
      (
        refl,
        ap (λ b. text_or_raw (cond b (Some text) (lookup (bytes_eq k) texts)) None) apart.0
            ∙ h.0.1,
      ),
      texts-later n text texts ks cs apart.1 h.1,
    )

pub texts-held : (ks : List Name) (cs : List Column) → AreDistinct ks → AreByteLanes cs
    → HasBuffers (container_of false (only_texts (map text_buffer (keyed_bytes ks cs))))
    (keyed_bytes ks cs)
texts-held [] cs d a = tt
texts-held (k ∷ ks) [] d a = tt
texts-held (k ∷ ks) (x ∷ cs) d a =
    let own = encode_of standard (lane_bytes x) in
    let others = map text_buffer (keyed_bytes ks cs) in (
      (
        refl,
        ap (λ b. text_or_raw (cond b (Some own) (lookup (bytes_eq k) others)) None)
            (same_name-refl k)
            ∙ decoding-encode_of (lane_bytes x) (is-bytes (lane_bytes x) a.0),
      ),
      texts-later k own others ks cs d.0 (texts-held ks cs d.1 a.1),
    )
