-- The bytes of buffers by key, in the order of their numbers, and the numbers and bits in them.
use Rattle.std.specs.Prelude.{ℕ, suc, zero, Bool, true, false, List, [], ◌∷◌, ◌++◌, Option, Result}
use Rattle.std.specs.Prelude.{Ok, Err, unwrap_or, codes}
use Rattle.std.specs.Prelude.{◌*◌, drop, take, reverse, ℤ}
use Rattle.awk_types.specs.DataType.{Name}
use Rattle.awk_lanes.specs.declared.kind.Kind.{Kind}
use Rattle.awk_lanes.specs.declared.kind.Kind.TheVariants as kind
use Rattle.awk_lanes.specs.Column.{Column}
use Rattle.awk_lanes.specs.Numbers.{numbers, width, number}
use Rattle.awk_store.specs.declared.fault.BufferWhy.{BufferWhy}
use Rattle.awk_store.specs.Buffers.{Held, buffer}
use Rattle.awk_form.specs.declared.kind.IndexKind.{IndexKind}
use Rattle.awk_form.specs.declared.kind.IndexKind.TheVariants as index

-- whether the most significant byte of each number comes first, and the bytes of the buffer of each
-- key, or why there are none
pub record Container : Type 0 where
  pub big : Bool
  pub bytes : Name → Result (List ℕ) BufferWhy

-- the container of buffers of an order
abbrev pub container_of : Bool → Held → Container
container_of big held = record { big = big; bytes = buffer held }

-- the key of a node's buffer: the form key, a dash, and what the buffer is for
abbrev pub buffer_key : Option Name → List ℕ → Name
buffer_key key attribute = unwrap_or key [] ++ codes "-" ++ attribute

-- no bytes where there are none
abbrev pub bytes_or_none : Result (List ℕ) BufferWhy → List ℕ
bytes_or_none (Ok bytes) = bytes
bytes_or_none (Err why) = []

-- the bytes of a node's buffer
abbrev pub bytes_at : Container → Option Name → List ℕ → List ℕ
bytes_at c key attribute = bytes_or_none (c.bytes (buffer_key key attribute))

-- ---- numbers of either order

-- the number that the first bytes are, most significant byte first; signed kinds in two's
-- complement
abbrev pub big_number : Kind → List ℕ → ℤ
big_number k b = number k (reverse (take (width k) b))

-- the same most significant byte first, or least significant byte first
abbrev pub number_by : Bool → Kind → List ℕ → ℤ
number_by true k b = big_number k b
number_by false k b = number k b

-- the number in the i-th group of bytes of the kind's width
abbrev pub num : Bool → Kind → List ℕ → ℕ → ℤ
num big k b i = number_by big k (drop (i * width k) b)

-- the first n numbers, one after another, most significant byte first
abbrev pub big_numbers : Kind → ℕ → List ℕ → List ℤ
big_numbers k zero b = []
big_numbers k (suc n) b = big_number k b ∷ big_numbers k n (drop (width k) b)

abbrev pub numbers_by : Bool → Kind → ℕ → List ℕ → List ℤ
numbers_by true k n b = big_numbers k n b
numbers_by false k n b = numbers k n b

-- the first n numbers of a kind in bytes
abbrev pub column_at : Bool → Kind → ℕ → List ℕ → Column
column_at big k n bytes = record { kind = k; items = numbers_by big k n bytes }

-- ---- of nodes

-- the kind of an index's numbers
abbrev pub kind_of_index : IndexKind → Kind
kind_of_index index.I32 = kind.I32
kind_of_index index.U32 = kind.U32
kind_of_index index.I64 = kind.I64

-- the i-th number of a node's index, starts, stops or offsets
abbrev pub index_num : Container → Option Name → List ℕ → IndexKind → ℕ → ℤ
index_num c key attribute k i = num c.big (kind_of_index k) (bytes_at c key attribute) i

-- the i-th tag of a node, or byte of its mask
abbrev pub int8_num : Container → Option Name → List ℕ → ℕ → ℤ
int8_num c key attribute i = num c.big kind.I8 (bytes_at c key attribute) i

-- n numbers of a node's index, starts, stops or offsets
abbrev pub index_at : Container → Option Name → List ℕ → IndexKind → ℕ → Column
index_at c key attribute k n = column_at c.big (kind_of_index k) n (bytes_at c key attribute)

-- n tags of a node, or n bytes of its mask
abbrev pub int8s_at : Container → Option Name → List ℕ → ℕ → Column
int8s_at c key attribute n = column_at c.big kind.I8 n (bytes_at c key attribute)
