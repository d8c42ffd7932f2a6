-- What the walk says of numbers in bytes, said of the columns that are made over them.
use Rattle.std.proofs.Common.{◌≡◌, ◌<◌, ℕ, ◌+◌, List, Option, sym, ap, ap₂, ◌∙◌, arith, codes}
use Rattle.awk_types.specs.DataType.{Name}
use Rattle.awk_lanes.specs.declared.kind.Kind.TheVariants as kind
use Rattle.awk_lanes.specs.Places.{at, IsIndexKind}
use Rattle.awk_lanes.proofs.PlaceLaws.{at-index}
use Rattle.awk_form.specs.declared.kind.IndexKind.{IndexKind}
use Rattle.awk_form.specs.declared.kind.IndexKind.TheVariants.{I32, U32, I64}
use Rattle.awk_valid.specs.Container.{Container, bytes_at, kind_of_index, index_at, int8s_at}
use Rattle.awk_valid.specs.Container.{index_num, int8_num}
use Rattle.awk_valid.specs.Needs.{reach, behind, behind_at, lists_length, index_length, tag_length}
use Rattle.awk_valid.specs.Broken.{rule_break, list_rule, index_rule, tag_rule}
use Rattle.awk_valid.proofs.LengthLaws.{greatest_below-same, rule_break-same}
use Rattle.awk_valid.proofs.OrderLaws.{get_or-numbers_by}

-- ---- numbers by place

pub index_kind : (k : IndexKind) → IsIndexKind (kind_of_index k)
index_kind I32 = tt
index_kind U32 = tt
index_kind I64 = tt

pub index-num : (c : Container) (key : Option Name) (attribute : List ℕ) (k : IndexKind) (n i : ℕ)
    → i < n → at (index_at c key attribute k n) i ≡ index_num c key attribute k i
index-num c key attribute k n i h = at-index (index_at c key attribute k n) i (index_kind k)
    ∙ get_or-numbers_by c.big (kind_of_index k) n (bytes_at c key attribute) i h

pub int8-num : (c : Container) (key : Option Name) (attribute : List ℕ) (n i : ℕ) → i < n
    → at (int8s_at c key attribute n) i ≡ int8_num c key attribute i
int8-num c key attribute n i h = get_or-numbers_by c.big kind.I8 n (bytes_at c key attribute) i h

-- ---- of nodes of a form key

module _ (c : Container) (key : Option Name) (m n : ℕ) where
  pub spans-rule : (j k : IndexKind)
      → rule_break m n (λ i. list_rule (index_num c key (codes "starts") j i)
      (index_num c key (codes "stops") k i))
      ≡ rule_break m n (λ i. list_rule (at (index_at c key (codes "starts") j n) i)
      (at (index_at c key (codes "stops") k n) i))
  spans-rule j k = sym (rule_break-same m n _ _ (λ i l.
      ap₂ list_rule (index-num c key (codes "starts") j n i l)
      (index-num c key (codes "stops") k n i l)))

  pub spans-length : (j k : IndexKind)
      → lists_length n (index_num c key (codes "starts") j) (index_num c key (codes "stops") k)
      ≡ lists_length n (at (index_at c key (codes "starts") j n))
      (at (index_at c key (codes "stops") k n))
  spans-length j k = sym (greatest_below-same n _ _ (λ i l.
      ap₂ reach (index-num c key (codes "starts") j n i l)
      (index-num c key (codes "stops") k n i l)))

  pub offsets-rule : (k : IndexKind)
      → rule_break m n (λ i. list_rule (index_num c key (codes "offsets") k i)
      (index_num c key (codes "offsets") k (i + 1)))
      ≡ rule_break m n (λ i. list_rule (at (index_at c key (codes "offsets") k (n + 1)) i)
      (at (index_at c key (codes "offsets") k (n + 1)) (i + 1)))
  offsets-rule k = sym (rule_break-same m n _ _ (λ i l.
      ap₂ list_rule (index-num c key (codes "offsets") k (n + 1) i (omega arith))
      (index-num c key (codes "offsets") k (n + 1) (i + 1) (omega arith))))

  pub offsets-length : (k : IndexKind)
      → lists_length n (index_num c key (codes "offsets") k)
      (λ i. index_num c key (codes "offsets") k (i + 1))
      ≡ lists_length n (at (index_at c key (codes "offsets") k (n + 1)))
      (λ i. at (index_at c key (codes "offsets") k (n + 1)) (i + 1))
  offsets-length k = sym (greatest_below-same n _ _ (λ i l.
      ap₂ reach (index-num c key (codes "offsets") k (n + 1) i (omega arith))
      (index-num c key (codes "offsets") k (n + 1) (i + 1) (omega arith))))

  pub index-rule : (k : IndexKind)
      → rule_break m n (λ i. index_rule (index_num c key (codes "index") k i))
      ≡ rule_break m n (λ i. index_rule (at (index_at c key (codes "index") k n) i))
  index-rule k = sym (rule_break-same m n _ _ (λ i l.
      ap index_rule (index-num c key (codes "index") k n i l)))

  pub index-length : (k : IndexKind)
      → index_length n (index_num c key (codes "index") k)
      ≡ index_length n (at (index_at c key (codes "index") k n))
  index-length k = sym (greatest_below-same n _ _ (λ i l.
      ap behind (index-num c key (codes "index") k n i l)))

  pub tags-rule : (k : IndexKind) (alternatives : ℕ)
      → rule_break m n (λ i. tag_rule alternatives (int8_num c key (codes "tags") i)
      (index_num c key (codes "index") k i))
      ≡ rule_break m n (λ i. tag_rule alternatives (at (int8s_at c key (codes "tags") n) i)
      (at (index_at c key (codes "index") k n) i))
  tags-rule k alternatives = sym (rule_break-same m n _ _ (λ i l.
      ap₂ (tag_rule alternatives) (int8-num c key (codes "tags") n i l)
      (index-num c key (codes "index") k n i l)))

  pub tags-length : (k : IndexKind) (a : ℕ)
      → tag_length n (int8_num c key (codes "tags")) (index_num c key (codes "index") k) a
      ≡ tag_length n (at (int8s_at c key (codes "tags") n))
      (at (index_at c key (codes "index") k n)) a
  tags-length k a = sym (greatest_below-same n _ _ (λ i l.
      ap₂ (behind_at a) (int8-num c key (codes "tags") n i l)
      (index-num c key (codes "index") k n i l)))
