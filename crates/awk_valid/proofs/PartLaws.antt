-- What the parts of a node say of the node's own break.
use Rattle.std.proofs.Common.{◌≡◌, ℕ, zero, suc, ◌∷◌, replicate, ◌+◌, ◌-◌, ◌*◌, List, Option, None}
use Rattle.std.proofs.Common.{Result, Ok, refl, sym, ap, ap₂, ◌∙◌, subst, arith, codes, map}
use Rattle.std.specs.Global.{Vec}
use Rattle.std.specs.List.{range_with_len}
use Rattle.std.specs.Prelude.{IsErrAnd}
use Rattle.awk_types.proofs.RefusalLaws.{Told-first, Told-later, Told-same, refused_or-Ok}
use Rattle.awk_types.proofs.RefusalLaws.{refused_or-None, or-None, or-last}
use Rattle.awk_types.specs.DataType.{Name}
use Rattle.awk_types.specs.Gives.{Told, refused_or, ◌or◌}
use Rattle.awk_lanes.specs.Column.{Column}
use Rattle.awk_lanes.specs.Numbers.{width}
use Rattle.awk_lanes.specs.Places.{size_of, at, IsIndexKind}
use Rattle.awk_form.specs.FormTree.{FormTree, list, list_offset, indexed, indexed_option, union}
use Rattle.awk_form.specs.FormTree.{FormTrees}
use Rattle.awk_form.specs.FormText.{key_of}
use Rattle.awk_form.specs.Lawful.{count}
use Rattle.awk_form.specs.Measures.{inner_shape}
use Rattle.awk_form.specs.declared.kind.IndexKind.{IndexKind}
use Rattle.awk_valid.specs.Container.{Container, kind_of_index, buffer_key, index_at, int8s_at}
use Rattle.awk_valid.specs.Needs.{buffer_needs, lists_length, index_length, tag_length}
use Rattle.awk_valid.specs.Needs.{content_length}
use Rattle.awk_valid.specs.Broken.{Refusal, size_break, shape_break, bytes_break, buffers_break}
use Rattle.awk_valid.specs.Broken.{places_break, node_break, rule_break, list_rule, index_rule}
use Rattle.awk_valid.specs.Broken.{tag_rule}
use Rattle.awk_valid.specs.Loading.{told}
use Rattle.awk_valid.specs.Parts.{lengths_of, own_of}
use Rattle.awk_valid.specs.Walked.{Given, container_in, product_break, own_break, own_said}
use Rattle.awk_valid.specs.Walked.{GivesOwn}
use Rattle.awk_valid.specs.declared.fault.LoadFault.{LoadFault}
use Rattle.awk_valid.specs.declared.own.Own.{Own}
use Rattle.awk_valid.proofs.ValidLaws.{size_of-index_at, size_of-int8s_at}
use Rattle.awk_valid.proofs.FaultLaws.{Gives-fails}
use Rattle.awk_valid.proofs.ByteLaws.{index_kind, spans-rule, spans-length, offsets-rule}
use Rattle.awk_valid.proofs.ByteLaws.{offsets-length, index-rule, index-length, tags-rule}
use Rattle.awk_valid.proofs.ByteLaws.{tags-length}

-- so many equal numbers
pub same_lengths : (n a count : ℕ) → map (λ (k : ℕ). n) (range_with_len a count) ≡ replicate count n
same_lengths n a zero = refl
same_lengths n a (suc count) = ap (λ l. n ∷ l) (same_lengths n (a + 1) count)

-- ---- a node of any class

-- a part that fails tells a fault of the node
pub part-fails : (f : FormTree) (m n : ℕ) (t : Given) (r : Result (Own × Vec ℕ) LoadFault)
    (e : LoadFault) → IsErrAnd r (λ x. x ≡ e) → Told (told e) (own_said f m n t)
    → GivesOwn f m n t r
unfolding own_said
part-fails f m n t r e is h =
    Gives-fails {Y = Own × List ℕ} (λ x. (x.0, x.1.items)) r e
    (refused_or (own_break f m n (container_in t))
    (own_of f n (container_in t), lengths_of f n (container_in t))) is h

-- a part that is made, where its node has no break
pub part-made : (f : FormTree) (m n : ℕ) (t : Given) (own : Own) (lengths : Vec ℕ)
    → own_break f m n (container_in t) ≡ None → own_of f n (container_in t) ≡ own
    → lengths_of f n (container_in t) ≡ lengths.items → GivesOwn f m n t (Ok (own, lengths))
part-made f m n t own lengths none is long =
    refused_or-None (own_break f m n (container_in t))
    (own_of f n (container_in t), lengths_of f n (container_in t)) (own, lengths.items) none
    (ap₂ (λ x ls. (x, ls)) is long)

-- what breaks the node itself is told
pub told-node : {A : Type 0} (o : Option Refusal) (f : FormTree) (m n : ℕ) (t : Given) (x : A)
    → Told o (refused_or (node_break f m n (container_in t)) x) → Told o (own_said f m n t)
unfolding own_said
told-node o f m n t x h =
    Told-first o (node_break f m n (container_in t)) (product_break f n) x
    (own_of f n (container_in t), lengths_of f n (container_in t)) h

-- what breaks its buffers is told where its sizes are right
pub told-buffers : {A : Type 0} (o : Option Refusal) (f : FormTree) (m n : ℕ) (t : Given) (x : A)
    → shape_break n (inner_shape f) ≡ None
    → Told o (refused_or (buffers_break (container_in t) (key_of f) (buffer_needs f n)) x)
    → Told o (own_said f m n t)
told-buffers o f m n t x small h =
    told-node o f m n t x
    (Told-later o (shape_break n (inner_shape f))
    (buffers_break (container_in t) (key_of f) (buffer_needs f n)
    or places_break f m n (container_in t)) x x small
    (Told-first o (buffers_break (container_in t) (key_of f) (buffer_needs f n))
    (places_break f m n (container_in t)) x x h))

-- the second of two is told behind the first
pub told-second : {A : Type 0} (o a b : Option Refusal) (x : A) → a ≡ None
    → Told o (refused_or b x) → Told o (refused_or (a or (b or None)) x)
told-second o a b x first h = Told-later o a (b or None) x x first (Told-first o b None x x h)

-- what breaks the places of the node is told where nothing else breaks it
pub told-places : {A : Type 0} (o : Option Refusal) (f : FormTree) (m n : ℕ) (t : Given)
    (b : Option Refusal) (x : A) → own_break f m n (container_in t) ≡ b
    → Told o (refused_or b x) → Told o (own_said f m n t)
unfolding own_said
told-places o f m n t b x is h =
    Told-same o (own_break f m n (container_in t)) b x
    (own_of f n (container_in t), lengths_of f n (container_in t)) is h

-- a node breaks at its places alone, where its sizes and its buffers are right
pub own-places : (f : FormTree) (m n : ℕ) (c : Container) → shape_break n (inner_shape f) ≡ None
    → buffers_break c (key_of f) (buffer_needs f n) ≡ None → product_break f n ≡ None
    → own_break f m n c ≡ places_break f m n c
own-places f m n c small there product =
    ap (λ b. node_break f m n c or b) product ∙ or-last (node_break f m n c)
    ∙ or-None (shape_break n (inner_shape f))
    (buffers_break c (key_of f) (buffer_needs f n) or places_break f m n c) small
    ∙ or-None (buffers_break c (key_of f) (buffer_needs f n)) (places_break f m n c) there

pub both_none : (a b : Option Refusal) → a ≡ None → b ≡ None → (a or b) ≡ None
both_none a b e f = or-None a b e ∙ f

one_none : (a : Option Refusal) → a ≡ None → (a or None) ≡ None
one_none a e = both_none a None e refl

-- a node that does not break has no break of its own
pub own-none : (f : FormTree) (m n : ℕ) (c : Container) → node_break f m n c ≡ None
    → product_break f n ≡ None → own_break f m n c ≡ None
own-none f m n c none product = both_none (node_break f m n c) (product_break f n) none product

-- ---- lanes

-- the break of n numbers of an index
abbrev pub index_break : Container → Option Name → List ℕ → IndexKind → ℕ → Option Refusal
index_break c key attribute k n =
    bytes_break (buffer_key key attribute) (n * width (kind_of_index k))
    (c.bytes (buffer_key key attribute))

-- and of n tags, or bytes of a mask
abbrev pub int8s_break : Container → Option Name → List ℕ → ℕ → Option Refusal
int8s_break c key attribute n =
    bytes_break (buffer_key key attribute) n (c.bytes (buffer_key key attribute))

-- the lane that was made of a buffer
pub index_fetched : (t u : Given) (key : Option Name) (attribute : List ℕ) (k : IndexKind) (n : ℕ)
    (lane : Column) → u ≡ t
    → refused_or (index_break (container_in u) key attribute k n)
    (index_at (container_in u) key attribute k n) ≡ Ok lane
    → (index_break (container_in t) key attribute k n ≡ None)
    × (index_at (container_in t) key attribute k n ≡ lane) × (size_of lane ≡ n)
    × IsIndexKind lane.kind
index_fetched t u key attribute k n lane same h =
    let p =
    refused_or-Ok (index_break (container_in u) key attribute k n)
    (index_at (container_in u) key attribute k n) lane h in
    let is = subst (λ v. index_at (container_in v) key attribute k n ≡ lane) same p.1 in (
      subst (λ v. index_break (container_in v) key attribute k n ≡ None) same p.0,
      is,
      ap size_of (sym is) ∙ size_of-index_at (container_in t) key attribute k n,
      subst (λ l. IsIndexKind l.kind) is (index_kind k),
    )

pub int8s_fetched : (t : Given) (key : Option Name) (attribute : List ℕ) (n : ℕ) (lane : Column)
    → refused_or (int8s_break (container_in t) key attribute n)
    (int8s_at (container_in t) key attribute n) ≡ Ok lane
    → (int8s_break (container_in t) key attribute n ≡ None)
    × (int8s_at (container_in t) key attribute n ≡ lane) × (size_of lane ≡ n)
int8s_fetched t key attribute n lane h =
    let p =
    refused_or-Ok (int8s_break (container_in t) key attribute n)
    (int8s_at (container_in t) key attribute n) lane h in
    (p.0, p.1, ap size_of (sym p.1) ∙ size_of-int8s_at (container_in t) key attribute n)

-- a break of an index is told of the same buffers
pub index_told : {A : Type 0} (o : Option Refusal) (t u : Given) (key : Option Name)
    (attribute : List ℕ) (k : IndexKind) (n : ℕ) (x : A) → u ≡ t
    → Told o (refused_or (index_break (container_in u) key attribute k n) x)
    → Told o (refused_or (index_break (container_in t) key attribute k n) x)
index_told o t u key attribute k n x same h =
    subst (λ v. Told o (refused_or (index_break (container_in v) key attribute k n) x)) same h

-- ---- the rule of a node is judged over the lanes that were made

pub list-own : (c : Container) (key : Option Name) (j k : IndexKind) (f : FormTree) (m n : ℕ)
    (starts stops : Column) → size_break n ≡ None
    → index_break c key (codes "starts") j n ≡ None → index_break c key (codes "stops") k n ≡ None
    → index_at c key (codes "starts") j n ≡ starts → index_at c key (codes "stops") k n ≡ stops
    → size_of starts ≡ n
    → (own_break (list key j k f) m n c
    ≡ rule_break m (size_of starts) (λ i. list_rule (at starts i) (at stops i)))
    × (content_length (list key j k f) n c 0
    ≡ lists_length (size_of starts) (at starts) (at stops))
list-own c key j k f m n starts stops small first second e g size =
    let there =
    both_none (index_break c key (codes "starts") j n)
    (index_break c key (codes "stops") k n or None) first
    (one_none (index_break c key (codes "stops") k n) second) in (
      own-places (list key j k f) m n c small there refl ∙ spans-rule c key m n j k
          ∙ ap₂ (λ s t. rule_break m n (λ i. list_rule (at s i) (at t i))) e g
          ∙ ap (λ l. rule_break m l (λ i. list_rule (at starts i) (at stops i))) (sym size),
      spans-length c key m n j k ∙ ap₂ (λ s t. lists_length n (at s) (at t)) e g
          ∙ ap (λ l. lists_length l (at starts) (at stops)) (sym size),
    )

pub offsets-own : (c : Container) (key : Option Name) (k : IndexKind) (f : FormTree) (m n : ℕ)
    (lane : Column) → size_break n ≡ None → index_break c key (codes "offsets") k (n + 1) ≡ None
    → index_at c key (codes "offsets") k (n + 1) ≡ lane → size_of lane ≡ n + 1
    → (own_break (list_offset key k f) m n c
    ≡ rule_break m (size_of lane - 1) (λ i. list_rule (at lane i) (at lane (i + 1))))
    × (content_length (list_offset key k f) n c 0
    ≡ lists_length (size_of lane - 1) (at lane) (λ i. at lane (i + 1)))
offsets-own c key k f m n lane small first e size =
    let there = one_none (index_break c key (codes "offsets") k (n + 1)) first in
    let less : n ≡ size_of lane - 1 = omega (arith, size) in (
      own-places (list_offset key k f) m n c small there refl ∙ offsets-rule c key m n k
          ∙ ap₂ (λ l s. rule_break m l (λ i. list_rule (at s i) (at s (i + 1)))) less e,
      offsets-length c key m n k
          ∙ ap₂ (λ l s. lists_length l (at s) (λ i. at s (i + 1))) less e,
    )

pub indexed-own : (c : Container) (key : Option Name) (k : IndexKind) (f : FormTree) (m n : ℕ)
    (lane : Column) → size_break n ≡ None → index_break c key (codes "index") k n ≡ None
    → index_at c key (codes "index") k n ≡ lane → size_of lane ≡ n
    → (own_break (indexed key k f) m n c
    ≡ rule_break m (size_of lane) (λ i. index_rule (at lane i)))
    × (content_length (indexed key k f) n c 0 ≡ index_length (size_of lane) (at lane))
indexed-own c key k f m n lane small first e size =
    let there = one_none (index_break c key (codes "index") k n) first in (
      own-places (indexed key k f) m n c small there refl ∙ index-rule c key m n k
          ∙ ap₂ (λ l s. rule_break m l (λ i. index_rule (at s i))) (sym size) e,
      index-length c key m n k ∙ ap₂ (λ l s. index_length l (at s)) (sym size) e,
    )

pub optional-own : (c : Container) (key : Option Name) (k : IndexKind) (f : FormTree) (m n : ℕ)
    (lane : Column) → size_break n ≡ None → index_break c key (codes "index") k n ≡ None
    → index_at c key (codes "index") k n ≡ lane → size_of lane ≡ n
    → (own_break (indexed_option key k f) m n c ≡ None)
    × (content_length (indexed_option key k f) n c 0 ≡ index_length (size_of lane) (at lane))
optional-own c key k f m n lane small first e size =
    let there = one_none (index_break c key (codes "index") k n) first in (
      own-places (indexed_option key k f) m n c small there refl,
      index-length c key m n k ∙ ap₂ (λ l s. index_length l (at s)) (sym size) e,
    )

pub union-own : (c : Container) (key : Option Name) (k : IndexKind) (fs : FormTrees)
    (alternatives m n : ℕ) (tags index : Column) → count fs ≡ alternatives → size_break n ≡ None
    → int8s_break c key (codes "tags") n ≡ None → index_break c key (codes "index") k n ≡ None
    → int8s_at c key (codes "tags") n ≡ tags → index_at c key (codes "index") k n ≡ index
    → size_of tags ≡ n
    → (own_break (union key k fs) m n c
    ≡ rule_break m (size_of tags) (λ i. tag_rule alternatives (at tags i) (at index i)))
    × (lengths_of (union key k fs) n c
    ≡ map (tag_length (size_of tags) (at tags) (at index)) (range_with_len 0 alternatives))
union-own c key k fs alternatives m n tags index counted small first second e g size =
    let there =
    both_none (int8s_break c key (codes "tags") n)
    (index_break c key (codes "index") k n or None) first
    (one_none (index_break c key (codes "index") k n) second) in (
      own-places (union key k fs) m n c small there refl ∙ tags-rule c key m n k (count fs)
          ∙ ap
          (λ a. rule_break m n
          (λ i. tag_rule a (at (int8s_at c key (codes "tags") n) i)
          (at (index_at c key (codes "index") k n) i))) counted
          ∙ ap₂ (λ s t. rule_break m n (λ i. tag_rule alternatives (at s i) (at t i))) e g
          ∙ ap (λ l. rule_break m l (λ i. tag_rule alternatives (at tags i) (at index i)))
          (sym size),
      ap (λ a. map (content_length (union key k fs) n c) (range_with_len 0 a)) counted
          ∙ (λ i. map (λ a. tags-length c key m n k a i) (range_with_len 0 alternatives))
          ∙ ap₂ (λ s t. map (tag_length n (at s) (at t)) (range_with_len 0 alternatives)) e g
          ∙ ap (λ l. map (tag_length l (at tags) (at index)) (range_with_len 0 alternatives))
          (sym size),
    )
