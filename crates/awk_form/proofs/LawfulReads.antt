-- A form without a break is lawful.
use Rattle.std.proofs.Common.{◌≡◌, ◌≢◌, ◌<◌, ◌≤◌, ℕ, zero, suc, ◌+◌, ◌&&◌, Bool, true, false, not}
use Rattle.std.proofs.Common.{cond, nat_lt, List, [], ◌∷◌, length, map, codes, Option, Some, None}
use Rattle.std.proofs.Common.{option_and_then, IsSome, Result, Ok, Err, refl, sym, ap, ◌∙◌, subst}
use Rattle.std.proofs.Common.{arith, eqb-true}
use Rattle.std.proofs.lemmas.Bool.{and_parts}
use Rattle.std.proofs.lemmas.Bool.Decides.{nat_tests}
use Rattle.std.specs.List.{AllByRecursion}
use Rattle.awk_types.specs.DataType.{Name}
use Rattle.awk_types.specs.Names.{AreDistinct, same_name, are_distinct}
use Rattle.serde_json.specs.Data.{Data, null, boolean, number, string, array, object, depth}
use Rattle.serde_json.specs.Find.{get, as_array}
use Rattle.awk_types.proofs.DistinctLaws.{AreDistinct-true}
use Rattle.awk_types.proofs.RefusalLaws.{or-both}
use Rattle.awk_form.specs.FormTree.{forms_from}
use Rattle.awk_form.specs.Lawful.{IsLawful, AreLawful, AreNamesOf, count}
use Rattle.awk_form.specs.Tables.{meaning, index_kinds, option_index_kinds, byte_kinds, bit_kinds}
use Rattle.awk_form.specs.Node.{Head, empty, numpy, regular, list, list_offset, row, indexed}
use Rattle.awk_form.specs.Node.{indexed_option, byte_masked, bit_masked, unmasked, union, Node}
use Rattle.awk_form.specs.Node.{and_then, present_or, allowed_or, text_at, number_at, truth_at}
use Rattle.awk_form.specs.Node.{kind_at, primitive_at, inner_shape_at, texts_of, fields_from}
use Rattle.awk_form.specs.Node.{fields_at, content_at, contents_at, are_as_many, are_alternatives}
use Rattle.awk_form.specs.Node.{parameters_at, form_key_from, form_key_at, has_buffers, class_at}
use Rattle.awk_form.specs.Node.{head_at, node_at}
use Rattle.awk_form.specs.Reading.{contents, contents_said, nodes_of, nodes_of_all}
use Rattle.awk_form.specs.Reading.{first_break_from, form_with, form_of}
use Rattle.awk_form.specs.declared.class.Class.{Class}
use Rattle.awk_form.specs.declared.class.Class.TheVariants as class
use Rattle.awk_form.specs.declared.fault.FormWhy.{FormWhy}
use Rattle.awk_form.specs.declared.fault.FormWhy.TheVariants as why
use Rattle.awk_form.specs.declared.kind.IndexKind.{IndexKind}
use Rattle.awk_form.specs.declared.kind.IndexKind.TheVariants.{I32, U32, I64}
use Rattle.awk_form.proofs.Nodes.{contents_of-shallow}
use Rattle.awk_form.proofs.Breaks.{first_break-append, first_break-node, first_break-broken}
use Rattle.awk_form.proofs.Breaks.{form_of-node}

-- ---- what a node says fits its class

abbrev KeyFits : Bool → Option Name → Type 0
KeyFits true key = IsSome key
KeyFits false key = Unit {0}

abbrev NamesFit : Option (List Name) → List Data → Type 0
NamesFit None cs = Unit {0}
NamesFit (Some names) cs = AreDistinct names × (length names ≡ length cs)

abbrev Fits : Option Name → Head → Type 0
Fits key empty = Unit {0}
Fits key (numpy p inner) = IsSome key
Fits key (regular size d) = Unit {0}
Fits key (list p q d) = IsSome key
Fits key (list_offset p d) = IsSome key
Fits key (row names cs) = NamesFit names cs
Fits key (indexed p d) = IsSome key
Fits key (indexed_option p d) = IsSome key × (p ≢ U32)
Fits key (byte_masked v d) = IsSome key
Fits key (bit_masked v l d) = IsSome key
Fits key (unmasked d) = Unit {0}
Fits key (union p cs) = IsSome key × (1 ≤ length cs) × (length cs ≤ 127)

abbrev AllFit : Bool → Result Head FormWhy → Type 0
AllFit needed (Ok h) = (key : Option Name) → KeyFits needed key → Fits key h
AllFit needed (Err e) = Unit {0}

then-fits : {A : Type 0} (needed : Bool) (r : Result A FormWhy) (next : A → Result Head FormWhy)
    → ((a : A) → r ≡ Ok a → AllFit needed (next a)) → AllFit needed (and_then r next)
then-fits needed (Ok a) next h = h a refl
then-fits needed (Err e) next h = tt

last-fits : (needed : Bool) (d : Data) (made : Data → Head)
    → ((c : Data) (key : Option Name) → KeyFits needed key → Fits key (made c))
    → AllFit needed (and_then (content_at d) (λ c. Ok (made c)))
last-fits needed d made h = then-fits needed (content_at d) (λ c. Ok (made c)) (λ c e. h c)

allowed-fits : (needed : Bool) (e : FormWhy) (b : Bool) (h : Head)
    → (b ≡ true → AllFit needed (Ok h)) → AllFit needed (allowed_or e b h)
allowed-fits needed e true h f = f refl
allowed-fits needed e false h f = tt

-- an option's index is signed
signed-found : (s t : Bool) (p : IndexKind) → cond s (Some I32) (cond t (Some I64) None) ≡ Some p
    → p ≢ U32
signed-found true t p h = λ e. cc
signed-found false true p h = λ e. cc
signed-found false false p h = λ e. cc

signed-meaning : (text : List ℕ) (p : IndexKind)
    → present_or why.Kind (meaning option_index_kinds text) ≡ Ok p → p ≢ U32
signed-meaning text p h = signed-found (same_name (codes "i32") text) (same_name (codes "i64") text)
    p (found (meaning option_index_kinds text) h)
  where
    found : (o : Option IndexKind) → present_or why.Kind o ≡ Ok p → o ≡ Some p
    found None e = absurd (cc)
    found (Some q) e = cc

signed-text : (r : Result (List ℕ) FormWhy) (p : IndexKind)
    → and_then r (λ text. present_or why.Kind (meaning option_index_kinds text)) ≡ Ok p → p ≢ U32
signed-text (Ok text) p h = signed-meaning text p h
signed-text (Err e) p h = absurd (cc)

-- the names of a record are distinct
allowed-names : (b : Bool) (ns : List Name) (names : Option (List Name))
    → allowed_or why.Repeated b (Some ns) ≡ Ok names → (names ≡ Some ns) × (b ≡ true)
allowed-names true ns names h = (cc, refl)
allowed-names false ns names h = absurd (cc)

abbrev DistinctNames : Option (List Name) → Type 0
DistinctNames None = Unit {0}
DistinctNames (Some ns) = AreDistinct ns

texts-distinct : (r : Result (List Name) FormWhy) (names : Option (List Name))
    → and_then r (λ ns. allowed_or why.Repeated (are_distinct ns) (Some ns)) ≡ Ok names
    → DistinctNames names
texts-distinct (Ok ns) names h = let a = allowed-names (are_distinct ns) ns names h in
    subst DistinctNames (sym a.0) (AreDistinct-true ns a.1)
texts-distinct (Err e) names h = absurd (cc)

abbrev texts_in : Data → Result (List Name) FormWhy
texts_in v = present_or why.Key (option_and_then texts_of (as_array v))

fields-distinct : (o : Option Data) (names : Option (List Name)) → fields_from o ≡ Ok names
    → DistinctNames names
fields-distinct None names h = absurd (cc)
fields-distinct (Some null) names h =
    let none : names ≡ None = cc in subst DistinctNames (sym none) tt
fields-distinct (Some (boolean b)) names h = texts-distinct (texts_in (boolean b)) names h
fields-distinct (Some (number n)) names h = texts-distinct (texts_in (number n)) names h
fields-distinct (Some (string s)) names h = texts-distinct (texts_in (string s)) names h
fields-distinct (Some (array ds)) names h = texts-distinct (texts_in (array ds)) names h
fields-distinct (Some (object ms)) names h = texts-distinct (texts_in (object ms)) names h

names-fit : (names : Option (List Name)) (cs : List Data) → DistinctNames names
    → are_as_many names cs ≡ true → NamesFit names cs
names-fit None cs h e = tt
names-fit (Some ns) cs h e = (h, eqb-true (length ns) (length cs) e)

alternatives-fit : (cs : List Data) → are_alternatives cs ≡ true
    → (1 ≤ length cs) × (length cs ≤ 127)
alternatives-fit cs h = let e = and_parts (nat_lt 0 (length cs)) (nat_lt (length cs) 128) h in
    (grind (arith, nat_tests, e.0), grind (arith, nat_tests, e.1))

head-fits : (c : Class) (d : Data) → AllFit (has_buffers c) (head_at c d)
head-fits class.Empty d = λ key k. tt
head-fits class.Numpy d = then-fits true (primitive_at d) _
    (λ p e. then-fits true (inner_shape_at d) _ (λ ns f. λ key k. k))
head-fits class.Regular d = then-fits false (number_at (codes "size") d) _
    (λ n e. last-fits false d (regular n) (λ c key k. tt))
head-fits class.List d =
    then-fits true (kind_at index_kinds (codes "starts") d) _
    (λ p e. then-fits true (kind_at index_kinds (codes "stops") d) _
    (λ q f. last-fits true d (list p q) (λ c key k. k)))
head-fits class.ListOffset d = then-fits true (kind_at index_kinds (codes "offsets") d) _
    (λ p e. last-fits true d (list_offset p) (λ c key k. k))
head-fits class.Row d =
    then-fits false (fields_at d) _ (λ ns e. then-fits false (contents_at d) _ (λ cs f.
    allowed-fits false why.Key (are_as_many ns cs) (row ns cs)
    (λ many key k. names-fit ns cs (fields-distinct (get (codes "fields") d) ns e) many)))
head-fits class.Indexed d = then-fits true (kind_at index_kinds (codes "index") d) _
    (λ p e. last-fits true d (indexed p) (λ c key k. k))
head-fits class.IndexedOption d =
    then-fits true (kind_at option_index_kinds (codes "index") d) _
    (λ p e. last-fits true d (indexed_option p)
    (λ c key k. (k, signed-text (text_at (codes "index") d) p e)))
head-fits class.ByteMasked d =
    then-fits true (kind_at byte_kinds (codes "mask") d) _
    (λ p e. then-fits true (truth_at (codes "valid_when") d) _
    (λ v f. last-fits true d (byte_masked v) (λ c key k. k)))
head-fits class.BitMasked d =
    then-fits true (kind_at bit_kinds (codes "mask") d) _
    (λ p e. then-fits true (truth_at (codes "valid_when") d) _ (λ v f.
    then-fits true (truth_at (codes "lsb_order") d) _
    (λ l g. last-fits true d (bit_masked v l) (λ c key k. k))))
head-fits class.Unmasked d = last-fits false d unmasked (λ c key k. tt)
head-fits class.Union d =
    then-fits true (kind_at byte_kinds (codes "tags") d) _
    (λ p e. then-fits true (kind_at index_kinds (codes "index") d) _ (λ q f.
    then-fits true (contents_at d) _
    (λ cs g. allowed-fits true why.Alternatives (are_alternatives cs) (union q cs)
    (λ many key k.
    let few = alternatives-fit cs many in (k, few.0, few.1)))))

-- ---- the key

no_key : (needed : Bool) (b : Bool) (key : Option Name)
    → allowed_or why.FormKey (b && not needed) None ≡ Ok key → KeyFits needed key
no_key false b key h = tt
no_key true true key h = absurd (cc)
no_key true false key h = absurd (cc)

some_key : (needed : Bool) (text : List ℕ) (key : Option Name) → key ≡ Some text
    → KeyFits needed key
some_key true text key e = subst IsSome (sym e) refl
some_key false text key e = tt

key-fits : (needed : Bool) (o : Option Data) (key : Option Name) → form_key_from needed o ≡ Ok key
    → KeyFits needed key
key-fits needed None key h = no_key needed true key h
key-fits needed (Some null) key h = no_key needed true key h
key-fits needed (Some (boolean b)) key h = no_key needed false key h
key-fits needed (Some (number n)) key h = no_key needed false key h
key-fits needed (Some (string text)) key h = some_key needed text key (cc)
key-fits needed (Some (array ds)) key h = no_key needed false key h
key-fits needed (Some (object ms)) key h = no_key needed false key h

said-fits : (needed : Bool) (h : Result Head FormWhy) (p : Result (Unit {0}) FormWhy)
    (k : Result (Option Name) FormWhy) (said : Node) → AllFit needed h
    → ((key : Option Name) → k ≡ Ok key → KeyFits needed key)
    → and_then h
    (λ head. and_then p (λ _. and_then k (λ key. Ok (record { key = key; head = head }))))
    ≡ Ok said → Fits said.key said.head
said-fits needed (Ok head) (Ok p) (Ok key) said f g e =
    let one : Node = record { key = key; head = head } in
    let same : one ≡ said = cc in
    subst (λ s. Fits s.key s.head) same (f key (g key refl))
said-fits needed (Ok head) (Ok p) (Err e1) said f g e = absurd (cc)
said-fits needed (Ok head) (Err e1) k said f g e = absurd (cc)
said-fits needed (Err e1) p k said f g e = absurd (cc)

class-fits : (d : Data) (c : Result Class FormWhy) (said : Node)
    → and_then c
    (λ c. and_then (head_at c d)
    (λ head. and_then (parameters_at d)
    (λ _. and_then (form_key_at (has_buffers c) d)
    (λ key. Ok (record { key = key; head = head }))))) ≡ Ok said
    → Fits said.key said.head
class-fits d (Ok c) said e = said-fits (has_buffers c) (head_at c d) (parameters_at d)
    (form_key_at (has_buffers c) d) said (head-fits c d)
    (key-fits (has_buffers c) (get (codes "form_key") d)) e
class-fits d (Err e1) said e = absurd (cc)

node-fits : (d : Data) (said : Node) → node_at d ≡ Ok said → Fits said.key said.head
unfolding node_at
node-fits d said e = class-fits d (class_at d) said e

-- ---- the form of a node

abbrev LawfulAt : Data → Type 0
LawfulAt c = IsLawful (form_of c)

all_lawful : (cs : List Data) → AllByRecursion LawfulAt cs → AreLawful (forms_from (map form_of cs))
all_lawful [] h = tt
all_lawful (c ∷ cs) h = (h.0, all_lawful cs h.1)

count-contents : (cs : List Data) → count (forms_from (map form_of cs)) ≡ length cs
count-contents [] = refl
count-contents (c ∷ cs) = ap suc (count-contents cs)

names-lawful : (names : Option (List Name)) (cs : List Data) → NamesFit names cs
    → AreNamesOf (forms_from (map form_of cs)) names
names-lawful None cs h = tt
names-lawful (Some ns) cs h = (h.0, h.1 ∙ sym (count-contents cs))

lawful-with : (key : Option Name) (h : Head) → Fits key h → AllByRecursion LawfulAt (contents h)
    → IsLawful (form_with form_of key h)
lawful-with key empty f l = tt
lawful-with key (numpy p inner) f l = f
lawful-with key (regular size d) f l = l.0
lawful-with key (list p q d) f l = (f, l.0)
lawful-with key (list_offset p d) f l = (f, l.0)
lawful-with key (row names cs) f l = (names-lawful names cs f, all_lawful cs l)
lawful-with key (indexed p d) f l = (f, l.0)
lawful-with key (indexed_option p d) f l = (f.0, f.1, l.0)
lawful-with key (byte_masked v d) f l = (f, l.0)
lawful-with key (bit_masked v b d) f l = (f, l.0)
lawful-with key (unmasked d) f l = l.0
lawful-with key (union p cs) f l = (
  f.0,
  omega (arith, f.1, count-contents cs),
  omega (arith, f.2, count-contents cs),
  all_lawful
      cs l,
)

-- ---- the whole

abbrev LawfulBelow : ℕ → Type 0
LawfulBelow levels =
    (d : Data) → depth d < levels → (k : ℕ) → first_break_from k (nodes_of d) ≡ None → LawfulAt d

contents-lawful : (levels m : ℕ) → LawfulBelow levels → (cs : List Data)
    → AllByRecursion (λ c. depth c < levels) cs → first_break_from m (nodes_of_all cs) ≡ None
    → AllByRecursion LawfulAt cs
contents-lawful levels m below [] s h = tt
contents-lawful levels m below (c ∷ cs) s h =
    let none = or-both _ _ (sym (first_break-append m (nodes_of c) (nodes_of_all cs)) ∙ h) in
    (below c s.0 m none.0, contents-lawful levels (m + length (nodes_of c)) below cs s.1 none.1)

node-lawful : (d : Data) (k : ℕ) (r : Result Node FormWhy) → LawfulBelow (depth d) → node_at d ≡ r
    → first_break_from k (nodes_of d) ≡ None → LawfulAt d
node-lawful d k (Ok said) below e h =
    let shallow = subst (λ r. AllByRecursion (λ c. depth c < depth d) (contents_said r)) e
    (contents_of-shallow d) in
    subst IsLawful (sym (form_of-node d said e))
    (lawful-with said.key said.head (node-fits d said e)
    (contents-lawful (depth d) (k + 1) below (contents said.head) shallow
    (sym (first_break-node k d said e) ∙ h)))
node-lawful d k (Err w) below e h = let broken = first_break-broken k d w e in absurd (cc)

lawful-below : (levels : ℕ) → LawfulBelow levels
lawful-below zero d s k h = absurd (omega arith)
lawful-below (suc levels) d s k h =
    node-lawful d k (node_at d) (λ c deeper. lawful-below levels c (omega arith)) refl h

pub lawful-read : (d : Data) (k : ℕ) → first_break_from k (nodes_of d) ≡ None → IsLawful (form_of d)
lawful-read d k h = lawful-below (suc (depth d)) d (omega arith) k h
