-- The nodes of a value and its form, one level at a time: no more levels are needed than the value
-- nests.
use Rattle.std.proofs.Common.{◌≡◌, ◌<◌, ◌≤◌, ℕ, zero, suc, max, Bool, true, false, List, [], ◌∷◌}
use Rattle.std.proofs.Common.{◌++◌, map, codes, Option, Some, None, option_map, option_and_then}
use Rattle.std.proofs.Common.{Result, Ok, Err, Ordering, Less, Equal, Greater, refl, sym, ap, ap₂}
use Rattle.std.proofs.Common.{subst, arith}
use Rattle.std.specs.List.{flat_map, AllByRecursion}
use Rattle.std.specs.Ordering.{nat_cmp, match_ordering}
use Rattle.std.specs.Cmp.Lexicographic.{slice_cmp}
use Rattle.serde_json.specs.Data.{Data, null, boolean, number, string, array, object, Items}
use Rattle.serde_json.specs.Data.{no_items, item, Members, no_members, member, depth, items_depth}
use Rattle.serde_json.specs.Data.{members_depth}
use Rattle.serde_json.specs.Find.{get, get_member, as_array}
use Rattle.awk_form.specs.FormTree as made
use Rattle.awk_form.specs.FormTree.{FormTree, forms_from}
use Rattle.awk_types.specs.DataType.{Name}
use Rattle.awk_form.specs.declared.class.Class.{Class}
use Rattle.awk_form.specs.declared.class.Class.TheVariants as class
use Rattle.awk_form.specs.Tables.{index_kinds, option_index_kinds, byte_kinds, bit_kinds}
use Rattle.awk_form.specs.Node.{Head, empty, numpy, regular, list, list_offset, row, indexed}
use Rattle.awk_form.specs.Node.{indexed_option, byte_masked, bit_masked, unmasked, union, Node}
use Rattle.awk_form.specs.Node.{and_then, present_or, allowed_or, values_of, number_at, truth_at}
use Rattle.awk_form.specs.Node.{kind_at, primitive_at, inner_shape_at, fields_at, are_as_many}
use Rattle.awk_form.specs.Node.{are_alternatives, content_at, contents_at, class_at, head_at}
use Rattle.awk_form.specs.Node.{parameters_at, form_key_at, has_buffers, node_at}
use Rattle.awk_form.specs.Reading.{contents, contents_said, contents_of, nodes_down, nodes_of}
use Rattle.awk_form.specs.Reading.{form_with, form_said, form_down, form_of}
use Rattle.awk_form.specs.declared.fault.FormWhy.{FormWhy}
use Rattle.awk_form.specs.declared.fault.FormWhy.TheVariants as why

-- ---- what a value holds nests less deep

either_found : (o : Ordering) (ms : Members) (d c : Data) (found : Option Data)
    → (found ≡ Some c → depth c ≤ members_depth ms) → match_ordering o found (Some d) found ≡ Some c
    → depth c ≤ max (depth d) (members_depth ms)
either_found Less ms d c found h e = omega (arith, h e)
either_found Equal ms d c found h e = let same : d ≡ c = cc in omega (arith, ap depth same)
either_found Greater ms d c found h e = omega (arith, h e)

get_member-shallow : (k : List ℕ) (ms : Members) (c : Data) → get_member k ms ≡ Some c
    → depth c ≤ members_depth ms
get_member-shallow k no_members c e = absurd (cc)
get_member-shallow k (member l d ms) c e =
    either_found (slice_cmp nat_cmp k l) ms d c (get_member k ms) (get_member-shallow k ms c) e

pub get-shallow : (k : List ℕ) (d c : Data) → get k d ≡ Some c → depth c < depth d
get-shallow k (object ms) c e = omega (arith, get_member-shallow k ms c e)
get-shallow k null c e = absurd (cc)
get-shallow k (boolean b) c e = absurd (cc)
get-shallow k (number n) c e = absurd (cc)
get-shallow k (string s) c e = absurd (cc)
get-shallow k (array ds) c e = absurd (cc)

values_of-shallow : (n : ℕ) (ds : Items) → items_depth ds < n
    → AllByRecursion (λ c. depth c < n) (values_of ds)
values_of-shallow n no_items h = tt
values_of-shallow n (item d ds) h = (omega arith, values_of-shallow n ds (omega arith))

-- ---- the contents of a node nest less deep

abbrev Shallow : Data → Result Head FormWhy → Type 0
Shallow d (Ok h) = AllByRecursion (λ c. depth c < depth d) (contents h)
Shallow d (Err e) = Unit {0}

then-shallow : {A : Type 0} (d : Data) (r : Result A FormWhy) (next : A → Result Head FormWhy)
    → ((a : A) → r ≡ Ok a → Shallow d (next a)) → Shallow d (and_then r next)
then-shallow d (Ok a) next h = h a refl
then-shallow d (Err e) next h = tt

allowed-shallow : (d : Data) (e : FormWhy) (b : Bool) (h : Head)
    → AllByRecursion (λ c. depth c < depth d) (contents h) → Shallow d (allowed_or e b h)
allowed-shallow d e true h s = s
allowed-shallow d e false h s = tt

present-found : {A : Type 0} (e : FormWhy) (o : Option A) (a : A) → present_or e o ≡ Ok a
    → o ≡ Some a
present-found e None a h = absurd (cc)
present-found e (Some b) a h = cc

content-shallow : (d c : Data) → content_at d ≡ Ok c → depth c < depth d
content-shallow d c e = get-shallow (codes "content") d c (present-found _ _ c e)

items-shallow : (d v : Data) (cs : List Data) → depth v < depth d
    → option_map values_of (as_array v) ≡ Some cs → AllByRecursion (λ c. depth c < depth d) cs
items-shallow d (array ds) cs h e = let same : values_of ds ≡ cs = cc in
    subst (AllByRecursion (λ c. depth c < depth d)) same
    (values_of-shallow (depth d) ds (omega arith))
items-shallow d null cs h e = absurd (cc)
items-shallow d (boolean b) cs h e = absurd (cc)
items-shallow d (number n) cs h e = absurd (cc)
items-shallow d (string s) cs h e = absurd (cc)
items-shallow d (object ms) cs h e = absurd (cc)

values-shallow : (d : Data) (o : Option Data) (cs : List Data)
    → ((v : Data) → o ≡ Some v → depth v < depth d)
    → option_map values_of (option_and_then as_array o) ≡ Some cs
    → AllByRecursion (λ c. depth c < depth d) cs
values-shallow d None cs h e = absurd (cc)
values-shallow d (Some v) cs h e = items-shallow d v cs (h v refl) e

contents-shallow : (d : Data) (cs : List Data) → contents_at d ≡ Ok cs
    → AllByRecursion (λ c. depth c < depth d) cs
contents-shallow d cs e = values-shallow d (get (codes "contents") d) cs
    (get-shallow (codes "contents") d) (present-found _ _ cs e)

last-shallow : (d : Data) (made : Data → Head) → ((c : Data) → contents (made c) ≡ c ∷ [])
    → Shallow d (and_then (content_at d) (λ c. Ok (made c)))
last-shallow d made one = then-shallow d (content_at d) (λ c. Ok (made c))
    (λ c e. subst (AllByRecursion (λ x. depth x < depth d)) (sym (one c))
    (content-shallow d c e, tt))

head-shallow : (c : Class) (d : Data) → Shallow d (head_at c d)
head-shallow class.Empty d = tt
head-shallow class.Numpy d =
    then-shallow d (primitive_at d) _ (λ p e. then-shallow d (inner_shape_at d) _ (λ ns f. tt))
head-shallow class.Regular d =
    then-shallow d (number_at (codes "size") d) _ (λ n e. last-shallow d (regular n) (λ c. refl))
head-shallow class.List d =
    then-shallow d (kind_at index_kinds (codes "starts") d) _
    (λ p e. then-shallow d (kind_at index_kinds (codes "stops") d) _
    (λ q f. last-shallow d (list p q) (λ c. refl)))
head-shallow class.ListOffset d = then-shallow d (kind_at index_kinds (codes "offsets") d) _
    (λ p e. last-shallow d (list_offset p) (λ c. refl))
head-shallow class.Row d =
    then-shallow d (fields_at d) _
    (λ ns e. then-shallow d (contents_at d) _
    (λ cs f. allowed-shallow d why.Key (are_as_many ns cs) (row ns cs)
    (contents-shallow d cs f)))
head-shallow class.Indexed d = then-shallow d (kind_at index_kinds (codes "index") d) _
    (λ p e. last-shallow d (indexed p) (λ c. refl))
head-shallow class.IndexedOption d = then-shallow d (kind_at option_index_kinds (codes "index") d) _
    (λ p e. last-shallow d (indexed_option p) (λ c. refl))
head-shallow class.ByteMasked d =
    then-shallow d (kind_at byte_kinds (codes "mask") d) _
    (λ p e. then-shallow d (truth_at (codes "valid_when") d) _
    (λ v f. last-shallow d (byte_masked v) (λ c. refl)))
head-shallow class.BitMasked d =
    then-shallow d (kind_at bit_kinds (codes "mask") d) _
    (λ p e. then-shallow d (truth_at (codes "valid_when") d) _ (λ v f.
    then-shallow d (truth_at (codes "lsb_order") d) _
    (λ l g. last-shallow d (bit_masked v l) (λ c. refl))))
head-shallow class.Unmasked d = last-shallow d unmasked (λ c. refl)
head-shallow class.Union d =
    then-shallow d (kind_at byte_kinds (codes "tags") d) _
    (λ p e. then-shallow d (kind_at index_kinds (codes "index") d) _ (λ q f.
    then-shallow d (contents_at d) _
    (λ cs g. allowed-shallow d why.Alternatives (are_alternatives cs) (union q cs)
    (contents-shallow d cs g))))

-- the same of the node as a whole
abbrev AllShallow : Data → Result Node FormWhy → Type 0
AllShallow d r = AllByRecursion (λ c. depth c < depth d) (contents_said r)

keyed-shallow : (d : Data) (needed : Bool) (head : Head) (p : Result (Unit {0}) FormWhy)
    (k : Result (Option Name) FormWhy) → Shallow d (Ok head)
    → AllShallow d (and_then p (λ _. and_then k (λ key. Ok (record { key = key; head = head }))))
keyed-shallow d needed head (Ok p) (Ok k) h = h
keyed-shallow d needed head (Ok p) (Err e) h = tt
keyed-shallow d needed head (Err e) k h = tt

said-shallow : (d : Data) (c : Class) (h : Result Head FormWhy) → Shallow d h
    → AllShallow d
    (and_then h
    (λ head. and_then (parameters_at d)
    (λ _. and_then (form_key_at (has_buffers c) d)
    (λ key. Ok (record { key = key; head = head })))))
said-shallow d c (Ok head) h =
    keyed-shallow d (has_buffers c) head (parameters_at d) (form_key_at (has_buffers c) d) h
said-shallow d c (Err e) h = tt

class-shallow : (d : Data) (c : Result Class FormWhy)
    → AllShallow d
    (and_then c
    (λ c. and_then (head_at c d)
    (λ head. and_then (parameters_at d) (λ _. and_then (form_key_at (has_buffers c) d) (λ key.
    Ok (record { key = key; head = head }))))))
class-shallow d (Ok c) = said-shallow d c (head_at c d) (head-shallow c d)
class-shallow d (Err e) = tt

pub contents_of-shallow : (d : Data) → AllByRecursion (λ c. depth c < depth d) (contents_of d)
unfolding node_at
contents_of-shallow d = class-shallow d (class_at d)

-- ---- more levels than the value nests change nothing

same_flat_map : {A B : Type 0} (P : A → Type 0) (f g : A → List B) → ((a : A) → P a → f a ≡ g a)
    → (xs : List A) → AllByRecursion P xs → flat_map f xs ≡ flat_map g xs
same_flat_map P f g same [] h = refl
same_flat_map P f g same (x ∷ xs) h =
    ap₂ (λ ys zs. ys ++ zs) (same x h.0) (same_flat_map P f g same xs h.1)

same_map : {A B : Type 0} (P : A → Type 0) (f g : A → B) → ((a : A) → P a → f a ≡ g a)
    → (xs : List A) → AllByRecursion P xs → map f xs ≡ map g xs
same_map P f g same [] h = refl
same_map P f g same (x ∷ xs) h = ap₂ (λ y ys. y ∷ ys) (same x h.0) (same_map P f g same xs h.1)

nodes_down-same : (m n : ℕ) (d : Data) → depth d < m → depth d < n → nodes_down m d ≡ nodes_down n d
nodes_down-same zero n d h k = absurd (omega arith)
nodes_down-same (suc m) zero d h k = absurd (omega arith)
nodes_down-same (suc m) (suc n) d h k =
    ap (λ ds. d ∷ ds)
    (same_flat_map (λ c. depth c < depth d) (nodes_down m) (nodes_down n)
    (λ c s. nodes_down-same m n c (omega arith) (omega arith)) (contents_of d)
    (contents_of-shallow d))

-- a node, and then those of its contents
pub nodes_of-is : (d : Data) → nodes_of d ≡ d ∷ flat_map nodes_of (contents_of d)
unfolding nodes_of
nodes_of-is d =
    ap (λ ds. d ∷ ds)
    (same_flat_map (λ c. depth c < depth d) (nodes_down (depth d)) nodes_of
    (λ c s. nodes_down-same (depth d) (suc (depth c)) c s (omega arith)) (contents_of d)
    (contents_of-shallow d))

form_with-same : (d : Data) (f g : Data → FormTree) → ((c : Data) → depth c < depth d → f c ≡ g c)
    → (key : Option Name) (h : Head) → AllByRecursion (λ c. depth c < depth d) (contents h)
    → form_with f key h ≡ form_with g key h
form_with-same d f g same key empty s = refl
form_with-same d f g same key (numpy p inner) s = refl
form_with-same d f g same key (regular size c) s = ap (made.regular key size) (same c s.0)
form_with-same d f g same key (list p q c) s = ap (made.list key p q) (same c s.0)
form_with-same d f g same key (list_offset p c) s = ap (made.list_offset key p) (same c s.0)
form_with-same d f g same key (row names cs) s =
    ap (λ fs. made.row key names (forms_from fs)) (same_map (λ c. depth c < depth d) f g same cs s)
form_with-same d f g same key (indexed p c) s = ap (made.indexed key p) (same c s.0)
form_with-same d f g same key (indexed_option p c) s = ap (made.indexed_option key p) (same c s.0)
form_with-same d f g same key (byte_masked v c) s = ap (made.byte_masked key v) (same c s.0)
form_with-same d f g same key (bit_masked v l c) s = ap (made.bit_masked key v l) (same c s.0)
form_with-same d f g same key (unmasked c) s = ap (made.unmasked key) (same c s.0)
form_with-same d f g same key (union p cs) s =
    ap (λ fs. made.union key p (forms_from fs)) (same_map (λ c. depth c < depth d) f g same cs s)

form_said-same : (d : Data) (f g : Data → FormTree) → ((c : Data) → depth c < depth d → f c ≡ g c)
    → (r : Result Node FormWhy) → AllShallow d r → form_said f r ≡ form_said g r
form_said-same d f g same (Ok n) s = form_with-same d f g same n.key n.head s
form_said-same d f g same (Err e) s = refl

form_down-same : (m n : ℕ) (d : Data) → depth d < m → depth d < n → form_down m d ≡ form_down n d
form_down-same zero n d h k = absurd (omega arith)
form_down-same (suc m) zero d h k = absurd (omega arith)
form_down-same (suc m) (suc n) d h k = form_said-same d (form_down m) (form_down n)
    (λ c s. form_down-same m n c (omega arith) (omega arith)) (node_at d) (contents_of-shallow d)

-- what a node says, and the forms of its contents
pub form_of-is : (d : Data) → form_of d ≡ form_said form_of (node_at d)
unfolding form_of
form_of-is d = form_said-same d (form_down (depth d)) form_of
    (λ c s. form_down-same (depth d) (suc (depth c)) c s (omega arith)) (node_at d)
    (contents_of-shallow d)
