-- What a node's own part and its contents say of the node.
use Rattle.std.proofs.Common.{◌≡◌, ◌<◌, ◌≤◌, ℕ, suc, ◌+◌, ◌*◌, List, [], ◌∷◌, ◌++◌, length, get_or}
use Rattle.std.proofs.Common.{drop, slice_get, Option, Some, None, Result, Ok, refl, sym, ap, ap₂}
use Rattle.std.proofs.Common.{◌∙◌, subst, arith, append_assoc, codes}
use Rattle.std.proofs.lemmas.List.{drop_more, drop_all, append-nil, get_or_default}
use Rattle.std.proofs.lemmas.List.FromFn.{get_or-map-range_with_len, length-map-range_with_len}
use Rattle.std.proofs.lemmas.Option.{slice_get_within, get_or_from_slice_get}
use Rattle.std.specs.Global.{Vec}
use Rattle.awk_types.proofs.RefusalLaws.{Told-first, refused_or-Ok, or-None, or-last, or-assoc}
use Rattle.awk_types.specs.Gives.{Gives, Told, refused_or, ◌or◌}
use Rattle.awk_store.specs.Buffers.{held_len}
use Rattle.awk_layout.specs.Layout as made
use Rattle.awk_layout.specs.Layout.{Layout, Layouts, layouts_from, layout_list}
use Rattle.awk_layout.specs.Valid.{IsValid}
use Rattle.awk_form.specs.FormTree.{FormTree, empty, numpy, regular, list, list_offset, row}
use Rattle.awk_form.specs.FormTree.{indexed, indexed_option, byte_masked, bit_masked, unmasked}
use Rattle.awk_form.specs.FormTree.{union, FormTrees, no_forms, form, form_list, forms_from}
use Rattle.awk_form.specs.FormTree.{contents_of}
use Rattle.awk_form.specs.FormText.{key_of}
use Rattle.awk_form.specs.Lawful.{count, IsLawful, AreLawful}
use Rattle.awk_form.specs.Measures.{inner_shape, nodes, nodes_of, width, width_of}
use Rattle.awk_form.specs.Induction.{width-contents}
use Rattle.awk_valid.specs.Container.{Container, index_at, int8s_at}
use Rattle.awk_valid.specs.Needs.{buffer_needs, content_length}
use Rattle.awk_valid.specs.Loaded.{layout_of, layouts_of}
use Rattle.awk_valid.specs.Broken.{Refusal, size_break, shape_break, buffers_break, places_break}
use Rattle.awk_valid.specs.Broken.{node_break, broken_from, all_broken_from}
use Rattle.awk_valid.specs.Parts.{lengths_of, own_of, over}
use Rattle.awk_valid.specs.Walked.{Given, container_in, node_said, product_break, own_break}
use Rattle.awk_valid.specs.Walked.{own_said, GivesOwn, rest, left_said, budget}
use Rattle.awk_valid.specs.Loading.{told}
use Rattle.awk_valid.specs.declared.fault.LoadFault.{LoadFault}
use Rattle.awk_valid.specs.declared.own.Own.{Own}
use Rattle.awk_valid.proofs.ValidLaws.{layout_of-valid}

-- ---- steps

-- a node takes the steps of its own part, of its contents, and two more
budget-node : (own w : ℕ) (t : Given)
    → 4 * held_len t.held + own + 3 + budget w t ≤ budget (own + 1 + w) t
unfolding budget
budget-node own w t = omega arith

budget-sum : (v w : ℕ) (t : Given) → budget (v + w) t ≡ budget v t + budget w t
unfolding budget
budget-sum v w t = omega arith

-- the numbers of its own inner shape come first
width-split : (f : FormTree) → width f ≡ length (inner_shape f) + 1 + width_of (contents_of f)
width-split f = omega (arith, width-contents f)

-- the steps of its own part leave enough for its contents
pub steps-own : (f : FormTree) (t : Given) (first now : ℕ)
    → now ≤ first + 4 * held_len t.held + length (inner_shape f) + 1
    → now + 2 + budget (width_of (contents_of f)) t ≤ first + budget (width f) t
steps-own f t first now h =
    omega (
      arith,
      h,
      ap (λ w. budget w t) (width-split f),
      budget-node (length (inner_shape f)) (width_of (contents_of f)) t,
    )

-- so they are within those of the node
pub steps-within : (now left all : ℕ) → now + 2 + left ≤ all → now ≤ all
steps-within now left all h = omega (arith, h)

-- ---- a node is its own part over its contents

forms_from-list : (fs : FormTrees) → forms_from (form_list fs) ≡ fs
forms_from-list no_forms = refl
forms_from-list (form f fs) = ap (form f) (forms_from-list fs)

layouts_from-list : (xs : Layouts) → layouts_from (layout_list xs) ≡ xs
layouts_from-list made.no_layouts = refl
layouts_from-list (made.layout x xs) = ap (made.layout x) (layouts_from-list xs)

pub lawful-over : (f : FormTree) → IsLawful f → AreLawful (contents_of f)
lawful-over (empty key) w = tt
lawful-over (numpy key prim inner) w = tt
lawful-over (regular key size f) w = (w, tt)
lawful-over (list key j k f) w = (w.1, tt)
lawful-over (list_offset key k f) w = (w.1, tt)
lawful-over (row key names fs) w = w.1
lawful-over (indexed key k f) w = (w.1, tt)
lawful-over (indexed_option key k f) w = (w.2, tt)
lawful-over (byte_masked key v f) w = (w.1, tt)
lawful-over (bit_masked key v o f) w = (w.1, tt)
lawful-over (unmasked key f) w = (w, tt)
lawful-over (union key k fs) w = w.3

layout-over : (f : FormTree) (n : ℕ) (c : Container)
    → layout_of f n c
    ≡ over n (own_of f n c) (layout_list (layouts_of (contents_of f) (content_length f n c) c))
layout-over (empty key) n c = refl
layout-over (numpy key prim inner) n c = refl
layout-over (regular key size f) n c = refl
layout-over (list key j k f) n c = refl
layout-over (list_offset key k f) n c = refl
layout-over (row key names fs) n c =
    ap (made.rows names n)
    (sym (layouts_from-list (layouts_of fs (content_length (row key names fs) n c) c)))
layout-over (indexed key k f) n c = refl
layout-over (indexed_option key k f) n c = refl
layout-over (byte_masked key v f) n c = refl
layout-over (bit_masked key v o f) n c = refl
layout-over (unmasked key f) n c = refl
layout-over (union key k fs) n c =
    ap (made.union (int8s_at c key (codes "tags") n) (index_at c key (codes "index") k n))
    (sym (layouts_from-list (layouts_of fs (content_length (union key k fs) n c) c)))

broken-over : (f : FormTree) (m n : ℕ) (c : Container)
    → broken_from f m n c
    ≡ (node_break f m n c or all_broken_from (contents_of f) (m + 1) (content_length f n c) c)
broken-over (empty key) m n c = sym (or-last (node_break (empty key) m n c))
broken-over (numpy key prim inner) m n c = sym (or-last (node_break (numpy key prim inner) m n c))
broken-over (regular key size f) m n c =
    ap (λ b. node_break (regular key size f) m n c or b) (sym (or-last _))
broken-over (list key j k f) m n c =
    ap (λ b. node_break (list key j k f) m n c or b) (sym (or-last _))
broken-over (list_offset key k f) m n c =
    ap (λ b. node_break (list_offset key k f) m n c or b) (sym (or-last _))
broken-over (row key names fs) m n c = refl
broken-over (indexed key k f) m n c =
    ap (λ b. node_break (indexed key k f) m n c or b) (sym (or-last _))
broken-over (indexed_option key k f) m n c =
    ap (λ b. node_break (indexed_option key k f) m n c or b) (sym (or-last _))
broken-over (byte_masked key v f) m n c =
    ap (λ b. node_break (byte_masked key v f) m n c or b) (sym (or-last _))
broken-over (bit_masked key v o f) m n c =
    ap (λ b. node_break (bit_masked key v o f) m n c or b) (sym (or-last _))
broken-over (unmasked key f) m n c =
    ap (λ b. node_break (unmasked key f) m n c or b) (sym (or-last _))
broken-over (union key k fs) m n c = refl

-- ---- too many items

first_some : (a b : Option Refusal) (x : Refusal) → a ≡ Some x → (a or b) ≡ Some x
first_some a b x e = ap (λ z. z or b) e

-- a node of too many items is refused, whatever its class
shape-many : (inner : List ℕ) (n : ℕ) (r : Refusal) → size_break n ≡ Some r
    → shape_break n inner ≡ Some r
shape-many [] n r e = e
shape-many (k ∷ ks) n r e = first_some (size_break n) (shape_break (n * k) ks) r e

many-below : (f : FormTree) (m n : ℕ) (c : Container) (r : Refusal) → size_break n ≡ Some r
    → broken_from f m n c ≡ Some r
many-below f m n c r e =
    broken-over f m n c
    ∙ first_some (node_break f m n c)
    (all_broken_from (contents_of f) (m + 1) (content_length f n c) c) r
    (first_some (shape_break n (inner_shape f))
    (buffers_break c (key_of f) (buffer_needs f n) or places_break f m n c) r
    (shape-many (inner_shape f) n r e))

-- so its size may be judged before it
judged-before : (f : FormTree) (m n : ℕ) (c : Container) (b : Option Refusal)
    → (broken_from f m n c or b) ≡ (size_break n or (broken_from f m n c or b))
judged-before f m n c b = by (size_break n) refl
  where
    by : (s : Option Refusal) → size_break n ≡ s
        → (broken_from f m n c or b) ≡ (s or (broken_from f m n c or b))
    by None e = refl
    by (Some r) e = first_some (broken_from f m n c) b r (many-below f m n c r e)

product-before : (f : FormTree) (m n : ℕ) (c : Container)
    → all_broken_from (contents_of f) m (content_length f n c) c
    ≡ (product_break f n or all_broken_from (contents_of f) m (content_length f n c) c)
product-before (empty key) m n c = refl
product-before (numpy key prim inner) m n c = refl
product-before (regular key size f) m n c = judged-before f m (n * size) c None
product-before (list key j k f) m n c = refl
product-before (list_offset key k f) m n c = refl
product-before (row key names fs) m n c = refl
product-before (indexed key k f) m n c = refl
product-before (indexed_option key k f) m n c = refl
product-before (byte_masked key v f) m n c = refl
product-before (bit_masked key v o f) m n c = refl
product-before (unmasked key f) m n c = refl
product-before (union key k fs) m n c = refl

own-over : (f : FormTree) (m n : ℕ) (c : Container)
    → broken_from f m n c
    ≡ (own_break f m n c or all_broken_from (contents_of f) (m + 1) (content_length f n c) c)
own-over f m n c =
    broken-over f m n c ∙ ap (λ b. node_break f m n c or b) (product-before f (m + 1) n c)
    ∙ sym
    (or-assoc (node_break f m n c) (product_break f n)
    (all_broken_from (contents_of f) (m + 1) (content_length f n c) c))

-- ---- what is told

pub own-said : (g f : FormTree) (m n : ℕ) (t : Given) (r : Result (Own × Vec ℕ) LoadFault) → g ≡ f
    → GivesOwn f m n t r
    → Gives {Y = Own × List ℕ} (λ x. (x.0, x.1.items)) told r (own_said g m n t)
unfolding own_said
own-said g f m n t r e h = subst (λ k. GivesOwn k m n t r) (sym e) h

-- a node is told with its own break first
pub told-own : (o : Option Refusal) (f : FormTree) (m n : ℕ) (t : Given) → Told o (own_said f m n t)
    → Told o (node_said f m n t)
unfolding node_said own_said
told-own o f m n t h =
    let c = container_in t in
    subst (λ b. Told o (refused_or b (layout_of f n c))) (sym (own-over f m n c))
    (Told-first o (own_break f m n c)
    (all_broken_from (contents_of f) (m + 1) (content_length f n c) c)
    (own_of f n c, lengths_of f n c) (layout_of f n c) h)

-- at first all contents are left
pub rest-all : (f : FormTree) → rest f 0 ≡ contents_of f
rest-all f = forms_from-list (contents_of f)

-- the node over the layouts so far and those of forms from node j on, of these lengths, or the
-- first break of these forms
unfoldable over_said : ℕ → Own → List Layout → FormTrees → ℕ → (ℕ → ℕ) → Container
    → Result Layout Refusal
over_said n own xs gs j lengths c =
    refused_or (all_broken_from gs j lengths c)
    (over n own (xs ++ layout_list (layouts_of gs lengths c)))

-- where the node has no break of its own, it is so over its contents
said-over : (f : FormTree) (m n : ℕ) (c : Container) → own_break f m n c ≡ None
    → refused_or (broken_from f m n c) (layout_of f n c)
    ≡ over_said n (own_of f n c) [] (contents_of f) (m + 1) (content_length f n c) c
unfolding over_said
said-over f m n c none =
    ap₂ refused_or
    (own-over f m n c
    ∙ or-None (own_break f m n c)
    (all_broken_from (contents_of f) (m + 1) (content_length f n c) c) none) (layout-over f n c)

-- where there is none, all its contents are left
pub left-all : (f : FormTree) (m n : ℕ) (t : Given) (own : Own) (lengths : List ℕ)
    → own_said f m n t ≡ Ok (own, lengths)
    → (node_said f m n t ≡ left_said f n 0 (m + 1) [] t)
    × (own_of f n (container_in t) ≡ own) × (lengths_of f n (container_in t) ≡ lengths)
unfolding node_said own_said left_said over_said
left-all f m n t own lengths h =
    let said =
    refused_or-Ok (own_break f m n (container_in t))
    (own_of f n (container_in t), lengths_of f n (container_in t)) (own, lengths) h in
    let from_zero : (k : ℕ) → k ≡ 0 + k = λ k. omega arith in (
      said-over f m n (container_in t) said.0
          ∙ (λ p. over_said n (own_of f n (container_in t)) [] (sym (rest-all f) p) (m + 1)
          (λ k. content_length f n (container_in t) (from_zero k p)) (container_in t)),
      ap (λ q. q.0) said.1,
      ap (λ q. q.1) said.1,
    )

-- there are as many lengths as contents
pub own-count : (f : FormTree) (m n : ℕ) (t : Given) (own : Own) (lengths : List ℕ)
    → own_said f m n t ≡ Ok (own, lengths) → length lengths ≡ count (contents_of f)
own-count f m n t own lengths h =
    ap length (sym (left-all f m n t own lengths h).2)
    ∙ length-map-range_with_len (content_length f n (container_in t)) 0 (count (contents_of f))

-- and that of a content is the one that is told of it
pub own-length : (f : FormTree) (m n : ℕ) (t : Given) (own : Own) (lengths : List ℕ) (i size : ℕ)
    → own_said f m n t ≡ Ok (own, lengths) → i < count (contents_of f)
    → size ≡ get_or lengths i size → size ≡ content_length f n (container_in t) i
own-length f m n t own lengths i size h within read =
    let told = content_length f n (container_in t) in
    let counted = own-count f m n t own lengths h in
    read ∙ get_or_default lengths i size 0 (omega (arith, counted, within))
    ∙ ap (λ ls. get_or ls i 0) (sym (left-all f m n t own lengths h).2)
    ∙ get_or-map-range_with_len told 0 (count (contents_of f)) i i 0 within (omega arith)

-- what is left begins with the content at the place
rest-first : (f g : FormTree) (i : ℕ) → slice_get (form_list (contents_of f)) i ≡ Some g
    → rest f i ≡ form g (rest f (i + 1))
rest-first f g i at =
    let gs = form_list (contents_of f) in
    ap forms_from
    (drop_more gs i g (slice_get_within gs i g at)
    ∙ ap (λ y. y ∷ drop (i + 1) gs) (get_or_from_slice_get gs i g g at))

pub rest-lawful : (f g : FormTree) (i : ℕ) → slice_get (form_list (contents_of f)) i ≡ Some g
    → AreLawful (rest f i) → IsLawful g × AreLawful (rest f (i + 1))
rest-lawful f g i at h = subst AreLawful (rest-first f g i at) h

pub rest-nodes : (f g : FormTree) (i : ℕ) → slice_get (form_list (contents_of f)) i ≡ Some g
    → nodes_of (rest f i) ≡ nodes g + nodes_of (rest f (i + 1))
rest-nodes f g i at = ap nodes_of (rest-first f g i at)

rest-budget : (f g : FormTree) (i : ℕ) (t : Given)
    → slice_get (form_list (contents_of f)) i ≡ Some g
    → budget (width_of (rest f i)) t ≡ budget (width g) t + budget (width_of (rest f (i + 1))) t
rest-budget f g i t at =
    ap (λ gs. budget (width_of gs) t) (rest-first f g i at)
    ∙ budget-sum (width g) (width_of (rest f (i + 1))) t

-- the steps of that content leave enough for those behind it
pub steps-next : (f g : FormTree) (i : ℕ) (t u : Given) (all now later : ℕ)
    → slice_get (form_list (contents_of f)) i ≡ Some g → u ≡ t
    → now + 2 + budget (width_of (rest f i)) t ≤ all → later ≤ now + budget (width g) u
    → later + 2 + budget (width_of (rest f (i + 1))) t ≤ all
steps-next f g i t u all now later at same h l =
    omega (arith, h, l, ap (budget (width g)) same, rest-budget f g i t at)

-- at first the steps of all contents are left
pub steps-first : (f : FormTree) (t : Given) (first now : ℕ)
    → now ≤ first + 4 * held_len t.held + length (inner_shape f) + 1
    → now + 2 + budget (width_of (rest f 0)) t ≤ first + budget (width f) t
steps-first f t first now h =
    omega (arith, steps-own f t first now h, ap (λ gs. budget (width_of gs) t) (rest-all f))

-- and behind the last none
pub rest-none : (f : FormTree) (i : ℕ) → length (form_list (contents_of f)) ≤ i
    → rest f i ≡ no_forms
rest-none f i past = ap forms_from (drop_all i (form_list (contents_of f)) past)

-- of forms, the first is told first
over-told : (o : Option Refusal) (n : ℕ) (own : Own) (xs : List Layout) (g : FormTree)
    (gs : FormTrees) (j : ℕ) (lengths : ℕ → ℕ) (c : Container)
    → Told o (refused_or (broken_from g j (lengths 0) c) (layout_of g (lengths 0) c))
    → Told o (over_said n own xs (form g gs) j lengths c)
unfolding over_said
over-told o n own xs g gs j lengths c h =
    Told-first o (broken_from g j (lengths 0) c)
    (all_broken_from gs (j + nodes g) (λ k. lengths (suc k)) c) (layout_of g (lengths 0) c)
    (over n own (xs ++ layout_list (layouts_of (form g gs) lengths c))) h

-- where it is there it joins the layouts so far
made-joins : (b later : Option Refusal) (n : ℕ) (own : Own) (xs others : List Layout)
    (y x : Layout) → refused_or b y ≡ Ok x
    → refused_or (b or later) (over n own (xs ++ y ∷ others))
    ≡ refused_or later (over n own ((xs ++ x ∷ []) ++ others))
made-joins b later n own xs others y x h =
    let said = refused_or-Ok b y x h in
    ap₂ (λ a z. refused_or (a or later) (over n own (xs ++ z ∷ others))) said.0 said.1
    ∙ ap (λ zs. refused_or later (over n own zs)) (sym (append_assoc xs (x ∷ []) others))

over-next : (n : ℕ) (own : Own) (xs : List Layout) (g : FormTree) (gs : FormTrees) (j : ℕ)
    (lengths : ℕ → ℕ) (c : Container) (x : Layout)
    → refused_or (broken_from g j (lengths 0) c) (layout_of g (lengths 0) c) ≡ Ok x
    → over_said n own xs (form g gs) j lengths c
    ≡ over_said n own (xs ++ x ∷ []) gs (j + nodes g) (λ k. lengths (suc k)) c
unfolding over_said
over-next n own xs g gs j lengths c x h =
    made-joins (broken_from g j (lengths 0) c)
    (all_broken_from gs (j + nodes g) (λ k. lengths (suc k)) c) n own xs
    (layout_list (layouts_of gs (λ k. lengths (suc k)) c)) (layout_of g (lengths 0) c) x h

-- behind the last there is nothing
over-none : (n : ℕ) (own : Own) (xs : List Layout) (j : ℕ) (lengths : ℕ → ℕ) (c : Container)
    → over_said n own xs no_forms j lengths c ≡ Ok (over n own xs)
unfolding over_said
over-none n own xs j lengths c = ap (λ ys. Ok (over n own ys)) (append-nil xs)

-- what is left of a node, as what is told of these forms
left-rest : (f : FormTree) (gs : FormTrees) (n i j : ℕ) (xs : List Layout) (t : Given)
    → rest f i ≡ gs
    → left_said f n i j xs t
    ≡ over_said n (own_of f n (container_in t)) xs gs j
    (λ k. content_length f n (container_in t) (i + k)) (container_in t)
unfolding left_said over_said
left-rest f gs n i j xs t is =
    ap
    (λ hs. over_said n (own_of f n (container_in t)) xs hs j
    (λ k. content_length f n (container_in t) (i + k)) (container_in t)) is

-- a node of the length that is told of a place
said-at : (f g : FormTree) (n i j size : ℕ) (t u : Given)
    → size ≡ content_length f n (container_in t) i → u ≡ t
    → node_said g j size u ≡ node_said g j (content_length f n (container_in t) (i + 0)) t
said-at f g n i j size t u long same =
    let here : i ≡ i + 0 = omega arith in
    ap₂ (λ s v. node_said g j s v) (long ∙ ap (content_length f n (container_in t)) here) same

-- a fault of that content
pub left-told : (o : Option Refusal) (f g : FormTree) (n i j size : ℕ) (xs : List Layout)
    (t u : Given) → slice_get (form_list (contents_of f)) i ≡ Some g
    → size ≡ content_length f n (container_in t) i → u ≡ t → Told o (node_said g j size u)
    → Told o (left_said f n i j xs t)
unfolding node_said
left-told o f g n i j size xs t u at long same h =
    subst (Told o) (sym (left-rest f (form g (rest f (i + 1))) n i j xs t (rest-first f g i at)))
    (over-told o n (own_of f n (container_in t)) xs g (rest f (i + 1)) j
    (λ k. content_length f n (container_in t) (i + k)) (container_in t)
    (subst (Told o) (said-at f g n i j size t u long same) h))

-- that content is there
pub left-next : (f g : FormTree) (n i j k size : ℕ) (xs ys : List Layout) (x : Layout) (t u : Given)
    → slice_get (form_list (contents_of f)) i ≡ Some g
    → size ≡ content_length f n (container_in t) i → u ≡ t
    → node_said g j size u ≡ Ok x → k ≡ j + nodes g → ys ≡ xs ++ x ∷ []
    → left_said f n i j xs t ≡ left_said f n (i + 1) k ys t
unfolding node_said
left-next f g n i j k size xs ys x t u at long same h next pushed =
    let later : (l : ℕ) → i + suc l ≡ i + 1 + l = λ l. omega arith in
    left-rest f (form g (rest f (i + 1))) n i j xs t (rest-first f g i at)
    ∙ over-next n (own_of f n (container_in t)) xs g (rest f (i + 1)) j
    (λ l. content_length f n (container_in t) (i + l)) (container_in t) x
    (sym (said-at f g n i j size t u long same) ∙ h)
    ∙ (λ p. over_said n (own_of f n (container_in t)) (sym pushed p) (rest f (i + 1)) (sym next p)
    (λ l. content_length f n (container_in t) (later l p)) (container_in t))
    ∙ sym (left-rest f (rest f (i + 1)) n (i + 1) k ys t refl)

-- all contents are there
pub left-none : (f : FormTree) (n i j : ℕ) (xs : List Layout) (t : Given)
    → length (form_list (contents_of f)) ≤ i
    → left_said f n i j xs t ≡ Ok (over n (own_of f n (container_in t)) xs)
left-none f n i j xs t past =
    left-rest f no_forms n i j xs t (rest-none f i past)
    ∙ over-none n (own_of f n (container_in t)) xs j
    (λ k. content_length f n (container_in t) (i + k)) (container_in t)

-- a node that is told is valid
pub said-valid : (f : FormTree) (m n : ℕ) (t : Given) (x : Layout) → IsLawful f
    → node_said f m n t ≡ Ok x → IsValid x
unfolding node_said
said-valid f m n t x w h =
    let said =
    refused_or-Ok (broken_from f m n (container_in t)) (layout_of f n (container_in t)) x h in
    subst IsValid said.1 (layout_of-valid f m n (container_in t) w said.0).0
