-- The lanes of a frame fit what is made below them.
use Rattle.std.proofs.Common.{◌≡◌, ℕ, ◌-◌, Box, Global, refl, ap, sym, subst, ◌∙◌}
use Rattle.std.specs.Prelude.{List, map, Option, Result, IfOk}
use Rattle.std.specs.List.{AllByRecursion}
use Rattle.awk_base.proofs.Results.{if_ok}
use Rattle.awk_types.specs.DataType.{DataType}
use Rattle.awk_types.specs.Has.{Has}
use Rattle.awk_types.specs.Value.{Value}
use Rattle.awk_lanes.specs.Column.{Column}
use Rattle.awk_lanes.specs.Places.{size_of, IsOptionKind, IsOptionalIndex}
use Rattle.awk_layout.specs.Layout.{Layout, optional}
use Rattle.awk_layout.specs.Typing.{array_type, array_items}
use Rattle.awk_layout.specs.Valid.{len}
use Rattle.awk_columns.specs.Joined.{AreOffsets}
use Rattle.awk_columns.specs.ListNode.{list_layout}
use Rattle.awk_frames.specs.Framed.{IsFrame, IsAlike, places, framed_layout, over, over_type}
use Rattle.awk_frames.specs.Shape.{Shape, items, missing, numbers_of, shape, ends as ends_by}
use Rattle.awk_frames.specs.View.{shape_of}
use Rattle.awk_frames.specs.declared.frame.Frame.{Frame, Leaf, Items, Missing}
use Rattle.awk_frames.proofs.AlikeNodes.{alike-lists, alike-options, numbers_fit}
use Rattle.awk_frames.proofs.FramedItems.{len-framed, items-framed, type-framed}
use Rattle.awk_frames.proofs.Views.{shape_of-Leaf, shape_of-Items, shape_of-Missing}

frame_len : (s : Shape) (n : ℕ) (ends content : Layout) → n ≡ len ends → IsFrame s n
    → IsAlike (framed_layout s ends) content → places s ≡ len content
frame_len s n ends content e h f =
    sym (f.size ∙ len-framed s ends (subst (λ m. IsFrame s m) e h))

-- what is made below
below_alike : (below : Frame) (b : Box Frame Global) (ends content : Layout) → below ≡ b.value
    → IsAlike (framed_layout (shape_of below) ends) content
    → IsAlike (framed_layout (shape_of b.value) ends) content
below_alike below b ends content d f =
    subst (λ w. IsAlike (framed_layout (shape_of w) ends) content) d f

-- ---- lists

items_frame : (shape : Frame) (o : Column) (c : Option ℕ) (b : Box Frame Global) (n : ℕ)
    → shape ≡ Items o c b → IsFrame (shape_of shape) n → IsFrame (items o c (shape_of b.value)) n
items_frame shape o c b n e h =
    subst (λ s. IsFrame s n) (ap shape_of e ∙ shape_of-Items o c b) h

pub items_fit : (shape below : Frame) (o p : Column) (c : Option ℕ) (b : Box Frame Global)
    (ends content : Layout) → shape ≡ Items o c b → below ≡ b.value
    → IsFrame (shape_of shape) (len ends)
    → IsAlike (framed_layout (shape_of below) ends) content → p ≡ o
    → AreOffsets p (size_of p - 1) (len content)
items_fit shape below o p c b ends content e d h f q =
    let g : IsFrame (items o c (shape_of b.value)) (len ends) =
    items_frame shape o c b (len ends) e h in
    subst (λ r. AreOffsets r (size_of r - 1) (len content)) (sym q)
    (subst (λ m. AreOffsets o (size_of o - 1) m)
    (frame_len (shape_of b.value) (len ends) ends content refl g.2
    (below_alike below b ends content d f)) g.0)

pub items_alike : {E : Type 0} (shape below : Frame) (o p : Column) (c : Option ℕ)
    (b : Box Frame Global) (ends content : Layout) (r : Result Layout E) → shape ≡ Items o c b
    → below ≡ b.value → IsFrame (shape_of shape) (len ends)
    → IsAlike (framed_layout (shape_of below) ends) content → p ≡ o
    → IfOk r (λ y. y ≡ list_layout c (size_of p - 1) p content)
    → IfOk r (IsAlike (framed_layout (shape_of shape) ends))
items_alike shape below o p c b ends content r e d h f q u =
    let s : Shape = shape_of b.value in
    let n : ℕ = size_of o - 1 in
    let g : IsFrame (items o c s) (len ends) = items_frame shape o c b (len ends) e h in
    let whole : shape_of shape ≡ items o c s = ap shape_of e ∙ shape_of-Items o c b in
    if_ok (λ y. y ≡ list_layout c (size_of p - 1) p content)
    (IsAlike (framed_layout (shape_of shape) ends)) r
    (λ y k. subst (λ w. IsAlike (framed_layout w ends) y) (sym whole)
    (subst (IsAlike (list_layout c n o (framed_layout s ends)))
    (sym (k ∙ ap (λ w. list_layout c (size_of w - 1) w content) q))
    (alike-lists c o (framed_layout s ends) content
    (subst (AreOffsets o n) (sym (len-framed s ends g.2)) g.0) g.1
    (below_alike below b ends content d f)))) u

-- ---- options

missing_frame : (shape : Frame) (j : Column) (b : Box Frame Global) (n : ℕ)
    → shape ≡ Missing j b → IsFrame (shape_of shape) n → IsFrame (missing j (shape_of b.value)) n
missing_frame shape j b n e h =
    subst (λ s. IsFrame s n) (ap shape_of e ∙ shape_of-Missing j b) h

pub missing_fit : (shape below : Frame) (j p : Column) (b : Box Frame Global)
    (ends content : Layout) → shape ≡ Missing j b → below ≡ b.value
    → IsFrame (shape_of shape) (len ends)
    → IsAlike (framed_layout (shape_of below) ends) content → IsOptionKind p.kind
    → numbers_of p ≡ j → IsOptionalIndex p (len content)
missing_fit shape below j p b ends content e d h f t q =
    let g : IsFrame (missing j (shape_of b.value)) (len ends) =
    missing_frame shape j b (len ends) e h in
    numbers_fit j p (len content)
    (subst (λ m. IsOptionalIndex j m)
    (frame_len (shape_of b.value) (len ends) ends content refl g.2
    (below_alike below b ends content d f)) g.1) t q

pub missing_alike : (shape below : Frame) (j p : Column) (b : Box Frame Global)
    (ends content y : Layout) → shape ≡ Missing j b → below ≡ b.value
    → IsFrame (shape_of shape) (len ends)
    → IsAlike (framed_layout (shape_of below) ends) content → IsOptionKind p.kind
    → numbers_of p ≡ j → y ≡ optional p content
    → IsAlike (framed_layout (shape_of shape) ends) y
missing_alike shape below j p b ends content y e d h f t q k =
    let s : Shape = shape_of b.value in
    let g : IsFrame (missing j s) (len ends) = missing_frame shape j b (len ends) e h in
    let whole : shape_of shape ≡ missing j s = ap shape_of e ∙ shape_of-Missing j b in
    subst (λ w. IsAlike (framed_layout w ends) y) (sym whole)
    (subst (IsAlike (optional j (framed_layout s ends))) (sym k)
    (alike-options j p (framed_layout s ends) content
    (subst (IsOptionalIndex j) (sym (len-framed s ends g.2)) g.1) t q
    (below_alike below b ends content d f)))

-- ---- ends

pub leaf_alike : (shape : Frame) (n : ℕ) (ends : Layout) → shape ≡ Leaf n
    → IsAlike (framed_layout (shape_of shape) ends) ends
leaf_alike shape n ends e =
    subst (λ w. IsAlike (framed_layout w ends) ends) (sym (ap shape_of e ∙ shape_of-Leaf n))
    (record { size = refl; typ = refl; items = refl })

-- ---- what `framed` answers, by what it makes

pub under_items : {E : Type 0} (s : Shape) (ends : Layout) (r : Result Layout E)
    → IsFrame s (len ends) → IfOk r (IsAlike (framed_layout s ends))
    → (t : DataType) (f : Value → Value) (vs : List Value) → AllByRecursion (Has t) vs
    → s ≡ shape t vs → array_items ends ≡ map f (ends_by t vs)
    → IfOk r (λ y. array_items y ≡ map (over t f) vs)
under_items s ends r h u t f vs has e i =
    if_ok (IsAlike (framed_layout s ends)) (λ y. array_items y ≡ map (over t f) vs) r
    (λ y k. k.items ∙ ap (λ w. array_items (framed_layout w ends)) e
    ∙ items-framed t f vs (len ends) ends has (subst (λ w. IsFrame w (len ends)) e h) i) u

pub under_type : {E : Type 0} (s : Shape) (ends : Layout) (r : Result Layout E)
    → IfOk r (IsAlike (framed_layout s ends)) → (t : DataType) (vs : List Value) → s ≡ shape t vs
    → IfOk r (λ y. array_type y ≡ over_type t (array_type ends))
under_type s ends r u t vs e =
    if_ok (IsAlike (framed_layout s ends)) (λ y. array_type y ≡ over_type t (array_type ends)) r
    (λ y k. k.typ ∙ ap (λ w. array_type (framed_layout w ends)) e ∙ type-framed t vs ends) u

pub under_size : {E : Type 0} (s : Shape) (ends : Layout) (r : Result Layout E)
    → IsFrame s (len ends) → IfOk r (IsAlike (framed_layout s ends))
    → IfOk r (λ y. len y ≡ places s)
under_size s ends r h u =
    if_ok (IsAlike (framed_layout s ends)) (λ y. len y ≡ places s) r
    (λ y k. k.size ∙ len-framed s ends h) u
