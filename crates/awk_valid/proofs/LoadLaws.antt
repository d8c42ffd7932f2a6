-- Loading: the limit of the type, and then the walk.
use Rattle.std.proofs.Common.{◌≡◌, ◌≤◌, ℕ, ◌+◌, ◌*◌, Option, Ok, sym, ap, ◌∙◌, subst, arith}
use Rattle.std.specs.Option.{option_map}
use Rattle.awk_types.specs.DataType.{DataType}
use Rattle.awk_types.specs.Gives.{Told, refused_or, ◌or◌}
use Rattle.awk_types.specs.IsType.{IsType}
use Rattle.awk_types.specs.Limit.{Limit, depth_limit, size_limit, limit, limit_told, within}
use Rattle.awk_types.specs.Simple.{simple, IsSimple}
use Rattle.awk_types.specs.declared.limit.TypeFault.{TypeFault}
use Rattle.awk_types.specs.declared.limit.TypeFault.TheVariants.{Depth, Size, NoMemory}
use Rattle.awk_types.proofs.RefusalLaws.{Told-later, refused_or-Ok, refused_or-Err}
use Rattle.awk_types.proofs.SimpleLaws.{simple_is_simple}
use Rattle.awk_types.proofs.TypeLaws.{simple_is_type}
use Rattle.awk_store.specs.Buffers.{held_len}
use Rattle.awk_layout.specs.Array.{IsTypeOf}
use Rattle.awk_layout.specs.Layout.{Layout, weight, height}
use Rattle.awk_layout.specs.Typing.{layout_type, array_type}
use Rattle.awk_layout.specs.Valid.{len, IsValid}
use Rattle.awk_layout.proofs.LayoutTypes.{layout_is_type}
use Rattle.awk_form.specs.FormTree.{FormTree}
use Rattle.awk_form.specs.FormType.{type_of}
use Rattle.awk_form.specs.Lawful.{IsLawful}
use Rattle.awk_valid.specs.Broken.{Refusal, broken, broken_from}
use Rattle.awk_valid.specs.Container.{Container}
use Rattle.awk_valid.specs.Loaded.{layout_of}
use Rattle.awk_valid.specs.Loading.{limited, refusal, loading, told, fault_of}
use Rattle.awk_form.specs.Measures as extent
use Rattle.awk_valid.specs.Walked.{Given, container_in, node_said, budget}
use Rattle.awk_valid.proofs.SizeLaws.{weight-layout_of, height-layout_of}
use Rattle.awk_valid.proofs.TypeLaws.{layout_type-layout_of}
use Rattle.awk_valid.proofs.ValidLaws.{broken-none}

-- the limit of the type is told first
told_limit : {A : Type 0} (e : TypeFault) (l : Option Limit) (b : Option Refusal) (t : DataType)
    (x : A) → Told (limit_told e) (refused_or l t)
    → Told (told (fault_of e)) (refused_or (option_map limited l or b) x)
told_limit Depth l b t x h =
    ap (λ p. refused_or (option_map limited p or b) x) (refused_or-Err l t depth_limit h)
told_limit Size l b t x h =
    ap (λ p. refused_or (option_map limited p or b) x) (refused_or-Err l t size_limit h)
told_limit NoMemory l b t x h = tt

pub load_type : {A : Type 0} (e : TypeFault) (f : FormTree) (n : ℕ) (c : Container) (x : A)
    → Told (limit_told e) (within (simple (type_of f)))
    → Told (told (fault_of e)) (refused_or (refusal f n c) x)
load_type e f n c x h =
    told_limit e (limit (simple (type_of f))) (broken f n c) (simple (type_of f)) x h

-- then the first break
pub load_walk : {A : Type 0} (o : Option Refusal) (f : FormTree) (n : ℕ) (t : Given) (s : DataType)
    (x : A) → within (simple (type_of f)) ≡ Ok s → Told o (node_said f 0 n t)
    → Told o (refused_or (refusal f n (container_in t)) x)
unfolding node_said
load_walk o f n t s x fits h =
    let none =
    ap (option_map limited)
    (refused_or-Ok (limit (simple (type_of f))) (simple (type_of f)) s fits).0 in
    Told-later o (option_map limited (limit (simple (type_of f)))) (broken f n (container_in t))
    (layout_of f n (container_in t)) x none h

pub load_made : (f : FormTree) (n : ℕ) (t : Given) (s : DataType) (x : Layout)
    → within (simple (type_of f)) ≡ Ok s → node_said f 0 n t ≡ Ok x
    → loading f n (container_in t) ≡ Ok x
unfolding node_said
load_made f n t s x fits said =
    let none =
    ap (option_map limited)
    (refused_or-Ok (limit (simple (type_of f))) (simple (type_of f)) s fits).0 in
    ap (λ b. refused_or (b or broken f n (container_in t)) (layout_of f n (container_in t))) none
    ∙ said

-- an array of the node has the type of the form
pub load_typ : (f : FormTree) (n : ℕ) (t : Given) (x : Layout) → node_said f 0 n t ≡ Ok x
    → array_type x ≡ simple (type_of f)
unfolding node_said
load_typ f n t x h =
    ap array_type
    (sym (refused_or-Ok (broken f n (container_in t)) (layout_of f n (container_in t)) x h).1)
    ∙ ap simple (layout_type-layout_of f n (container_in t))

-- so the type that was judged is that of the array
pub load_typed : (f : FormTree) (n : ℕ) (t : Given) (s : DataType) (x : Layout) → IsLawful f
    → within (simple (type_of f)) ≡ Ok s → node_said f 0 n t ≡ Ok x → IsTypeOf s x
unfolding node_said
load_typed f n t s x w fits h =
    let made = refused_or-Ok (broken f n (container_in t)) (layout_of f n (container_in t)) x h in
    let within_limits = refused_or-Ok (limit (simple (type_of f))) (simple (type_of f)) s fits in
    let valid = subst IsValid made.1 (broken-none f n (container_in t) w made.0).0 in
    let same : s ≡ array_type x = sym within_limits.1 ∙ sym (load_typ f n t x h) in
    record {
      typ = same;
      lawful = record {
        is_type = subst IsType (sym same) (simple_is_type (layout_type x) (layout_is_type x valid));
        is_simple = subst IsSimple (sym same) (simple_is_simple (layout_type x));
        within_limits = ap limit (sym within_limits.1) ∙ within_limits.0;
      };
    }

pub load_size : (f : FormTree) (n : ℕ) (t : Given) (x : Layout) → node_said f 0 n t ≡ Ok x
    → (weight x ≡ extent.width f) × (height x ≡ extent.height f)
unfolding node_said
load_size f n t x h =
    let is =
    (refused_or-Ok (broken_from f 0 n (container_in t))
    (layout_of f n (container_in t)) x h).1 in (
      ap weight (sym is) ∙ weight-layout_of f n (container_in t),
      ap height (sym is) ∙ height-layout_of f n (container_in t),
    )

-- and as many items as it was asked for
pub load_length : (f : FormTree) (n : ℕ) (t : Given) (x : Layout) → IsLawful f
    → node_said f 0 n t ≡ Ok x → len x ≡ n
unfolding node_said
load_length f n t x w h =
    let is =
    refused_or-Ok (broken_from f 0 n (container_in t)) (layout_of f n (container_in t)) x h in
    subst (λ y. len y ≡ n) is.1 (broken-none f n (container_in t) w is.0).1

pub load_cost : (w : ℕ) (t : Given) → budget w t ≤ 8 * (w + 1) * (held_len t.held + 1)
unfolding budget
load_cost w t = omega arith
