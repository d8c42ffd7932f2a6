-- Lists that data share, among those that are counted of what they are zipped to.
use Rattle.std.proofs.Common.{◌≡◌, ℕ, zero, suc, ◌-◌, ◌==◌, Bool, true, false, refl, ap, arith}
use Rattle.std.proofs.Common.{sym, ◌∙◌}
use Rattle.std.specs.Prelude.{List, filter, length, Option, Some, None, if◌then◌else◌}
use Rattle.awk_types.specs.DataType.{DataType, opt}
use Rattle.awk_types.specs.Gives.{◌or◌}
use Rattle.awk_types.specs.ItemLimit.{too_many}
use Rattle.awk_types.specs.Simple.{option_if, option_of}
use Rattle.awk_types.specs.Value.{Value}
use Rattle.awk_types.specs.declared.fault.Fault.{Fault}
use Rattle.awk_types.specs.declared.fault.Fault.TheVariants.{Size}
use Rattle.awk_columns.specs.Columns.{joined_items, is_present}
use Rattle.awk_columns.specs.ListClass.{Class, list_type}
use Rattle.awk_frames.specs.Framed.{over_type}
use Rattle.awk_frames.specs.Sizes.{levels_refused}
use Rattle.awk_frames.proofs.FrameLaws.{over_type-list}
use Rattle.awk_pair_operands.specs.Paired.{to_depth, end_type, paired_type}
use Rattle.awk_pair_sides.specs.Levels.{opens, some_option, item_types, level_class}
use Rattle.awk_zip.specs.Counted.{lists_refused, inside}

pub list-refused : (k : ℕ) (c : Class) (t : DataType) (vs : List Value)
    → lists_refused k (list_type c t) vs
    ≡ (if k == 0 then None else inside (lists_refused (k - 1) t) vs)
list-refused k None t vs = refl
list-refused k (Some n) t vs = refl

or_size : (f g h : Option Fault) → (g ≡ Some Size → h ≡ Some Size) → f or g ≡ Some Size
    → f or h ≡ Some Size
or_size None g h e q = e q
or_size (Some x) g h e q = q

levels-list : (c : Class) (p : DataType) (vs : List Value)
    → levels_refused (list_type c p) vs
    ≡ too_many (length (joined_items vs)) or levels_refused p (joined_items vs)
levels-list None p vs = refl
levels-list (Some n) p vs = refl

-- one level, from those below
list_counted : (c : Class) (k d : ℕ) (p q : DataType) (vs : List Value) → k - 1 ≡ d
    → (k == 0) ≡ false
    → ((ws : List Value) → levels_refused p ws ≡ Some Size → lists_refused d q ws ≡ Some Size)
    → levels_refused (list_type c p) vs ≡ Some Size → lists_refused k (list_type c q) vs ≡ Some Size
list_counted c k d p q vs f e h g =
    list-refused k c q vs
    ∙ ap (λ b. if b then None else inside (lists_refused (k - 1) q) vs) e
    ∙ ap (λ j. inside (lists_refused j q) vs) f
    ∙ or_size (too_many (length (joined_items vs))) (levels_refused p (joined_items vs))
    (lists_refused d q (joined_items vs)) (h (joined_items vs)) (sym (levels-list c p vs) ∙ g)

option-list : (c : Class) (p : DataType) → option_of (list_type c p) ≡ opt (list_type c p)
option-list None p = refl
option-list (Some n) p = refl

level_counted : (o b : Bool) (c : Class) (k d : ℕ) (p e u : DataType) (vs : List Value)
    → k - 1 ≡ d → (k == 0) ≡ false
    → ((ws : List Value) → levels_refused p ws ≡ Some Size
    → lists_refused d (over_type p u) ws ≡ Some Size)
    → ((ws : List Value) → levels_refused e ws ≡ None)
    → levels_refused (if b then option_if o (list_type c p) else e) vs ≡ Some Size
    → lists_refused k (over_type (if b then option_if o (list_type c p) else e) u) vs ≡ Some Size
level_counted o false c k d p e u vs f z h n g = let m : None ≡ Some Size = sym (n vs) ∙ g in cc
level_counted true true c k d p e u vs f z h n g =
    ap (λ t. lists_refused k (option_of t) vs) (over_type-list c p u)
    ∙ ap (λ t. lists_refused k t vs) (option-list c (over_type p u))
    ∙ list_counted c k d p (over_type p u) (filter is_present vs) f z h g
level_counted false true c k d p e u vs f z h n g =
    ap (λ t. lists_refused k t vs) (over_type-list c p u)
    ∙ list_counted c k d p (over_type p u) vs f z h g

-- where lists that data share are too many, so are those of what stands over them
pub shared_counted : (keep : Bool) (d : ℕ) (ts : List DataType) (u : DataType) (vs : List Value)
    → levels_refused (paired_type keep to_depth d ts) vs ≡ Some Size
    → lists_refused d (over_type (paired_type keep to_depth d ts) u) vs ≡ Some Size
shared_counted keep zero ts u vs g = cc
shared_counted keep (suc d) ts u vs g =
    let f : suc d - 1 ≡ d = omega arith in
    let z : (suc d == 0) ≡ false = grind arith in
    level_counted (some_option ts) (opens ts) (level_class keep ts) (suc d) d
    (paired_type keep to_depth d (item_types ts)) (end_type to_depth ts) u vs f z
    (λ ws h. shared_counted keep d (item_types ts) u ws h) (λ ws. refl) g
