-- Types that pass no limit: their arrays are not refused, and they are as arrays have them.
use Rattle.std.proofs.Common.{◌≡◌, sym, ◌∙◌, subst, ap}
use Rattle.std.specs.Prelude.{None, Err}
use Rattle.awk_types.specs.DataType.{DataType}
use Rattle.awk_types.specs.Limit.{Limit, limit}
use Rattle.awk_types.proofs.RefusalLaws.{refused_or-Err}
use Rattle.awk_types.proofs.SimpleLaws.{simple_is_simple}
use Rattle.awk_types.proofs.TypeLaws.{simple_is_type}
use Rattle.awk_types.proofs.PartLimits.{within_var}
use Rattle.awk_lanes.specs.Column.{Column}
use Rattle.awk_layout.specs.Array.{array_of, IsArrayType, IsTypeOf}
use Rattle.awk_layout.specs.Layout.{Layout, offset_lists}
use Rattle.awk_layout.specs.Typing.{layout_type, array_type}
use Rattle.awk_layout.specs.Valid.{IsValid}
use Rattle.awk_layout.proofs.LayoutTypes.{layout_is_type}

pub array_of-within : (x : Layout) (l : Limit) → limit (array_type x) ≡ None
    → array_of x ≡ Err l → ⊥
array_of-within x l e f = let g = sym e ∙ refused_or-Err (limit (array_type x)) x l f in cc

pub judged_type : (t : DataType) (x : Layout) → t ≡ array_type x
    → limit (array_type x) ≡ None → IsValid x → IsTypeOf t x
judged_type t x e l v = record {
  typ = e;
  lawful = subst IsArrayType (sym e) (record {
    is_type = simple_is_type (layout_type x) (layout_is_type x v);
    is_simple = simple_is_simple (layout_type x);
    within_limits = l;
  });
}

pub ruleset judging = (array_of-within, judged_type)

-- the items of lists whose type passes no limit
pub offsets_within : (o : Column) (x y : Layout) → offset_lists o y ≡ x
    → limit (array_type x) ≡ None → limit (array_type y) ≡ None
offsets_within o x y e h = within_var (array_type y) (ap (λ z. limit (array_type z)) e ∙ h)
