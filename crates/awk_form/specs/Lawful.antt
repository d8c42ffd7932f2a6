-- Which forms are lawful: an option's index is signed, the names of a record are distinct and as
-- many as its contents, a union has 1 to 127 contents, and each node of a class with buffers has a
-- key.
use Rattle.std.specs.Prelude.{◌≡◌, ◌≢◌, ◌≤◌, ℕ, List, length, Option, Some, None, IsSome}
use Rattle.awk_types.specs.DataType.{Name}
use Rattle.awk_types.specs.Names.{AreDistinct}
use Rattle.awk_form.specs.FormTree.{FormTree, numpy, list, list_offset, row, indexed}
use Rattle.awk_form.specs.FormTree.{indexed_option, byte_masked, bit_masked, union, FormTrees}
use Rattle.awk_form.specs.FormTree.{form_list, fold, folds}
use Rattle.awk_form.specs.declared.kind.IndexKind.TheVariants.{U32}

abbrev pub count : FormTrees → ℕ
count fs = length (form_list fs)

-- where there are names
abbrev pub AreNamesOf : FormTrees → Option (List Name) → Type 0
AreNamesOf fs None = Unit {0}
AreNamesOf fs (Some names) = AreDistinct names × (length names ≡ count fs)

abbrev both : Type 0 → Type 0 → Type 0
both p q = p × q

-- what is asked of a node, beside what is asked of its contents
abbrev own_law : FormTree → Type 0 → Type 0
own_law (numpy key prim inner) below = IsSome key
own_law (list key starts stops f) below = IsSome key × below
own_law (list_offset key offsets f) below = IsSome key × below
own_law (row key names fs) below = AreNamesOf fs names × below
own_law (indexed key index f) below = IsSome key × below
own_law (indexed_option key index f) below = IsSome key × (index ≢ U32) × below
own_law (byte_masked key valid_when f) below = IsSome key × below
own_law (bit_masked key valid_when lsb_order f) below = IsSome key × below
own_law (union key index fs) below = IsSome key × (1 ≤ count fs) × (count fs ≤ 127) × below
own_law f below = below

abbrev pub IsLawful : FormTree → Type 0
IsLawful = fold (Unit {0}) both own_law

abbrev pub AreLawful : FormTrees → Type 0
AreLawful = folds (Unit {0}) both own_law
