-- What the arguments of a call give: the values of its expressions, and its other arguments.
use Rattle.std.specs.Prelude.{ℕ, zero, suc, ℤ, pos, negsuc, List, [], ◌∷◌, ◌++◌, map, Option, Some}
use Rattle.std.specs.Prelude.{None, option_map, option_and_then, codes, if◌then◌else◌}
use Rattle.serde_json.specs.Data.{Data, null, Items, no_items, item}
use Rattle.serde_json.specs.Find.{as_bool, as_number, as_str, as_array, as_u64, as_i64}
use Rattle.awk_types.specs.DataType.{Name}
use Rattle.awk_types.specs.Names.{is_among, are_distinct}
use Rattle.awk_expr.specs.WholeNumbers.{whole_of, if_edges}
use Rattle.awk_expr.specs.declared.kind.ArgKind.{ArgKind}
use Rattle.awk_expr.specs.declared.kind.ArgKind.TheVariants as kind
use Rattle.awk_expr.specs.declared.fixed.FixedArg.{FixedArg}
use Rattle.awk_expr.specs.declared.fixed.FixedArg.TheVariants.{Place, Count, Missing, Truth, Text}
use Rattle.awk_expr.specs.declared.fixed.FixedArg.TheVariants.{Texts, Wholes}

pub record Args : Type 0 where
  pub exprs : List Data
  pub fixed : List FixedArg

abbrev pub no_args : Args
no_args = record { exprs = []; fixed = [] }

abbrev pub both : Args → Args → Args
both a b = record { exprs = a.exprs ++ b.exprs; fixed = a.fixed ++ b.fixed }

abbrev pub of_exprs : List Data → Args
of_exprs ds = record { exprs = ds; fixed = [] }

abbrev pub of_fixed : FixedArg → Args
of_fixed a = record { exprs = []; fixed = a ∷ [] }

abbrev pub item_list : Items → List Data
item_list no_items = []
item_list (item d ds) = d ∷ item_list ds

-- the items of a list
abbrev pub items_in : Data → Option (List Data)
items_in d = option_map item_list (as_array d)

-- ---- single values

abbrev pub i64_in : Data → Option ℤ
i64_in d = option_and_then as_i64 (as_number d)

abbrev pub u64_in : Data → Option ℕ
u64_in d = option_and_then as_u64 (as_number d)

abbrev pub not_zero : ℤ → Option ℤ
not_zero (pos zero) = None
not_zero (pos (suc n)) = Some (pos (suc n))
not_zero (negsuc n) = Some (negsuc n)

abbrev pub some_count : ℕ → Option ℕ
some_count zero = None
some_count (suc n) = Some (suc n)

abbrev pub step_in : Data → Option ℤ
step_in d = option_and_then not_zero (i64_in d)

abbrev pub some_count_in : Data → Option ℕ
some_count_in d = option_and_then some_count (u64_in d)

-- the names of the nine leaf types
abbrev pub primitives : List Name
primitives =
    codes "bool" ∷
    codes "int8" ∷
    codes "int16" ∷
    codes "int32" ∷
    codes "int64" ∷
    codes "uint8" ∷
    codes "uint16" ∷
    codes "uint32" ∷
    codes "uint64" ∷
    []

abbrev pub primitive_name : Name → Option Name
primitive_name name = if is_among name primitives then Some name else None

abbrev pub primitive_in : Data → Option Name
primitive_in d = option_and_then primitive_name (as_str d)

abbrev pub bound_in : Data → Option FixedArg
bound_in null = Some Missing
bound_in d = option_map Place (i64_in d)

-- ---- lists of names

-- the items, if each is something
abbrev pub all_of : {A B : Type 0} → (A → Option B) → List A → Option (List B)
all_of f [] = Some []
all_of f (a ∷ more) =
    option_and_then (λ b. option_map (λ bs. b ∷ bs) (all_of f more)) (f a)

abbrev pub if_distinct : List Name → Option (List Name)
if_distinct ns = if are_distinct ns then Some ns else None

abbrev pub texts_in : Data → Option (List Name)
texts_in d = option_and_then if_distinct (option_and_then (all_of as_str) (items_in d))

-- at least two whole numbers, each greater than the one before
abbrev pub edges_in : Data → Option (List ℤ)
edges_in d = option_and_then if_edges (option_and_then (all_of whole_of) (items_in d))

-- a name, and the value of its expression
abbrev pub pair_of : List Data → Option (Name × Data)
pair_of (n ∷ d ∷ []) = option_map (λ s. (s, d)) (as_str n)
pair_of _ = None

abbrev pub pair_in : Data → Option (Name × Data)
pair_in d = option_and_then pair_of (items_in d)

-- ---- arguments

-- at least one expression
abbrev pub some_exprs : List Data → Option Args
some_exprs [] = None
some_exprs (d ∷ ds) = Some (of_exprs (d ∷ ds))

-- at least one name, each with its expression, and no name twice
abbrev pub names_and_exprs : List Name → List Data → Option Args
names_and_exprs [] ds = None
names_and_exprs (n ∷ ns) ds =
    option_map (λ names. record { exprs = ds; fixed = Texts names ∷ [] })
    (if_distinct (n ∷ ns))

abbrev pub named_exprs : List Data → Option Args
named_exprs ds =
    option_and_then (λ ps. names_and_exprs (map (λ p. p.0) ps) (map (λ p. p.1) ps))
    (all_of pair_in ds)

abbrev pub exprs_in : Data → Option Args
exprs_in d = option_and_then some_exprs (items_in d)

abbrev pub named_exprs_in : Data → Option Args
named_exprs_in d = option_and_then named_exprs (items_in d)

-- an argument that is no expression
abbrev pub fixed_of : ArgKind → Data → Option FixedArg
fixed_of kind.Place d = option_map Place (i64_in d)
fixed_of kind.Bound d = bound_in d
fixed_of kind.Step d = option_map Place (step_in d)
fixed_of kind.Count d = option_map Count (u64_in d)
fixed_of kind.SomeCount d = option_map Count (some_count_in d)
fixed_of kind.Truth d = option_map Truth (as_bool d)
fixed_of kind.Text d = option_map Text (as_str d)
fixed_of kind.Texts d = option_map Texts (texts_in d)
fixed_of kind.Primitive d = option_map Text (primitive_in d)
fixed_of kind.Edges d = option_map Wholes (edges_in d)
fixed_of kind.Expr d = None
fixed_of kind.Exprs d = None
fixed_of kind.NamedExprs d = None

abbrev pub part_of : ArgKind → Data → Option Args
part_of kind.Expr d = Some (of_exprs (d ∷ []))
part_of kind.Exprs d = exprs_in d
part_of kind.NamedExprs d = named_exprs_in d
part_of k d = option_map of_fixed (fixed_of k d)

-- the arguments of these kinds
abbrev pub args_of : List ArgKind → List Data → Option Args
args_of [] [] = Some no_args
args_of (k ∷ ks) (d ∷ ds) =
    option_and_then (λ a. option_map (both a) (args_of ks ds)) (part_of k d)
args_of [] (d ∷ ds) = None
args_of (k ∷ ks) [] = None
