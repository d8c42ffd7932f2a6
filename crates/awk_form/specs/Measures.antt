-- How large a form is.
use Rattle.std.specs.Prelude.{ℕ, ◌+◌, max, List, [], length}
use Rattle.awk_form.specs.FormTree.{FormTree, FormTrees, fold, folds, numpy}

-- the inner shape of a NumpyArray
abbrev pub inner_shape : FormTree → List ℕ
inner_shape (numpy key prim inner) = inner
inner_shape f = []

-- one for itself, beside its contents
abbrev pub one_more : FormTree → ℕ → ℕ
one_more f n = n + 1

-- one for itself and one for each of its inner numbers, beside its contents
abbrev pub inner_more : FormTree → ℕ → ℕ
inner_more (numpy key prim inner) n = length inner + 1
inner_more f n = n + 1

-- the number of nodes
abbrev pub nodes : FormTree → ℕ
nodes = fold 0 ◌+◌ one_more

-- of all together
abbrev pub nodes_of : FormTrees → ℕ
nodes_of = folds 0 ◌+◌ one_more

-- the number of nodes and of inner numbers
abbrev pub width : FormTree → ℕ
width = fold 0 ◌+◌ inner_more

-- of all together
abbrev pub width_of : FormTrees → ℕ
width_of = folds 0 ◌+◌ inner_more

-- the number of nodes and of inner numbers on the longest path
abbrev pub height : FormTree → ℕ
height = fold 0 max inner_more

-- the greatest of them, or 0
abbrev pub height_of : FormTrees → ℕ
height_of = folds 0 max inner_more
