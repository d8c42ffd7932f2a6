-- Numbers of items within the limit.
use Rattle.std.specs.Prelude.{◌≡◌, ℕ, ◌≤◌, Option, Some, None, option_map, refl, List, [], ◌∷◌}
use Rattle.std.specs.Prelude.{length}
use Rattle.std.proofs.Common.{arith}
use Rattle.awk_types.specs.DataType.{DataType}
use Rattle.awk_types.specs.ItemLimit.{item_limit, too_many}
use Rattle.awk_types.specs.Value.{Value}
use Rattle.awk_list_functions.specs.Counted.{counted}
use Rattle.awk_list_functions.specs.Spoils as spoils

pub few_spoil-limit : (n : ℕ) → spoils.too_many n ≡ None → n ≤ item_limit
few_spoil-limit n e = grind arith

-- one list
pub counted_few : (items : DataType → List Value → List Value) (t : DataType) (vs : List Value)
    → length (items t vs) ≤ item_limit → counted items t (vs ∷ []) ≡ None
counted_few items t vs p = grind arith

pub counted-limit : (items : DataType → List Value → List Value) (t : DataType) (vs : List Value)
    → counted items t (vs ∷ []) ≡ None → length (items t vs) ≤ item_limit
counted-limit items t vs e = grind arith

pub none_map : {X Y : Type 0} (f : X → Y) (o : Option X) → option_map f o ≡ None → o ≡ None
none_map f None e = refl
none_map f (Some x) e = cc
