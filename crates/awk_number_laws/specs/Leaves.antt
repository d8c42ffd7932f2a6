-- Laws of operations on leaves: choices, comparisons, quotients, signs, and operands that change
-- places.
use Rattle.std.specs.Prelude.{◌≡◌, ℕ, ◌<◌, get_or, None, ℤ, pos, ◌+ℤ◌, ◌*ℤ◌, ◌<ℤ◌, ◌≤ℤ◌, ◌⊎◌, true}
use Rattle.std.specs.Prelude.{false, not, List, [], ◌∷◌, length, map, if◌then◌else◌}
use Rattle.std.specs.Prelude.{Result, Ok, Err}
use Rattle.std.specs.List.{AllByRecursion}
use Rattle.awk_types.specs.DataType.{DataType, leaf, var, reg, opt}
use Rattle.awk_types.specs.Datum.{Datum, arr, one, datum_type}
use Rattle.awk_types.specs.Faults.{limit_refused}
use Rattle.awk_types.specs.Gives.{refused_or, ◌or◌}
use Rattle.awk_types.specs.Has.{Has}
use Rattle.awk_types.specs.Parts.{number_of}
use Rattle.awk_types.specs.Predicates.{is_null}
use Rattle.awk_primitives.specs.Promotion.{is_whole}
use Rattle.awk_types.specs.Simple.{IsSimple}
use Rattle.awk_types.specs.Value.{Value, int, null}
use Rattle.awk_types.specs.declared.fault.Fault.{Fault}
use Rattle.awk_types.specs.declared.fault.Fault.TheVariants.{WrongType}
use Rattle.awk_types.specs.declared.primitive.Primitive.{Primitive}
use Rattle.awk_types.specs.declared.primitive.Primitive.TheVariants.{Bool as Truths}
use Rattle.awk_kernels.specs.declared.operation.Arith.TheVariants.{Add, Mul, FloorDiv, Rem}
use Rattle.awk_kernels.specs.declared.operation.Compare.{Compare}
use Rattle.awk_kernels.specs.declared.operation.Compare.TheVariants.{Eq, Ne, Lt, Le, Gt, Ge}
use Rattle.awk_columns.specs.Columns.{part_at}
use Rattle.awk_frames.specs.Framed.{over}
use Rattle.awk_layout.specs.Filler.{Filler, datum}
use Rattle.awk_leaves.specs.Table.{choice_judged}
use Rattle.awk_leaves.specs.Values.{binary_at, unary_at, chosen_at}
use Rattle.awk_leaves.specs.Values.{binary_values, unary_values, choice_values}
use Rattle.awk_leaves.specs.declared.leaf_type.LeafType.{LeafType}
use Rattle.awk_leaves.specs.declared.leaf_type.LeafType.TheVariants.{Of}
use Rattle.awk_leaves.specs.declared.operation.Binary.TheVariants.{Calculate, Test}
use Rattle.awk_leaves.specs.declared.operation.Unary.TheVariants.{Not, Negate}
use Rattle.awk_ends.specs.Operands.{at_end, both_data, data_in, in_primitive, leaf_in}
use Rattle.awk_pair_operands.specs.Answer.{shared_ends}
use Rattle.awk_pair_operands.specs.Pairs.{datum_from, pair_refused, pair_type}
use Rattle.awk_pair_operands.specs.Pairs.{pair_values, some_array}
use Rattle.awk_pair_operands.specs.Typed.{IsTyped}
use Rattle.awk_arith.specs.Binary.{binary_of}
use Rattle.awk_arith.specs.Unary.{unary_of}
use Rattle.awk_choose.specs.Choice.{are_leaves, choose_of, far, result_type}
use Rattle.awk_law_chains.specs.Innermost.{leaves_in}

-- the comparison that holds exactly where another does not
abbrev pub opposite : Compare → Compare
opposite Eq = Ne
opposite Ne = Eq
opposite Lt = Ge
opposite Le = Gt
opposite Gt = Le
opposite Ge = Lt

-- an operation on what another gives, unless that is a fault
abbrev pub on_result : {X Y : Type 0} → (X → Result Y Fault) → Result X Fault → Result Y Fault
on_result f (Ok x) = f x
on_result f (Err fault) = Err fault

-- a remainder lies between 0 and its divisor, which it does not reach
abbrev pub IsBelowDivisor : ℤ → ℤ → Type 0
IsBelowDivisor r b = ((pos 0 ≤ℤ r) × (r <ℤ b)) ⊎ ((b <ℤ r) × (r ≤ℤ pos 0))

-- a quotient and a remainder of a by b
pub record IsDivision (a b q r : ℤ) : Type 0 where
  pub dividend : (q *ℤ b) +ℤ r ≡ a
  pub remainder : IsBelowDivisor r b

-- a quotient and a remainder at each place, of what two functions give of a row of operands there
pub record AreDivisions (x y : Value → Value) (rows qs rs : List Value) : Type 0 where
  pub quotients : length qs ≡ length rows
  pub remainders : length rs ≡ length rows
  pub each : (i : ℕ) → i < length rows
      → IsDivision (number_of (x (get_or rows i null))) (number_of (y (get_or rows i null)))
      (number_of (get_or qs i null)) (number_of (get_or rs i null))

-- a condition that is never null: its lists are lists of another type, from the outermost on
abbrev pub IsUnder : DataType → DataType → Type 0
IsUnder (leaf Truths) t = Unit {0}
IsUnder (var c) (var t) = IsUnder c t
IsUnder (var c) (opt (var t)) = IsUnder c t
IsUnder (reg n c) (reg m t) = (n ≡ m) × IsUnder c t
IsUnder (reg n c) (opt (reg m t)) = (n ≡ m) × IsUnder c t
IsUnder c t = ⊥

-- the same of data: a single truth value stands beside each item of an array
abbrev pub IsCondition : Datum → Datum → Type 0
IsCondition (arr c cs) (arr t vs) = IsUnder c t
IsCondition (arr c cs) (one t w) = ⊥
IsCondition (one c v) (arr t vs) = c ≡ leaf Truths
IsCondition (one c v) (one t w) = IsUnder c t

-- of a row of a condition and of what is paired with it: null where the condition is
abbrev pub part_beside : Value → Value
part_beside v = if is_null (part_at 0 v) then null else part_at 1 v

-- paired data of which the first is a condition: what the second gives at each end that both share
abbrev pub paired_beside : List Datum → Primitive → Result Datum Fault
paired_beside ds p =
    refused_or (limit_refused (result_type p ds) or pair_refused false far ds)
    (datum_from (some_array ds) (result_type p ds)
    (map (over (pair_type false far ds) part_beside) (pair_values false far ds)))

-- x as it is repeated by being paired with a condition, or why it is not paired with it
abbrev pub beside : Datum → Datum → Result Datum Fault
beside c x =
    let ds = c ∷ x ∷ [] in
    let of = leaf_in (datum_type x) in
    if not (are_leaves ds) then Err WrongType
    else in_primitive (choice_judged (leaf_in (datum_type c)) of of) (paired_beside ds)

pub record LeafLaws : Type 0 where
  -- where of c, x and x is x, where c is not null
  pub choice : (c x : Value) → is_null c ≡ false → chosen_at c x x ≡ x
  -- the same of columns of one primitive
  pub choices : (p : Primitive) (cs xs : List Value) → length cs ≡ length xs
      → AllByRecursion (λ c. is_null c ≡ false) cs
      → choice_values (Of Truths) (Of p) (Of p) cs xs xs ≡ Ok xs
  -- the same of whole arrays and single values, whatever lists and options their leaves stand in
  pub choice_of : (p : Primitive) (c x made : Datum) → IsTyped c → IsTyped x
      → IsSimple (datum_type x) → leaf_in (datum_type x) ≡ Of p → IsCondition c x
      → choose_of c (datum x) (datum x) ≡ Ok made → made ≡ x
  -- where of c, x and x is x as it is repeated by being paired with c, and null where c is null,
  -- whatever the lists of both are, the faults included
  pub choice_beside : (c x : Datum) → choose_of c (datum x) (datum x) ≡ beside c x
  -- not of a comparison is the opposite comparison, null where that is null
  pub negation : (how : Compare) (p : Primitive) (x y : Value)
      → on_result (unary_at Not Truths) (binary_at (Test how) p x y)
      ≡ binary_at (Test (opposite how)) p x y
  -- the same of columns, the faults of their types included
  pub negations : (how : Compare) (a b : LeafType) (xs ys : List Value)
      → on_result (unary_values Not (Of Truths)) (binary_values (Test how) a b xs ys)
      ≡ binary_values (Test (opposite how)) a b xs ys
  -- the same of whole arrays and single values, whatever lists and options their leaves stand in
  pub negation_of : (how : Compare) (a b : Filler) → AllByRecursion IsTyped (both_data a b)
      → on_result (unary_of Not) (binary_of (Test how) a b) ≡ binary_of (Test (opposite how)) a b
  -- the quotient rounded down and the remainder, where there are both, give the dividend back
  pub division : (p : Primitive) (a b q r : ℤ)
      → binary_at (Calculate FloorDiv) p (int a) (int b) ≡ Ok (int q)
      → binary_at (Calculate Rem) p (int a) (int b) ≡ Ok (int r) → IsDivision a b q r
  -- the same at each leaf of whole arrays and single values, in order: rows of operands that are
  -- paired, and the leaves of what the two operations give
  pub division_of : (a b : Filler) (q r : Datum) → AllByRecursion IsTyped (both_data a b)
      → binary_of (Calculate FloorDiv) a b ≡ Ok q → binary_of (Calculate Rem) a b ≡ Ok r
      → AreDivisions (at_end a 0) (at_end b (length (data_in a)))
      (shared_ends false None (both_data a b)) (leaves_in q) (leaves_in r)
  -- neg of neg of a number, or of null, is that, where neg of it is a number of its primitive
  pub negative : (p : Primitive) (x y : Value) → is_whole p ≡ true → Has (opt (leaf p)) x
      → unary_at Negate p x ≡ Ok y → unary_at Negate p y ≡ Ok x
  -- the same of whole arrays and single values, whatever lists and options their leaves stand in
  pub negative_of : (p : Primitive) (d n : Datum) → is_whole p ≡ true → IsTyped d
      → IsSimple (datum_type d) → leaf_in (datum_type d) ≡ Of p → unary_of Negate d ≡ Ok n
      → unary_of Negate n ≡ Ok d
  -- a sum and a product are the same of operands that change places, or the same fault
  pub sum : (p : Primitive) (x y : Value)
      → binary_at (Calculate Add) p x y ≡ binary_at (Calculate Add) p y x
  pub product : (p : Primitive) (x y : Value)
      → binary_at (Calculate Mul) p x y ≡ binary_at (Calculate Mul) p y x
  -- the same of columns, the faults of types and of literals included
  pub sums : (a b : LeafType) (xs ys : List Value)
      → binary_values (Calculate Add) a b xs ys ≡ binary_values (Calculate Add) b a ys xs
  pub products : (a b : LeafType) (xs ys : List Value)
      → binary_values (Calculate Mul) a b xs ys ≡ binary_values (Calculate Mul) b a ys xs
  -- the same of literals, whole arrays and single values, whatever lists and options their leaves
  -- stand in, the faults of lists that are unequally long included
  pub sum_of : (a b : Filler) → binary_of (Calculate Add) a b ≡ binary_of (Calculate Add) b a
  pub product_of : (a b : Filler) → binary_of (Calculate Mul) a b ≡ binary_of (Calculate Mul) b a
