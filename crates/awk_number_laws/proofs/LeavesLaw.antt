-- The laws of operations on leaves, together.
use Rattle.awk_kernels.specs.declared.operation.Arith.TheVariants.{Add, Mul}
use Rattle.awk_number_laws.specs.Leaves.{LeafLaws}
use Rattle.awk_number_laws.proofs.LeafLaws.{choice_is, choices_are, negation_is, negations_are}
use Rattle.awk_number_laws.proofs.LeafLaws.{division_is, negative_is, turned_at, turned_columns}
use Rattle.awk_number_laws.proofs.LeafLaws.{sum_turned, product_turned}
use Rattle.awk_number_laws.proofs.LeafArrays.{negation_of}
use Rattle.awk_number_laws.proofs.ChosenArrays.{choice_of}
use Rattle.awk_number_laws.proofs.ChosenBeside.{choice_beside}
use Rattle.awk_number_laws.proofs.LeafDivisions.{division_of}
use Rattle.awk_number_laws.proofs.LeafSigns.{negative_of}
use Rattle.awk_number_laws.proofs.LeafTurned.{operands_turned}

pub leaves_law : LeafLaws
leaves_law = record {
  choice = choice_is;
  choices = choices_are;
  choice_of = choice_of;
  choice_beside = choice_beside;
  negation = negation_is;
  negations = negations_are;
  negation_of = λ how a b typed. negation_of a b typed how;
  division = division_is;
  division_of = λ a b q r typed e f. division_of a b typed q r e f;
  negative = negative_is;
  negative_of = negative_of;
  sum = turned_at Add sum_turned;
  product = turned_at Mul product_turned;
  sums = turned_columns Add sum_turned;
  products = turned_columns Mul product_turned;
  sum_of = operands_turned Add sum_turned;
  product_of = operands_turned Mul product_turned;
}
