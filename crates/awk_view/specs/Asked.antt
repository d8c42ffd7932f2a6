-- The choice that is asked for, and the names that stand behind a reference.
use Rattle.std.specs.Prelude.{List, Option, option_map}
use Rattle.std.specs.Borrow.{Bor}
use Rattle.awk_types.specs.DataType.{Name}
use Rattle.awk_view.specs.Choice.{Choice, field, fields, without}
use Rattle.awk_view.specs.declared.choice.Asked.{Asked}
use Rattle.awk_view.specs.declared.choice.Asked.TheVariants.{Field, Fields, Without}

abbrev pub choice_of : Asked → Choice
choice_of (Field k) = field k.now
choice_of (Fields ks) = fields ks.now
choice_of (Without k) = without k.now

abbrev pub seen : Option (Bor (List Name)) → Option (List Name)
seen names = option_map (λ m. m.now) names
