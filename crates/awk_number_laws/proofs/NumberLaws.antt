-- The numbers among the items of lists joined.
use Rattle.std.proofs.Common.{◌≡◌, ap, ◌∙◌, List, ◌++◌, map}
use Rattle.std.proofs.lemmas.List.{map-append}
use Rattle.std.proofs.lemmas.List.Elements.{filter-append}
use Rattle.awk_types.specs.Parts.{number_of}
use Rattle.awk_types.specs.Value.{Value}
use Rattle.awk_columns.specs.Columns.{is_present, present_values}
use Rattle.awk_present.specs.Numbers.{numbers}

pub numbers-append : (us vs : List Value) → numbers (us ++ vs) ≡ numbers us ++ numbers vs
numbers-append us vs =
    ap (map number_of) (filter-append is_present us vs)
    ∙ map-append number_of (present_values us) (present_values vs)
