-- What follows of a line that was read.
use Rattle.std.specs.Prelude.{◌≡◌, Some}
use Rattle.awk_query.specs.Line.{Line, values, if_list}

-- what a values line gives is a list
abbrev pub IsListed : Line → Type 0
IsListed (values n d) = if_list d ≡ Some d
IsListed line = Unit {0}
