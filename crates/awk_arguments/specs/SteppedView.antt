-- The range that one in code stands for.
use Rattle.awk_arguments.specs.Fixed as given
use Rattle.awk_arguments.specs.declared.fixed.Stepped.{Stepped}

abbrev pub stepped_view : Stepped → given.Stepped
stepped_view s = record { lo = s.lo; hi = s.hi; step = s.step }
