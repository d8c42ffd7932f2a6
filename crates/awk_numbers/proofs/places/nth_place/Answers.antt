use Rattle.awk_numbers.specs.Folds.{whole_numbers}
use Rattle.awk_numbers.proofs.PlaceLaws.{place_inside}
use Rattle.awk_numbers.proofs.places.nth_place.Goals as goal

pub returns-clause-inside : goal.returns-clause-inside
returns-clause-inside c =
    place_inside c.args.before c.args.start c.args.stop (whole_numbers c.args.numbers.now)
    c.told.result c.requires.within c.told.ensures
