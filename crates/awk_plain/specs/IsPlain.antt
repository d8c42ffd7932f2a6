-- What is known of a value whose type was judged, and of one that makes an array.
use Rattle.std.specs.Prelude.{◌≡◌, true, None}
use Rattle.serde_json.specs.Data.{Data, null, boolean, number, string, array, object}
use Rattle.serde_json.specs.Data.{Items, no_items, item, Members, no_members, member}
use Rattle.awk_types.specs.DataType.{unknown, var, rec, types_from}
use Rattle.awk_types.specs.Has.{Holds}
use Rattle.awk_types.specs.Limit.{limit}
use Rattle.awk_types.specs.Names.{AreDistinct}
use Rattle.awk_types.specs.declared.primitive.Primitive.TheVariants.{I64}
use Rattle.awk_plain.specs.Plain.{fits, is_whole, items_type, member_types, names_in, number_in}

-- no text, whole numbers that fit int64, and each type within the limits
abbrev mutual
  pub IsJudged : Data → Type 0
  IsJudged null = Unit {0}
  IsJudged (boolean b) = Unit {0}
  IsJudged (number n) = (is_whole n ≡ true) × (fits n ≡ true)
  IsJudged (string s) = ⊥
  IsJudged (array ds) = (limit (var (items_type unknown ds)) ≡ None) × AreJudged ds
  IsJudged (object ms) =
      (limit (rec (names_in ms) (types_from (member_types ms))) ≡ None) × HaveJudged ms

  pub AreJudged : Items → Type 0
  AreJudged no_items = Unit {0}
  AreJudged (item d ds) = IsJudged d × AreJudged ds

  pub HaveJudged : Members → Type 0
  HaveJudged no_members = Unit {0}
  HaveJudged (member key d ms) = IsJudged d × HaveJudged ms

-- no text, whole numbers that fit int64, and objects with each name once
abbrev mutual
  pub IsPlain : Data → Type 0
  IsPlain null = Unit {0}
  IsPlain (boolean b) = Unit {0}
  IsPlain (number n) = Holds I64 (number_in n)
  IsPlain (string s) = ⊥
  IsPlain (array ds) = ArePlain ds
  IsPlain (object ms) = AreDistinct (names_in ms) × HavePlain ms

  pub ArePlain : Items → Type 0
  ArePlain no_items = Unit {0}
  ArePlain (item d ds) = IsPlain d × ArePlain ds

  pub HavePlain : Members → Type 0
  HavePlain no_members = Unit {0}
  HavePlain (member key d ms) = IsPlain d × HavePlain ms
