-- The buffers of a line that is read.
use Rattle.std.proofs.Common.{◌≡◌, true, refl}
use Rattle.serde_json.specs.Data.{null, boolean, number, string, array, object, Members, no_members}
use Rattle.serde_json.specs.Data.{member}
use Rattle.awk_query.specs.Line.{are_texts}
use Rattle.awk_store.specs.Buffers.{HoldsTexts}

-- members that are texts hold texts
pub are_texts-holds : (ms : Members) → are_texts ms ≡ true → HoldsTexts ms
are_texts-holds no_members e = tt
are_texts-holds (member key (string s) more) e = (refl, are_texts-holds more e)
are_texts-holds (member key null more) e = absurd (cc)
are_texts-holds (member key (boolean b) more) e = absurd (cc)
are_texts-holds (member key (number n) more) e = absurd (cc)
are_texts-holds (member key (array ds) more) e = absurd (cc)
are_texts-holds (member key (object ms) more) e = absurd (cc)
