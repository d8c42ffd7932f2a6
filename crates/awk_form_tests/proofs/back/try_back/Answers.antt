-- The JSON text is an object of texts.
use Rattle.std.proofs.Common.{◌≡◌, ◌∙◌, ap, sym, refl}
use Rattle.std.specs.Prelude.{codes, option_map, option_and_then, Some}
use Rattle.serde_json.specs.Data.{string, object, Members, no_members, member}
use Rattle.serde_json.specs.Find.{as_object}
use Rattle.serde_json.specs.View.{view, members_view}
use Rattle.serde_json.proofs.OnLiterals.{serde_json_on_literals}
use Rattle.awk_form_tests.proofs.back.try_back.Goals as goal

abbrev sample : Members
sample = member (codes "node0-data") (string (codes "Af8=")) no_members

pub new-store-requires : goal.new-store-requires
unfolding serde_json_on_literals
new-store-requires g c =
    let read : Some (object sample) ≡ Some (view c.in_ok-json.json) = c.in_ok-json.ensures.ok in
    let members : Some (members_view c.expect-buffers.result.now.entries) ≡ Some sample =
    ap (option_map (λ m. members_view m.now.entries)) (sym c.expect-buffers.ensures) ∙
    c.as_object.ensures
    ∙ ap (option_and_then as_object) (sym read) in
    let same : members_view c.expect-buffers.result.now.entries ≡ sample = cc in
    rw same (refl, tt)
