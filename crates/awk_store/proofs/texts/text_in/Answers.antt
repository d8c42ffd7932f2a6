-- What the map answers at the key, as the text of the key.
use Rattle.std.proofs.Common.{◌∙◌, ap}
use Rattle.std.specs.Prelude.{option_and_then, option_map}
use Rattle.serde_json.specs.Find.{as_str}
use Rattle.serde_json.specs.View.{view}
use Rattle.awk_store.proofs.ByKeyLaws.{at_key-entries, same_key}
use Rattle.awk_store.proofs.texts.text_in.Goals as goal

pub returns-in_err-name-clause-text : goal.returns-in_err-name-clause-text
returns-in_err-name-clause-text c =
    ap (option_map _) c.from_residual.ensures
    ∙ ap (option_and_then (λ v. as_str (view v))) c.in_err-name.ensures.value ∙ at_key-entries _ _
    c.requires

pub returns-in_err-as_str-clause-text : goal.returns-in_err-as_str-clause-text
returns-in_err-as_str-clause-text c =
    ap (option_map _) c.from_residual-in_err-as_str.ensures ∙ c.in_err-as_str.ensures
    ∙ ap (option_and_then (λ v. as_str (view v))) c.in_ok-name.ensures.value ∙ at_key-entries _ _
    c.requires

pub returns-clause-text : goal.returns-clause-text
returns-clause-text c =
    c.in_ok-as_str.ensures
    ∙ ap (option_and_then (λ v. as_str (view v))) c.in_ok-name.ensures.value ∙ at_key-entries _ _
    c.requires

pub returns-clause-key : goal.returns-clause-key
returns-clause-key c = c.as_str.ensures.value ∙ same_key _ _ c.in_ok-name.ensures.same_key
