-- What a fetch answers, by whether the key is kept already.
use Rattle.std.proofs.Common.{◌≡◌, ◌∙◌, ap, sym, arith, Some, None, false, true, refl, length, []}
use Rattle.std.proofs.Common.{◌∷◌, ◌++◌}
use Rattle.std.specs.Prelude.{string_bytes}
use Rattle.std.specs.Map.{keys_of}
use Rattle.std.specs.Option.{ok_or}
use Rattle.std.specs.Str.{bytes_eq}
use Rattle.indexmap.specs.IndexMap.{insert_entry}
use Rattle.awk_store.specs.Buffers.{at_key, unfetched_len, shown_by}
use Rattle.awk_store.specs.declared.fault.BufferWhy.TheVariants.{Absent}
use Rattle.awk_store.proofs.Kept.{holds-known, with_fetched-known, is_fetched-new, with_fetched-new}
use Rattle.awk_store.proofs.Kept.{unfetched_len-new, at_key-shown, holds-push, insert_entry-new}
use Rattle.awk_store.proofs.raws.Raws.fetch.Goals as goal
use Rattle.awk_store.proofs.raws.Raws.fetch.Goals.{After-unwrap}

-- ---- the bytes are copied already

pub returns-in-Some-clause-answer : goal.returns-in-Some-clause-answer
returns-in-Some-clause-answer g c =
    ap (λ o. ok_or o Absent)
    (holds-known string_bytes _ _ _ c.self.view_is _ (λ raws k b. at_key raws k ≡ Some b) _
    c.self.invariant c.in-Some.ensures.value)

pub returns-in-Some-clause-fetched : goal.returns-in-Some-clause-fetched
returns-in-Some-clause-fetched g c =
    with_fetched-known string_bytes _ _ _ c.self.view_is _ _ c.in-Some.ensures.value

-- ---- they are not, and the fetch is refused

pub returns-in_default-get-clause-answer : goal.returns-in_default-get-clause-answer
returns-in_default-get-clause-answer g c =
    ap (λ o. ok_or o Absent)
    (sym (at_key-shown string_bytes _ c.self.inside.raws.entries
    (ap (λ r. r.entries) c.self.view_is) c.args.key.now None c.in_default-get.ensures.value))

pub returns-in_default-get-clause-again : goal.returns-in_default-get-clause-again
returns-in_default-get-clause-again g c known =
    sym (is_fetched-new string_bytes _ _ _ c.self.view_is _ c.in_default.ensures.value) ∙ known

pub returns-in_err-reserve-clause-again : goal.returns-in_err-reserve-clause-again
returns-in_err-reserve-clause-again g c known =
    let unknown : false ≡ true = sym (is_fetched-new string_bytes _ _ _ c.self.view_is _
    c.in_default.ensures.value) ∙ known in cc

pub returns-in_err-name-clause-again : goal.returns-in_err-name-clause-again
returns-in_err-name-clause-again g c known =
    let unknown : false ≡ true = sym (is_fetched-new string_bytes _ _ _ c.self.view_is _
    c.in_default.ensures.value) ∙ known in cc

pub returns-in_err-copy-clause-again : goal.returns-in_err-copy-clause-again
returns-in_err-copy-clause-again g c known =
    let unknown : false ≡ true = sym (is_fetched-new string_bytes _ _ _ c.self.view_is _
    c.in_default.ensures.value) ∙ known in cc

pub returns-in_err-copy-clause-cost : goal.returns-in_err-copy-clause-cost
returns-in_err-copy-clause-cost g c =
    let len : unfetched_len c.args.self.now c.args.key.now ≡ length c.in-Some-get.bytes.now.now =
    unfetched_len-new string_bytes _ _ _ c.self.view_is _ _ c.in_default.ensures.value
    (at_key-shown string_bytes (shown_by string_bytes c.self.inside.raws.entries)
    c.self.inside.raws.entries refl c.args.key.now _ c.in-Some-get.ensures.value) in
    omega (arith, c.add.ensures)

-- ---- they are not, and are copied

pub returns-clause-cost : goal.returns-clause-cost
returns-clause-cost g c =
    let len : unfetched_len c.args.self.now c.args.key.now ≡ length c.in-Some-get.bytes.now.now =
    unfetched_len-new string_bytes _ _ _ c.self.view_is _ _ c.in_default.ensures.value
    (at_key-shown string_bytes (shown_by string_bytes c.self.inside.raws.entries)
    c.self.inside.raws.entries refl c.args.key.now _ c.in-Some-get.ensures.value) in
    omega (arith, c.add.ensures)

-- what the map holds after the insert: it had room, and the key is new
grown : (g : _) (c : After-unwrap g)
    → c.insert.new.self.entries ≡ c.self.inside.copied.entries ++
    (c.in_ok-name.name, c.in_ok-copy.copy) ∷ []
grown g c =
    rw c.unwrap.ensures at c.insert.ensures.entries
    ∙ ap (λ kept. insert_entry (λ x y. bytes_eq (string_bytes x) (string_bytes y)) kept
    c.in_ok-name.name c.in_ok-copy.copy) c.reserve.ensures.entries
    ∙ insert_entry-new string_bytes c.self.inside.copied.entries c.args.key.now _ _
    c.in_default.ensures.value c.in_ok-name.ensures.ok

-- the bytes are those of the key
its_bytes : (g : _) (c : After-unwrap g)
    → at_key (shown_by string_bytes c.self.inside.raws.entries) (string_bytes c.in_ok-name.name) ≡
    Some c.in_ok-copy.copy.now
its_bytes g c =
    rw c.in_ok-name.ensures.ok
    (sym (at_key-shown string_bytes (shown_by string_bytes c.self.inside.raws.entries)
    c.self.inside.raws.entries refl c.args.key.now _ c.in-Some-get.ensures.value) ∙ ap Some
    (sym c.in_ok-copy.ensures))

pub invariant_of-self-2 : goal.invariant_of-self-2
invariant_of-self-2 g c =
    rw (grown g c) (holds-push string_bytes (λ k b. at_key
    (shown_by string_bytes c.self.inside.raws.entries) k ≡ Some b) c.self.inside.copied.entries _ _
    c.self.invariant (its_bytes g c))

pub returns-clause-answer : goal.returns-clause-answer
returns-clause-answer g c =
    ap (λ o. ok_or o Absent)
    (sym (at_key-shown string_bytes _ c.self.inside.raws.entries
    (ap (λ r. r.entries) c.self.view_is) c.args.key.now _ c.in-Some-get.ensures.value))
    ∙ ap (λ b. ok_or (Some b) Absent) (sym c.in_ok-copy.ensures)

pub returns-clause-fetched : goal.returns-clause-fetched
returns-clause-fetched g c =
    ap (λ kept. record {
      entries = shown_by string_bytes c.self.inside.raws.entries;
      fetched =
          keys_of (shown_by string_bytes kept);
    }) (grown g c)
    ∙ with_fetched-new string_bytes _ _ _ c.self.view_is _ _ _ c.in_default.ensures.value
    c.in_ok-name.ensures.ok
