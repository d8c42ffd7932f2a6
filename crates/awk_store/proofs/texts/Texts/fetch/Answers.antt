-- What a fetch answers, by whether the key is kept already.
use Rattle.std.proofs.Common.{◌≡◌, ◌∙◌, ap, sym, arith, Some, false, true, length, [], ◌∷◌, ◌++◌}
use Rattle.std.specs.Map.{keys_of}
use Rattle.std.specs.Option.{option_map_or}
use Rattle.std.specs.Str.{bytes_eq}
use Rattle.indexmap.specs.IndexMap.{insert_entry}
use Rattle.serde_json.specs.View.{members_view}
use Rattle.awk_store.specs.Buffers.{IsDecoded, at_key, decoding, unfetched_len, texts_of, shown_by}
use Rattle.awk_store.proofs.Kept.{holds-known, with_fetched-known, is_fetched-new, with_fetched-new}
use Rattle.awk_store.proofs.Kept.{unfetched_len-new, holds-push, insert_entry-new}
use Rattle.awk_store.proofs.ByKeyLaws.{undecodable-new}
use Rattle.awk_store.proofs.texts.Texts.fetch.Goals as goal
use Rattle.awk_store.proofs.texts.Texts.fetch.Goals.{After-unwrap}

-- ---- the key is kept already

pub returns-in-Some-clause-answer : goal.returns-in-Some-clause-answer
returns-in-Some-clause-answer g c =
    (holds-known (λ k. k.now) _ _ _ c.self.view_is _ IsDecoded _ c.self.invariant.1
    c.in-Some.ensures.value).given

pub returns-in-Some-clause-encoded : goal.returns-in-Some-clause-encoded
returns-in-Some-clause-encoded g c =
    (holds-known (λ k. k.now) _ _ _ c.self.view_is _ IsDecoded _ c.self.invariant.1
    c.in-Some.ensures.value).encoded

pub returns-in-Some-clause-fetched : goal.returns-in-Some-clause-fetched
returns-in-Some-clause-fetched g c =
    with_fetched-known (λ k. k.now) _ _ _ c.self.view_is _ _ c.in-Some.ensures.value

pub returns-in-Some-clause-absent : goal.returns-in-Some-clause-absent
returns-in-Some-clause-absent g c none =
    let found = (holds-known (λ k. k.now) _ _ _ c.self.view_is _ IsDecoded _ c.self.invariant.1
    c.in-Some.ensures.value).encoded in
    let same = sym none ∙ found in cc

-- ---- it is not, and the fetch is refused

pub returns-in_default-text_at-clause-again : goal.returns-in_default-text_at-clause-again
returns-in_default-text_at-clause-again g c known =
    sym (is_fetched-new (λ k. k.now) _ _ _ c.self.view_is _ c.in_default.ensures.value) ∙ known

pub returns-in_err-reserve-clause-again : goal.returns-in_err-reserve-clause-again
returns-in_err-reserve-clause-again g c known =
    let unknown : false ≡ true = sym (is_fetched-new (λ k. k.now) _ _ _ c.self.view_is _
    c.in_default.ensures.value) ∙ known in cc

pub returns-in_err-bytes-clause-again : goal.returns-in_err-bytes-clause-again
returns-in_err-bytes-clause-again g c known =
    let unknown : false ≡ true = sym (is_fetched-new (λ k. k.now) _ _ _ c.self.view_is _
    c.in_default.ensures.value) ∙ known in cc

pub returns-in_err-bytes-clause-undecodable : goal.returns-in_err-bytes-clause-undecodable
returns-in_err-bytes-clause-undecodable g c refused =
    undecodable-new _ _ _ _ (ap (λ r. r.entries) c.self.view_is) _ c.in-Some-text_at.ensures.text
    c.in_err-bytes.ensures.answer
    (sym (rw refused at c.from_residual-in_err-bytes.ensures.1))

pub returns-in_err-bytes-clause-cost : goal.returns-in_err-bytes-clause-cost
returns-in_err-bytes-clause-cost g c =
    let len : unfetched_len c.args.self.now c.args.key.now ≡ length c.in-Some-text_at.text.now =
    unfetched_len-new (λ k. k.now) _ _ _ c.self.view_is _ _ c.in_default.ensures.value
    c.in-Some-text_at.ensures.text in
    omega (arith, c.add.ensures)

-- ---- it is not, and its text is decoded

pub returns-clause-cost : goal.returns-clause-cost
returns-clause-cost g c =
    let len : unfetched_len c.args.self.now c.args.key.now ≡ length c.in-Some-text_at.text.now =
    unfetched_len-new (λ k. k.now) _ _ _ c.self.view_is _ _ c.in_default.ensures.value
    c.in-Some-text_at.ensures.text in
    omega (arith, c.add.ensures)

-- what the map holds after the insert: it had room, and the key is new
grown : (g : _) (c : After-unwrap g)
    → c.insert.new.self.entries ≡ c.self.inside.decoded.entries ++
    (c.in-Some-text_at.name, c.in_ok-bytes.bytes) ∷ []
grown g c =
    rw c.unwrap.ensures at c.insert.ensures.entries
    ∙ ap (λ kept. insert_entry (λ x y. bytes_eq x.now y.now) kept c.in-Some-text_at.name
    c.in_ok-bytes.bytes) c.reserve.ensures.entries
    ∙ insert_entry-new (λ k. k.now) c.self.inside.decoded.entries c.args.key.now _ _
    c.in_default.ensures.value c.in-Some-text_at.ensures.key

-- the bytes are those of the key
its_bytes : (g : _) (c : After-unwrap g)
    → IsDecoded (option_map_or (λ m. texts_of (members_view m.now.entries)) c.self.inside.map [])
    c.in-Some-text_at.name.now c.in_ok-bytes.bytes.now
its_bytes g c = rw c.in-Some-text_at.ensures.key (record {
  given = ap decoding (sym c.in-Some-text_at.ensures.text) ∙ c.in_ok-bytes.ensures.answer;
  encoded = sym c.in-Some-text_at.ensures.text ∙ ap Some c.in_ok-bytes.ensures.encoded;
})

pub invariant_of-self-2 : goal.invariant_of-self-2
invariant_of-self-2 g c = (
  c.self.invariant.0,
  rw (grown g c) (holds-push (λ k. k.now) (IsDecoded _)
      c.self.inside.decoded.entries _ _ c.self.invariant.1 (its_bytes g c)),
)

pub returns-clause-fetched : goal.returns-clause-fetched
returns-clause-fetched g c =
    ap (λ kept. record {
      entries = option_map_or (λ m. texts_of (members_view m.now.entries))
          c.self.inside.map [];
      fetched = keys_of (shown_by (λ k. k.now) kept);
    }) (grown g c)
    ∙ with_fetched-new (λ k. k.now) _ _ _ c.self.view_is _ _ _ c.in_default.ensures.value
    c.in-Some-text_at.ensures.key

pub returns-in_err-reserve-clause-absent : goal.returns-in_err-reserve-clause-absent
returns-in_err-reserve-clause-absent g c none =
    let same = c.in-Some-text_at.ensures.text ∙ ap (λ r. at_key r.entries c.args.key.now)
    c.self.view_is ∙ none in cc

pub returns-in_err-bytes-clause-absent : goal.returns-in_err-bytes-clause-absent
returns-in_err-bytes-clause-absent g c none =
    let same = c.in-Some-text_at.ensures.text ∙ ap (λ r. at_key r.entries c.args.key.now)
    c.self.view_is ∙ none in cc

pub returns-clause-absent : goal.returns-clause-absent
returns-clause-absent g c none =
    let same = c.in-Some-text_at.ensures.text ∙ ap (λ r. at_key r.entries c.args.key.now)
    c.self.view_is ∙ none in cc
