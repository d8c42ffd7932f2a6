-- What is held once the bytes of a key are added.
use Rattle.std.proofs.Common.{◌≡◌, ◌∙◌, ap, [], ◌∷◌, ◌++◌}
use Rattle.std.specs.Prelude.{string_bytes}
use Rattle.std.specs.Map.{keys_of}
use Rattle.awk_store.specs.Buffers.{Given, shown_by}
use Rattle.awk_store.proofs.Kept.{lookup-none, insert_entry-new, shown_by-push, AreCopied-append}
use Rattle.awk_store.proofs.raws.Raws.add.Goals as goal
use Rattle.awk_store.proofs.raws.Raws.add.Goals.{In_ok-insert}

-- the entries after the insert: the key is new
grown : (c : In_ok-insert)
    → shown_by string_bytes c.insert.new.self.entries ≡ shown_by string_bytes
    c.self.inside.raws.entries ++ (c.args.key.now, c.args.bytes.now) ∷ []
grown c =
    let none = lookup-none string_bytes _ c.self.inside.raws.entries
    (ap (λ r. r.entries) c.self.view_is) c.args.key.now c.requires in
    ap (shown_by string_bytes)
    (c.in_ok-insert.ensures.entries
    ∙ insert_entry-new string_bytes c.self.inside.raws.entries c.args.key.now
    c.in_ok-from_str.field-0 c.args.bytes none c.in_ok-from_str.ensures.ok)
    ∙ shown_by-push string_bytes c.self.inside.raws.entries c.in_ok-from_str.field-0 c.args.bytes
    ∙ ap (λ k. shown_by string_bytes c.self.inside.raws.entries ++ (k, c.args.bytes.now) ∷ [])
    c.in_ok-from_str.ensures.ok

pub invariant_of-self-2 : goal.invariant_of-self-2
invariant_of-self-2 c =
    rw (grown c)
    (AreCopied-append (shown_by string_bytes c.self.inside.raws.entries)
    ((c.args.key.now, c.args.bytes.now) ∷ [])
    (shown_by string_bytes c.self.inside.copied.entries) c.self.invariant)

pub returns-clause-added : goal.returns-clause-added
returns-clause-added c =
    ap (λ es. let r : Given = record {
      entries = es;
      fetched = keys_of
          (shown_by string_bytes c.self.inside.copied.entries);
    } in r) (grown c)
    ∙ ap (λ (r : Given). let s : Given = record {
      entries = r.entries ++
          (c.args.key.now, c.args.bytes.now) ∷ [];
      fetched = r.fetched;
    } in s) c.self.view_is
