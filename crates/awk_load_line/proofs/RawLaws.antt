-- The raw bytes behind a line, part by part.
use Rattle.std.proofs.Common.{◌≡◌, ◌≤◌, nat_lt, ℕ, zero, suc, ◌+◌, ◌-◌, Bool, true, false}
use Rattle.std.proofs.Common.{cond, List, [], ◌∷◌, ◌++◌, length, take, drop, slice_get, Option}
use Rattle.std.proofs.Common.{Some, None, true≢false, refl, sym, ap, ◌∙◌, subst, arith}
use Rattle.std.proofs.Common.{append_assoc, append-nil, length-take, length-drop}
use Rattle.std.specs.List.{list_any}
use Rattle.std.specs.Str.{bytes_eq}
use Rattle.std.proofs.lemmas.List.Sums.{sum_by-cons}
use Rattle.std.proofs.lemmas.Bool.{or_parts}
use Rattle.awk_types.specs.DataType.{Name}
use Rattle.awk_types.specs.Names.{AreDistinct}
use Rattle.awk_base.proofs.Lists.{drop-get}
use Rattle.awk_query.specs.Line.{keys_of}
use Rattle.awk_query.specs.declared.reading.RawPart.{RawPart}
use Rattle.awk_store.specs.Buffers.{ByKey, Held, IsNew, at_key, total_len}
use Rattle.awk_load_line.specs.Load.{only_raws}
use Rattle.awk_load_line.specs.Parts.{cut_key, parted}

-- ---- one part more

by_test : (b : Bool) (o : Option Name) (key : Name) → b ≡ true → cond b (Some key) o ≡ Some key
by_test true o key e = refl
by_test false o key e = absurd (true≢false (sym e))

by_other : (b : Bool) (o : Option Name) (key : Name) → b ≡ false → cond b (Some key) o ≡ o
by_other true o key e = absurd (true≢false e)
by_other false o key e = refl

pub cut_key-here : (ps : List RawPart) (i have : ℕ) (p : RawPart) → slice_get ps i ≡ Some p
    → nat_lt have p.count ≡ true → cut_key (drop i ps) have ≡ Some p.key
cut_key-here ps i have p at less =
    ap (λ qs. cut_key qs have) (drop-get ps i p at)
    ∙ by_test (nat_lt have p.count) (cut_key (drop (i + 1) ps) (have - p.count)) p.key less

pub cut_key-later : (ps : List RawPart) (i have : ℕ) (p : RawPart) → slice_get ps i ≡ Some p
    → nat_lt have p.count ≡ false
    → cut_key (drop i ps) have ≡ cut_key (drop (i + 1) ps) (have - p.count)
cut_key-later ps i have p at enough =
    ap (λ qs. cut_key qs have) (drop-get ps i p at)
    ∙ by_other (nat_lt have p.count) (cut_key (drop (i + 1) ps) (have - p.count)) p.key enough

drop_all : {A : Type 0} (xs : List A) (n : ℕ) → length xs ≤ n → drop n xs ≡ []
drop_all [] zero h = refl
drop_all [] (suc n) h = refl
drop_all (x ∷ xs) zero h = absurd (omega arith)
drop_all (x ∷ xs) (suc n) h = drop_all xs n (omega arith)

pub none_left : (ps : List RawPart) (i : ℕ) → length ps ≤ i → drop i ps ≡ []
none_left ps i h = drop_all ps i h

-- where none is cut, all bytes of a part are there
not_less : (have count : ℕ) (b : Bool) (key : Name) (o : Option Name) → nat_lt have count ≡ b
    → cond b (Some key) o ≡ None → (count ≤ have) × (o ≡ None)
not_less have count true key o e none = absurd (cc)
not_less have count false key o e none = (grind arith, none)

pub whole_part : (ps : List RawPart) (i have : ℕ) (p : RawPart) → slice_get ps i ≡ Some p
    → cut_key (drop i ps) have ≡ None
    → (p.count ≤ have) × (cut_key (drop (i + 1) ps) (have - p.count) ≡ None)
whole_part ps i have p at none =
    not_less have p.count (nat_lt have p.count) p.key
    (cut_key (drop (i + 1) ps) (have - p.count)) refl
    (sym (ap (λ qs. cut_key qs have) (drop-get ps i p at)) ∙ none)

pub parted-here : (ps : List RawPart) (i : ℕ) (raw : List ℕ) (p : RawPart)
    → slice_get ps i ≡ Some p
    → parted (drop i ps) raw
    ≡ (p.key, take p.count raw) ∷ parted (drop (i + 1) ps) (drop p.count raw)
parted-here ps i raw p at = ap (λ qs. parted qs raw) (drop-get ps i p at)

-- ---- keys that are not there yet

abbrev pub AreNew : ByKey → List Name → Type 0
AreNew raws [] = Unit {0}
AreNew raws (k ∷ ks) = (at_key raws k ≡ None) × AreNew raws ks

cond-none : (b : Bool) (x : List ℕ) (o : Option (List ℕ)) → cond b (Some x) o ≡ None
    → (b ≡ false) × (o ≡ None)
cond-none true x o e = absurd (cc)
cond-none false x o e = (refl, e)

at_key-add : (raws : ByKey) (k l bytes : List ℕ) → at_key raws k ≡ None → bytes_eq k l ≡ false
    → at_key (raws ++ (l, bytes) ∷ []) k ≡ None
at_key-add [] k l bytes none apart = rw apart refl
at_key-add (e ∷ es) k l bytes none apart =
    let parts = cond-none (bytes_eq k e.0) e.1 (at_key es k) none in
    rw parts.0 (at_key-add es k l bytes parts.1 apart)

pub AreNew-add : (raws : ByKey) (l bytes : List ℕ) (ks : List Name) → AreNew raws ks
    → list_any (λ m. bytes_eq m l) ks ≡ false → AreNew (raws ++ (l, bytes) ∷ []) ks
AreNew-add raws l bytes [] new apart = tt
AreNew-add raws l bytes (k ∷ ks) new apart =
    let parts = or_parts (bytes_eq k l) (list_any (λ m. bytes_eq m l) ks) apart in
    (at_key-add raws k l bytes new.0 parts.0, AreNew-add raws l bytes ks new.1 parts.1)

pub AreNew-none : (ks : List Name) → AreNew [] ks
AreNew-none [] = tt
AreNew-none (k ∷ ks) = (refl, AreNew-none ks)

-- what a part adds to a store, and what is left to add
pub record IsPartedSoFar (ps : List RawPart) (raw : List ℕ) (held : Held) (i : ℕ)
    (rest : List ℕ) : Type 0 where
  pub texts : held.texts ≡ []
  pub raws : held.raws ++ parted (drop i ps) rest ≡ parted ps raw
  pub new : AreNew held.raws (keys_of (drop i ps))
  pub apart : AreDistinct (keys_of (drop i ps))
  pub whole : cut_key (drop i ps) (length rest) ≡ None

pub parted_start : (ps : List RawPart) (raw : List ℕ) → AreDistinct (keys_of ps)
    → cut_key ps (length raw) ≡ None → IsPartedSoFar ps raw (only_raws []) 0 raw
parted_start ps raw apart whole = record {
  texts = refl;
  raws = refl;
  new = AreNew-none (keys_of ps);
  apart = apart;
  whole = whole;
}

-- the next key is new, and its bytes are all there
pub next_is_new : {ps : List RawPart} {raw : List ℕ} {held : Held} {i : ℕ} {rest : List ℕ}
    (p : RawPart) → slice_get ps i ≡ Some p → IsPartedSoFar ps raw held i rest → IsNew held p.key
next_is_new {ps = ps} {held = held} {i = i} p at h =
    let new = subst (λ qs. AreNew held.raws (keys_of qs)) (drop-get ps i p at) h.new in
    record { no_text = rw h.texts refl; no_raw = new.0 }

pub next_is_whole : {ps : List RawPart} {raw : List ℕ} {held : Held} {i : ℕ} {rest : List ℕ}
    (p : RawPart) → slice_get ps i ≡ Some p → IsPartedSoFar ps raw held i rest
    → p.count ≤ length rest
next_is_whole {ps = ps} {i = i} {rest = rest} p at h =
    (whole_part ps i (length rest) p at h.whole).0

-- once they were added
pub parted_more : {ps : List RawPart} {raw : List ℕ} {held : Held} {i : ℕ} {rest : List ℕ}
    (p : RawPart) (bytes more : List ℕ) (new : Held) → slice_get ps i ≡ Some p
    → bytes ≡ take p.count rest → more ≡ drop p.count rest → new.texts ≡ held.texts
    → new.raws ≡ held.raws ++ (p.key, bytes) ∷ [] → IsPartedSoFar ps raw held i rest
    → IsPartedSoFar ps raw new (i + 1) more
parted_more {ps = ps} {raw = raw} {held = held} {i = i} {rest = rest} p bytes more new at front
    behind texts raws h =
    let qs = drop (i + 1) ps in
    let keys = subst (λ z. AreNew held.raws (keys_of z)) (drop-get ps i p at) h.new in
    let apart = subst (λ z. AreDistinct (keys_of z)) (drop-get ps i p at) h.apart in
    let left : length more ≡ length rest - p.count = ap length behind ∙ length-drop p.count rest in
    record {
      texts = texts ∙ h.texts;
      raws = ap (λ z. z ++ parted qs more) raws
          ∙ append_assoc held.raws ((p.key, bytes) ∷ []) (parted qs more)
          ∙ ap (λ z. held.raws ++ (p.key, z) ∷ parted qs more) front
          ∙ ap (λ z. held.raws ++ (p.key, take p.count rest) ∷ parted qs z) behind
          ∙ ap (λ z. held.raws ++ z) (sym (parted-here ps i rest p at)) ∙ h.raws;
      new = subst (λ z. AreNew z (keys_of qs)) (sym raws)
          (AreNew-add held.raws p.key bytes (keys_of qs) keys.1 apart.0);
      apart = apart.1;
      whole = ap (cut_key qs) left ∙ (whole_part ps i (length rest) p at h.whole).1;
    }

-- all were added
pub parted_all : {ps : List RawPart} {raw : List ℕ} {held : Held} {i : ℕ} {rest : List ℕ}
    → length ps ≤ i → IsPartedSoFar ps raw held i rest → held ≡ only_raws (parted ps raw)
parted_all {ps = ps} {raw = raw} {held = held} {i = i} {rest = rest} all h =
    let raws : held.raws ≡ parted ps raw =
    sym (append-nil held.raws)
    ∙ ap (λ z. held.raws ++ parted z rest) (sym (none_left ps i all)) ∙ h.raws in
    ap (λ z. let w : Held = record { texts = z; raws = held.raws } in w) h.texts
    ∙ ap (λ z. let w : Held = record { texts = []; raws = z } in w) raws

-- the parts are together no longer than the bytes
pub total_len-parted : (ps : List RawPart) (raw : List ℕ)
    → total_len (parted ps raw) ≤ length raw
total_len-parted [] raw = omega arith
total_len-parted (p ∷ ps) raw =
    omega (
      arith,
      sum_by-cons (λ (e : List ℕ × List ℕ). length e.1) (p.key, take p.count raw)
          (parted ps (drop p.count raw)),
      total_len-parted ps (drop p.count raw),
      length-take p.count raw,
      length-drop p.count raw,
    )
