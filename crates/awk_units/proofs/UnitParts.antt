-- A line and the raw bytes behind it, by the two calls that take them.
use Rattle.std.proofs.Common.{◌≡◌, ◌⊎◌, inl, inr, ◌<◌, ◌≤◌, ℕ, Bool, true, false, true≢false, List}
use Rattle.std.proofs.Common.{[], ◌++◌, length, refl, ap, sym, ◌∙◌, subst, arith, Option, Some, Ok}
use Rattle.std.proofs.Common.{Err, Vec}
use Rattle.std.proofs.lemmas.Bool.{false_from_ne_true}
use Rattle.std.specs.declared.alloc.Global.{Global}
use Rattle.awk_edge.specs.Next.{NextLine}
use Rattle.awk_edge.specs.Raw.{NextBytes, TakesBytes, ReadsForMore}
use Rattle.awk_edge.specs.Reading.{Reading}
use Rattle.awk_edge.specs.Units.{raw_limit, Framing}
use Rattle.awk_edge.specs.declared.lines.LineFault.{LineFault}
use Rattle.awk_edge.specs.declared.lines.LineFault.TheVariants.{Read, NoMemory, LineTooLong}
use Rattle.awk_edge.specs.declared.lines.LineFault.TheVariants.{TooManyLines}
use Rattle.awk_edge.proofs.Known.{Consumes-both}
use Rattle.awk_units.specs.Taking.{NextUnit}

-- behind the end nothing was read
no_more : {left : Option (List ℕ)} {mid new : Reading} {given raw : List ℕ} {n gave : ℕ}
    {Same : Type 0} → mid.held ≡ [] → raw ≡ [] → TakesBytes left mid new given raw n
    → (Same × (given ≡ [])) ⊎ ReadsForMore mid given n gave → given ≡ []
no_more held none b (inl same) = same.1
no_more {new = new} {given = given} held none b (inr need) =
    let fewer = b.fewer (omega (arith, need.fewer, ap length none)) in
    sym (ap (λ z. z ++ given) held) ∙ b.bytes ∙ ap (λ z. z ++ new.held) none ∙ fewer.1

module _ {R : Type 0} (p : Framing R) (r : R) where
  pub takes_both : {S : Type 0} (left : S → Option (List ℕ)) (gave : S
      → ℕ) {source0 source1 source2 : S} {old mid new : Reading} (v w : Vec ℕ Global) {n : ℕ}
      → NextLine left gave source0 source1 old mid (Ok (Some v)) → n ≡ p.asked r v.items
      → n ≤ raw_limit → NextBytes left gave source1 source2 mid new n (Ok w) → (mid.is_ended ≡ true
      → (w.items ≡ []) × (source2 ≡ source1))
      → NextUnit p r (left source0) (left source2) old new (Ok (Some (record {
        line = v;
        raw =
            w;
      })))
  takes_both left gave {source1 = source1} {source2 = source2} {mid = mid} {new =
      new} v w l same few b e = record {
        given = l.given ++ b.given;
        consumes = Consumes-both _ _ _ l.given b.given l.consumes b.consumes;
        answer = record {
          between = left source1;
          mid = mid;
          first = l.given;
          more = b.given;
          all = refl;
          reads_line = l.consumes;
          takes_line = l.answer;
          few = subst (λ z. z ≤ raw_limit) same few;
          reads_raw = b.consumes;
          takes_raw = subst (λ z. TakesBytes (left source2) mid new b.given w.items z) same
              b.answer;
          last = λ f. (
            (e f).0,
            no_more (l.answer.last f).1 (e f).0 b.answer b.need,
            ap left (e f).1,
          );
        };
      }

  pub takes_line_alone : {S : Type 0} (left : S → Option (List ℕ)) (gave : S → ℕ) (told : S
      → Bool) {source0 source1 source2 : S} {old mid new : Reading} (v : Vec ℕ Global) {n : ℕ}
      (fault : LineFault) → NextLine left gave source0 source1 old mid (Ok (Some v))
      → n ≡ p.asked r v.items → n ≤ raw_limit
      → NextBytes left gave source1 source2 mid new n (Err fault)
      → (old.is_ended ≡ true → ⊥) → (mid.is_ended ≡ true → (told source1 ≡ true)
      ⊎ (old.is_ended ≡ true)) → (mid.is_ended ≡ true → source2 ≡ source1)
      → (fault ≡ Read → told source2 ≡ false)
      → NextUnit p r (left source0) (left source2) old new (Err fault)
  takes_line_alone left gave told {source1 = source1} {old = old} {mid =
      mid} v Read l same few b unended ends still failed = record {
        given = l.given ++ b.given;
        consumes = Consumes-both _ _ _ l.given b.given l.consumes b.consumes;
        answer = inr (record {
          between = left source1;
          mid = mid;
          first = l.given;
          more = b.given;
          line = v.items;
          all = refl;
          takes_line = l.answer;
          going = false_from_ne_true _ (λ e. going e (ends e));
          few = subst (λ z. z ≤ raw_limit) same few;
          fewer = subst (λ z. length (mid.held ++ b.given) < z) same b.answer;
        });
      }
    where
      going : mid.is_ended ≡ true → (told source1 ≡ true) ⊎ (old.is_ended ≡ true) → ⊥
      going e (inl t) = true≢false (sym t ∙ sym (ap told (still e)) ∙ failed refl)
      going e (inr o) = unended o
  takes_line_alone left gave told v NoMemory l same few b unended ends still failed = record {
    given = l.given ++ b.given;
    consumes = Consumes-both _ _ _ l.given b.given l.consumes b.consumes;
    answer = tt;
  }
  takes_line_alone left gave told v LineTooLong l same few b unended ends still failed =
      absurd b.answer
  takes_line_alone left gave told v TooManyLines l same few b unended ends still failed =
      absurd b.answer
