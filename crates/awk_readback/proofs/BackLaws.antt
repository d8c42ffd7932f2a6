-- What the calls of there and back tell, by the law of reading back.
use Rattle.std.proofs.Common.{◌≡◌, Bool, true, false, cond, List, None, Some, Option, Ok, Err}
use Rattle.std.proofs.Common.{Result, refl, ap, sym, subst, ◌∙◌}
use Rattle.std.specs.Prelude.{IsErrAnd}
use Rattle.std.specs.Option.{option_map}
use Rattle.std.specs.List.{AllByRecursion}
use Rattle.awk_types.specs.DataType.{DataType}
use Rattle.awk_types.specs.Datum.{Datum, arr}
use Rattle.awk_types.specs.Gives.{Gives, Told}
use Rattle.awk_types.specs.Has.{Has}
use Rattle.awk_types.specs.Value.{Value}
use Rattle.awk_layout.specs.Array.{IsArrayType}
use Rattle.awk_layout.specs.Layout.{Layout}
use Rattle.awk_layout.specs.Typing.{array_type, array_items, array_datum}
use Rattle.awk_store.specs.Buffers.{Held}
use Rattle.awk_pack.specs.Canon.{Pack, is_too_large, packed, canon, pack_told}
use Rattle.awk_pack.specs.declared.packed.PackFault.{PackFault}
use Rattle.awk_pack.specs.declared.packed.PackFault.TheVariants.{Size, NoMemory}
use Rattle.awk_valid.specs.Broken.{Refusal}
use Rattle.awk_valid.specs.Container.{container_of}
use Rattle.awk_valid.specs.Denote.{denoting}
use Rattle.awk_valid.specs.Loading.{told}
use Rattle.awk_valid.specs.declared.fault.LoadFault.{LoadFault}
use Rattle.awk_readback.specs.Back.{GivesBack, HoldsPacked, Round, round_of, Unback, size, unloaded}
use Rattle.awk_readback.specs.Back.{packed_again, round_from, back_over, there_and_back, back_told}
use Rattle.awk_readback.specs.declared.back.Back.{Back}
use Rattle.awk_readback.specs.declared.back.BackFault.{BackFault}
use Rattle.awk_readback.specs.declared.back.BackFault.TheVariants as fault
use Rattle.awk_readback.proofs.ReadBack.{packed_reads_back}

-- what was packed is loaded
pub loaded-back : (p : Pack) (given : Held) (r : Result Layout LoadFault)
    → Gives array_datum told r (denoting p.form p.length (container_of false given))
    → GivesBack p given r
loaded-back p given r g t vs a h e b =
    let back =
    packed_reads_back t vs a.is_simple a.within_limits h p e (container_of false given) b in
    subst (Gives array_datum told r) back.loaded g

-- ---- packing, as it is seen in a round

abbrev round : Pack → Datum → Pack → Round
round first array again = record { first = first; array = array; again = again }

again-large : (p : Pack) (u : DataType) (ws : List Value) → canon u ws ≡ Err Size
    → packed_again p u ws ≡ Err size
again-large p u ws e = by (is_too_large u ws) e
  where
    by : (b : Bool) → ◌≡◌ {A = Result Pack PackFault} (cond b (Err Size) (Ok (packed u ws)))
        (Err Size)
        → ◌≡◌ {A = Result Round Unback} (cond b (Err size)
        (Ok (round p (arr u ws) (packed u ws)))) (Err size)
    by true e = refl
    by false e = absurd (cc)

again-packed : (p q : Pack) (u : DataType) (ws : List Value) → canon u ws ≡ Ok q
    → packed_again p u ws ≡ Ok (round p (arr u ws) q)
again-packed p q u ws e = by (is_too_large u ws) e
  where
    by : (b : Bool) → ◌≡◌ {A = Result Pack PackFault} (cond b (Err Size) (Ok (packed u ws)))
        (Ok q)
        → ◌≡◌ {A = Result Round Unback} (cond b (Err size)
        (Ok (round p (arr u ws) (packed u ws)))) (Ok (round p (arr u ws) q))
    by true e = absurd (cc)
    by false e = let same : packed u ws ≡ q = cc in ap (λ q. Ok (round p (arr u ws) q)) same

-- what a packed array denotes over the buffers of a store
abbrev denoted : Pack → Held → Result Datum Refusal
denoted p given = denoting p.form p.length (container_of false given)

over-large : (t : DataType) (vs : List Value) (given : Held) → canon t vs ≡ Err Size
    → back_over given t vs ≡ Err size
over-large t vs given e = by (is_too_large t vs) e
  where
    by : (b : Bool) → ◌≡◌ {A = Result Pack PackFault} (cond b (Err Size) (Ok (packed t vs)))
        (Err Size)
        → ◌≡◌ {A = Result Round Unback} (cond b (Err size)
        (round_from (packed t vs) (denoted (packed t vs) given))) (Err size)
    by true e = refl
    by false e = absurd (cc)

over-packed : (t : DataType) (vs : List Value) (given : Held) (p : Pack) → canon t vs ≡ Ok p
    → back_over given t vs ≡ round_from p (denoted p given)
over-packed t vs given p e = by (is_too_large t vs) e
  where
    by : (b : Bool) → ◌≡◌ {A = Result Pack PackFault} (cond b (Err Size) (Ok (packed t vs)))
        (Ok p)
        → ◌≡◌ {A = Result Round Unback} (cond b (Err size)
        (round_from (packed t vs) (denoted (packed t vs) given))) (round_from p (denoted p given))
    by true e = absurd (cc)
    by false e =
        let same : packed t vs ≡ p = cc in ap (λ q. round_from q (denoted q given)) same

-- ---- what is loaded

over-loaded : (t : DataType) (vs : List Value) (given : Held) (p : Pack) (array : Layout)
    → canon t vs ≡ Ok p → denoted p given ≡ Ok (array_datum array)
    → back_over given t vs ≡ packed_again p (array_type array) (array_items array)
over-loaded t vs given p array c d = over-packed t vs given p c ∙ ap (round_from p) d

-- and packed
pub comes-back : (t : DataType) (vs : List Value) (given : Held) (p q : Pack) (array : Layout)
    → canon t vs ≡ Ok p → denoted p given ≡ Ok (array_datum array)
    → canon (array_type array) (array_items array) ≡ Ok q
    → back_over given t vs ≡ Ok (round p (array_datum array) q)
comes-back t vs given p q array c d e =
    over-loaded t vs given p array c d
    ∙ again-packed p q (array_type array) (array_items array) e

-- ---- what there and back gives over any store

-- a fault that a call told
fails : (r : Result Back BackFault) (f : BackFault) (said : Result Round Unback)
    → IsErrAnd r (λ e. e ≡ f) → Told (back_told f) said → Gives round_of back_told r said
fails (Ok y) f said is h = absurd is
fails (Err x) f said is h = subst (λ z. Told (back_told z) said) (sym is) h

module _ (t : DataType) (vs : List Value) (given : Held) (r : Result Back BackFault) where
  first_told : (e : PackFault) → Told (pack_told e) (canon t vs)
      → Told (back_told (fault.Pack e)) (back_over given t vs)
  first_told NoMemory k = tt
  first_told Size k = over-large t vs given k

  -- the array is not packed
  pub first-fails : (e : PackFault) → IsErrAnd r (λ f. f ≡ fault.Pack e)
      → Told (pack_told e) (canon t vs) → Gives round_of back_told r (back_over given t vs)
  first-fails e is k = fails r (fault.Pack e) (back_over given t vs) is (first_told e k)

  load_told : (o : Option Refusal) (p : Pack) → Told o (denoted p given)
      → Told (option_map unloaded o) (round_from p (denoted p given))
  load_told None p k = tt
  load_told (Some f) p k = ap (round_from p) k

  -- what is packed is not loaded
  pub load-fails : (p : Pack) (e : LoadFault) → canon t vs ≡ Ok p
      → IsErrAnd r (λ f. f ≡ fault.Load e) → Told (told e) (denoted p given)
      → Gives round_of back_told r (back_over given t vs)
  load-fails p e c is k =
      fails r (fault.Load e) (back_over given t vs) is
      (subst (Told (option_map unloaded (told e))) (sym (over-packed t vs given p c))
      (load_told (told e) p k))

  again_told : (p : Pack) (u : DataType) (ws : List Value) (e : PackFault)
      → Told (pack_told e) (canon u ws) → Told (back_told (fault.Pack e)) (packed_again p u ws)
  again_told p u ws NoMemory k = tt
  again_told p u ws Size k = again-large p u ws k

  -- what is loaded is not packed
  pub again-fails : (p : Pack) (array : Layout) (e : PackFault) → canon t vs ≡ Ok p
      → IsErrAnd r (λ f. f ≡ fault.Pack e) → denoted p given ≡ Ok (array_datum array)
      → Told (pack_told e) (canon (array_type array) (array_items array))
      → Gives round_of back_told r (back_over given t vs)
  again-fails p array e c is d k =
      fails r (fault.Pack e) (back_over given t vs) is
      (subst (Told (back_told (fault.Pack e))) (sym (over-loaded t vs given p array c d))
      (again_told p (array_type array) (array_items array) e k))

-- ---- over a store that has the buffers

module _ (t : DataType) (vs : List Value) (given : Held) (a : IsArrayType t)
    (h : AllByRecursion (Has t) vs) (held : HoldsPacked given t vs) where
  held-loaded : canon t vs ≡ Ok (packed t vs) → denoted (packed t vs) given ≡ Ok (arr t vs)
  held-loaded c =
      (packed_reads_back t vs a.is_simple a.within_limits h (packed t vs) c
      (container_of false given)
      (held (packed t vs) c)).loaded

  over-held : back_over given t vs ≡ there_and_back t vs
  over-held = by (is_too_large t vs) refl
    where
      by : (b : Bool) → is_too_large t vs ≡ b → back_over given t vs ≡ there_and_back t vs
      by true e =
          over-large t vs given (ap (λ b. cond b (Err Size) (Ok (packed t vs))) e)
          ∙ sym (ap (λ b. cond b (Err size) (Ok (round (packed t vs) (arr t vs) (packed t vs)))) e)
      by false e =
          let c : canon t vs ≡ Ok (packed t vs)
          = ap (λ b. cond b (Err Size) (Ok (packed t vs))) e in
          over-packed t vs given (packed t vs) c ∙ ap (round_from (packed t vs)) (held-loaded c)

  pub gives-held : (r : Result Back BackFault) → Gives round_of back_told r (back_over given t vs)
      → Gives round_of back_told r (there_and_back t vs)
  gives-held r g = subst (Gives round_of back_told r) over-held g
