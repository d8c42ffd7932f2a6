-- What is packed is read back.
use Rattle.std.proofs.Common.{◌≡◌, ◌≤◌, Bool, true, false, cond, List, [], ◌∷◌, length, get_or}
use Rattle.std.proofs.Common.{None, Ok, Err, refl, ap, ap₂, sym, subst, ◌∙◌, arith}
use Rattle.std.specs.Prelude.{◌||◌}
use Rattle.std.specs.List.{list_any, AllByRecursion}
use Rattle.std.specs.Option.{option_map}
use Rattle.std.proofs.lemmas.Bool.Decides.{nat_tests}
use Rattle.awk_base.proofs.Every.{all-at}
use Rattle.awk_types.specs.DataType.{DataType, nodes}
use Rattle.awk_types.specs.Datum.{arr}
use Rattle.awk_types.specs.Has.{Has}
use Rattle.awk_types.specs.Limit.{limit}
use Rattle.awk_types.specs.Simple.{IsSimple, simple, simple_value}
use Rattle.awk_types.specs.Value.{Value, null}
use Rattle.awk_types.proofs.RefusalLaws.{refused_or-None}
use Rattle.awk_types.proofs.Simplified.{simplifies}
use Rattle.awk_types.proofs.PartLimits.{nodes_within}
use Rattle.awk_form.specs.FormType.{type_of}
use Rattle.awk_form.specs.Lawful.{IsLawful}
use Rattle.awk_pack.specs.Columns.{Placed, placed}
use Rattle.awk_pack.specs.PackedForm.{packed_form}
use Rattle.awk_pack.specs.Canon.{Pack, is_too_long, lanes_of, packed, canon}
use Rattle.awk_pack.specs.declared.packed.PackFault.TheVariants.{Size}
use Rattle.awk_pack.proofs.LawfulForms.{few-alternatives, lawful-packed_form}
use Rattle.awk_text.specs.Buffers.{buffer_keys}
use Rattle.awk_text.specs.PackedText.{buffers}
use Rattle.awk_valid.specs.Container.{Container}
use Rattle.awk_valid.specs.Broken.{broken}
use Rattle.awk_valid.specs.Denote.{item, denote}
use Rattle.awk_valid.specs.Loading.{limited, refusal}
use Rattle.awk_valid.proofs.PartLaws.{both_none}
use Rattle.awk_readback.specs.ReadBack.{HasBuffers, IsReadBack, PackedReadsBack, PackedIsLawful}
use Rattle.awk_readback.specs.ReadBack.{IsHeld, PackedIsHeld}
use Rattle.awk_readback.proofs.ValueLists.{Reads, reads-all}
use Rattle.awk_readback.proofs.BufferParts.{as-many}
use Rattle.awk_readback.proofs.HeldLaws.{distinct-held}
use Rattle.awk_readback.proofs.LaneTexts.{packed-lanes, texts-held}
use Rattle.awk_readback.proofs.KeyLaws.{packed-keys-distinct}
use Rattle.awk_readback.proofs.PackedForms.{type-packed_form}
use Rattle.awk_readback.proofs.PackedReads.{AllFit, packed-reads}

-- ---- what is known where packing is not refused

fits-one : (p : Placed) → is_too_long p ≡ false → length p.values ≤ 1073741824
fits-one p e = grind (arith, nat_tests)

all-fit : (ps : List Placed) → list_any is_too_long ps ≡ false → AllFit ps
all-fit [] e = tt
all-fit (p ∷ ps) e = by (is_too_long p) refl e (λ g. all-fit ps g)
  where
    by : (b : Bool) → is_too_long p ≡ b → (b || list_any is_too_long ps) ≡ false
        → (list_any is_too_long ps ≡ false → AllFit ps) → AllFit (p ∷ ps)
    by true f g others = absurd (cc)
    by false f g others = (fits-one p f, others g)

pub packed-whole : (t : DataType) (vs : List Value) (p : Pack) → canon t vs ≡ Ok p
    → (packed t vs ≡ p) × AllFit (placed t vs)
packed-whole t vs p e = by (list_any is_too_long (placed t vs)) refl e
  where
    by : (b : Bool) → list_any is_too_long (placed t vs) ≡ b
        → cond b (Err Size) (Ok (packed t vs)) ≡ Ok p
        → (packed t vs ≡ p) × AllFit (placed t vs)
    by true f g = absurd (cc)
    by false f g = (cc, all-fit (placed t vs) f)

-- ---- the law

module _ (t : DataType) (vs : List Value) (c : Container) (s : IsSimple t)
    (h : AllByRecursion (Has t) vs) where
  simple-form : simple (type_of (packed_form 0 t)) ≡ t
  simple-form = ap simple (type-packed_form 0 t) ∙ (simplifies t).stays s

  -- values of a simple type stay as they are
  items-denoted : Reads (item (packed_form 0 t) c) vs
      → Reads (λ i. simple_value (type_of (packed_form 0 t)) (item (packed_form 0 t) c i)) vs
  items-denoted reads j l =
      ap₂ simple_value (type-packed_form 0 t) (reads j l)
      ∙ (simplifies t).values_stay s (get_or vs j null) (all-at (Has t) vs j null h l)

  packed-denoted : Reads (item (packed_form 0 t) c) vs
      → denote (packed_form 0 t) (length vs) c ≡ arr t vs
  packed-denoted reads = ap₂ arr simple-form (reads-all _ vs (items-denoted reads))

  packed-refusal : limit t ≡ None → broken (packed_form 0 t) (length vs) c ≡ None
      → refusal (packed_form 0 t) (length vs) c ≡ None
  packed-refusal l valid =
      both_none _ _ (ap (λ u. option_map limited (limit u)) simple-form ∙ ap (option_map limited) l)
      valid

pub same-canon : (t u : DataType) (vs ws : List Value) (p : Pack) → canon t vs ≡ Ok p
    → arr t vs ≡ arr u ws → canon u ws ≡ Ok p
same-canon t u vs ws p e same =
    let typ : u ≡ t = cc in
    let items : ws ≡ vs = cc in
    ap₂ canon typ items ∙ e

read-back : (t : DataType) (vs : List Value) (c : Container) → IsSimple t → limit t ≡ None
    → AllByRecursion (Has t) vs → AllFit (placed t vs) → canon t vs ≡ Ok (packed t vs)
    → HasBuffers c (buffers (packed t vs)) → IsReadBack t vs (packed t vs) c
read-back t vs c s l h fit e b =
    let reads = packed-reads 0 t vs c h fit (few-alternatives t l) b in
    let valid = reads.0 0 in
    let denoted = packed-denoted t vs c s h reads.1 in
    record {
      valid = valid;
      denoted = denoted;
      loaded = refused_or-None _ _ (arr t vs) (packed-refusal t vs c s h l valid) denoted;
      again = λ u ws same. same-canon t u vs ws (packed t vs) e (sym denoted ∙ same);
    }

pub packed_reads_back : PackedReadsBack
packed_reads_back t vs s l h p e c b =
    let is = packed-whole t vs p e in
    subst (λ q. IsReadBack t vs q c) is.0
    (read-back t vs c s l h is.1 (e ∙ ap Ok (sym is.0))
    (subst (λ q. HasBuffers c (buffers q)) (sym is.0) b))

-- ---- the form and the keys

pub packed_is_lawful : PackedIsLawful
packed_is_lawful t vs p h l e =
    subst (λ q. IsLawful q.form) (packed-whole t vs p e).0
    (lawful-packed_form 0 t h (few-alternatives t l))

packed-held : (t : DataType) (vs : List Value) → nodes t ≤ 65536 → AllByRecursion (Has t) vs
    → IsHeld (packed t vs)
packed-held t vs few h =
    let distinct = packed-keys-distinct t (omega (arith, few)) in
    record {
      lanes = as-many 0 t vs;
      distinct = distinct;
      held = distinct-held (buffer_keys (packed_form 0 t)) (lanes_of (placed t vs)) distinct;
      texts =
          texts-held (buffer_keys (packed_form 0 t)) (lanes_of (placed t vs)) distinct
          (packed-lanes t vs h);
    }

pub packed_is_held : PackedIsHeld
packed_is_held t vs p l h e =
    subst IsHeld (packed-whole t vs p e).0 (packed-held t vs (nodes_within t l) h)
