use Rattle.std.proofs.Common.{◌≡◌, ◌∙◌, ◌+◌, ap, arith, drop, refl, subst, sym}
use Rattle.std.specs.Prelude.{◌==◌, string_bytes}
use Rattle.serde_json.proofs.Views.{view-Object}
use Rattle.serde_json.specs.Data.{member, no_members, object}
use Rattle.serde_json.specs.View.{members_view, view}
use Rattle.awk_types.proofs.Views.{typ_of-Rec}
use Rattle.awk_types.specs.Names.{same_name}
use Rattle.awk_types.specs.Simple.{present}
use Rattle.awk_types.specs.View.{field_of, fields_of, names_of, typ_of, types_of}
use Rattle.awk_types.specs.DataType.{rec}
use Rattle.awk_plain.specs.IsPlain.{HavePlain}
use Rattle.awk_plain.specs.Suits.{fields_suit, suits}
use Rattle.awk_plain.proofs.JudgedLaws.{names_distinct}
use Rattle.awk_plain.proofs.SuitSteps.{fields_end, fields_next, next_fails, next_suits}
use Rattle.awk_plain.proofs.SuitSteps.{record_suits}
use Rattle.awk_plain.proofs.suits.+suit.Goals as goal

pub members_suit-returns-then-not-member_suits-clause-value :
    goal.members_suit-returns-then-not-member_suits-clause-value
members_suit-returns-then-not-member_suits-clause-value t c =
    let fs = fields_of c.args.fields.now in
    let ms = members_view c.args.members.now.entries in
    let i = c.loop-key.i in
    let f = field_of c.get.result.now in
    let key = string_bytes c.in-Some.key.now in
    let d = view c.in-Some.member.now in
    let rest = members_view c.next.new.self in
    let left : fields_suit fs ms ≡ fields_suit (drop i fs) (member key d rest) =
    subst (λ es. fields_suit fs ms ≡ fields_suit (drop i fs) (members_view es))
    c.in-Some.ensures.steps c.loop-key.invariant.1 in
    sym (left ∙ fields_next fs i f key d rest c.get.ensures.item
    ∙ next_fails (same_name f.name key) (suits f.typ d) (fields_suit (drop (i + 1) fs) rest)
    (sym c.if-not-member_suits.ensures.value))

pub members_suit-loop-key-preserved : goal.members_suit-loop-key-preserved
members_suit-loop-key-preserved t c =
    let fs = fields_of c.args.fields.now in
    let ms = members_view c.args.members.now.entries in
    let i = c.loop-key.i in
    let f = field_of c.get.result.now in
    let key = string_bytes c.in-Some.key.now in
    let d = view c.in-Some.member.now in
    let rest = members_view c.next.new.self in
    let left : fields_suit fs ms ≡ fields_suit (drop i fs) (member key d rest) =
    subst (λ es. fields_suit fs ms ≡ fields_suit (drop i fs) (members_view es))
    c.in-Some.ensures.steps c.loop-key.invariant.1 in
    let plain : HavePlain (member key d rest) → HavePlain ms =
    subst (λ es. HavePlain (members_view es) → HavePlain ms) c.in-Some.ensures.steps
    c.loop-key.invariant.2 in (
      omega (arith, c.if-i-len.false, c.len.ensures, c.loop-key.invariant.0),
      left ∙ fields_next fs i f key d rest c.get.ensures.item
          ∙ next_suits (same_name f.name key) (suits f.typ d) (fields_suit (drop (i + 1) fs) rest)
          (sym c.if-not-member_suits.ensures.value),
      λ h. plain (c.if-not-member_suits.ensures.plain refl, h),
    )

pub members_suit-returns-clause-value : goal.members_suit-returns-clause-value
members_suit-returns-clause-value t c =
    let fs = fields_of c.args.fields.now in
    let ms = members_view c.args.members.now.entries in
    let i = c.loop-key.i in
    let left : fields_suit fs ms ≡ fields_suit (drop i fs) no_members =
    subst (λ es. fields_suit fs ms ≡ fields_suit (drop i fs) (members_view es))
    c.in-None.ensures.steps.0 c.loop-key.invariant.1 in
    ap (λ n. i == n) c.len-2.ensures ∙ sym (left ∙ fields_end fs i c.loop-key.invariant.0)

pub members_suit-returns-clause-plain : goal.members_suit-returns-clause-plain
members_suit-returns-clause-plain t c =
    let ms = members_view c.args.members.now.entries in
    let plain : HavePlain no_members → HavePlain ms =
    subst (λ es. HavePlain (members_view es) → HavePlain ms) c.in-None.ensures.steps.0
    c.loop-key.invariant.2 in
    λ e. (names_distinct c.args.members.now.entries c.iter-key-items.ensures.ordered, plain tt)

pub suits-returns-in-Rec-clause-value : goal.suits-returns-in-Rec-clause-value
suits-returns-in-Rec-clause-value t c =
    let fs = fields_of c.in-Rec.fields in
    let u = typ_of c.args.typ.now in
    let ms = members_view c.in-Object.members.entries in
    let viewed : view c.args.value.now ≡ object ms =
    ap view c.in-Object.is ∙ view-Object c.in-Object.members in
    let e : present u ≡ rec (names_of fs) (types_of fs) =
    sym c.present-in-Object.ensures.item ∙ ap typ_of c.in-Rec.is ∙ typ_of-Rec c.in-Rec.fields in
    c.members_suit.ensures.value ∙ sym (ap (suits u) viewed ∙ record_suits u fs ms e)
