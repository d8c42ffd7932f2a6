use Rattle.std.proofs.Common.{◌≡◌, ◌∙◌, ◌≤◌, ◌++◌, ◌∷◌, [], ◌<◌, ap, arith, drop, drop-drop}
use Rattle.std.proofs.Common.{get_or, get_or-drop, length, length-drop, map, subst, sym}
use Rattle.std.proofs.lemmas.List.{length-map, map-append}
use Rattle.serde_json.specs.Data.{null}
use Rattle.serde_json.specs.View.{view}
use Rattle.awk_plain_columns.proofs.RecordLaws.{AreTaken, next_fits, none_taken, taken_all}
use Rattle.awk_plain_columns.proofs.RecordLaws.{taken_more}
use Rattle.awk_plain_columns.proofs.records.members_at.Goals as goal

pub loop-i-init : goal.loop-i-init
loop-i-init c =
    let ds = map (λ v. view v.now) c.args.values.now in
    let ps = map (λ v. view v.now) c.args.parts.now in
    subst (λ vs. AreTaken c.args.k ds ps 0 (map (λ v. view v.now) vs))
    (sym c.new-column.ensures.items) (none_taken c.args.k ds ps c.requires.parts)

pub member_from-requires : goal.member_from-requires
member_from-requires c =
    let ds = map (λ v. view v.now) c.args.values.now in
    let ps = map (λ v. view v.now) c.args.parts.now in
    let made = map (λ v. view v.now) c.loop-i.column.items in
    let within : c.loop-i.i < length ds =
    omega (arith, c.loop-i-test.true, length-map c.args.values.now (λ v. view v.now)) in
    let fits : c.args.width ≤ length (drop c.loop-i.start ps) =
    next_fits c.args.width c.args.k ds (drop c.loop-i.start ps) c.loop-i.i made c.requires.wide
    within c.loop-i.invariant in
    omega (
      arith,
      fits,
      c.requires.within,
      length-drop c.loop-i.start ps,
      length-map c.args.parts.now (λ v. view v.now),
    )

pub next_start-start-requires : goal.next_start-start-requires
next_start-start-requires c =
    let ds = map (λ v. view v.now) c.args.values.now in
    let ps = map (λ v. view v.now) c.args.parts.now in
    let made = map (λ v. view v.now) c.loop-i.column.items in
    let within : c.loop-i.i < length ds =
    omega (arith, c.loop-i-test.true, length-map c.args.values.now (λ v. view v.now)) in
    let fits : c.args.width ≤ length (drop c.loop-i.start ps) =
    next_fits c.args.width c.args.k ds (drop c.loop-i.start ps) c.loop-i.i made c.requires.wide
    within c.loop-i.invariant in
    omega (
      arith,
      fits,
      c.requires.within,
      length-drop c.loop-i.start ps,
      length-map c.args.parts.now (λ v. view v.now),
    )

pub loop-i-preserved : goal.loop-i-preserved
loop-i-preserved c =
    let ds = map (λ v. view v.now) c.args.values.now in
    let ps = map (λ v. view v.now) c.args.parts.now in
    let start = c.loop-i.start in
    let made = map (λ v. view v.now) c.loop-i.column.items in
    let new = map (λ v. view v.now) c.push.new.self.items in
    let within : c.loop-i.i < length ds =
    omega (arith, c.loop-i-test.true, length-map c.args.values.now (λ v. view v.now)) in
    let put : new ≡ made ++ get_or (drop start ps) c.args.k null ∷ [] =
    ap (map (λ v. view v.now)) c.in_ok-push.ensures.items
    ∙ map-append (λ v. view v.now) c.loop-i.column.items (c.member_from.result ∷ [])
    ∙ ap (λ d. made ++ d ∷ []) (c.member_from.ensures ∙ sym (get_or-drop start ps c.args.k null)) in
    let later = drop c.next_start-start.result ps in
    let left : later ≡ drop c.args.width (drop start ps) =
    ap (λ n. drop n ps) c.next_start-start.ensures ∙ sym (drop-drop c.args.width start ps) in
    taken_more c.args.width c.args.k ds (drop start ps) later c.loop-i.i made new c.requires.wide
    c.requires.within within c.loop-i.invariant put left

pub returns : goal.returns
returns c =
    let ds = map (λ v. view v.now) c.args.values.now in
    let ps = map (λ v. view v.now) c.args.parts.now in
    taken_all c.args.k ds (drop c.loop-i.start ps) c.loop-i.i
    (map (λ v. view v.now) c.loop-i.column.items)
    (omega (arith, c.loop-i-test.false, length-map c.args.values.now (λ v. view v.now)))
    c.loop-i.invariant
