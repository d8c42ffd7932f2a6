use Rattle.std.proofs.Common.{◌≡◌, ◌∙◌, ap, sym, subst, arith, refl, ◌∷◌, [], length}
use Rattle.std.specs.List.{flat_map}
use Rattle.std.proofs.lemmas.Option.{slice_get_read}
use Rattle.awk_pair_sides.specs.Levels.{common_class}
use Rattle.awk_pair_levels.specs.Shares.{share_class, class_list}
use Rattle.awk_pair_levels.proofs.ClassLaws.{class_from, class_begun, class_same, class_differs}
use Rattle.awk_pair_levels.proofs.ClassLaws.{class_any}
use Rattle.awk_pair_levels.proofs.ClassLaws.{class_not, class_end}
use Rattle.awk_pair_levels.proofs.alike.level_class.Goals as goal
use Rattle.awk_pair_levels.proofs.alike.level_class.Goals.{in-None, in-Some-Some+in-None-class}
use Rattle.awk_pair_levels.proofs.alike.level_class.Goals.{in-Some-Some+in-Some+else-n-m}

pub returns : goal.returns
returns c =
    class_end c.args.shares.now c.loop-i.i c.loop-i.class _ (omega (arith, c.loop-i-test.false))
    c.loop-i.invariant

pub returns-in-Some-None : goal.returns-in-Some-None
returns-in-Some-None c =
    class_any c.args.shares.now c.loop-i.i c.index-shares-i.result c.loop-i.class _
    (slice_get_read c.args.shares.now (length c.args.shares.now) c.loop-i.i
    c.index-shares-i.result refl (omega arith) c.index-shares-i.is)
    (sym c.class_of.ensures ∙ ap class_list c.in-Some-None.is
    ∙ ap (λ f. f ∷ []) c.in-Some-None.field-0-is) c.loop-i.invariant

pub returns-then-n-m : goal.returns-then-n-m
returns-then-n-m c =
    class_differs c.args.shares.now c.loop-i.i c.index-shares-i.result c.in-Some-Some.n c.in-Some.m
    _
    (slice_get_read c.args.shares.now (length c.args.shares.now) c.loop-i.i
    c.index-shares-i.result refl (omega arith) c.index-shares-i.is)
    (sym c.class_of.ensures ∙ ap class_list c.in-Some-Some.is
    ∙ ap (λ f. f ∷ []) c.in-Some-Some.field-0-is) c.if-n-m.true
    (subst (λ s. class_from s c.args.shares.now c.loop-i.i
    ≡ common_class (flat_map share_class c.args.shares.now)) c.in-Some.is c.loop-i.invariant)

pub loop-i-preserved : goal.loop-i-preserved
loop-i-preserved c =
    let read = slice_get_read c.args.shares.now (length c.args.shares.now) c.loop-i.i
    c.index-shares-i.result refl (omega arith) c.index-shares-i.is in
    elim c.match-class_of.branch [
      | in-None w ↦
          rw w.class-is (class_not c.args.shares.now c.loop-i.i c.index-shares-i.result
          c.loop-i.class
          _ read (sym c.class_of.ensures ∙ ap class_list w.in-None.is) c.loop-i.invariant)
      | in-Some-Some+in-None-class w ↦
          rw w.class-is (class_begun c.args.shares.now c.loop-i.i c.index-shares-i.result
          w.in-Some-Some.n _ read
          (sym c.class_of.ensures ∙ ap class_list w.in-Some-Some.is
          ∙ ap (λ f. f ∷ []) w.in-Some-Some.field-0-is)
          (subst (λ s. class_from s c.args.shares.now c.loop-i.i
          ≡ common_class (flat_map share_class c.args.shares.now)) w.in-None-class.is
          c.loop-i.invariant))
      | in-Some-Some+in-Some+else-n-m w ↦
          rw w.class-is (class_same c.args.shares.now c.loop-i.i c.index-shares-i.result
          w.in-Some-Some.n w.in-Some.m _ read
          (sym c.class_of.ensures ∙ ap class_list w.in-Some-Some.is
          ∙ ap (λ f. f ∷ []) w.in-Some-Some.field-0-is) w.if-n-m.false
          (subst (λ s. class_from s c.args.shares.now c.loop-i.i
          ≡ common_class (flat_map share_class c.args.shares.now)) w.in-Some.is
          c.loop-i.invariant))
    ]
