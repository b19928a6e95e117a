use Rattle.table_soundness.proofs.Prelude.{bytes_eq, AllPairs-from_IsDistinct, bytes_eq-Decides, IsDistinct, ◌≢◌, ◌∙◌, ap, map, refl, subst, sym, take_all, false≢true, ObjectFact, pairs_unmap}
use Rattle.table_soundness.proofs.ObjectLemmas.{no_repeat}
use Rattle.table_soundness.proofs.objects.are_names_distinct.Goals as goal

pub returns-then-not-branch : goal.returns-then-not-branch
returns-then-not-branch c =
    let fresh = no_repeat c.args.objects.now c.loop-object.object-index c.object-item.result c.loop-object-test.true c.object-item.is in
    (λ no. absurd (false≢true no), λ h. absurd (false≢true (sym c.if-not-branch.true ∙ rw (c.loop-object.invariant.names, fresh h) at c.in_ok-insert.ensures.added)))

pub returns : goal.returns
returns c =
    let objects = c.args.objects.now in
    let name = λ (x : ObjectFact). x.name in
    let unique = subst (IsDistinct bytes_eq) (c.loop-object.invariant.names ∙ ap (map name) (take_all c.loop-object.object-index objects c.loop-object-test.false)) c.loop-object.invariant.unique in
    (λ yes. pairs_unmap (λ m n. m ≢ n) name objects (AllPairs-from_IsDistinct bytes_eq-Decides (map name objects) unique), λ h. refl)
