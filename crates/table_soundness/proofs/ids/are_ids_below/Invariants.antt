use Rattle.table_soundness.proofs.Prelude.{◌<◌, take, All, id_of, facts_of}
use Rattle.table_soundness.proofs.ids.are_ids_below.Given as goal

abbrev pub invariant-loop-patch : goal.invariant-loop-patch
invariant-loop-patch g l = All (λ f. id_of (g.F.Fact.key f) < l.next) (facts_of (take l.patch-index l.patches))
