use Rattle.medium_table.proofs.Prelude.{◌+◌, ◌-◌, length}
use Rattle.medium_table.proofs.UnreachedLemmas.{HasLooked}
use Rattle.medium_table.proofs.lowest.unreached.Given as goal

abbrev pub invariant-loop-id : goal.invariant-loop-id
invariant-loop-id l = HasLooked l.elided l.reached l.next l.most l.ids.items l.id l.i l.j

abbrev pub decreases-loop-id : goal.decreases-loop-id
decreases-loop-id l = (length l.elided - l.i) + (length l.reached - l.j) + (l.next - l.id)
